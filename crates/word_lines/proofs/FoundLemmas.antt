-- What a command finds under the ids of its arguments.
use Rattle.std.proofs.Common.{◌≡◌, ◌≢◌, List, [], ◌∷◌, Option, Some, None, ap, subst, sym, ◌∙◌}
use Rattle.clap.specs.Faults.{fault_of}
use Rattle.clap.specs.Kinds.{Kinds, IsAmong, or_else}
use Rattle.clap.specs.Simple.{App, matches_of}
use Rattle.clap.specs.Walk.{Text, first_of, rows_of}
use Rattle.clap.specs.Matches.{first_value, found_of}
use Rattle.clap.specs.declared.parser.matches.ArgMatches.{ArgMatches}
use Rattle.clap.specs.declared.parser.matches.Found.{Found}
use Rattle.clap.specs.declared.error.kind.ErrorKind.{ErrorKind}
use Rattle.clap.proofs.WalkLemmas.{first_value-rows}
use Rattle.word_lines.specs.Commands.{Finds}

-- a kind is among some, so there are some
pub some_kinds : (k : ErrorKind) (kinds : Kinds) → IsAmong k kinds → kinds ≢ []
some_kinds k [] among e = among
some_kinds k (x ∷ kinds) among e = cc

pub not_passed : (kinds : Kinds) (k : ErrorKind) → or_else kinds (k ∷ []) ≢ []
not_passed [] k e = cc
not_passed (l ∷ kinds) k e = cc

-- where nothing is found, the command refuses the words
pub finds_none : (app known : App) (words : List Text) (found : Option ArgMatches) → app ≡ known → Finds app words found → found ≡ None → fault_of known words ≢ []
finds_none app known words None same finds none = subst (λ a. fault_of a words ≢ []) same finds
finds_none app known words (Some matches) same finds none = cc

-- else it has what it makes of them
pub finds_some : (app known : App) (words : List Text) (found : Option ArgMatches) (matches : ArgMatches) → app ≡ known → Finds app words found → found ≡ Some matches
    → (fault_of known words ≡ []) × (rows_of (found_of matches) ≡ matches_of known words)
finds_some app known words None matches same finds some = cc
finds_some app known words (Some m) matches same finds some =
    let is : m ≡ matches = cc in (
      ap (λ a. fault_of a words) (sym same) ∙ finds.0,
      ap (λ (n : ArgMatches). rows_of (found_of n)) (sym is) ∙ finds.1 ∙ ap (λ a. matches_of a words) same,
    )

-- under each id
pub found_text : (app : App) (words : List Text) (f : Found) → rows_of f ≡ matches_of app words → (id : Text) → first_value f id ≡ first_of id (matches_of app words)
found_text app words f rows id = first_value-rows f id ∙ ap (first_of id) rows
