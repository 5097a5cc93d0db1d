-- What clap makes of one word and of more behind `pipe`, `serve` and `drill`, which take one at most.
use Rattle.std.proofs.Common.{◌≡◌, false, List, [], ◌∷◌, Some, codes}
use Rattle.clap.specs.Faults.{fault_of}
use Rattle.clap.specs.Simple.{matches_of}
use Rattle.clap.specs.Walk.{Text, first_of}
use Rattle.clap.specs.declared.error.kind.ErrorKind.TheVariants as kind
use Rattle.clap.proofs.OnLiterals.{clap_on_literals}
use Rattle.word_lines.specs.Lines.{is_dashed}
use Rattle.word_lines.specs.Commands.{pipe_app, serve_app, drill_app}
use Rattle.word_lines.proofs.PlainWords.{no_hyphen, no_end}

-- the word is found
pub one_text : (word : Text) → is_dashed word ≡ false
    → (first_of (codes "settings") (matches_of pipe_app (word ∷ [])) ≡ Some word) × (first_of (codes "settings") (matches_of serve_app (word ∷ [])) ≡ Some word)
    × (first_of (codes "rounds") (matches_of drill_app (word ∷ [])) ≡ Some word)
unfolding clap_on_literals
one_text word plain = (simp (no_hyphen word plain, no_end word plain), simp (no_hyphen word plain, no_end word plain), simp (no_hyphen word plain, no_end word plain))

-- the second word is one too many
pub more_words : (first second : Text) (others : List Text) → is_dashed first ≡ false → is_dashed second ≡ false
    → (fault_of pipe_app (first ∷ second ∷ others) ≡ kind.UnknownArgument ∷ []) × (fault_of serve_app (first ∷ second ∷ others) ≡ kind.UnknownArgument ∷ [])
    × (fault_of drill_app (first ∷ second ∷ others) ≡ kind.UnknownArgument ∷ [])
unfolding clap_on_literals
more_words first second others p q = (
  simp (no_hyphen first p, no_hyphen second q, no_end first p, no_end second q),
  simp (no_hyphen first p, no_hyphen second q, no_end first p, no_end second q),
  simp (no_hyphen first p, no_hyphen second q, no_end first p, no_end second q),
)
