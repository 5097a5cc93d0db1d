-- What clap makes of the five commands before there is a word.
use Rattle.std.proofs.Common.{◌≡◌, true, [], ◌∷◌, refl}
use Rattle.std.proofs.lemmas.Bool.{and_parts}
use Rattle.clap.specs.Faults.{fault_of, is_simple_and_free}
use Rattle.clap.specs.Simple.{is_simple}
use Rattle.clap.specs.Kinds.{Kinds}
use Rattle.clap.specs.declared.error.kind.ErrorKind.TheVariants as kind
use Rattle.clap.proofs.OnLiterals.{clap_on_literals}
use Rattle.word_lines.specs.declared.asked.Mode.{Mode}
use Rattle.word_lines.specs.declared.asked.Mode.TheVariants as mode
use Rattle.word_lines.specs.Commands.{app_for}

pub is_free : (m : Mode) → is_simple_and_free (app_for m) ≡ true
unfolding clap_on_literals
is_free mode.Pipe = refl
is_free _ = refl

pub simple : (m : Mode) → is_simple (app_for m) ≡ true
simple m = (and_parts (is_simple (app_for m)) _ (is_free m)).0

-- all but `pipe` need a word
abbrev pub missing : Mode → Kinds
missing mode.Pipe = []
missing _ = kind.MissingRequiredArgument ∷ []

pub no_words : (m : Mode) → fault_of (app_for m) [] ≡ missing m
unfolding clap_on_literals
no_words mode.Pipe = refl
no_words _ = refl
