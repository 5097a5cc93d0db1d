-- What clap makes of the words behind `pipe`.
use Rattle.std.proofs.Common.{◌≡◌, ◌≢◌, false, List, [], ◌∷◌, Some, None, codes, refl, ap, sym, ◌∙◌}
use Rattle.std.specs.List.{list_any}
use Rattle.std.proofs.lemmas.Bool.{or_parts}
use Rattle.clap.specs.Faults.{fault_of}
use Rattle.clap.specs.Simple.{matches_of}
use Rattle.clap.specs.Walk.{Text, first_of}
use Rattle.clap.specs.declared.error.kind.ErrorKind.TheVariants as kind
use Rattle.clap.proofs.OnLiterals.{clap_on_literals}
use Rattle.word_lines.specs.Lines.{is_dashed, pipe_line}
use Rattle.word_lines.specs.Commands.{pipe_app}
use Rattle.word_lines.specs.Views.{pipe_found}
use Rattle.word_lines.specs.declared.asked.Mode.TheVariants as mode
use Rattle.word_lines.proofs.CommandLemmas.{no_words}
use Rattle.word_lines.proofs.PlainWords.{no_hyphen, no_end}
use Rattle.word_lines.proofs.OneWord.{one_text, more_words}

no_text : first_of (codes "settings") (matches_of pipe_app []) ≡ None
unfolding clap_on_literals
no_text = refl

one_word : (word : Text) → is_dashed word ≡ false → fault_of pipe_app (word ∷ []) ≡ []
unfolding clap_on_literals
one_word word p = simp (no_hyphen word p, no_end word p)

-- words that clap takes ask for what it finds in them
pub pipe_taken : (words : List Text) → list_any is_dashed words ≡ false → fault_of pipe_app words ≡ [] → Some (pipe_found (first_of (codes "settings") (matches_of pipe_app words))) ≡ pipe_line words
pipe_taken [] plain passed = ap (λ text. Some (pipe_found text)) no_text
pipe_taken (word ∷ []) plain passed = ap (λ text. Some (pipe_found text)) (one_text word (or_parts _ _ plain).0).0
pipe_taken (first ∷ second ∷ others) plain passed =
    let (p, later) = or_parts _ _ plain in
    let no : kind.UnknownArgument ∷ [] ≡ [] = sym (more_words first second others p (or_parts _ _ later).0).0 ∙ passed in
    cc

-- words that it refuses ask for nothing
pub pipe_refused : (words : List Text) → list_any is_dashed words ≡ false → fault_of pipe_app words ≢ [] → None ≡ pipe_line words
pipe_refused [] plain fails = absurd (fails (no_words mode.Pipe))
pipe_refused (word ∷ []) plain fails = absurd (fails (one_word word (or_parts _ _ plain).0))
pipe_refused (first ∷ second ∷ others) plain fails = refl
