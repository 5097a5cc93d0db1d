-- What clap makes of the words behind `serve`.
use Rattle.std.proofs.Common.{◌≡◌, ◌≢◌, false, List, [], ◌∷◌, None, codes, refl, ap, sym, ◌∙◌}
use Rattle.std.specs.List.{list_any}
use Rattle.std.proofs.lemmas.Bool.{or_parts}
use Rattle.clap.specs.Faults.{fault_of}
use Rattle.clap.specs.Simple.{matches_of}
use Rattle.clap.specs.Walk.{Text, first_of}
use Rattle.clap.specs.declared.error.kind.ErrorKind.TheVariants as kind
use Rattle.clap.proofs.OnLiterals.{clap_on_literals}
use Rattle.word_lines.specs.Lines.{is_dashed, serve_line}
use Rattle.word_lines.specs.Commands.{serve_app}
use Rattle.word_lines.specs.Views.{serve_found}
use Rattle.word_lines.specs.declared.asked.Mode.TheVariants as mode
use Rattle.word_lines.proofs.CommandLemmas.{no_words}
use Rattle.word_lines.proofs.PlainWords.{no_hyphen, no_end}
use Rattle.word_lines.proofs.OneWord.{one_text, more_words}

one_word : (word : Text) → is_dashed word ≡ false → fault_of serve_app (word ∷ []) ≡ []
unfolding clap_on_literals
one_word word p = simp (no_hyphen word p, no_end word p)

-- words that clap takes ask for what it finds in them
pub serve_taken : (words : List Text) → list_any is_dashed words ≡ false → fault_of serve_app words ≡ [] → serve_found (first_of (codes "settings") (matches_of serve_app words)) ≡ serve_line words
serve_taken [] plain passed = let no : kind.MissingRequiredArgument ∷ [] ≡ [] = sym (no_words mode.Serve) ∙ passed in cc
serve_taken (word ∷ []) plain passed = ap serve_found (one_text word (or_parts _ _ plain).0).1
serve_taken (first ∷ second ∷ others) plain passed =
    let (p, later) = or_parts _ _ plain in
    let no : kind.UnknownArgument ∷ [] ≡ [] = sym (more_words first second others p (or_parts _ _ later).0).1 ∙ passed in
    cc

-- words that it refuses ask for nothing
pub serve_refused : (words : List Text) → list_any is_dashed words ≡ false → fault_of serve_app words ≢ [] → None ≡ serve_line words
serve_refused [] plain fails = refl
serve_refused (word ∷ []) plain fails = absurd (fails (one_word word (or_parts _ _ plain).0))
serve_refused (first ∷ second ∷ others) plain fails = refl
