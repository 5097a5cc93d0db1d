-- What clap makes of the word behind `drill`.
use Rattle.std.proofs.Common.{lit<, ◌≡◌, ◌≢◌, ℕ, Bool, false, cond, pos, List, [], ◌∷◌, Option, Some, None, option_map, option_and_then, codes, refl, ap, sym, ◌∙◌, inl, inr}
use Rattle.std.specs.List.{list_any}
use Rattle.std.proofs.lemmas.Bool.{cases_Bool, or_parts, cond-true}
use Rattle.clap.specs.Faults.{fault_of}
use Rattle.clap.specs.Simple.{matches_of}
use Rattle.clap.specs.Walk.{Text, first_of}
use Rattle.clap.specs.Kinds.{Kinds, or_else}
use Rattle.clap.specs.ValueTests.{is_signed_in}
use Rattle.clap.specs.declared.error.kind.ErrorKind.TheVariants as kind
use Rattle.clap.proofs.OnLiterals.{clap_on_literals}
use Rattle.text_lines.specs.Words.{number_between}
use Rattle.word_lines.specs.Lines.{drill, is_dashed, drill_line}
use Rattle.word_lines.specs.Commands.{drill_app}
use Rattle.word_lines.specs.Views.{drill_found}
use Rattle.word_lines.specs.declared.asked.Mode.TheVariants as mode
use Rattle.word_lines.proofs.CommandLemmas.{no_words}
use Rattle.word_lines.proofs.PlainWords.{no_hyphen, no_end}
use Rattle.word_lines.proofs.OneWord.{one_text, more_words}
use Rattle.word_lines.proofs.NumberWords.{number_between-none}

alone : (ks : Kinds) → or_else (or_else ks []) [] ≡ ks
alone [] = refl
alone (k ∷ ks) = refl

abbrev in_range : Text → Bool
in_range word = is_signed_in (pos 1) (pos 100_000) word

one_word : (word : Text) → is_dashed word ≡ false → fault_of drill_app (word ∷ []) ≡ cond (in_range word) [] (kind.ValueValidation ∷ [])
unfolding clap_on_literals
one_word word plain = simp (no_hyphen word plain, no_end word plain) (alone _)

drilled : (o : Option ℕ) → option_and_then (λ n. Some (drill n)) o ≡ option_map drill o
drilled None = refl
drilled (Some n) = refl

-- words that clap takes ask for what it finds in them
pub drill_taken : (words : List Text) → list_any is_dashed words ≡ false → fault_of drill_app words ≡ [] → drill_found (first_of (codes "rounds") (matches_of drill_app words)) ≡ drill_line words
drill_taken [] plain passed = let no : kind.MissingRequiredArgument ∷ [] ≡ [] = sym (no_words mode.Drill) ∙ passed in cc
drill_taken (word ∷ []) plain passed = ap drill_found (one_text word (or_parts _ _ plain).0).2 ∙ drilled (number_between 1 100_000 word)
drill_taken (first ∷ second ∷ others) plain passed =
    let (p, later) = or_parts _ _ plain in
    let no : kind.UnknownArgument ∷ [] ≡ [] = sym (more_words first second others p (or_parts _ _ later).0).2 ∙ passed in
    cc

-- words that it refuses ask for nothing
pub drill_refused : (words : List Text) → list_any is_dashed words ≡ false → fault_of drill_app words ≢ [] → None ≡ drill_line words
drill_refused [] plain fails = refl
drill_refused (word ∷ []) plain fails =
    elim (cases_Bool (in_range word)) [
      | inl within ↦ absurd (fails (one_word word (or_parts _ _ plain).0 ∙ cond-true _ _ _ within))
      | inr out ↦ sym (ap (option_map drill) (number_between-none 1 100_000 word (lit< tt) out))
    ]
drill_refused (first ∷ second ∷ others) plain fails = refl
