-- What clap makes of the words behind `talk`.
use Rattle.std.proofs.Common.{lit<, ◌≡◌, ◌≢◌, ℕ, Bool, false, cond, pos, List, [], ◌∷◌, Option, Some, None, option_and_then, codes, refl, sym, ◌∙◌, inl, inr}
use Rattle.std.specs.List.{list_any}
use Rattle.std.proofs.lemmas.Bool.{cases_Bool, or_parts, cond-true}
use Rattle.clap.specs.Faults.{fault_of}
use Rattle.clap.specs.Simple.{matches_of}
use Rattle.clap.specs.Walk.{Text, first_of}
use Rattle.clap.specs.Kinds.{Kinds, or_else}
use Rattle.clap.specs.ValueTests.{is_signed_in}
use Rattle.clap.specs.declared.error.kind.ErrorKind.TheVariants as kind
use Rattle.clap.proofs.OnLiterals.{clap_on_literals}
use Rattle.text_lines.specs.Words.{address_of}
use Rattle.word_lines.specs.Lines.{talk, is_dashed, talk_line}
use Rattle.word_lines.specs.Commands.{talk_app}
use Rattle.word_lines.specs.Views.{talk_found}
use Rattle.word_lines.specs.declared.asked.Mode.TheVariants as mode
use Rattle.word_lines.proofs.CommandLemmas.{no_words}
use Rattle.word_lines.proofs.PlainWords.{no_hyphen, no_end}
use Rattle.word_lines.proofs.NumberWords.{number_between-none}
use Rattle.word_lines.proofs.FoundLemmas.{not_passed}

abbrev in_range : Text → Bool
in_range word = is_signed_in (pos 1) (pos 65_535) word

one_word : (first : Text) → is_dashed first ≡ false → fault_of talk_app (first ∷ []) ≡ kind.MissingRequiredArgument ∷ []
unfolding clap_on_literals
one_word first p = simp (no_hyphen first p, no_end first p)

before : (ks ls : Kinds) → or_else (or_else ks []) ls ≡ or_else ks ls
before [] ls = refl
before (k ∷ ks) ls = refl

two_words : (first second : Text) → is_dashed first ≡ false → is_dashed second ≡ false
    → fault_of talk_app (first ∷ second ∷ []) ≡ or_else (cond (in_range second) [] (kind.ValueValidation ∷ [])) (kind.MissingRequiredArgument ∷ [])
unfolding clap_on_literals
two_words first second p q =
    simp (no_hyphen first p, no_hyphen second q, no_end first p, no_end second q) (before (cond (in_range second) [] (kind.ValueValidation ∷ [])) (kind.MissingRequiredArgument ∷ []))

alone : (ks : Kinds) → or_else (or_else (or_else ks []) []) [] ≡ ks
alone [] = refl
alone (k ∷ ks) = refl

three_words : (first second third : Text) → is_dashed first ≡ false → is_dashed second ≡ false → is_dashed third ≡ false
    → fault_of talk_app (first ∷ second ∷ third ∷ []) ≡ cond (in_range second) [] (kind.ValueValidation ∷ [])
unfolding clap_on_literals
three_words first second third p q r =
    simp (no_hyphen first p, no_hyphen second q, no_hyphen third r, no_end first p, no_end second q, no_end third r) (alone _)

four_words : (first second third fourth : Text) (others : List Text) → is_dashed first ≡ false → is_dashed second ≡ false → is_dashed third ≡ false → is_dashed fourth ≡ false
    → fault_of talk_app (first ∷ second ∷ third ∷ fourth ∷ others) ≡ or_else (cond (in_range second) [] (kind.ValueValidation ∷ [])) (kind.UnknownArgument ∷ [])
unfolding clap_on_literals
four_words first second third fourth others p q r s =
    elim (cases_Bool (in_range second)) [
      | inl within ↦ simp (no_hyphen first p, no_hyphen second q, no_hyphen third r, no_hyphen fourth s, no_end first p, no_end second q, no_end third r, no_end fourth s, within)
      | inr out ↦ simp (no_hyphen first p, no_hyphen second q, no_hyphen third r, no_hyphen fourth s, no_end first p, no_end second q, no_end third r, no_end fourth s, out)
    ]

first_text : (first second third : Text) → is_dashed first ≡ false → is_dashed second ≡ false → is_dashed third ≡ false
    → first_of (codes "address") (matches_of talk_app (first ∷ second ∷ third ∷ [])) ≡ Some first
unfolding clap_on_literals
first_text first second third p q r = simp (no_hyphen first p, no_hyphen second q, no_hyphen third r, no_end first p, no_end second q, no_end third r)

second_text : (first second third : Text) → is_dashed first ≡ false → is_dashed second ≡ false → is_dashed third ≡ false
    → first_of (codes "port") (matches_of talk_app (first ∷ second ∷ third ∷ [])) ≡ Some second
unfolding clap_on_literals
second_text first second third p q r = simp (no_hyphen first p, no_hyphen second q, no_hyphen third r, no_end first p, no_end second q, no_end third r)

third_text : (first second third : Text) → is_dashed first ≡ false → is_dashed second ≡ false → is_dashed third ≡ false
    → first_of (codes "script") (matches_of talk_app (first ∷ second ∷ third ∷ [])) ≡ Some third
unfolding clap_on_literals
third_text first second third p q r = simp (no_hyphen first p, no_hyphen second q, no_hyphen third r, no_end first p, no_end second q, no_end third r)

all_found : (o p q : Option Text) (first second third : Text) → o ≡ Some first → p ≡ Some second → q ≡ Some third → talk_found o p q ≡ talk_line (first ∷ second ∷ third ∷ [])
all_found o p q first second third d e f = rw (d, e, f) refl

-- words that clap takes ask for what it finds in them
pub talk_taken : (words : List Text) → list_any is_dashed words ≡ false → fault_of talk_app words ≡ []
    → talk_found (first_of (codes "address") (matches_of talk_app words)) (first_of (codes "port") (matches_of talk_app words)) (first_of (codes "script") (matches_of talk_app words)) ≡ talk_line words
talk_taken [] plain passed = let no : kind.MissingRequiredArgument ∷ [] ≡ [] = sym (no_words mode.Talk) ∙ passed in cc
talk_taken (first ∷ []) plain passed = let no : kind.MissingRequiredArgument ∷ [] ≡ [] = sym (one_word first (or_parts _ _ plain).0) ∙ passed in cc
talk_taken (first ∷ second ∷ []) plain passed =
    let (p, later) = or_parts _ _ plain in
    absurd (not_passed _ _ (sym (two_words first second p (or_parts _ _ later).0) ∙ passed))
talk_taken (first ∷ second ∷ third ∷ []) plain passed =
    let (p, later) = or_parts _ _ plain in
    let (q, last) = or_parts _ _ later in
    let r = (or_parts _ _ last).0 in
    all_found _ _ _ first second third (first_text first second third p q r) (second_text first second third p q r) (third_text first second third p q r)
talk_taken (first ∷ second ∷ third ∷ fourth ∷ others) plain passed =
    let (p, later) = or_parts _ _ plain in
    let (q, last) = or_parts _ _ later in
    let (r, end) = or_parts _ _ last in
    absurd (not_passed _ _ (sym (four_words first second third fourth others p q r (or_parts _ _ end).0) ∙ passed))

no_port : (o : Option ℕ) (first third : Text) (port : Option ℕ) → port ≡ None
    → None ≡ option_and_then (λ a. option_and_then (λ p. Some (talk (record { address = a; port = p }) third)) port) o
no_port None first third port none = refl
no_port (Some a) first third port none = rw none refl

-- words that it refuses ask for nothing
pub talk_refused : (words : List Text) → list_any is_dashed words ≡ false → fault_of talk_app words ≢ [] → None ≡ talk_line words
talk_refused [] plain fails = refl
talk_refused (first ∷ []) plain fails = refl
talk_refused (first ∷ second ∷ []) plain fails = refl
talk_refused (first ∷ second ∷ third ∷ []) plain fails =
    let (p, later) = or_parts _ _ plain in
    let (q, last) = or_parts _ _ later in
    let r = (or_parts _ _ last).0 in
    elim (cases_Bool (in_range second)) [
      | inl within ↦ absurd (fails (three_words first second third p q r ∙ cond-true _ _ _ within))
      | inr out ↦ no_port (address_of first) first third _ (number_between-none 1 65_535 second (lit< tt) out)
    ]
talk_refused (first ∷ second ∷ third ∷ fourth ∷ others) plain fails = refl
