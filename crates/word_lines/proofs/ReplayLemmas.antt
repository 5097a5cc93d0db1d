-- What clap makes of the words behind `replay`.
use Rattle.std.proofs.Common.{◌≡◌, ◌≢◌, false, List, [], ◌∷◌, Option, Some, None, codes, refl, sym, ◌∙◌}
use Rattle.std.specs.List.{list_any}
use Rattle.std.proofs.lemmas.Bool.{or_parts}
use Rattle.clap.specs.Faults.{fault_of}
use Rattle.clap.specs.Simple.{matches_of}
use Rattle.clap.specs.Walk.{Text, first_of}
use Rattle.clap.specs.declared.error.kind.ErrorKind.TheVariants as kind
use Rattle.clap.proofs.OnLiterals.{clap_on_literals}
use Rattle.word_lines.specs.Lines.{is_dashed, replay_line}
use Rattle.word_lines.specs.Commands.{replay_app}
use Rattle.word_lines.specs.Views.{replay_found}
use Rattle.word_lines.specs.declared.asked.Mode.TheVariants as mode
use Rattle.word_lines.proofs.CommandLemmas.{no_words}
use Rattle.word_lines.proofs.PlainWords.{no_hyphen, no_end}

one_word : (first : Text) → is_dashed first ≡ false → fault_of replay_app (first ∷ []) ≡ kind.MissingRequiredArgument ∷ []
unfolding clap_on_literals
one_word first p = simp (no_hyphen first p, no_end first p)

two_words : (first second : Text) → is_dashed first ≡ false → is_dashed second ≡ false → fault_of replay_app (first ∷ second ∷ []) ≡ []
unfolding clap_on_literals
two_words first second p q = simp (no_hyphen first p, no_hyphen second q, no_end first p, no_end second q)

first_text : (first second : Text) → is_dashed first ≡ false → is_dashed second ≡ false → first_of (codes "settings") (matches_of replay_app (first ∷ second ∷ [])) ≡ Some first
unfolding clap_on_literals
first_text first second p q = simp (no_hyphen first p, no_hyphen second q, no_end first p, no_end second q)

second_text : (first second : Text) → is_dashed first ≡ false → is_dashed second ≡ false → first_of (codes "schedule") (matches_of replay_app (first ∷ second ∷ [])) ≡ Some second
unfolding clap_on_literals
second_text first second p q = simp (no_hyphen first p, no_hyphen second q, no_end first p, no_end second q)

more_words : (first second third : Text) (others : List Text) → is_dashed first ≡ false → is_dashed second ≡ false → is_dashed third ≡ false
    → fault_of replay_app (first ∷ second ∷ third ∷ others) ≡ kind.UnknownArgument ∷ []
unfolding clap_on_literals
more_words first second third others p q r = simp (no_hyphen first p, no_hyphen second q, no_hyphen third r, no_end first p, no_end second q, no_end third r)

both_found : (o p : Option Text) (first second : Text) → o ≡ Some first → p ≡ Some second → replay_found o p ≡ replay_line (first ∷ second ∷ [])
both_found o p first second e f = rw (e, f) refl

-- words that clap takes ask for what it finds in them
pub replay_taken : (words : List Text) → list_any is_dashed words ≡ false → fault_of replay_app words ≡ []
    → replay_found (first_of (codes "settings") (matches_of replay_app words)) (first_of (codes "schedule") (matches_of replay_app words)) ≡ replay_line words
replay_taken [] plain passed = let no : kind.MissingRequiredArgument ∷ [] ≡ [] = sym (no_words mode.Replay) ∙ passed in cc
replay_taken (first ∷ []) plain passed = let no : kind.MissingRequiredArgument ∷ [] ≡ [] = sym (one_word first (or_parts _ _ plain).0) ∙ passed in cc
replay_taken (first ∷ second ∷ []) plain passed =
    let (p, later) = or_parts _ _ plain in
    let q = (or_parts _ _ later).0 in
    both_found _ _ first second (first_text first second p q) (second_text first second p q)
replay_taken (first ∷ second ∷ third ∷ others) plain passed =
    let (p, later) = or_parts _ _ plain in
    let (q, last) = or_parts _ _ later in
    let no : kind.UnknownArgument ∷ [] ≡ [] = sym (more_words first second third others p q (or_parts _ _ last).0) ∙ passed in
    cc

-- words that it refuses ask for nothing
pub replay_refused : (words : List Text) → list_any is_dashed words ≡ false → fault_of replay_app words ≢ [] → None ≡ replay_line words
replay_refused [] plain fails = refl
replay_refused (first ∷ []) plain fails = refl
replay_refused (first ∷ second ∷ []) plain fails =
    let (p, later) = or_parts _ _ plain in
    absurd (fails (two_words first second p (or_parts _ _ later).0))
replay_refused (first ∷ second ∷ third ∷ others) plain fails = refl
