-- The words of a connection's entries, with one entry more.
-- Main results: `worded_push`, `worded_more`, `count_more`, `words_few`.
use Rattle.std.proofs.Common.{◌≡◌, ℕ, ◌+◌, ◌≤◌, List, [], ◌∷◌, ◌++◌, length, Option, Some, None, sym, subst, ◌∙◌, ap, arith}
use Rattle.std.specs.Prelude.{MatchOption, IfSome, is_some, if◌then◌else◌, Bool, true, false}
use Rattle.std.proofs.lemmas.List.Sums.{sum_by-append}
use Rattle.network_model.specs.declared.Entry.{Entry}
use Rattle.session_model.specs.Turns.{words_taken}
use Rattle.session_model.specs.Worded.{AreWordedFrom, AreWorded}
use Rattle.session_model.proofs.Spoken.{words_push}

-- the word that an entry drew is the next, and the dice moved on by it
abbrev pub WordDrawn : Option ℕ → ℕ → ℕ → ℕ → Type 0
WordDrawn w next before now = MatchOption w (now ≡ before) (λ n. (n ≡ next) × (now ≡ before + 1))

-- how many words an entry took
abbrev taken_by : Entry → ℕ
taken_by e = if is_some e.word then 1 else 0

words_cons : (e : Entry) (es : List Entry) → words_taken (e ∷ es) ≡ (0 + taken_by e) + words_taken es
words_cons e es = sum_by-append (λ (x : Entry). if is_some x.word then 1 else 0) (e ∷ []) es

worded_from : (words : ℕ → ℕ) (taken : ℕ) (es : List Entry) (e : Entry) → AreWordedFrom words taken es
    → IfSome e.word (λ w. w ≡ words (taken + words_taken es)) → AreWordedFrom words taken (es ++ e ∷ [])
worded_from words taken [] e are next = (subst (λ (n : ℕ). IfSome e.word (λ w. w ≡ words n)) (simple taken) next, tt)
  where
    simple : (n : ℕ) → n + 0 ≡ n
    simple n = omega arith
worded_from words taken (d ∷ es) e are next = (
  are.0,
  worded_from words (taken + taken_by d) es e are.1
      (subst (λ (n : ℕ). IfSome e.word (λ w. w ≡ words n)) (moved taken (taken_by d) (words_taken es) (words_taken (d ∷ es)) (words_cons d es)) next),
)
  where
    moved : (t a b c : ℕ) → c ≡ (0 + a) + b → t + c ≡ (t + a) + b
    moved t a b c e = omega arith

next_is : (w : Option ℕ) (word before now : ℕ) → WordDrawn w word before now → IfSome w (λ n. n ≡ word)
next_is None word before now d = tt
next_is (Some n) word before now d = d.0

taken_is : (w : Option ℕ) (word before now : ℕ) → WordDrawn w word before now → now ≡ before + (if is_some w then 1 else 0)
taken_is None word before now d = omega arith
taken_is (Some n) word before now d = d.1

-- one entry more, with the next word or none
pub worded_push : (words : ℕ → ℕ) (es : List Entry) (e : Entry) → AreWorded words es → IfSome e.word (λ w. w ≡ words (words_taken es))
    → AreWorded words (es ++ e ∷ [])
worded_push words es e are next = worded_from words 0 es e are (subst (λ (n : ℕ). IfSome e.word (λ w. w ≡ words n)) (simple (words_taken es)) next)
  where
    simple : (n : ℕ) → n ≡ 0 + n
    simple n = omega arith

-- the same with what the dice drew
pub worded_more : (words : ℕ → ℕ) (es : List Entry) (e : Entry) (before now : ℕ) → AreWorded words es → before ≡ words_taken es
    → WordDrawn e.word (words before) before now → AreWorded words (es ++ e ∷ [])
worded_more words es e before now are at drawn =
    worded_push words es e are (subst (λ (n : ℕ). IfSome e.word (λ w. w ≡ words n)) at (next_is e.word (words before) before now drawn))

pub count_more : (es : List Entry) (e : Entry) (next before now : ℕ) → before ≡ words_taken es → WordDrawn e.word next before now
    → now ≡ words_taken (es ++ e ∷ [])
count_more es e next before now at drawn =
    taken_is e.word next before now drawn ∙ ap (λ (n : ℕ). n + taken_by e) at ∙ sym (words_push es e)

-- an entry takes at most one word
pub words_few : (es : List Entry) → words_taken es ≤ length es
words_few [] = omega arith
words_few (e ∷ es) = omega (arith, words_cons e es, one (is_some e.word), words_few es)
  where
    one : (b : Bool) → (if b then 1 else 0) ≤ 1
    one true = omega arith
    one false = omega arith
