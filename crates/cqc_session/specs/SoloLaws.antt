-- Calls of a connection over a core with a journal, one after the other.
use Rattle.std.specs.Prelude.{◌≡◌, ℕ, List}
use Rattle.std.proofs.Common.{refl, sym, ap, subst, ◌∙◌}
use Rattle.factored_core.specs.Core.{Journal}
use Rattle.cqc_session.specs.Serving.{WordedAfter}
use Rattle.cqc_session.specs.Solo.{CoreAndDice, HasServed}

-- the words of a connection, of the same key, seat and serial
pub word_is : (word : List ℕ → ℕ → ℕ → ℕ → ℕ) (key first : List ℕ) (seat serial seat' serial' : ℕ) → key ≡ first → seat ≡ seat' → serial ≡ serial'
    → word key seat serial ≡ word first seat' serial'
word_is word key first seat serial seat' serial' a b c =
    ap (λ k. word k seat serial) a ∙ ap (λ s. word first s serial) b ∙ ap (λ s. word first seat' s) c

-- nothing was executed
pub served_nothing : (word : List ℕ → ℕ → ℕ → ℕ → ℕ) (a : CoreAndDice) → HasServed word a a
served_nothing word a = record { journal = refl; key = refl; seat = refl; serial = refl; worded = λ first w. w }

-- calls one after the other
pub served_on : (word : List ℕ → ℕ → ℕ → ℕ → ℕ) (a b c : CoreAndDice) → HasServed word a b → HasServed word b c → HasServed word a c
served_on word a b c x y =
    let words : word b.key b.seat b.serial ≡ word a.key a.seat a.serial = word_is word b.key a.key b.seat b.serial a.seat a.serial x.key x.seat x.serial in
    record {
      journal = y.journal ∙ ap (λ (j : Journal). record j { entries = c.journal.entries }) x.journal;
      key = y.key ∙ x.key;
      seat = y.seat ∙ x.seat;
      serial = y.serial ∙ x.serial;
      worded = λ first w. subst (λ ws. WordedAfter ws first c.journal.entries c.taken) words
          (y.worded first (subst (λ ws. WordedAfter ws first b.journal.entries b.taken) (sym words) (x.worded first w)));
    }
