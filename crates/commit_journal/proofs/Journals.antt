-- What is there fits a longer history; and journals that are full.
use Rattle.std.proofs.Common.{◌≡◌, ℕ, ◌<◌, ◌≤◌, Bool, false, List, Option, None, Some, Result, Err, unwrap_or, ap, sym, subst, ◌∙◌, arith, ne_eqb}
use Rattle.std.specs.Prelude.{IfSome, IsTrue, ◌↔◌}
use mathlib.Core.Logic.{dite}
use native.Mathlib.Decide.{ℕ_discrete}
use Rattle.state_model.proofs.Booleans.{clash}
use Rattle.network_model.specs.declared.Entry.{Entry}
use Rattle.network_model.specs.declared.JournalFull.{JournalFull}
use Rattle.commit_journal.specs.declared.fault.CommitFault.{CommitFault}
use Rattle.commit_journal.specs.declared.fault.CommitFault.TheVariants.{Full}

pub some_fits : {C : Type 0} (fits : C → List Entry → Type 0) (o : Option C) (g h : List Entry) → ((x : C) → fits x g → fits x h) → IfSome o (λ x. fits x g) → IfSome o (λ x. fits x h)
some_fits fits None g h step f = f
some_fits fits (Some x) g h step f = step x f

pub fits_of : {C : Type 0} (P : C → Type 0) (o : Option C) (x : C) → o ≡ Some x → IfSome o P → P x
fits_of P None x is p = absurd (cc (is))
fits_of P (Some y) x is p = subst P (some_same y x is) p
  where
    some_same : {C : Type 0} (a b : C) → Some a ≡ Some b → a ≡ b
    some_same a b e = ap (λ o. unwrap_or o b) e

-- a full journal, and one that isn't
pub full_is : (n : ℕ) (f : JournalFull) → ◌≡◌ {A = Result ℕ CommitFault} (Err (Full (record { entries = n }))) (Err (Full f)) → f.entries ≡ n
full_is n f is = cc (is)

pub room_left : (b : Bool) (m n : ℕ) → (IsTrue b ↔ (m ≡ n)) → b ≡ false → m ≤ n → m < n
room_left b m n full not le = dite (ℕ_discrete m n) (λ e. absurd (clash (sym (full.1 e) ∙ not))) (λ apart. omega (arith, ne_eqb m n apart))
