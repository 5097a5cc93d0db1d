-- A core's step, as its callers see it, and one entry more in a journal.
use Rattle.std.proofs.Common.{ℕ, ◌≡◌, ◌+◌, ◌<◌, ◌≤◌, List, [], ◌∷◌, ◌++◌, length, sym, ap, subst, ◌∙◌, arith, length-append}
use Rattle.std.specs.Prelude.{MatchOption}
use Rattle.network_model.specs.Network.{Shape}
use Rattle.network_model.specs.declared.Call.{Call}
use Rattle.network_model.specs.declared.Entry.{Entry}
use Rattle.core_cells.specs.Cells.{Cells}
use Rattle.core_cells.specs.Owned.{cells_of}
use Rattle.factored_core.specs.Core.{CoreCells, IsCoreStep, StandsFor, Journal, IsExecuted}

pub step_as : (a b : CoreCells) (new : Cells) (e f : Entry) → a ≡ b → f ≡ e → IsCoreStep a.shape (cells_of a.owned) new e → IsCoreStep b.shape (cells_of b.owned) new f
step_as a b new e f same is step =
    subst (λ (v : CoreCells). IsCoreStep v.shape (cells_of v.owned) new f) same (subst (λ (x : Entry). IsCoreStep a.shape (cells_of a.owned) new x) (sym is) step)

pub stands_as : (shape shape' : Shape) (h h' : List Entry) (cs : Cells) → shape' ≡ shape → h' ≡ h → StandsFor shape h cs → StandsFor shape' h' cs
stands_as shape shape' h h' cs same is stands =
    subst (λ (s : Shape). StandsFor s h' cs) (sym same) (subst (λ (x : List Entry). StandsFor shape x cs) (sym is) stands)

-- one entry more where there is room
pub grown_fits : (h h' : List Entry) (e : Entry) (n : ℕ) → h' ≡ h ++ e ∷ [] → length h < n → length h' ≤ n
grown_fits h h' e n is room = subst (λ (x : List Entry). length x ≤ n) (sym is) (omega (arith, length-append h (e ∷ [])))

pub executed : (call : Call) (e : Entry) (next before now : ℕ) (view old new : Journal) → view ≡ old → e.call ≡ call → length view.entries < view.capacity
    → MatchOption e.word (now ≡ before) (λ w. (w ≡ next) × (now ≡ before + 1)) → new.shape ≡ view.shape → new.capacity ≡ view.capacity → new.entries ≡ view.entries ++ e ∷ []
    → IsExecuted call e.reply next before now old new
executed call e next before now view old new same called room drawn shape capacity entries = subst (λ (j : Journal). IsExecuted call e.reply next before now j new) same (record {
  room = room;
  word = e.word;
  drawn = drawn;
  is =
      ap (λ (s : Shape). record new { shape = s }) shape
      ∙ ap (λ (n : ℕ). record { shape = view.shape; capacity = n; entries = new.entries }) capacity
      ∙ ap (λ (h : List Entry). record view { entries = h }) (entries ∙ ap (λ (c : Call). view.entries ++ record { call = c; word = e.word; reply = e.reply } ∷ []) called);
})
