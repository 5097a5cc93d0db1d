-- What cells are that stand for a history, as statements.
use Rattle.std.specs.Prelude.{ℕ, zero, suc, ◌≡◌, ◌*◌, ◌≤◌, List, [], ◌∷◌, ◌++◌, length, Option, None, Some}
use Rattle.state_model.specs.Coefficient.{Coefficient}
use Rattle.state_model.specs.Registers.{register_vector, product_over}
use Rattle.state_model.specs.StateVector.{Vector, IsSameState}
use Rattle.network_model.specs.Network.{Shape}
use Rattle.network_model.specs.Factored.{homes_after}
use Rattle.network_model.specs.History.{IsLegal, after}
use Rattle.network_model.specs.declared.Entry.{Entry}
use Rattle.cell_laws.specs.Standing.{IsStanding}
use Rattle.core_cells.specs.Cells.{Cells, HasAllCells, IsUnprepared, settled, forgotten}
use Rattle.core_cells.specs.declared.cells.SlotCell.{SlotCell}
use Rattle.factored_core.specs.Changes.{IsPreparedStep}
use Rattle.factored_core.specs.Core.{IsCoreStep, StandsFor}
use Rattle.factored_core.specs.declared.prepared.Prepared.{Prepared}

-- the qubits of a group and the vector of its register, if there is a qubit
unfoldable pub group_in : List ℕ → List Coefficient → List (List ℕ × Vector)
group_in [] list = []
group_in (q ∷ qs) list = (q ∷ qs, register_vector (q ∷ qs) list) ∷ []

-- those of a slot, if it is there
unfoldable pub group_at : Option SlotCell → List (List ℕ × Vector)
group_at None = []
group_at (Some w) = group_in w.register.value.qubits w.register.value.list

-- those of all slots below a count
unfoldable pub groups_below : ℕ → Cells → List (List ℕ × Vector)
groups_below zero cs = []
groups_below (suc t) cs = group_at (cs.slot t) ++ groups_below t cs

-- the product of the registers of all groups is the same as the undivided vector
abbrev pub RegistersMakeTheVector : Type 0
RegistersMakeTheVector = (shape : Shape) (h : List Entry) (cs : Cells) → HasAllCells shape cs → StandsFor shape h cs
    → IsSameState (after shape h).vector (product_over (groups_below (length shape.places * shape.room) cs))

-- cells can stand for every legal history: its state is sound, and its groups have homes of their own, which are slots of the network
abbrev pub LegalHistoriesStand : Type 0
LegalHistoriesStand = (shape : Shape) (h : List Entry) → 1 ≤ shape.limit → IsLegal shape h → IsStanding shape (after shape h) (homes_after shape h)

-- cells that stand for a history stand for it with the entry of a prepared step, once that is finished
abbrev pub FinishedStepsStand : Type 0
FinishedStepsStand = (shape : Shape) (h : List Entry) (old new : Cells) (p : Prepared) → StandsFor shape h old → IsPreparedStep shape old new p → StandsFor shape (h ++ p.entry ∷ []) (settled new)

-- cells on which nothing was prepared are as before once a prepared step is undone
abbrev pub UndoneStepsRestore : Type 0
UndoneStepsRestore = (shape : Shape) (old new : Cells) (p : Prepared) → IsUnprepared old → IsPreparedStep shape old new p → forgotten new ≡ old

-- cells that stand for a history stand for it with the entry of a core's step
abbrev pub CoreStepsStand : Type 0
CoreStepsStand = (shape : Shape) (h : List Entry) (e : Entry) (old new : Cells) → StandsFor shape h old → IsCoreStep shape old new e → StandsFor shape (h ++ e ∷ []) new
