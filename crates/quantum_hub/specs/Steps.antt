-- A step that is made on a board of lifted cells.
use Rattle.std.specs.Prelude.{ℕ, ◌≡◌, ◌≢◌, ◌<◌, ◌^◌, List, [], Option, Some, IsSome}
use Rattle.cqc_model.specs.declared.PairInfo.{PairInfo}
use Rattle.network_model.specs.Network.{Shape}
use Rattle.network_model.specs.declared.Call.{Call}
use Rattle.network_model.specs.declared.Entry.{Entry}
use Rattle.network_model.specs.declared.Line.{Line}
use Rattle.virtual_node.specs.Node.{arrived_map}
use Rattle.core_cells.specs.Cells.{Cells, IsUnprepared}
use Rattle.core_cells.specs.Nodes.{NodeValues}
use Rattle.factored_core.specs.Changes.{Stands, IsPreparedStep}
use Rattle.factored_core.specs.Ready.{IsAllowedCall}
use Rattle.factored_core.specs.declared.prepared.Prepared.{Prepared}
use Rattle.hub_cells.specs.Cell.{FitsCell}
use Rattle.hub_cells.specs.Laid.{cell_at}
use Rattle.hub_cells.specs.declared.cell.Cell.{Cell}
use Rattle.quantum_hub.specs.Calls.{IsDrawn}
use Rattle.quantum_hub.specs.declared.making.Made.{Made}
use Rattle.quantum_hub.specs.declared.making.Made.TheVariants.{Step, Empty, Missing}

-- the cells fit a state, nothing is prepared, and the call may be made
pub record IsOpenBoard (shape : Shape) (call : Call) (taken : ℕ) (cs : Cells) : Type 0 where
  pub stands : Stands shape cs
  pub unprepared : IsUnprepared cs
  pub allowed : IsAllowedCall shape call
  pub words : taken < 2 ^ 63

-- what waits in the call's queue of a line at its own node is like this
pub record HasQueue (cs : Cells) (call : Call) (line : Line) (P : List (ℕ × Option PairInfo) → Type 0) : Type 0 where
  pub own : NodeValues
  pub there : cs.node call.node ≡ Some own
  pub queue : P (arrived_map own.now call.app line)

-- the step of the call is prepared; a queue that is awaited isn't empty
pub record IsMade (shape : Shape) (call : Call) (awaited : Option Line) (next before now : ℕ) (old new : Cells) (entry : Entry) : Type 0 where
  pub prepared : Prepared
  pub step : IsPreparedStep shape old new prepared
  pub entry_is : entry ≡ prepared.entry
  pub call_is : entry.call ≡ call
  pub drawn : IsDrawn entry.word next before now
  pub waits : (line : Line) → awaited ≡ Some line → HasQueue old call line (λ q. q ≢ [])

-- what is made of a call
abbrev pub FitsMade : Shape → Call → Option Line → ℕ → ℕ → ℕ → Cells → Cells → Made → Type 0
FitsMade shape call awaited next before now old new (Step entry) = IsMade shape call awaited next before now old new entry
FitsMade shape call awaited next before now old new Empty = (line : Line) × (awaited ≡ Some line) × HasQueue old call line (λ q. q ≡ []) × (now ≡ before)
FitsMade shape call awaited next before now old new Missing = now ≡ before

-- the cells have the values that they had, and there are no others
pub record KeepsValues (shape : Shape) (old new : Cells) : Type 0 where
  pub nodes : (m : ℕ) → IsSome (new.node m) → IsSome (old.node m)
  pub value : (n : ℕ) (x : Cell) → cell_at shape new n ≡ Some x → (y : Cell) × (cell_at shape old n ≡ Some y) × ((h : List Entry) → FitsCell shape n y h → FitsCell shape n x h)
