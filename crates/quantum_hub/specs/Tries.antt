-- One try of a call: which cells are held, and how it ends.
use Rattle.std.specs.Prelude.{ℕ, ◌≡◌, ◌≢◌, ◌<◌, List, length, All, Option, Some, IsSome, slice_get, ⊤}
use Rattle.cqc_model.specs.declared.Fault.TheVariants.{Timeout}
use Rattle.network_model.specs.Network.{Shape}
use Rattle.network_model.specs.History.{after}
use Rattle.network_model.specs.declared.Call.{Call}
use Rattle.network_model.specs.declared.Line.{Line}
use Rattle.network_model.specs.declared.CoreReply.TheVariants.{Error}
use Rattle.register_locks.specs.declared.slot.Slot.{Slot as Place}
use Rattle.register_locks.specs.Slots.{slot_number, slot_value, numbers}
use Rattle.commit_journal.specs.Views.{Stamp, Worker}
use Rattle.commit_journal.specs.Holding.{IsHeld}
use Rattle.commit_journal.specs.declared.fault.CommitFault.{CommitFault}
use Rattle.commit_journal.specs.declared.fault.CommitFault.TheVariants.{Full as JournalIsFull, Stale}
use Rattle.hub_cells.specs.declared.cell.Cell.{Cell}
use Rattle.quantum_hub.specs.Calls.{HasWaited, IsExecuted, FoundFull}
use Rattle.quantum_hub.specs.Waiting.{received_line, FindsNothing}
use Rattle.quantum_hub.specs.declared.tries.Turn.{Turn}
use Rattle.quantum_hub.specs.declared.tries.Turn.TheVariants.{Done, Full, Empty}
use Rattle.quantum_hub.specs.declared.tries.Tried.{Tried}
use Rattle.quantum_hub.specs.declared.tries.Tried.TheVariants.{Ended, Missed, Stuck}

-- held cells of one number are one cell
abbrev pub AreApart : List (Place (Stamp Cell)) → Type 0
AreApart slots = (c d : Stamp Cell) → IsHeld slots c → IsHeld slots d → c.number ≡ d.number → c ≡ d

-- the held cells have the numbers of their locks, all below the next one
pub record AreTaken (slots : List (Place (Stamp Cell))) (next : ℕ) : Type 0 where
  pub below : All (λ n. n < next) (numbers slots)
  pub numbered : (i : ℕ) (s : Place (Stamp Cell)) (c : Stamp Cell) → slice_get slots i ≡ Some s → slot_value s ≡ Some c → c.number ≡ slot_number s

-- a line that is awaited is the one that the call receives from
abbrev pub MayAwait : Call → Option Line → Type 0
MayAwait call awaited = (line : Line) → awaited ≡ Some line → received_line call ≡ Some line

-- an awaited queue is empty behind all that the pass has seen, which are so many entries
pub record FoundEmpty (shape : Shape) (call : Call) (awaited : Option Line) (entries before now : ℕ) (old new : Worker) : Type 0 where
  pub waited : HasWaited old new
  pub awaits : IsSome awaited
  pub all : entries ≡ length new.seen
  pub nothing : FindsNothing (after shape new.seen) call
  pub words : now ≡ before

-- how a turn ends; where a queue is awaited, TIMEOUT doesn't come
abbrev pub FitsTurn : Shape → ℕ → Call → Option Line → ℕ → ℕ → ℕ → Worker → Worker → Turn → Type 0
FitsTurn shape capacity call awaited next before now old new (Done reply) = IsExecuted shape call reply next before now old new × (IsSome awaited → reply ≢ Error Timeout)
FitsTurn shape capacity call awaited next before now old new (Full full) = FoundFull capacity full before now old new
FitsTurn shape capacity call awaited next before now old new (Empty entries) = FoundEmpty shape call awaited entries before now old new

-- how a try ends
abbrev pub FitsTried : Shape → ℕ → Call → Option Line → ℕ → ℕ → ℕ → Worker → Worker → Tried → Type 0
FitsTried shape capacity call awaited next before now old new (Ended turn) = FitsTurn shape capacity call awaited next before now old new turn
FitsTried shape capacity call awaited next before now old new Missed = HasWaited old new × (now ≡ before)
FitsTried shape capacity call awaited next before now old new Stuck = ⊤

-- how a try ends whose entry wasn't committed
abbrev pub tried_of : CommitFault → Tried
tried_of (JournalIsFull full) = Ended (Full full)
tried_of (Stale stale) = Stuck
