-- Calls that receive: what patience was shown, and when TIMEOUT comes.
use Rattle.std.specs.Prelude.{ℕ, ◌≡◌, ◌≢◌, ◌-◌, ◌≤◌, List, [], take, length, All, Option, Some, IfSome}
use Rattle.network_model.specs.Network.{Network, Shape, queue, line_eq}
use Rattle.network_model.specs.History.{after}
use Rattle.network_model.specs.Kinds.{kind_of, line_of}
use Rattle.network_model.specs.declared.Call.{Call}
use Rattle.network_model.specs.declared.Line.{Line}
use Rattle.network_model.specs.declared.Line.TheVariants.{Pair}
use Rattle.qron_link.specs.Outside.{Rose}
use Rattle.qron_link.specs.declared.patience.EmptyAt.{EmptyAt}
use Rattle.commit_journal.specs.Views.{Worker}

-- the line of the queue that a call receives from, if it receives
abbrev pub received_line : Call → Option Line
received_line call = line_of (kind_of call.command.instr)

-- a call receives, and its queue is empty in a state
pub record FindsNothing (s : Network) (call : Call) : Type 0 where
  pub line : Line
  pub receives : received_line call ≡ Some line
  pub empty : queue s call.node call.app line ≡ []

-- a place that was shown is one where the call's queue is empty; it lies between what the pass had seen at the call's start and at its end
pub record IsEmptyPlace (shape : Shape) (call : Call) (old new : Worker) (place : EmptyAt) : Type 0 where
  pub node : place.node ≡ call.node
  pub app : place.app ≡ call.app
  pub from : length old.seen ≤ place.entries
  pub to : place.entries ≤ length new.seen
  pub nothing : FindsNothing (after shape (take place.entries new.seen)) call
  pub pair : place.pair ≡ line_eq nothing.line Pair

-- patience, where it tells what it was shown, was shown empty places alone
abbrev pub WereEmpty : Shape → Call → Worker → Worker → Option (List EmptyAt) → Type 0
WereEmpty shape call old new shown = IfSome shown (λ places. All (IsEmptyPlace shape call old new) places)

-- patience gave up, and was shown a place, where it tells that
pub record HasGivenUp (before now : ℕ) (shown : Option (List EmptyAt)) : Type 0 where
  pub rose : Rose before now
  pub told : IfSome shown (λ places. places ≢ [])

-- a call was answered by TIMEOUT: patience gave up, and the queue is empty at the place of its entry
pub record HasTimedOut (shape : Shape) (call : Call) (new : Worker) (before now : ℕ) (shown : Option (List EmptyAt)) : Type 0 where
  pub gave_up : HasGivenUp before now shown
  pub nothing : FindsNothing (after shape (take (length new.seen - 1) new.seen)) call
