-- A core, which has all cells of a network, and a core with a journal.
use Rattle.std.specs.Prelude.{ℕ, ◌≡◌, ◌+◌, ◌<◌, ◌≤◌, List, [], ◌∷◌, ◌++◌, length, Option, MatchOption}
use Rattle.network_model.specs.Network.{Network, Shape}
use Rattle.network_model.specs.History.{IsLegal, IsLegalEntry, advance, after}
use Rattle.network_model.specs.Factored.{homes_step, homes_after}
use Rattle.network_model.specs.declared.Call.{Call}
use Rattle.network_model.specs.declared.CoreReply.{CoreReply}
use Rattle.network_model.specs.declared.Entry.{Entry}
use Rattle.network_model.specs.declared.JournalFull.{JournalFull}
use Rattle.cell_laws.specs.Standing.{IsStanding}
use Rattle.core_cells.specs.Cells.{Cells, CellsFit, HasAllCells, IsUnprepared}
use Rattle.core_cells.specs.Owned.{Owned}
use Rattle.factored_core.specs.Changes.{Stands}

-- what contracts see of a core: its settings and its cells
pub record CoreCells : Type 0 where
  pub shape : Shape
  pub owned : Owned

-- all cells of the network are there, none has a next value, and they fit a state
pub record IsCore (shape : Shape) (cs : Cells) : Type 0 where
  pub all : HasAllCells shape cs
  pub unprepared : IsUnprepared cs
  pub stands : Stands shape cs

-- in each state that the old cells fit the entry is legal, and the new cells fit the state after it
abbrev pub IsCoreStep : Shape → Cells → Cells → Entry → Type 0
IsCoreStep shape old new e = (s : Network) (home : ℕ → ℕ) → IsStanding shape s home → CellsFit shape s home old
    → IsLegalEntry shape s e × CellsFit shape (advance shape s e) (homes_step s home e) new

-- the history is legal, and the cells fit the state after it
pub record StandsFor (shape : Shape) (h : List Entry) (cs : Cells) : Type 0 where
  pub legal : IsLegal shape h
  pub standing : IsStanding shape (after shape h) (homes_after shape h)
  pub fit : CellsFit shape (after shape h) (homes_after shape h) cs

-- what contracts see of a core with a journal: the settings, how many entries there may be, and the entries
pub record Journal : Type 0 where
  pub shape : Shape
  pub capacity : ℕ
  pub entries : List Entry

-- the entries are a legal history, and no more than there may be, which is 2^20 at the most
pub record IsKept (j : Journal) : Type 0 where
  pub legal : IsLegal j.shape j.entries
  pub few : length j.entries ≤ j.capacity
  pub most : j.capacity ≤ 1048576

-- the journal had room, and has one entry more: the call's with its reply, and the dice's next word or none
pub record IsExecuted (call : Call) (reply : CoreReply) (next before now : ℕ) (old new : Journal) : Type 0 where
  pub room : length old.entries < old.capacity
  pub word : Option ℕ
  pub drawn : MatchOption word (now ≡ before) (λ w. (w ≡ next) × (now ≡ before + 1))
  pub is : new ≡ record old { entries = old.entries ++ record { call = call; word = word; reply = reply } ∷ [] }

-- the journal was full, and is as before
pub record WasFull (fault : JournalFull) (old new : Journal) : Type 0 where
  pub full : length old.entries ≡ old.capacity
  pub told : fault.entries ≡ old.capacity
  pub stays : new ≡ old
