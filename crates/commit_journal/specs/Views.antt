-- What contracts see of a stamped cell and of a pass.
use Rattle.std.specs.Prelude.{ℕ, ◌≡◌, ◌+◌, List, ◌++◌, ◌∷◌, [], Option, Some, slice_get}
use mathlib.Core.List.{IsPrefix}
use Rattle.network_model.specs.Network.{Shape}
use Rattle.network_model.specs.History.{IsLegal}
use Rattle.network_model.specs.declared.Entry.{Entry}
use Rattle.commit_journal.specs.Keeping.{own_count}

-- a number, its cell unless that was lifted out, and the list that it fits
pub record Stamp (C : Type 0) : Type 0 where
  pub number : ℕ
  pub cell : Option C
  pub seen : List Entry

-- a seat, the number of entries that it made, and what was seen
pub record Worker : Type 0 where
  pub seat : ℕ
  pub made : ℕ
  pub seen : List Entry

-- the pass has seen a history that begins with its old list, behind which no entry is of its seat
pub record HasSeen (old new : Worker) (h : List Entry) : Type 0 where
  pub between : List Entry
  pub history : h ≡ old.seen ++ between
  pub others : own_count old.seat between ≡ 0
  pub seen : new.seen ≡ h
  pub made : new.made ≡ old.made
  pub seat : new.seat ≡ old.seat

-- the pass has seen its old list, then entries of other seats, and then this entry, and the whole is legal
pub record HasAdded (shape : Shape) (old new : Worker) (h : List Entry) (entry : Entry) : Type 0 where
  pub between : List Entry
  pub history : h ≡ old.seen ++ between
  pub others : own_count old.seat between ≡ 0
  pub seen : new.seen ≡ h ++ entry ∷ []
  pub made : new.made ≡ old.made + 1
  pub seat : new.seat ≡ old.seat
  pub legal : IsLegal shape new.seen

-- the history has just as many entries of the pass's seat as it made
abbrev pub IsCounted : Worker → List Entry → Type 0
IsCounted pass h = own_count pass.seat h ≡ pass.made

-- the same of each pass
abbrev pub AreCounted : List Worker → List Entry → Type 0
AreCounted passes h = (k : ℕ) (p : Worker) → slice_get passes k ≡ Some p → IsCounted p h

-- the passes made a history: what each has seen is a prefix of it, it has just as many entries of each one's seat as that one made, and no entry of another seat
pub record HaveMade (passes : List Worker) (h : List Entry) : Type 0 where
  pub prefixes : (k : ℕ) (p : Worker) → slice_get passes k ≡ Some p → IsPrefix p.seen h
  pub counted : AreCounted passes h
  pub others : (i : ℕ) (e : Entry) → slice_get h i ≡ Some e → (k : ℕ) × (p : Worker) × (slice_get passes k ≡ Some p) × (p.seat ≡ e.call.seat)
