-- What reading so many bytes in any pieces, and writing them, did to a source and a sink.
use Rattle.std.specs.Prelude.{◌≡◌, ℕ, ◌+◌, ◌<◌, ◌≤◌, List, length, take, Option, Bool, true, false}
use Rattle.qron_link.specs.Outside.{Rose, WasRead, WasWritten, AtEnd}
use Rattle.qron_link.specs.declared.transfer.Filled.{Filled}
use Rattle.qron_link.specs.declared.transfer.Filled.TheVariants.{Whole, Ended, Failed, Spent}

-- these bytes were read, and paid for
pub record Took (old new : Option (List ℕ)) (before now : ℕ) (taken : List ℕ) : Type 0 where
  pub read : WasRead old taken new
  pub paid : now + length taken ≡ before

-- how an attempt to read so many bytes ended: left is what is left, and now what may still be read
abbrev pub FilledAs : Filled → Option (List ℕ) → ℕ → ℕ → List ℕ → Type 0
FilledAs Whole left now size taken = length taken ≡ size
FilledAs (Ended have) left now size taken = (length taken < size) × (have ≡ length taken) × AtEnd left
FilledAs Failed left now size taken = length taken < size
FilledAs Spent left now size taken = (length taken < size) × (now ≡ 0)

-- a read failed only where the count rose
abbrev pub FilledCause : Filled → ℕ → ℕ → Type 0
FilledCause Failed before now = (before ≤ now) × Rose before now
FilledCause _ before now = before ≤ now

-- the room, filled from the front
pub record Filling (old new : Option (List ℕ)) (before now : ℕ) (room : List ℕ) (have : ℕ) : Type 0 where
  pub in_room : have ≤ length room
  pub took : Took old new before now (take have room)

-- bytes that were read and passed over
pub record Passing (old new : Option (List ℕ)) (before now done : ℕ) : Type 0 where
  pub taken : List ℕ
  pub took : Took old new before now taken
  pub size : length taken ≡ done

-- bytes that were written: all of the piece, or fewer
pub record Sent (all : Bool) (old new : Option (List ℕ)) (piece : List ℕ) (done : ℕ) : Type 0 where
  pub within : done ≤ length piece
  pub wrote : WasWritten old (take done piece) new
  pub whole : all ≡ true → done ≡ length piece
  pub part : all ≡ false → done < length piece

-- a write failed only where the count rose
abbrev pub SentCause : Bool → ℕ → ℕ → Type 0
SentCause true before now = before ≤ now
SentCause false before now = (before ≤ now) × Rose before now
