-- What reads and writes do to the bytes that a source has left and a sink holds, and to the counts of faults.
use Rattle.std.specs.Prelude.{◌≡◌, ℕ, ◌+◌, ◌-◌, ◌^◌, ◌<◌, ◌≤◌, min, List, [], length, take, Option, None, Some, IfSome}
use Rattle.std.specs.Io.KnownBytes.{prepend_known, append_known}
use Rattle.qron_link.specs.declared.outside.Got.{Got}
use Rattle.qron_link.specs.declared.outside.Got.TheVariants as got
use Rattle.qron_link.specs.declared.outside.Put.{Put}
use Rattle.qron_link.specs.declared.outside.Put.TheVariants as put

-- a count that went up by one, or stands at its last value
abbrev pub next_count : ℕ → ℕ
next_count before = min (before + 1) (2 ^ 64 - 1)

-- a count of faults rose, or stands at its last value
abbrev pub Rose : ℕ → ℕ → Type 0
Rose before now = next_count before ≤ now

-- these bytes were read: they stood in front of what was left, where that is told
abbrev pub WasRead : Option (List ℕ) → List ℕ → Option (List ℕ) → Type 0
WasRead old bytes new = old ≡ prepend_known bytes new

-- these bytes were written: they stand behind what was held, where that is told
abbrev pub WasWritten : Option (List ℕ) → List ℕ → Option (List ℕ) → Type 0
WasWritten old bytes new = new ≡ append_known old bytes

-- no byte is left, where that is told
abbrev pub AtEnd : Option (List ℕ) → Type 0
AtEnd left = IfSome left (λ bytes. bytes ≡ [])

-- what a read did: room is the room afterwards
abbrev pub ReadDid : Got → Option (List ℕ) → Option (List ℕ) → List ℕ → Type 0
ReadDid (got.Bytes n) old new room = (0 < n) × (n ≤ length room) × WasRead old (take n room) new
ReadDid got.End old new room = AtEnd old × (new ≡ old)
ReadDid got.Failed old new room = new ≡ old

-- a read failed only where the count of faults rose
abbrev pub ReadCause : Got → ℕ → ℕ → Type 0
ReadCause got.Failed before now = (before ≤ now) × Rose before now
ReadCause _ before now = before ≤ now

-- what a write of a piece did
abbrev pub WriteDid : Put → Option (List ℕ) → Option (List ℕ) → List ℕ → Type 0
WriteDid (put.Bytes n) old new piece = (0 < n) × (n ≤ length piece) × WasWritten old (take n piece) new
WriteDid put.Failed old new piece = new ≡ old

-- a write failed only where the count of faults rose
abbrev pub WriteCause : Put → ℕ → ℕ → Type 0
WriteCause put.Failed before now = (before ≤ now) × Rose before now
WriteCause _ before now = before ≤ now

-- both sides are told, or neither
abbrev pub SameTold : Option (List ℕ) → Option (List ℕ) → Type 0
SameTold None None = Unit {0}
SameTold (Some a) (Some b) = Unit {0}
SameTold _ _ = ⊥

-- so many bytes were written: where the room is told, they fitted it, and it is smaller by them
abbrev pub RoomTaken : Option ℕ → ℕ → Option ℕ → Type 0
RoomTaken None size None = Unit {0}
RoomTaken (Some before) size (Some now) = now + size ≡ before
RoomTaken _ size _ = ⊥
