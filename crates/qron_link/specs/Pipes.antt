-- What contracts see of a pipe: its bytes, where both sides tell them, how often it failed, and what waits in its buffers.
use Rattle.std.specs.Prelude.{◌≡◌, ℕ, ◌≤◌, List, [], length, take, Option, None, Some, Result, MatchResult, option_map}
use Rattle.qron_link.specs.declared.outside.Got.{Got}
use Rattle.qron_link.specs.declared.outside.Got.TheVariants as got
use Rattle.qron_link.specs.declared.outside.Put.{Put}
use Rattle.qron_link.specs.declared.outside.Put.TheVariants as put
use Rattle.qron_link.specs.Outside.{next_count, WasRead, WasWritten, AtEnd, SameTold}

-- how many reads and how many writes failed, as counts of u64
pub record Counts : Type 0 where
  pub reads : ℕ
  pub writes : ℕ

-- the bytes that are left to read, and all that were written, sent or not
pub record BothSides : Type 0 where
  pub left : List ℕ
  pub held : List ℕ

-- a pipe: its counts, its bytes where both sides tell them, the bytes that were read ahead, and those that are gathered
pub record Piped : Type 0 where
  pub counts : Counts
  pub bytes : Option BothSides
  pub ahead : List ℕ
  pub gathered : List ℕ

-- the bytes of both sides, where both are told
abbrev pub both_sides : Option (List ℕ) → Option (List ℕ) → Option BothSides
both_sides None held = None
both_sides (Some left) None = None
both_sides (Some left) (Some held) = Some (record { left = left; held = held })

-- what is left to read, where it is told
abbrev pub left_of : Option BothSides → Option (List ℕ)
left_of bytes = option_map (λ b. b.left) bytes

-- what was written, where it is told
abbrev pub held_of : Option BothSides → Option (List ℕ)
held_of bytes = option_map (λ b. b.held) bytes

-- the law of links: both are told, or neither
pub same_told : (bytes : Option BothSides) → SameTold (left_of bytes) (held_of bytes)
same_told None = tt
same_told (Some b) = tt

-- a pipe that was not used yet, over a reader and a writer with these bytes
abbrev pub new_piped : Option (List ℕ) → Option (List ℕ) → Piped
new_piped left held = record { counts = record { reads = 0; writes = 0 }; bytes = both_sides left held; ahead = []; gathered = [] }

-- one read more failed
abbrev pub with_read_fault : Counts → Counts
with_read_fault c = record c { reads = next_count c.reads }

-- one write more failed
abbrev pub with_write_fault : Counts → Counts
with_write_fault c = record c { writes = next_count c.writes }

-- a read counts where it failed
abbrev pub counts_after_read : Got → Counts → Counts
counts_after_read got.Failed c = with_read_fault c
counts_after_read _ c = c

-- a write counts where it failed
abbrev pub counts_after_write : Put → Counts → Counts
counts_after_write put.Failed c = with_write_fault c
counts_after_write _ c = c

-- one write more failed, and no byte was lost: what could not be sent stays gathered
pub record SendFailed (old new : Piped) : Type 0 where
  pub counts : new.counts ≡ with_write_fault old.counts
  pub bytes : new.bytes ≡ old.bytes
  pub ahead : new.ahead ≡ old.ahead

-- where no input was read ahead, nothing is gathered
abbrev pub IsSentWhereItWaits : Piped → Type 0
IsSentWhereItWaits pipe = pipe.ahead ≡ [] → pipe.gathered ≡ []

-- where no input was read ahead, a read leaves nothing gathered, unless it failed
abbrev pub SentBefore : Got → Piped → Piped → Type 0
SentBefore got.Failed old new = Unit {0}
SentBefore _ old new = old.ahead ≡ [] → new.gathered ≡ []

-- what a read of the pipe's reader did to what is left: n bytes were taken, none only at the end, and none where it failed
abbrev pub Received : {E : Type 0} → Result ℕ E → Option (List ℕ) → Option (List ℕ) → List ℕ → Type 0
Received r old new room = MatchResult r
    (λ n. (n ≤ length room) × WasRead old (take n room) new × (n ≡ 0 → AtEnd old))
    (λ _. new ≡ old)

-- what a write of a piece did to what was written: n bytes were added, and none where it failed
abbrev pub Passed : {E : Type 0} → Result ℕ E → Option (List ℕ) → Option (List ℕ) → List ℕ → Type 0
Passed r old new piece = MatchResult r (λ n. (n ≤ length piece) × WasWritten old (take n piece) new) (λ _. new ≡ old)

-- a read leaves the side that is written, a write the side that is read
pub record KeepsHeld (old new : Piped) : Type 0 where
  pub held : held_of new.bytes ≡ held_of old.bytes
  pub write_faults : new.counts.writes ≡ old.counts.writes

pub record KeepsLeft (old new : Piped) : Type 0 where
  pub left : left_of new.bytes ≡ left_of old.bytes
  pub read_faults : new.counts.reads ≡ old.counts.reads
