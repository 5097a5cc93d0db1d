-- What was printed to a pipe.
use Rattle.std.specs.Prelude.{◌≡◌, ◌⊎◌, ℕ, ◌<◌, ◌≤◌, List, length, take}
use Rattle.qron_link.specs.Outside.{Rose, WasWritten}
use Rattle.cqc_server.specs.Watch.{LinkSeen}
use Rattle.qron_cli.specs.declared.status.Status.{Status}
use Rattle.qron_cli.specs.declared.status.Status.TheVariants.{Fault}

-- A text was printed, and the status is that of the work; or only a front of it was, where a write failed, which is
-- a fault. Nothing was read.
pub record Printed (text : List ℕ) (done : Status) (old new : LinkSeen) (status : Status) : Type 0 where
  pub size : ℕ
  pub was_written : WasWritten old.held (take size text) new.held
  pub left : new.left ≡ old.left
  pub reads : new.read_faults ≡ old.read_faults
  pub writes : old.write_faults ≤ new.write_faults
  pub ends : ((size ≡ length text) × (status ≡ done)) ⊎ ((size < length text) × Rose old.write_faults new.write_faults × (status ≡ Fault))
