-- How commands stop without anything read from the pipe, or written to it.
use Rattle.std.specs.Prelude.{◌≡◌}
use Rattle.qron_link.specs.Outside.{Rose}
use Rattle.qron_cli.specs.House.{Facts}
use Rattle.cqc_server.specs.Watch.{LinkSeen}
use Rattle.qron_cli.specs.declared.status.Status.{Status}
use Rattle.qron_cli.specs.declared.status.Status.TheVariants.{Done, Refused, Words, Memory, Fault, Unfinished}

-- A command stopped: memory was short, the house's count of faults rose, or a file that the words name is refused.
-- With Memory it may have stopped late: connections may have been served by then, of which nothing is printed. Else it
-- had asked the house for something, and done nothing beside that.
abbrev pub StoppedAs : Type 0 → Facts → Facts → Status → Type 0
StoppedAs refused old new Memory = Unit {0}
StoppedAs refused old new Fault = Rose old.faults new.faults
StoppedAs refused old new Refused = refused
StoppedAs refused old new Done = ⊥
StoppedAs refused old new Words = ⊥
StoppedAs refused old new Unfinished = ⊥

-- a command stopped, and the pipe is as it was
abbrev pub Stopped : Type 0 → Facts → Facts → LinkSeen → LinkSeen → Status → Type 0
Stopped refused before after old new status = StoppedAs refused before after status × (new ≡ old)
