-- The code's schedule, without where it lies in memory.
use Rattle.std.specs.Prelude.{◌≡◌, ℕ, map, Result, Ok, Err}
use Rattle.schedule.specs.declared.plans.Planned.{Planned}
use Rattle.schedule.specs.declared.plans.Schedule.{Schedule}
use Rattle.schedule.specs.declared.plans.Why.{Why}
use Rattle.schedule.specs.declared.plans.ScheduleRead.{ScheduleRead}
use Rattle.schedule.specs.declared.plans.ScheduleRead.TheVariants.{Read, Refused, OutOfMemory}
use Rattle.schedule.specs.Plans.{Plan, Plans}

-- one connection
abbrev pub plan : Planned → Plan
plan p = record { node = p.node; room = p.room; bytes = p.bytes.items }

-- the connections, and the connection of each turn
abbrev pub plans : Schedule → Plans
plans s = record { plans = map plan s.plans.items; order = s.order.items }

-- A text was read to what it means, or refused where it means a refusal, unless memory ran out.
abbrev pub Gives : ScheduleRead → Result Plans (ℕ × Why) → Type 0
Gives (Read schedule) meaning = meaning ≡ Ok (plans schedule)
Gives (Refused fault) meaning = meaning ≡ Err (fault.line, fault.why)
Gives OutOfMemory meaning = Unit {0}
