-- The ranges of a schedule's numbers.
use Rattle.std.specs.Prelude.{ℕ, ◌<◌, ◌≤◌, length, ⊤}
use Rattle.std.specs.List.{All}
use Rattle.schedule.specs.declared.plans.Schedule.{Schedule}
use Rattle.schedule.specs.declared.plans.ScheduleRead.{ScheduleRead}
use Rattle.schedule.specs.declared.plans.ScheduleRead.TheVariants.{Read, Refused, OutOfMemory}

-- at most 64 connections, each at one of so many nodes and with room for at most 1,048,576 bytes; at most 1,048,576 turns, each of a connection
pub record IsInRange (nodes : ℕ) (s : Schedule) : Type 0 where
  pub few : length s.plans.items ≤ 64
  pub places : All (λ p. p.node < nodes) s.plans.items
  pub rooms : All (λ p. p.room ≤ 1_048_576) s.plans.items
  pub turns : length s.order.items ≤ 1_048_576
  pub order : All (λ k. k < length s.plans.items) s.order.items

-- P of the schedule, where one was read
abbrev pub IfRead : ScheduleRead → (Schedule → Type 0) → Type 0
IfRead (Read schedule) P = P schedule
IfRead (Refused fault) P = ⊤
IfRead OutOfMemory P = ⊤
