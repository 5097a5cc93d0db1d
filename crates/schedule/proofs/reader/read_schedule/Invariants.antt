use Rattle.std.proofs.Common.{◌≡◌, ◌+◌, ◌≤◌, length}
use Rattle.text_lines.specs.Reading.{read_lines}
use Rattle.schedule.specs.Schedule.{take_line, schedule_of}
use Rattle.schedule.specs.Views.{plans}
use Rattle.schedule.proofs.reader.read_schedule.Given as goal

-- what is left makes of the schedule so far what the text says; and there're no more lines than bytes
abbrev pub invariant-loop-line : goal.invariant-loop-line
invariant-loop-line l = record {
  read : read_lines (take_line l.nodes) (l.number + 1) (plans l.schedule) l.line-iterator ≡ schedule_of l.nodes l.text;
  counted : l.number + length l.line-iterator ≤ 16_777_216;
}
