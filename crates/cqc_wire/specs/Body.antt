-- What a check of a body tells of its commands.
use Rattle.std.specs.Prelude.{ℕ, List, length, Result, Ok, Err}
use Rattle.cqc_model.specs.declared.Command.{Command}
use Rattle.cqc_model.specs.declared.BodyFault.{BodyFault}

-- how many commands there are, or the first fault
abbrev pub command_count : Result (List Command) BodyFault → Result ℕ BodyFault
command_count (Ok cs) = Ok (length cs)
command_count (Err f) = Err f
