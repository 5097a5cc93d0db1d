-- The numbers of a call lie in the ranges of their types.
use Rattle.std.specs.Prelude.{◌≡◌, ◌<◌, ◌^◌, true}
use Rattle.cqc_model.specs.Ranges.{is_in_range}
use Rattle.network_model.specs.declared.Call.{Call}

-- each number of the call fits its type
pub record IsCallInRange (c : Call) : Type 0 where
  pub seat : c.seat < 2 ^ 16
  pub serial : c.serial < 2 ^ 16
  pub app : c.app < 2 ^ 16
  pub qubit : c.command.qubit < 2 ^ 16
  pub instr : is_in_range c.command.instr ≡ true
