use Rattle.std.proofs.Common.{take}
use Rattle.cqc_model.specs.Wire.{spell_list}
use Rattle.cqc_wire.specs.Room.{WasPut}
use Rattle.cqc_wire.proofs.messages.put_list.Given as goal

abbrev pub invariant-loop-command : goal.invariant-loop-command
invariant-loop-command l = WasPut l.fn.out l.out l.fn.at (spell_list (take l.command-index l.list)) l.at
