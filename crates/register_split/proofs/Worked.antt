-- A pair has a row with a 1.
use Rattle.std.proofs.Common.{true}
use Rattle.state_model.specs.Row.{is_set, with_bit, mask, within}
use Rattle.state_model.specs.Registers.{register_row, register_vector}
use Rattle.state_model.specs.Measurement.{keep}
use Rattle.state_model.proofs.RegisterLists.{one_not_zero}
use Rattle.amplitude_register.specs.States.{pair_state}
use Rattle.register_split.specs.Removal.{HasRowWith}

pub pair_has_one : HasRowWith 0 true (pair_state 4 9)
unfolding keep register_vector register_row within mask with_bit is_set
pair_has_one none = one_not_zero (none 512)
