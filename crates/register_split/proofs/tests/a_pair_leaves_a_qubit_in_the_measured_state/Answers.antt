use Rattle.std.proofs.Common.{sym, ap, subst, true}
use Rattle.amplitude_register.specs.States.{RegisterState}
use Rattle.register_split.specs.Removal.{HasRowWith}
use Rattle.register_split.proofs.Worked.{pair_has_one}
use Rattle.register_split.proofs.tests.a_pair_leaves_a_qubit_in_the_measured_state.Goals as goal

pub prepare_take_out-requires-clause-some : goal.prepare_take_out-requires-clause-some
prepare_take_out-requires-clause-some b c = subst (HasRowWith 0 true) (sym (ap (λ (t : RegisterState). t.value) c.set_pair.ensures)) pair_has_one
