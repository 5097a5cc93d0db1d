-- The law as it is proved.
use Rattle.state_model.proofs.RegisterGates.{two_gate_list}
use Rattle.state_model.proofs.register_laws.two_gate_lists_are_gates.Goals as goal

pub returns : goal.returns
returns c = two_gate_list
