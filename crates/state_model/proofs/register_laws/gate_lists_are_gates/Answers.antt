-- The law as it is proved.
use Rattle.state_model.proofs.RegisterGates.{gate_list}
use Rattle.state_model.proofs.register_laws.gate_lists_are_gates.Goals as goal

pub returns : goal.returns
returns c = gate_list
