use Rattle.std.proofs.Common.{map}
use Rattle.amplitude_register.proofs.Steps.{normal_end}
use Rattle.omega_ring.specs.Views.{omega_value, weight_value}
use Rattle.state_model.proofs.RegisterSizes.{scaled_trans}
use Rattle.amplitude_register.proofs.normal.normalize.Goals as goal

pub returns-clause-scaled : goal.returns-clause-scaled
returns-clause-scaled c = scaled_trans (map omega_value c.balance.new.list) (map omega_value c.divide_out-rest.new.list) (map omega_value c.args.list.now) c.balance.ensures.scaled c.divide_out-rest.ensures.scaled

pub returns-clause-normal : goal.returns-clause-normal
returns-clause-normal c = normal_end (map omega_value c.args.list.now) (map omega_value c.divide_out-rest.new.list) (map omega_value c.balance.new.list) (weight_value c.balance.result) c.requires.divisors c.divide_out-rest.ensures.scaled c.divide_out-rest.ensures.done c.balance.ensures.scaled c.balance.ensures.weight c.balance.ensures.balanced
