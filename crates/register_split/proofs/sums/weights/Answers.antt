use Rattle.std.proofs.Common.{◌∙◌, sym}
use Rattle.state_model.proofs.KeptLists.{one_weights, whole_weights}
use Rattle.omega_ring.specs.Views.{weight_value}
use Rattle.amplitude_register.proofs.Weighed.{ones_weight, whole_small}
use Rattle.register_split.proofs.sums.weights.Goals as goal

pub returns-clause-one : goal.returns-clause-one
returns-clause-one c = c.weigh_bit.ensures.weight ∙ sym (one_weights c.args.reg.now.value c.args.place c.facts.ensures.rows c.requires ∙ ones_weight c.args.place c.args.reg.now.value.list)

pub returns-clause-whole : goal.returns-clause-whole
returns-clause-whole c = c.weight.ensures ∙ sym (whole_weights c.args.reg.now.value c.facts.ensures.rows)

pub returns-clause-whole_x : goal.returns-clause-whole_x
returns-clause-whole_x c = let s = c.facts.ensures.kept.small in let w = whole_small c.args.reg.now.value.list (weight_value c.weight.result) s c.weight.ensures in w.x

pub returns-clause-whole_y : goal.returns-clause-whole_y
returns-clause-whole_y c = let s = c.facts.ensures.kept.small in let w = whole_small c.args.reg.now.value.list (weight_value c.weight.result) s c.weight.ensures in w.y
