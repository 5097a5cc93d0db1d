use Rattle.std.proofs.Common.{rules, ◌∙◌, FitsSigned, ap}
use Rattle.std.proofs.lemmas.Int.{to_z-of_z}
use mir.Syntax.{w128}
use Rattle.state_model.specs.Coefficient.{Weight}
use Rattle.state_model.specs.CoefficientList.{total_weight}
use Rattle.state_model.specs.Divisors.{weight_product, unit_power}
use Rattle.omega_ring.specs.Views.{weight_value}
use Rattle.register_merge.proofs.ProductSizes.{merged_size}
use Rattle.register_merge.proofs.ProductWeights.{kept_weight, product_real}
use Rattle.register_merge.proofs.verdicts.product_size.Goals as goal

pub balance-requires-clause-positive : goal.balance-requires-clause-positive
balance-requires-clause-positive c =
    let r = product_real (weight_value c.weight.result) (weight_value c.weight-2.result) (weight_value c.times.result) (kept_weight c.args.one.now.value (weight_value c.weight.result) c.facts.ensures.kept c.weight.ensures) (kept_weight c.args.two.now.value (weight_value c.weight-2.result) c.facts-2.ensures.kept c.weight-2.ensures) c.times.ensures in r.positive

pub balance-requires-clause-small : goal.balance-requires-clause-small
balance-requires-clause-small c =
    let r = product_real (weight_value c.weight.result) (weight_value c.weight-2.result) (weight_value c.times.result) (kept_weight c.args.one.now.value (weight_value c.weight.result) c.facts.ensures.kept c.weight.ensures) (kept_weight c.args.two.now.value (weight_value c.weight-2.result) c.facts-2.ensures.kept c.weight-2.ensures) c.times.ensures in r.small

pub balance-requires-clause-real : goal.balance-requires-clause-real
balance-requires-clause-real c =
    let r = product_real (weight_value c.weight.result) (weight_value c.weight-2.result) (weight_value c.times.result) (kept_weight c.args.one.now.value (weight_value c.weight.result) c.facts.ensures.kept c.weight.ensures) (kept_weight c.args.two.now.value (weight_value c.weight-2.result) c.facts-2.ensures.kept c.weight-2.ensures) c.times.ensures in r.real

pub returns-clause-least : goal.returns-clause-least
returns-clause-least c =
    let n = c.balance.result.power in
    let fits : FitsSigned w128 c.balance.result.weight.x = search rules in
    rw (to_z-of_z w128 c.balance.result.weight.x fits) (merged_size c.args.one.now.value c.args.two.now.value n (weight_value c.balance.result.weight) c.facts.ensures.rows c.facts-2.ensures.rows c.requires c.facts.ensures.kept c.facts-2.ensures.kept
    (c.balance.ensures.value ∙ ap (λ (t : Weight). weight_product t (unit_power n)) (c.times.ensures ∙ ap (λ (t : Weight). weight_product t (weight_value c.weight-2.result)) c.weight.ensures ∙ ap (weight_product (total_weight c.args.one.now.value.list)) c.weight-2.ensures)) c.balance.ensures.balanced)
