use Rattle.std.proofs.Common.{map, sym, ◌∙◌}
use Rattle.omega_ring.specs.Views.{omega_value, weight_value}
use Rattle.amplitude_register.specs.Mixed.{divisor_value}
use Rattle.amplitude_register.proofs.MixedNormal.{multiplied, same_rows, same_place, weight_within, doubled_total, doubled_divides, quotient_weight, quotient_small, mixed_normal}
use Rattle.amplitude_register.proofs.mixing.mix_normal.Goals as goal

pub mixed_divisor-divisor-requires-clause-range : goal.mixed_divisor-divisor-requires-clause-range
mixed_divisor-divisor-requires-clause-range c = weight_within (map omega_value c.args.from.now) (weight_value c.args.weight) c.requires.weight c.requires.small

pub mix_by-requires-clause-range : goal.mix_by-requires-clause-range
mix_by-requires-clause-range c = weight_within (map omega_value c.args.from.now) (weight_value c.args.weight) c.requires.weight c.requires.small

pub weight_over-requires-clause-divides : goal.weight_over-requires-clause-divides
weight_over-requires-clause-divides c = doubled_divides c.mixed_divisor-divisor.result (map omega_value c.mix_by.new.list) (weight_value c.doubled.result) (doubled_total c.mixed_divisor-divisor.result c.args.place (map omega_value c.args.from.now) (map omega_value c.mix_by.new.list) (weight_value c.args.weight) (weight_value c.doubled.result) (same_place c.args.place c.args.from.now c.requires.place) (same_rows c.args.from.now c.mix_by.new.list (c.mix_by.auto.list ∙ c.requires.same)) c.mix_by.ensures c.requires.weight c.doubled.ensures)

pub balance-requires-clause-weight : goal.balance-requires-clause-weight
balance-requires-clause-weight c = quotient_weight c.mixed_divisor-divisor.result (map omega_value c.mix_by.new.list) (weight_value c.doubled.result) (weight_value c.weight_over.result) (doubled_total c.mixed_divisor-divisor.result c.args.place (map omega_value c.args.from.now) (map omega_value c.mix_by.new.list) (weight_value c.args.weight) (weight_value c.doubled.result) (same_place c.args.place c.args.from.now c.requires.place) (same_rows c.args.from.now c.mix_by.new.list (c.mix_by.auto.list ∙ c.requires.same)) c.mix_by.ensures c.requires.weight c.doubled.ensures) c.weight_over.ensures

pub balance-requires-clause-small : goal.balance-requires-clause-small
balance-requires-clause-small c = quotient_small c.mixed_divisor-divisor.result (multiplied (divisor_value c.mixed_divisor-divisor.result) (map omega_value c.mix_by.new.list)) (weight_value c.doubled.result) (weight_value c.args.weight) (weight_value c.weight_over.result) (doubled_total c.mixed_divisor-divisor.result c.args.place (map omega_value c.args.from.now) (map omega_value c.mix_by.new.list) (weight_value c.args.weight) (weight_value c.doubled.result) (same_place c.args.place c.args.from.now c.requires.place) (same_rows c.args.from.now c.mix_by.new.list (c.mix_by.auto.list ∙ c.requires.same)) c.mix_by.ensures c.requires.weight c.doubled.ensures) c.doubled.ensures c.requires.small c.weight_over.ensures

pub returns-clause-mixed : goal.returns-clause-mixed
returns-clause-mixed c = let n = c.requires.normal in mixed_normal c.mixed_divisor-divisor.result c.args.place (map omega_value c.args.from.now) (map omega_value c.mix_by.new.list) (map omega_value c.balance.new.list) (weight_value c.balance.result) n.reduced (same_rows c.args.from.now c.mix_by.new.list (c.mix_by.auto.list ∙ c.requires.same)) c.mix_by.ensures c.mixed_divisor-divisor.ensures.most c.balance.ensures.scaled c.balance.ensures.weight c.balance.ensures.balanced
