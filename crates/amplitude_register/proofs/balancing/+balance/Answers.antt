use Rattle.std.proofs.Common.{◌<◌, unsigned_abs, map, arith}
use Rattle.amplitude_register.proofs.Steps.{down_step, up_step}
use Rattle.omega_ring.specs.Views.{omega_value, weight_value}
use Rattle.state_model.proofs.RegisterSizes.{scaled_self, scaled_trans}
use Rattle.amplitude_register.proofs.balancing.+balance.Goals as goal

pub balance-requires : goal.balance-requires
balance-requires t c =
    let k = down_step (map omega_value c.args.list.now) (map omega_value c.lower.new.list) (weight_value c.args.weight) (weight_value c.lowered.result) c.requires.weight c.requires.small (c.is_high.ensures.0 c.if-is_high.true) c.lower.ensures c.lowered.ensures in
    let f : unsigned_abs c.lowered.result.x < unsigned_abs c.args.weight.x = k.falls in
    (omega (arith, f), (k.weight, k.small))

pub balance-requires-then-is_low : goal.balance-requires-then-is_low
balance-requires-then-is_low t c =
    let k = up_step (map omega_value c.args.list.now) (map omega_value c.raise.new.list) (weight_value c.args.weight) (weight_value c.raised.result) c.requires.weight c.requires.small (c.is_low.ensures.0 c.if-is_low.true) c.raise.ensures c.raised.ensures in
    let f : unsigned_abs c.raised.result.x < unsigned_abs c.args.weight.x = k.falls in
    (omega (arith, f), (k.weight, k.small))

pub returns-then-is_high-clause-scaled : goal.returns-then-is_high-clause-scaled
returns-then-is_high-clause-scaled t c =
    let k = down_step (map omega_value c.args.list.now) (map omega_value c.lower.new.list) (weight_value c.args.weight) (weight_value c.lowered.result) c.requires.weight c.requires.small (c.is_high.ensures.0 c.if-is_high.true) c.lower.ensures c.lowered.ensures in
    scaled_trans (map omega_value c.balance.new.list) (map omega_value c.lower.new.list) (map omega_value c.args.list.now) c.balance.ensures.scaled k.scaled

pub returns-then-is_low-clause-scaled : goal.returns-then-is_low-clause-scaled
returns-then-is_low-clause-scaled t c =
    let k = up_step (map omega_value c.args.list.now) (map omega_value c.raise.new.list) (weight_value c.args.weight) (weight_value c.raised.result) c.requires.weight c.requires.small (c.is_low.ensures.0 c.if-is_low.true) c.raise.ensures c.raised.ensures in
    scaled_trans (map omega_value c.balance-then-is_low.new.list) (map omega_value c.raise.new.list) (map omega_value c.args.list.now) c.balance-then-is_low.ensures.scaled k.scaled

pub returns-else-is_low-clause-scaled : goal.returns-else-is_low-clause-scaled
returns-else-is_low-clause-scaled t c = scaled_self (map omega_value c.args.list.now)
