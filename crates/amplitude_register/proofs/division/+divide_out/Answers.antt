use Rattle.std.proofs.Common.{◌<◌, ◌≤ℤ◌, pos, unsigned_abs, map, arith}
use Rattle.std.proofs.lemmas.Int.{ints}
use Rattle.amplitude_register.proofs.Steps.{both_weights_even, both_step, lower_even, upper_even, lower_step, upper_step}
use Rattle.state_model.specs.Divisors.{weight_norm}
use Rattle.omega_ring.specs.Views.{omega_value, weight_value}
use Rattle.state_model.proofs.Inequalities.{order}
use Rattle.state_model.proofs.RegisterSizes.{scaled_self, scaled_trans}
use Rattle.amplitude_register.proofs.division.+divide_out.Goals as goal

pub over_both-requires-clause-x : goal.over_both-requires-clause-x
over_both-requires-clause-x t c = (both_weights_even (map omega_value c.args.list.now) (map omega_value c.divide_by_both.new.list) (weight_value c.args.weight) c.requires.weight c.divide_by_both.ensures).0

pub over_both-requires-clause-y : goal.over_both-requires-clause-y
over_both-requires-clause-y t c = (both_weights_even (map omega_value c.args.list.now) (map omega_value c.divide_by_both.new.list) (weight_value c.args.weight) c.requires.weight c.divide_by_both.ensures).1

pub divide_out-requires : goal.divide_out-requires
divide_out-requires t c =
    let k = both_step (map omega_value c.args.list.now) (map omega_value c.divide_by_both.new.list) (weight_value c.args.weight) (weight_value c.over_both.result) c.requires.weight c.requires.nonzero c.divide_by_both.ensures c.over_both.ensures in
    let f : unsigned_abs (weight_norm (weight_value c.over_both.result)) < unsigned_abs (weight_norm (weight_value c.args.weight)) = k.falls in
    let m = k.smaller in
    (omega (arith, f), (k.weight, (omega (arith, order, m, c.requires.small), k.nonzero)))

pub returns-then-all_divisible_by_both-clause-small : goal.returns-then-all_divisible_by_both-clause-small
returns-then-all_divisible_by_both-clause-small t c =
    let k = both_step (map omega_value c.args.list.now) (map omega_value c.divide_by_both.new.list) (weight_value c.args.weight) (weight_value c.over_both.result) c.requires.weight c.requires.nonzero c.divide_by_both.ensures c.over_both.ensures in
    let m = k.smaller in omega (arith, order, m, c.divide_out.ensures.small)

pub returns-then-all_divisible_by_both-clause-scaled : goal.returns-then-all_divisible_by_both-clause-scaled
returns-then-all_divisible_by_both-clause-scaled t c =
    let k = both_step (map omega_value c.args.list.now) (map omega_value c.divide_by_both.new.list) (weight_value c.args.weight) (weight_value c.over_both.result) c.requires.weight c.requires.nonzero c.divide_by_both.ensures c.over_both.ensures in
    scaled_trans (map omega_value c.divide_out.new.list) (map omega_value c.divide_by_both.new.list) (map omega_value c.args.list.now) c.divide_out.ensures.scaled k.scaled

pub over_conjugate-requires-clause-even : goal.over_conjugate-requires-clause-even
over_conjugate-requires-clause-even t c = lower_even (map omega_value c.args.list.now) (map omega_value c.divide_by_conjugate.new.list) (weight_value c.args.weight) c.requires.weight c.divide_by_conjugate.ensures

pub over_delta-requires-clause-even : goal.over_delta-requires-clause-even
over_delta-requires-clause-even t c = upper_even (map omega_value c.args.list.now) (map omega_value c.divide_by_delta.new.list) (weight_value c.args.weight) c.requires.weight c.divide_by_delta.ensures

pub divide_out-requires-then-weight-gt0 : goal.divide_out-requires-then-weight-gt0
divide_out-requires-then-weight-gt0 t c =
    let s : pos 0 ≤ℤ c.args.weight.y = omega (arith, ints, c.if-weight-gt0.true) in
    let k = lower_step (map omega_value c.args.list.now) (map omega_value c.divide_by_conjugate.new.list) (weight_value c.args.weight) (weight_value c.over_conjugate.result) c.requires.weight s c.requires.nonzero c.divide_by_conjugate.ensures c.over_conjugate.ensures in
    let f : unsigned_abs (weight_norm (weight_value c.over_conjugate.result)) < unsigned_abs (weight_norm (weight_value c.args.weight)) = k.falls in
    let m = k.smaller in
    (omega (arith, f), (k.weight, (omega (arith, order, m, c.requires.small), k.nonzero)))

pub divide_out-requires-else-weight-gt0 : goal.divide_out-requires-else-weight-gt0
divide_out-requires-else-weight-gt0 t c =
    let s : c.args.weight.y ≤ℤ pos 0 = omega (arith, ints, c.if-weight-gt0.false) in
    let k = upper_step (map omega_value c.args.list.now) (map omega_value c.divide_by_delta.new.list) (weight_value c.args.weight) (weight_value c.over_delta.result) c.requires.weight s c.requires.nonzero c.divide_by_delta.ensures c.over_delta.ensures in
    let f : unsigned_abs (weight_norm (weight_value c.over_delta.result)) < unsigned_abs (weight_norm (weight_value c.args.weight)) = k.falls in
    let m = k.smaller in
    (omega (arith, f), (k.weight, (omega (arith, order, m, c.requires.small), k.nonzero)))

pub returns-then-not-all_divisible-clause-scaled : goal.returns-then-not-all_divisible-clause-scaled
returns-then-not-all_divisible-clause-scaled t c = scaled_self (map omega_value c.args.list.now)

pub returns-then-weight-gt0-clause-small : goal.returns-then-weight-gt0-clause-small
returns-then-weight-gt0-clause-small t c =
    let s : pos 0 ≤ℤ c.args.weight.y = omega (arith, ints, c.if-weight-gt0.true) in
    let k = lower_step (map omega_value c.args.list.now) (map omega_value c.divide_by_conjugate.new.list) (weight_value c.args.weight) (weight_value c.over_conjugate.result) c.requires.weight s c.requires.nonzero c.divide_by_conjugate.ensures c.over_conjugate.ensures in
    let m = k.smaller in omega (arith, order, m, c.divide_out-then-weight-gt0.ensures.small)

pub returns-then-weight-gt0-clause-scaled : goal.returns-then-weight-gt0-clause-scaled
returns-then-weight-gt0-clause-scaled t c =
    let s : pos 0 ≤ℤ c.args.weight.y = omega (arith, ints, c.if-weight-gt0.true) in
    let k = lower_step (map omega_value c.args.list.now) (map omega_value c.divide_by_conjugate.new.list) (weight_value c.args.weight) (weight_value c.over_conjugate.result) c.requires.weight s c.requires.nonzero c.divide_by_conjugate.ensures c.over_conjugate.ensures in
    scaled_trans (map omega_value c.divide_out-then-weight-gt0.new.list) (map omega_value c.divide_by_conjugate.new.list) (map omega_value c.args.list.now) c.divide_out-then-weight-gt0.ensures.scaled k.scaled

pub returns-else-weight-gt0-clause-small : goal.returns-else-weight-gt0-clause-small
returns-else-weight-gt0-clause-small t c =
    let s : c.args.weight.y ≤ℤ pos 0 = omega (arith, ints, c.if-weight-gt0.false) in
    let k = upper_step (map omega_value c.args.list.now) (map omega_value c.divide_by_delta.new.list) (weight_value c.args.weight) (weight_value c.over_delta.result) c.requires.weight s c.requires.nonzero c.divide_by_delta.ensures c.over_delta.ensures in
    let m = k.smaller in omega (arith, order, m, c.divide_out-else-weight-gt0.ensures.small)

pub returns-else-weight-gt0-clause-scaled : goal.returns-else-weight-gt0-clause-scaled
returns-else-weight-gt0-clause-scaled t c =
    let s : c.args.weight.y ≤ℤ pos 0 = omega (arith, ints, c.if-weight-gt0.false) in
    let k = upper_step (map omega_value c.args.list.now) (map omega_value c.divide_by_delta.new.list) (weight_value c.args.weight) (weight_value c.over_delta.result) c.requires.weight s c.requires.nonzero c.divide_by_delta.ensures c.over_delta.ensures in
    scaled_trans (map omega_value c.divide_out-else-weight-gt0.new.list) (map omega_value c.divide_by_delta.new.list) (map omega_value c.args.list.now) c.divide_out-else-weight-gt0.ensures.scaled k.scaled
