use Rattle.std.proofs.Common.{arith}
use Rattle.omega_ring.specs.Views.{omega_value}
use Rattle.amplitude_register.proofs.MixedWrites.{row_within, row_wide, sum_wide}
use Rattle.amplitude_register.proofs.MixedDivisors.{none_yet, one_more}
use Rattle.amplitude_register.proofs.MixedPairs.{pair_sum, sum_is, allowed_divides, allowed_no_more}
use Rattle.amplitude_register.proofs.mixing.mixed_divisor.Goals as goal

pub loop-pair-init : goal.loop-pair-init
loop-pair-init c = none_yet (pair_sum c.args.place c.args.from.now)

pub plus-requires-clause-left : goal.plus-requires-clause-left
plus-requires-clause-left c = row_wide c.args.from.now c.low_row-low.result c.requires.range

pub plus-requires-clause-right : goal.plus-requires-clause-right
plus-requires-clause-right c = row_wide c.args.from.now c.with_high_bit-high.result c.requires.range

pub with-parities-requires : goal.with-parities-requires
with-parities-requires c = sum_wide (omega_value c.plus.result) _ _ c.plus.ensures (row_within c.args.from.now c.low_row-low.result c.requires.range) (row_within c.args.from.now c.with_high_bit-high.result c.requires.range)

pub loop-pair-preserved : goal.loop-pair-preserved
loop-pair-preserved c = one_more c.loop-pair.parities c.with-parities.result (pair_sum c.args.place c.args.from.now) c.loop-pair.pair (omega_value c.plus.result) (sum_is c.args.place c.args.from.now c.loop-pair.pair c.low_row-low.result c.with_high_bit-high.result (omega_value c.plus.result) c.low_row-low.ensures.value c.with_high_bit-high.ensures.value c.plus.ensures) c.loop-pair.invariant c.with-parities.ensures

pub returns-clause-divides : goal.returns-clause-divides
returns-clause-divides c = allowed_divides c.divisor.result c.loop-pair.parities c.args.place c.args.from.now c.loop-pair.pair c.requires.place (omega arith) c.loop-pair.invariant c.divisor.ensures

pub returns-clause-most : goal.returns-clause-most
returns-clause-most c = allowed_no_more c.divisor.result c.loop-pair.parities c.args.place c.args.from.now c.loop-pair.pair c.loop-pair.invariant c.divisor.ensures
