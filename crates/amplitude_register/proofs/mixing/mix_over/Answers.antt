use Rattle.std.proofs.Common.{◌-◌, arith, length, map, sym, subst, ◌<◌, ℕ, ◌∙◌}
use Rattle.omega_ring.specs.Views.{omega_value}
use Rattle.amplitude_register.specs.Mixed.{divisor_value, IsMixedRowOver}
use Rattle.amplitude_register.proofs.MixedRows.{paired_none, paired_more, paired_whole}
use Rattle.amplitude_register.proofs.MixedWrites.{row_within, row_wide, sum_range, difference_range, sum_at, difference_at, divides_at, over_past}
use Rattle.amplitude_register.proofs.mixing.mix_over.Goals as goal

pub loop-pair-init : goal.loop-pair-init
loop-pair-init c = paired_none (IsMixedRowOver (divisor_value c.args.divisor) c.args.place (map omega_value c.args.from.now)) c.args.place (length c.args.from.now) c.args.list.now c.requires.place c.requires.same

pub minus-requires-clause-left : goal.minus-requires-clause-left
minus-requires-clause-left c = row_wide c.args.from.now c.low_row-low.result c.requires.range

pub plus-requires-clause-left : goal.plus-requires-clause-left
plus-requires-clause-left c = row_wide c.args.from.now c.low_row-low.result c.requires.range

pub over-requires-clause-range : goal.over-requires-clause-range
over-requires-clause-range c = difference_range (omega_value c.minus.result) _ _ c.minus.ensures (row_within c.args.from.now c.low_row-low.result c.requires.range) (row_within c.args.from.now c.with_high_bit-high.result c.requires.range)

pub over-requires-in-loop-pair-clause-range : goal.over-requires-in-loop-pair-clause-range
over-requires-in-loop-pair-clause-range c = sum_range (omega_value c.plus.result) _ _ c.plus.ensures (row_within c.args.from.now c.low_row-low.result c.requires.range) (row_within c.args.from.now c.with_high_bit-high.result c.requires.range)

pub over-requires-clause-divides : goal.over-requires-clause-divides
over-requires-clause-divides c = divides_at (divisor_value c.args.divisor) c.args.place (map omega_value c.args.from.now) c.with_high_bit-high.result (omega_value c.minus.result) (difference_at c.args.place c.args.from.now c.low_row-low.result c.with_high_bit-high.result c.minus.result c.low_row-low.ensures.low c.with_high_bit-high.ensures.value c.minus.ensures) c.requires.divides

pub over-requires-in-loop-pair-clause-divides : goal.over-requires-in-loop-pair-clause-divides
over-requires-in-loop-pair-clause-divides c = divides_at (divisor_value c.args.divisor) c.args.place (map omega_value c.args.from.now) c.low_row-low.result (omega_value c.plus.result) (sum_at c.args.place c.args.from.now c.low_row-low.result c.with_high_bit-high.result c.plus.result c.low_row-low.ensures.low c.with_high_bit-high.ensures.value c.plus.ensures) c.requires.divides

pub loop-pair-preserved : goal.loop-pair-preserved
loop-pair-preserved c =
    paired_more (IsMixedRowOver (divisor_value c.args.divisor) c.args.place (map omega_value c.args.from.now)) c.args.place (length c.args.from.now) c.loop-pair.list c.loop-pair.pair (c.loop-pair.pair - 1) c.low_row-low.result c.with_high_bit-high.result c.over-in-loop-pair.result c.over.result (omega arith) c.low_row-low.ensures.inside c.with_high_bit-high.ensures.inside c.low_row-low.ensures.value c.with_high_bit-high.ensures.value
    (sym (sum_at c.args.place c.args.from.now c.low_row-low.result c.with_high_bit-high.result c.plus.result c.low_row-low.ensures.low c.with_high_bit-high.ensures.value c.plus.ensures) ∙ c.over-in-loop-pair.ensures) (sym (difference_at c.args.place c.args.from.now c.low_row-low.result c.with_high_bit-high.result c.minus.result c.low_row-low.ensures.low c.with_high_bit-high.ensures.value c.minus.ensures) ∙ c.over.ensures) c.loop-pair.invariant

pub returns : goal.returns
returns c = paired_whole (IsMixedRowOver (divisor_value c.args.divisor) c.args.place (map omega_value c.args.from.now)) c.args.place (length c.args.from.now) c.loop-pair.list c.loop-pair.pair (over_past (divisor_value c.args.divisor) c.args.place c.args.from.now c.requires.place) (omega arith) c.loop-pair.invariant
