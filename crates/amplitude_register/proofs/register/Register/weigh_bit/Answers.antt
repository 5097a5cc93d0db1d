use Rattle.std.proofs.Common.{◌≡◌, ◌∙◌, length, ap, arith}
use Rattle.omega_ring.specs.Views.{omega_value, weight_value}
use Rattle.amplitude_register.specs.RowWeights.{bit_weight_to}
use Rattle.amplitude_register.proofs.Weighed.{bit_small, entry_small, bit_counts, bit_skips}
use Rattle.amplitude_register.proofs.register.Register.weigh_bit.Goals.{then-has_bit-bit, else-has_bit-bit}
use Rattle.amplitude_register.proofs.register.Register.weigh_bit.Goals as goal

pub added-sum-requires-clause-sum : goal.added-sum-requires-clause-sum
added-sum-requires-clause-sum c = let s = c.facts.ensures.kept.small in let e = c.row_count-row-end.ensures.rows in bit_small c.args.place c.args.bit c.args.self.now.value.list c.loop-row.row (weight_value c.loop-row.sum) (omega (arith, e)) s c.loop-row.invariant

pub added-sum-requires-clause-small : goal.added-sum-requires-clause-small
added-sum-requires-clause-small c = let s = c.facts.ensures.kept.small in entry_small c.args.self.now.value.list c.loop-row.row (omega_value c.coefficient.result) s c.coefficient.ensures

pub loop-row-preserved : goal.loop-row-preserved
loop-row-preserved c =
    let list = c.args.self.now.value.list in
    elim c.if-has_bit-bit.branch [
      | then-has_bit-bit w ↦ ap weight_value w.sum-is ∙ bit_counts c.args.place c.args.bit c.has_bit.result list c.loop-row.row (omega_value w.coefficient.result) (weight_value c.loop-row.sum) (weight_value w.added-sum.result) w.if-has_bit-bit.true c.has_bit.ensures c.loop-row.invariant w.coefficient.ensures w.added-sum.ensures
      | else-has_bit-bit w ↦ ap weight_value w.sum-is ∙ bit_skips c.args.place c.args.bit c.has_bit.result list c.loop-row.row (weight_value c.loop-row.sum) w.if-has_bit-bit.false c.has_bit.ensures c.loop-row.invariant
    ]

pub returns-clause-weight : goal.returns-clause-weight
returns-clause-weight c =
    let e = c.row_count-row-end.ensures.rows in
    let f : c.loop-row.row ≡ length c.args.self.now.value.list = omega (arith, e) in
    c.loop-row.invariant ∙ ap (bit_weight_to c.args.place c.args.bit c.args.self.now.value.list) f

pub returns-clause-small : goal.returns-clause-small
returns-clause-small c = let s = c.facts.ensures.kept.small in let e = c.row_count-row-end.ensures.rows in bit_small c.args.place c.args.bit c.args.self.now.value.list c.loop-row.row (weight_value c.loop-row.sum) (omega (arith, e)) s c.loop-row.invariant
