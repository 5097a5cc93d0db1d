use Rattle.std.proofs.Common.{◌^◌, ◌+◌, List, sym, subst, ◌∙◌, arith}
use Rattle.omega_ring.specs.Views.{omega_value}
use Rattle.amplitude_register.proofs.RowPairs.{wider}
use Rattle.amplitude_register.proofs.TwoGates.{negated_none, negated_skip, negated_more, negated_whole, row_range, IsNegatedUntil}
use Rattle.amplitude_register.proofs.controlled.negate_where.Goals as goal
use Rattle.amplitude_register.proofs.controlled.negate_where.Goals.{then-has_both, else-has_both}
use Rattle.omega_ring.specs.declared.coefficients.Omega.{Omega}

pub loop-row-init : goal.loop-row-init
loop-row-init c = negated_none c.args.one c.args.two c.args.list.now

pub negated-requires : goal.negated-requires
negated-requires c = wider (omega_value _) (row_range c.args.one c.args.two (2 ^ 61) c.args.list.now c.loop-row.list c.loop-row.row c.requires.range c.loop-row.invariant)

pub returns : goal.returns
returns c = negated_whole c.args.one c.args.two c.args.list.now c.loop-row.list c.loop-row.row (omega arith) c.loop-row.invariant

pub loop-row-preserved : goal.loop-row-preserved
loop-row-preserved c = elim c.if-has_both.branch [
  | then-has_both w ↦
      subst (λ (ys : List Omega). IsNegatedUntil c.args.one c.args.two c.args.list.now ys (c.loop-row.row + 1)) (sym w.list-is)
      (negated_more c.args.one c.args.two c.args.list.now c.loop-row.list c.loop-row.row w.negated.result (omega arith) (sym c.has_both.ensures ∙ w.if-has_both.true) w.negated.ensures c.loop-row.invariant)
  | else-has_both w ↦ subst (λ (ys : List Omega). IsNegatedUntil c.args.one c.args.two c.args.list.now ys (c.loop-row.row + 1)) (sym w.list-is)
      (negated_skip c.args.one c.args.two c.args.list.now c.loop-row.list c.loop-row.row (sym c.has_both.ensures ∙ w.if-has_both.false) c.loop-row.invariant)
]
