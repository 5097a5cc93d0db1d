use Rattle.std.proofs.Common.{◌^◌, ◌+◌, List, true, refl, sym, subst, ◌∙◌, arith}
use Rattle.state_model.specs.Gate.{matrix}
use Rattle.state_model.specs.declared.Gate.TheVariants.{H}
use Rattle.amplitude_register.proofs.RowPairs.{gate_none, gate_skip, gate_both, gate_whole, gate_low, gate_top, low_range, high_range, value_at, pair_of, IsGateUntil}
use Rattle.amplitude_register.proofs.rows.mix.Goals as goal
use Rattle.amplitude_register.proofs.rows.mix.Goals.{then-not-has_bit, else-not-has_bit}
use Rattle.state_model.specs.Coefficient.{Coefficient, ◌⊕◌, ◌⊖◌}
use Rattle.state_model.specs.Row.{with_bit}
use Rattle.omega_ring.specs.declared.coefficients.Omega.{Omega}
use Rattle.state_model.proofs.GateLists.{sum_entry, difference_entry}

pub loop-row-init : goal.loop-row-init
loop-row-init c = gate_none (matrix H) c.args.place c.args.list.now

pub returns : goal.returns
returns c = gate_whole (matrix H) c.args.place c.args.list.now c.loop-row.list c.loop-row.row c.requires.place (omega arith) c.loop-row.invariant

pub plus-requires-clause-left : goal.plus-requires-clause-left
plus-requires-clause-left c = low_range (matrix H) c.args.place (2 ^ 61) c.args.list.now c.loop-row.list c.loop-row.row c.requires.range c.loop-row.invariant (sym c.has_bit.ensures ∙ c.if-not-has_bit.true)

pub plus-requires-clause-right : goal.plus-requires-clause-right
plus-requires-clause-right c = high_range (matrix H) c.args.place (2 ^ 61) c.args.list.now c.loop-row.list c.loop-row.row c.with_high_bit-high.result c.requires.range c.loop-row.invariant (sym c.has_bit.ensures ∙ c.if-not-has_bit.true) c.with_high_bit-high.ensures.value

pub minus-requires-clause-left : goal.minus-requires-clause-left
minus-requires-clause-left c = low_range (matrix H) c.args.place (2 ^ 61) c.args.list.now c.loop-row.list c.loop-row.row c.requires.range c.loop-row.invariant (sym c.has_bit.ensures ∙ c.if-not-has_bit.true)

pub minus-requires-clause-right : goal.minus-requires-clause-right
minus-requires-clause-right c = high_range (matrix H) c.args.place (2 ^ 61) c.args.list.now c.loop-row.list c.loop-row.row c.with_high_bit-high.result c.requires.range c.loop-row.invariant (sym c.has_bit.ensures ∙ c.if-not-has_bit.true) c.with_high_bit-high.ensures.value

pub loop-row-preserved : goal.loop-row-preserved
loop-row-preserved c = elim c.if-not-has_bit.branch [
  | then-not-has_bit w ↦
      let e = sym c.has_bit.ensures ∙ w.if-not-has_bit.true in
      subst (λ (ys : List Omega). IsGateUntil (matrix H) c.args.place c.args.list.now ys (c.loop-row.row + 1)) (sym w.list-is)
      (gate_both (matrix H) c.args.place c.args.list.now c.loop-row.list c.loop-row.row w.with_high_bit-high.result w.plus.result w.minus.result c.requires.place (omega arith) e w.with_high_bit-high.ensures.value c.loop-row.invariant (w.plus.ensures ∙ pair_of (λ (y z : Coefficient). y ⊕ z) (gate_low (matrix H) c.args.place c.args.list.now c.loop-row.list c.loop-row.row _ e c.loop-row.invariant refl) (gate_top (matrix H) c.args.place c.args.list.now c.loop-row.list c.loop-row.row w.with_high_bit-high.result _ e w.with_high_bit-high.ensures.value c.loop-row.invariant refl) ∙ sum_entry (value_at c.args.list.now c.loop-row.row) (value_at c.args.list.now (with_bit c.args.place true c.loop-row.row))) (w.minus.ensures ∙ pair_of (λ (y z : Coefficient). y ⊖ z) (gate_low (matrix H) c.args.place c.args.list.now c.loop-row.list c.loop-row.row _ e c.loop-row.invariant refl) (gate_top (matrix H) c.args.place c.args.list.now c.loop-row.list c.loop-row.row w.with_high_bit-high.result _ e w.with_high_bit-high.ensures.value c.loop-row.invariant refl) ∙ difference_entry (value_at c.args.list.now c.loop-row.row) (value_at c.args.list.now (with_bit c.args.place true c.loop-row.row))))
  | else-not-has_bit w ↦ subst (λ (ys : List Omega). IsGateUntil (matrix H) c.args.place c.args.list.now ys (c.loop-row.row + 1)) (sym w.list-is)
      (gate_skip (matrix H) c.args.place c.args.list.now c.loop-row.list c.loop-row.row (sym c.has_bit.ensures ∙ w.if-not-has_bit.false) c.loop-row.invariant)
]
