use Rattle.std.proofs.Common.{◌+◌, List, true, refl, sym, subst, ◌∙◌, arith}
use Rattle.state_model.specs.Gate.{matrix}
use Rattle.state_model.specs.declared.Gate.TheVariants.{X}
use Rattle.amplitude_register.proofs.RowPairs.{gate_none, gate_skip, gate_both, gate_whole, gate_low, gate_top, swapped, value_at, IsGateUntil}
use Rattle.amplitude_register.proofs.rows.exchange.Goals as goal
use Rattle.amplitude_register.proofs.rows.exchange.Goals.{then-not-has_bit, else-not-has_bit}
use Rattle.state_model.specs.Row.{with_bit}
use Rattle.omega_ring.specs.declared.coefficients.Omega.{Omega}
use Rattle.state_model.proofs.GateLists.{exchanged_low, exchanged_high}

pub loop-row-init : goal.loop-row-init
loop-row-init c = gate_none (matrix X) c.args.place c.args.list.now

pub returns : goal.returns
returns c = gate_whole (matrix X) c.args.place c.args.list.now c.loop-row.list c.loop-row.row c.requires.place (omega arith) c.loop-row.invariant

pub loop-row-preserved : goal.loop-row-preserved
loop-row-preserved c = elim c.if-not-has_bit.branch [
  | then-not-has_bit w ↦
      let e = sym c.has_bit.ensures ∙ w.if-not-has_bit.true in
      subst (λ (ys : List Omega). IsGateUntil (matrix X) c.args.place c.args.list.now ys (c.loop-row.row + 1)) (sym (w.list-is ∙ w.exchange_two.ensures ∙ swapped c.loop-row.list c.loop-row.row w.with_high_bit-high.result (omega arith) w.with_high_bit-high.ensures.inside))
      (gate_both (matrix X) c.args.place c.args.list.now c.loop-row.list c.loop-row.row w.with_high_bit-high.result _ _ c.requires.place (omega arith) e w.with_high_bit-high.ensures.value c.loop-row.invariant ((gate_top (matrix X) c.args.place c.args.list.now c.loop-row.list c.loop-row.row w.with_high_bit-high.result _ e w.with_high_bit-high.ensures.value c.loop-row.invariant refl) ∙ exchanged_low (value_at c.args.list.now c.loop-row.row) (value_at c.args.list.now (with_bit c.args.place true c.loop-row.row))) ((gate_low (matrix X) c.args.place c.args.list.now c.loop-row.list c.loop-row.row _ e c.loop-row.invariant refl) ∙ exchanged_high (value_at c.args.list.now c.loop-row.row) (value_at c.args.list.now (with_bit c.args.place true c.loop-row.row))))
  | else-not-has_bit w ↦ subst (λ (ys : List Omega). IsGateUntil (matrix X) c.args.place c.args.list.now ys (c.loop-row.row + 1)) (sym w.list-is)
      (gate_skip (matrix X) c.args.place c.args.list.now c.loop-row.list c.loop-row.row (sym c.has_bit.ensures ∙ w.if-not-has_bit.false) c.loop-row.invariant)
]
