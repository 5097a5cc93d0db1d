use Rattle.std.proofs.Common.{◌^◌, ◌+◌, List, true, refl, sym, ap, subst, ◌∙◌, arith}
use Rattle.state_model.specs.Gate.{matrix}
use Rattle.state_model.specs.declared.Gate.TheVariants.{RotZ}
use Rattle.amplitude_register.proofs.RowPairs.{gate_none, gate_skip, gate_high, gate_whole, gate_top, high_range, value_at, IsGateUntil, wider}
use Rattle.amplitude_register.proofs.rows.turn.Goals as goal
use Rattle.amplitude_register.proofs.rows.turn.Goals.{then-not-has_bit, else-not-has_bit}
use Rattle.state_model.specs.Coefficient.{Coefficient, ◌⊗◌, root}
use Rattle.state_model.specs.Row.{with_bit}
use Rattle.omega_ring.specs.Views.{omega_value}
use Rattle.omega_ring.specs.declared.coefficients.Omega.{Omega}
use Rattle.state_model.proofs.GateLists.{turned_low, turned_high}

pub loop-row-init : goal.loop-row-init
loop-row-init c = gate_none (matrix (RotZ c.args.eighths)) c.args.place c.args.list.now

pub returns : goal.returns
returns c = gate_whole (matrix (RotZ c.args.eighths)) c.args.place c.args.list.now c.loop-row.list c.loop-row.row c.requires.place (omega arith) c.loop-row.invariant

pub times_root-requires-clause-range : goal.times_root-requires-clause-range
times_root-requires-clause-range c = wider (omega_value _) (high_range (matrix (RotZ c.args.eighths)) c.args.place (2 ^ 61) c.args.list.now c.loop-row.list c.loop-row.row c.with_high_bit-high.result c.requires.range c.loop-row.invariant (sym c.has_bit.ensures ∙ c.if-not-has_bit.true) c.with_high_bit-high.ensures.value)

pub loop-row-preserved : goal.loop-row-preserved
loop-row-preserved c = elim c.if-not-has_bit.branch [
  | then-not-has_bit w ↦
      let e = sym c.has_bit.ensures ∙ w.if-not-has_bit.true in
      subst (λ (ys : List Omega). IsGateUntil (matrix (RotZ c.args.eighths)) c.args.place c.args.list.now ys (c.loop-row.row + 1)) (sym w.list-is)
      (gate_high (matrix (RotZ c.args.eighths)) c.args.place c.args.list.now c.loop-row.list c.loop-row.row w.with_high_bit-high.result w.times_root.result c.requires.place (omega arith) e w.with_high_bit-high.ensures.value c.loop-row.invariant (turned_low c.args.eighths (value_at c.args.list.now c.loop-row.row) (value_at c.args.list.now (with_bit c.args.place true c.loop-row.row))) (w.times_root.ensures ∙ ap (λ (z : Coefficient). z ⊗ root c.args.eighths) (gate_top (matrix (RotZ c.args.eighths)) c.args.place c.args.list.now c.loop-row.list c.loop-row.row w.with_high_bit-high.result _ e w.with_high_bit-high.ensures.value c.loop-row.invariant refl) ∙ turned_high c.args.eighths (value_at c.args.list.now c.loop-row.row) (value_at c.args.list.now (with_bit c.args.place true c.loop-row.row))))
  | else-not-has_bit w ↦ subst (λ (ys : List Omega). IsGateUntil (matrix (RotZ c.args.eighths)) c.args.place c.args.list.now ys (c.loop-row.row + 1)) (sym w.list-is)
      (gate_skip (matrix (RotZ c.args.eighths)) c.args.place c.args.list.now c.loop-row.list c.loop-row.row (sym c.has_bit.ensures ∙ w.if-not-has_bit.false) c.loop-row.invariant)
]
