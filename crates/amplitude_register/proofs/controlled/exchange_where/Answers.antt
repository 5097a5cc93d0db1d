use Rattle.std.proofs.Common.{◌+◌, List, refl, sym, subst, ◌∙◌, arith}
use Rattle.amplitude_register.proofs.RowPairs.{swapped}
use Rattle.amplitude_register.proofs.TwoGates.{exchanged_none, exchanged_skip, exchanged_pair, exchanged_whole, IsExchangedUntil}
use Rattle.amplitude_register.proofs.controlled.exchange_where.Goals as goal
use Rattle.amplitude_register.proofs.controlled.exchange_where.Goals.{then-is_controlled, else-is_controlled}
use Rattle.omega_ring.specs.declared.coefficients.Omega.{Omega}

pub loop-row-init : goal.loop-row-init
loop-row-init c = exchanged_none c.args.control c.args.target c.args.list.now

pub returns : goal.returns
returns c = exchanged_whole c.args.control c.args.target c.args.list.now c.loop-row.list c.loop-row.row c.requires.place (omega arith) c.loop-row.invariant

pub loop-row-preserved : goal.loop-row-preserved
loop-row-preserved c = elim c.if-is_controlled.branch [
  | then-is_controlled w ↦
      subst (λ (ys : List Omega). IsExchangedUntil c.args.control c.args.target c.args.list.now ys (c.loop-row.row + 1)) (sym (w.list-is ∙ w.exchange_two.ensures ∙ swapped c.loop-row.list c.loop-row.row w.with_high_bit-high.result (omega arith) w.with_high_bit-high.ensures.inside))
      (exchanged_pair c.args.control c.args.target c.args.list.now c.loop-row.list c.loop-row.row w.with_high_bit-high.result _ _ c.requires.place (omega arith) c.requires.apart (sym c.is_controlled.ensures ∙ w.if-is_controlled.true) w.with_high_bit-high.ensures.value refl refl c.loop-row.invariant)
  | else-is_controlled w ↦ subst (λ (ys : List Omega). IsExchangedUntil c.args.control c.args.target c.args.list.now ys (c.loop-row.row + 1)) (sym w.list-is)
      (exchanged_skip c.args.control c.args.target c.args.list.now c.loop-row.list c.loop-row.row c.requires.apart (sym c.is_controlled.ensures ∙ w.if-is_controlled.false) c.loop-row.invariant)
]
