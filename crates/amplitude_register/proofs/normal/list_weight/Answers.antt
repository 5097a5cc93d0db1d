use Rattle.std.proofs.Common.{◌^◌, map, sym, ap, subst, ◌∙◌, arith}
use Rattle.amplitude_register.proofs.Sums.{within_sum, stored_until, stored_more, more_fits_x, more_fits_y}
use Rattle.state_model.specs.Coefficient.{Coefficient, weight}
use Rattle.omega_ring.specs.Views.{omega_value, weight_value}
use Rattle.omega_ring.specs.Range.{CoordinatesBelow}
use Rattle.omega_ring.proofs.Entries.{at_map}
use Rattle.amplitude_register.proofs.normal.list_weight.Goals as goal

pub weight-weight-requires : goal.weight-weight-requires
weight-weight-requires c = subst (λ (t : Coefficient). CoordinatesBelow (2 ^ 61) t) (at_map c.args.list.now c.loop-z.z-index ∙ sym c.wide.ensures) (within_sum (map omega_value c.args.list.now) c.requires c.loop-z.z-index)

pub overflow_add-x : goal.overflow_add-x
overflow_add-x c = more_fits_x c.args.list.now c.loop-z.z-index _ (weight_value c.weight-weight.result) (omega arith) c.requires c.loop-z.invariant.x (c.weight-weight.ensures ∙ ap weight c.wide.ensures)

pub overflow_add-y : goal.overflow_add-y
overflow_add-y c = more_fits_y c.args.list.now c.loop-z.z-index _ (weight_value c.weight-weight.result) (omega arith) c.requires c.loop-z.invariant.y (c.weight-weight.ensures ∙ ap weight c.wide.ensures)

pub loop-z-preserved : goal.loop-z-preserved
loop-z-preserved c = let h = stored_more c.args.list.now c.loop-z.z-index _ _ (weight_value c.weight-weight.result) (omega arith) c.requires c.loop-z.invariant.x c.loop-z.invariant.y (c.weight-weight.ensures ∙ ap weight c.wide.ensures) in record { x = h.x_is; y = h.y_is }

pub returns : goal.returns
returns c = stored_until c.args.list.now c.loop-z.z-index _ _ (omega arith) c.requires c.loop-z.invariant.x c.loop-z.invariant.y
