use Rattle.std.proofs.Common.{sym, subst, arith, ◌+◌}
use Rattle.omega_ring.specs.Views.{omega_value}
use Rattle.omega_ring.specs.declared.coefficients.Omega.{Omega}
use Rattle.amplitude_register.proofs.Folded.{IsFolded, folded_none, folded_more, folded_skip, folded_delta, folded_whole}
use Rattle.amplitude_register.proofs.common.common_of.Goals as goal
use Rattle.amplitude_register.proofs.common.common_of.Goals.{then-not-is_zero+else-is_delta_power, else-not-is_zero}

pub loop-z-init : goal.loop-z-init
loop-z-init c = folded_none c.args.list.now

pub returns-then-is_delta_power : goal.returns-then-is_delta_power
returns-then-is_delta_power c = folded_delta c.args.list.now c.loop-z.z-index (omega_value c.loop-z.common) (omega_value c.gcd-common.result) c.loop-z.invariant c.gcd-common.ensures.greatest (c.is_delta_power.ensures.0 c.if-is_delta_power.true)

pub loop-z-preserved : goal.loop-z-preserved
loop-z-preserved c = elim c.if-not-is_zero.branch [
  | then-not-is_zero+else-is_delta_power w ↦ subst (λ (t : Omega). IsFolded c.args.list.now (c.loop-z.z-index + 1) (omega_value t)) (sym w.common-is) (folded_more c.args.list.now c.loop-z.z-index (omega_value c.loop-z.common) (omega_value w.gcd-common.result) c.loop-z.invariant w.gcd-common.ensures.ready w.gcd-common.ensures.greatest)
  | else-not-is_zero w ↦ subst (λ (t : Omega). IsFolded c.args.list.now (c.loop-z.z-index + 1) (omega_value t)) (sym w.common-is) (folded_skip c.args.list.now c.loop-z.z-index (omega_value c.loop-z.common) c.loop-z.invariant (c.is_zero.ensures.0 (search)))
]

pub returns : goal.returns
returns c = folded_whole c.args.list.now c.loop-z.z-index (omega_value c.loop-z.common) (omega arith) c.loop-z.invariant
