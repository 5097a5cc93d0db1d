use Rattle.std.proofs.Common.{◌^◌, ◌<ℤ◌, pos, sym, subst, arith}
use Rattle.state_model.specs.Coefficient.{Coefficient, weight}
use Rattle.omega_ring.specs.Range.{CoordinatesBelow}
use Rattle.omega_ring.specs.Views.{wide_value}
use Rattle.omega_ring.proofs.Rounding.{within_up}
use Rattle.omega_ring.proofs.Sizes.{ready_small}
use Rattle.omega_ring.proofs.coefficients.Omega.gcd.Goals as goal

pub short-requires : goal.short-requires
short-requires c = let s = ready_small (wide_value c.next_common.result) c.next_common.ensures.ready in within_up (2 ^ 31) (2 ^ 63) (wide_value c.next_common.result) s.coordinates (omega arith)

pub returns-clause-coordinates : goal.returns-clause-coordinates
returns-clause-coordinates c = subst (CoordinatesBelow (2 ^ 31)) (sym c.short.ensures) (let s = ready_small (wide_value c.next_common.result) c.next_common.ensures.ready in s.coordinates)

pub returns-clause-small : goal.returns-clause-small
returns-clause-small c = subst (λ (t : Coefficient). (weight t).x <ℤ pos (2 ^ 62)) (sym c.short.ensures) (let s = ready_small (wide_value c.next_common.result) c.next_common.ensures.ready in s.x)
