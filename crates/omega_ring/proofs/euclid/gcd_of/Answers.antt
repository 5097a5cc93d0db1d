use Rattle.std.proofs.Common.{arith, sym, subst, ◌^◌, ◌<ℤ◌, pos, map}
use Rattle.state_model.specs.Coefficient.{Coefficient, weight}
use Rattle.state_model.specs.CoefficientList.{at}
use Rattle.state_model.specs.Divisors.{Divides, IsBalanced}
use Rattle.omega_ring.specs.Views.{omega_value, wide_value}
use Rattle.state_model.proofs.Euclid.{divides_zero}
use Rattle.omega_ring.specs.Range.{CoordinatesBelow}
use Rattle.omega_ring.proofs.Sizes.{ready_small}
use Rattle.omega_ring.proofs.Rounding.{within_up}
use Rattle.omega_ring.proofs.Entries.{at_map, divides_more, divides_whole, greatest_more, zero_ready}
use Rattle.omega_ring.proofs.euclid.gcd_of.Goals as goal

pub loop-z-init : goal.loop-z-init
loop-z-init c = record { ready = zero_ready; common = λ i l. absurd (omega arith); greatest = λ h d. divides_zero h }

pub loop-z-preserved : goal.loop-z-preserved
loop-z-preserved c = record {
  ready = c.next_common-common.ensures.ready;
  common = divides_more c.args.list.now c.loop-z.z-index (wide_value c.loop-z.common) (wide_value c.next_common-common.result) c.loop-z.invariant.common c.next_common-common.ensures.greatest;
  greatest = greatest_more c.args.list.now c.loop-z.z-index (wide_value c.loop-z.common) (wide_value c.next_common-common.result) c.loop-z.invariant.greatest c.next_common-common.ensures.greatest;
}

pub next_common-common-requires-clause-ready : goal.next_common-common-requires-clause-ready
next_common-common-requires-clause-ready c = c.loop-z.invariant.ready

pub next_common-common-requires-clause-small : goal.next_common-common-requires-clause-small
next_common-common-requires-clause-small c = subst (λ (t : Coefficient). (weight t).x <ℤ pos (2 ^ 61)) (at_map c.args.list.now c.loop-z.z-index) (c.requires.small c.loop-z.z-index)

pub returns-clause-common : goal.returns-clause-common
returns-clause-common c = λ i. subst (λ (t : Coefficient). Divides t (at (map omega_value c.args.list.now) i)) (sym c.short.ensures) (divides_whole c.args.list.now c.loop-z.z-index (wide_value c.loop-z.common) (omega arith) c.loop-z.invariant.common i)

pub returns-clause-greatest : goal.returns-clause-greatest
returns-clause-greatest c = λ u d. subst (Divides u) (sym c.short.ensures) (c.loop-z.invariant.greatest u (λ i l. d i))

pub returns-clause-balanced : goal.returns-clause-balanced
returns-clause-balanced c = subst (λ (t : Coefficient). IsBalanced (weight t)) (sym c.short.ensures) (let r = c.loop-z.invariant.ready in r.balanced)

pub returns-clause-small : goal.returns-clause-small
returns-clause-small c = subst (CoordinatesBelow (2 ^ 31)) (sym c.short.ensures) (let s = ready_small (wide_value c.loop-z.common) c.loop-z.invariant.ready in s.coordinates)

pub short-requires : goal.short-requires
short-requires c = let s = ready_small (wide_value c.loop-z.common) c.loop-z.invariant.ready in within_up (2 ^ 31) (2 ^ 63) (wide_value c.loop-z.common) s.coordinates (omega arith)
