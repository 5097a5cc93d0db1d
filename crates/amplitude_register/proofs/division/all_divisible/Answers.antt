use Rattle.std.proofs.Common.{ℕ, ◌^◌, get_or, sym, subst, arith, below_more, refl}
use Rattle.state_model.specs.Coefficient.{Coefficient}
use Rattle.state_model.specs.Divisors.{Divides, delta}
use Rattle.omega_ring.specs.Views.{omega_value}
use Rattle.omega_ring.specs.Range.{CoordinatesBelow}
use Rattle.omega_ring.proofs.Entries.{zero_omega, at_map, divides_whole}
use Rattle.amplitude_register.proofs.division.all_divisible.Goals as goal

pub delta_divides-requires : goal.delta_divides-requires
delta_divides-requires c = subst (λ (t : Coefficient). CoordinatesBelow (2 ^ 61) t) (at_map c.args.list.now c.loop-z.z-index) (c.requires c.loop-z.z-index)

pub returns-then-not-delta_divides : goal.returns-then-not-delta_divides
returns-then-not-delta_divides c = (λ e. absurd (cc e), λ d. absurd (let t = c.delta_divides.ensures.1 (subst (λ (t : Coefficient). Divides delta t) (at_map c.args.list.now c.loop-z.z-index) (d c.loop-z.z-index)) in cc t))

pub loop-z-preserved : goal.loop-z-preserved
loop-z-preserved c = below_more (λ (k : ℕ). Divides delta (omega_value (get_or c.args.list.now k zero_omega))) c.loop-z.z-index c.loop-z.invariant (c.delta_divides.ensures.0 (search))

pub returns : goal.returns
returns c = (λ e. divides_whole c.args.list.now c.loop-z.z-index delta (omega arith) (λ i l. subst (λ (t : Coefficient). Divides delta t) (sym (at_map c.args.list.now i)) (c.loop-z.invariant i l)), λ d. refl)
