use Rattle.std.proofs.Common.{ℕ, ◌^◌, get_or, sym, subst, arith, below_more}
use Rattle.state_model.specs.Coefficient.{Coefficient}
use Rattle.state_model.specs.Divisors.{Divides}
use Rattle.omega_ring.specs.Views.{omega_value}
use Rattle.omega_ring.specs.Range.{CoordinatesBelow}
use Rattle.state_model.specs.Divisors.{both_deltas}
use Rattle.omega_ring.proofs.Entries.{zero_omega, at_map, divides_whole}
use Rattle.amplitude_register.proofs.division.all_divisible_by_both.Goals as goal

pub both_divide-requires : goal.both_divide-requires
both_divide-requires c = subst (λ (t : Coefficient). CoordinatesBelow (2 ^ 61) t) (at_map c.args.list.now c.loop-z.z-index) (c.requires c.loop-z.z-index)

pub loop-z-preserved : goal.loop-z-preserved
loop-z-preserved c = below_more (λ (k : ℕ). Divides both_deltas (omega_value (get_or c.args.list.now k zero_omega))) c.loop-z.z-index c.loop-z.invariant (c.both_divide.ensures.0 (search))

pub returns : goal.returns
returns c = λ e. divides_whole c.args.list.now c.loop-z.z-index both_deltas (omega arith) (λ i l. subst (λ (t : Coefficient). Divides both_deltas t) (sym (at_map c.args.list.now i)) (c.loop-z.invariant i l))
