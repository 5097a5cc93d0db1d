use Rattle.std.proofs.Common.{sym, subst, ap, ◌∙◌, ◌^◌, ◌<ℤ◌, pos}
use Rattle.state_model.specs.Coefficient.{Coefficient, weight}
use Rattle.state_model.specs.Divisors.{norm}
use Rattle.state_model.specs.Quotients.{IsAssociate}
use Rattle.omega_ring.specs.Views.{omega_value, wide_value}
use Rattle.omega_ring.proofs.Entries.{entry_ready, greatest_entry, greatest_turned, wider}
use Rattle.omega_ring.proofs.euclid.next_common.Goals as goal

pub gcd-requires-clause-left : goal.gcd-requires-clause-left
gcd-requires-clause-left c = entry_ready (omega_value c.args.z) (wide_value c.balanced.result) c.requires.small c.balanced.ensures.balanced (c.balanced.ensures.norm ∙ ap norm c.wide.ensures)

pub balanced-requires : goal.balanced-requires
balanced-requires c = subst (λ (t : Coefficient). (weight t).x <ℤ pos (2 ^ 64)) (sym c.wide.ensures) (wider (omega_value c.args.z) c.requires.small)

pub returns-clause-greatest : goal.returns-clause-greatest
returns-clause-greatest c = greatest_entry (wide_value c.args.common) (wide_value c.balanced.result) (omega_value c.args.z) (wide_value c.gcd.result) (greatest_turned (wide_value c.balanced.result) (wide_value c.args.common) (wide_value c.gcd.result) c.gcd.ensures.greatest) (subst (IsAssociate (wide_value c.balanced.result)) c.wide.ensures c.balanced.ensures.associate)
