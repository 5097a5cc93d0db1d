use Rattle.std.proofs.Common.{◌^◌, refl, sym, subst, ◌∙◌}
use Rattle.state_model.specs.Coefficient.{Coefficient}
use Rattle.omega_ring.specs.Range.{CoordinatesBelow}
use Rattle.omega_ring.specs.Views.{omega_value}
use Rattle.amplitude_register.proofs.RowPairs.{wider}
use Rattle.omega_ring.proofs.Entries.{at_map}
use Rattle.amplitude_register.proofs.TwoGates.{phased_set, phased_clear}
use Rattle.amplitude_register.proofs.two_passes.phased.Goals as goal

pub negated-requires : goal.negated-requires
negated-requires c = wider (omega_value _) (subst (λ (t : Coefficient). CoordinatesBelow (2 ^ 61) t) (at_map c.args.from.now c.args.row) (c.requires.range c.args.row))

pub returns-then-has_both : goal.returns-then-has_both
returns-then-has_both c = phased_set c.args.one c.args.two c.args.from.now c.args.row c.negated.result _ (sym c.has_both.ensures ∙ c.if-has_both.true) refl c.negated.ensures

pub returns-else-has_both : goal.returns-else-has_both
returns-else-has_both c = phased_clear c.args.one c.args.two c.args.from.now c.args.row _ (sym c.has_both.ensures ∙ c.if-has_both.false) refl
