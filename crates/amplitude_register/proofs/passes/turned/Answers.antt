use Rattle.std.proofs.Common.{◌^◌, refl, sym, subst, ◌∙◌}
use Rattle.state_model.specs.Coefficient.{Coefficient}
use Rattle.omega_ring.specs.Range.{CoordinatesBelow}
use Rattle.omega_ring.specs.Views.{omega_value}
use Rattle.omega_ring.proofs.Entries.{at_map}
use Rattle.amplitude_register.proofs.RowPairs.{wider}
use Rattle.amplitude_register.proofs.Written.{turned_set, turned_clear}
use Rattle.amplitude_register.proofs.passes.turned.Goals as goal

pub times_root-requires-clause-range : goal.times_root-requires-clause-range
times_root-requires-clause-range c = wider (omega_value _) (subst (λ (t : Coefficient). CoordinatesBelow (2 ^ 61) t) (at_map c.args.from.now c.args.row) (c.requires.range c.args.row))

pub returns-then-has_bit : goal.returns-then-has_bit
returns-then-has_bit c = turned_set c.args.eighths c.args.place c.args.from.now c.args.row c.times_root.result _ (sym c.has_bit.ensures ∙ c.if-has_bit.true) refl c.times_root.ensures

pub returns-else-has_bit : goal.returns-else-has_bit
returns-else-has_bit c = turned_clear c.args.eighths c.args.place c.args.from.now c.args.row _ (sym c.has_bit.ensures ∙ c.if-has_bit.false) refl
