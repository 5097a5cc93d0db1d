use Rattle.std.proofs.Common.{◌^◌, refl, sym, subst, ◌∙◌}
use Rattle.state_model.specs.Coefficient.{Coefficient}
use Rattle.omega_ring.specs.Range.{CoordinatesBelow}
use Rattle.omega_ring.proofs.Entries.{at_map}
use Rattle.amplitude_register.proofs.Written.{mixed_high, mixed_low}
use Rattle.amplitude_register.proofs.passes.mixed.Goals as goal

pub minus-requires-clause-left : goal.minus-requires-clause-left
minus-requires-clause-left c = subst (λ (t : Coefficient). CoordinatesBelow (2 ^ 61) t) (at_map c.args.from.now c.with_low_bit.result) (c.requires.range c.with_low_bit.result)

pub minus-requires-clause-right : goal.minus-requires-clause-right
minus-requires-clause-right c = subst (λ (t : Coefficient). CoordinatesBelow (2 ^ 61) t) (at_map c.args.from.now c.args.row) (c.requires.range c.args.row)

pub plus-requires-clause-left : goal.plus-requires-clause-left
plus-requires-clause-left c = subst (λ (t : Coefficient). CoordinatesBelow (2 ^ 61) t) (at_map c.args.from.now c.args.row) (c.requires.range c.args.row)

pub plus-requires-clause-right : goal.plus-requires-clause-right
plus-requires-clause-right c = subst (λ (t : Coefficient). CoordinatesBelow (2 ^ 61) t) (at_map c.args.from.now c.with_high_bit.result) (c.requires.range c.with_high_bit.result)

pub returns-then-has_bit : goal.returns-then-has_bit
returns-then-has_bit c = mixed_high c.args.place c.args.from.now c.args.row c.with_low_bit.result c.minus.result _ _ (sym c.has_bit.ensures ∙ c.if-has_bit.true) c.with_low_bit.ensures.value refl refl c.minus.ensures

pub returns-else-has_bit : goal.returns-else-has_bit
returns-else-has_bit c = mixed_low c.args.place c.args.from.now c.args.row c.with_high_bit.result c.plus.result _ _ (sym c.has_bit.ensures ∙ c.if-has_bit.false) c.with_high_bit.ensures.value refl refl c.plus.ensures
