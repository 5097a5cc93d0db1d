use Rattle.std.proofs.Common.{ℕ, ◌<◌, true, sym, subst, ◌∙◌}
use Rattle.state_model.proofs.TwoGateLists.{source_at}
use Rattle.amplitude_register.proofs.RowPairs.{place_low}
use Rattle.amplitude_register.proofs.TwoGates.{source_inside}
use Rattle.amplitude_register.proofs.Written.{turn_test}
use Rattle.amplitude_register.proofs.two_passes.controlled_row.Goals as goal

pub returns-then-has_bit-clause-value : goal.returns-then-has_bit-clause-value
returns-then-has_bit-clause-value c = turn_test c.args.target c.args.row (place_low c.args.target c.args.rows c.requires.place) ∙ sym (source_at c.args.control c.args.target c.args.row true (sym c.has_bit.ensures ∙ c.if-has_bit.true))

pub returns-then-has_bit-clause-inside : goal.returns-then-has_bit-clause-inside
returns-then-has_bit-clause-inside c = subst (λ (t : ℕ). t < c.args.rows) (source_at c.args.control c.args.target c.args.row true (sym c.has_bit.ensures ∙ c.if-has_bit.true) ∙ sym (turn_test c.args.target c.args.row (place_low c.args.target c.args.rows c.requires.place))) (source_inside c.args.control c.args.target c.args.rows c.args.row c.requires.place c.requires.row)
