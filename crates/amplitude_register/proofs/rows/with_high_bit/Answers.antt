use Rattle.std.proofs.Common.{sym, subst, ◌<◌, ℕ, true}
use Rattle.amplitude_register.proofs.RowPairs.{high_test, pair_inside, place_low}
use Rattle.amplitude_register.proofs.rows.with_high_bit.Goals as goal

pub returns-clause-value : goal.returns-clause-value
returns-clause-value c = high_test c.args.place c.args.row (place_low c.args.place c.args.rows c.requires.place)

pub returns-clause-inside : goal.returns-clause-inside
returns-clause-inside c = subst (λ (t : ℕ). t < c.args.rows) (sym (high_test c.args.place c.args.row (place_low c.args.place c.args.rows c.requires.place))) (pair_inside c.args.place c.args.rows c.args.row true c.requires.place c.requires.row)
