use Rattle.std.proofs.Common.{sym, subst, ◌<◌, ℕ, false}
use Rattle.amplitude_register.proofs.RowPairs.{pair_inside, place_low}
use Rattle.amplitude_register.proofs.Written.{low_test}
use Rattle.amplitude_register.proofs.passes.with_low_bit.Goals as goal

pub returns-clause-value : goal.returns-clause-value
returns-clause-value c = low_test c.args.place c.args.row (place_low c.args.place c.args.rows c.requires.place)

pub returns-clause-inside : goal.returns-clause-inside
returns-clause-inside c = subst (λ (t : ℕ). t < c.args.rows) (sym (low_test c.args.place c.args.row (place_low c.args.place c.args.rows c.requires.place))) (pair_inside c.args.place c.args.rows c.args.row false c.requires.place c.requires.row)
