use Rattle.std.proofs.Common.{ℕ, ◌≡◌, ◌<◌, false, sym, ap, subst, ◌∙◌}
use Rattle.state_model.specs.Row.{is_set}
use Rattle.amplitude_register.proofs.MixedRows.{low_code, low_inside, inserted_set}
use Rattle.amplitude_register.proofs.mixing.low_row.Goals as goal

pub returns-clause-value : goal.returns-clause-value
returns-clause-value c = low_code c.args.place c.args.rows c.args.pair c.requires.place c.requires.pair

pub returns-clause-low : goal.returns-clause-low
returns-clause-low c = ap (is_set c.args.place) (low_code c.args.place c.args.rows c.args.pair c.requires.place c.requires.pair) ∙ inserted_set c.args.place false c.args.pair

pub returns-clause-inside : goal.returns-clause-inside
returns-clause-inside c = subst (λ (t : ℕ). t < c.args.rows) (sym (low_code c.args.place c.args.rows c.args.pair c.requires.place c.requires.pair)) (low_inside c.args.place c.args.rows c.args.pair c.requires.place c.requires.pair)
