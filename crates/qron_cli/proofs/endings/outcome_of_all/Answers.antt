use Rattle.std.proofs.Common.{refl, sym, ◌∙◌, true, false}
use Rattle.qron_cli.proofs.LineLemmas.{outcome_by}
use Rattle.qron_cli.proofs.endings.outcome_of_all.Goals as goal

pub returns-then-any_faulty : goal.returns-then-any_faulty
returns-then-any_faulty g c =
    sym (outcome_by g.C.Ended.ending c.args.connections.now true _ (sym c.if-any_faulty.true ∙ c.any_faulty.ensures) refl)

pub returns-then-any_unfinished : goal.returns-then-any_unfinished
returns-then-any_unfinished g c =
    sym (outcome_by g.C.Ended.ending c.args.connections.now false true (sym c.if-any_faulty.false ∙ c.any_faulty.ensures) (sym c.if-any_unfinished.true ∙ c.any_unfinished.ensures))

pub returns-else-any_unfinished : goal.returns-else-any_unfinished
returns-else-any_unfinished g c =
    sym (outcome_by g.C.Ended.ending c.args.connections.now false false (sym c.if-any_faulty.false ∙ c.any_faulty.ensures) (sym c.if-any_unfinished.false ∙ c.any_unfinished.ensures))
