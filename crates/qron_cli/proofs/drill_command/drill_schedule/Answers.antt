use Rattle.std.proofs.Common.{refl}
use Rattle.qron_cli.proofs.DrillLemmas.{can_play}
use Rattle.qron_cli.proofs.drill_command.drill_schedule.Goals as goal

pub returns-clause-can : goal.returns-clause-can
returns-clause-can c = can_play c.args.rounds _ _ _ c.in_ok-plans.ensures.items refl refl c.in_ok-first.ensures.order
