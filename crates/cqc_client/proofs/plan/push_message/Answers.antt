use Rattle.std.proofs.Common.{arith}
use Rattle.cqc_model.proofs.Messages.{list_short}
use Rattle.cqc_client.proofs.plan.push_message.Goals as goal

pub unreachable-requires : goal.unreachable-requires
unreachable-requires c = omega (arith, c.in_default.ensures.short, list_short c.args.list.now, c.requires)
