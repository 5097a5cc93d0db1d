use Rattle.std.proofs.Common.{sym, ◌∙◌}
use Rattle.cqc_client.proofs.Heads.{decides}
use Rattle.cqc_client.proofs.due.begins_reply.Goals as goal

pub returns-in-Some : goal.returns-in-Some
returns-in-Some c = decides c.args.app c.args.head.now c.in-Some.size (sym c.size_of_kind.ensures ∙ c.in-Some.is) c.if-head-ne-VERSION.false c.if-head-app.false
