use Rattle.std.proofs.Common.{rules, ap, ◌∙◌}
use Rattle.cqc_model.specs.Wire.{header_bytes}
use Rattle.cqc_client.proofs.Replies.{spelled_again}
use Rattle.cqc_client.proofs.due.header_in.Goals as goal

pub returns-clause-bytes : goal.returns-clause-bytes
returns-clause-bytes c = ap header_bytes c.read_header.ensures ∙ spelled_again c.args.front.now (search rules) (search rules)
