use Rattle.std.proofs.Common.{rules}
use Rattle.script.specs.Views.{sending_of}
use Rattle.cqc_client.proofs.Sends.{few_commands, half}
use Rattle.cqc_client.proofs.talking.send_message.Goals as goal

pub write_message-requires-clause-few : goal.write_message-requires-clause-few
write_message-requires-clause-few g c = rw c.deref.ensures.value (few_commands (sending_of c.args.message.now) c.requires.sendable)

pub returns-in-Err-clause-sent : goal.returns-in-Err-clause-sent
returns-in-Err-clause-sent g c = let s = c.in-Err.ensures.sent in half _ _ _ _ s.0 (search rules) s.1
