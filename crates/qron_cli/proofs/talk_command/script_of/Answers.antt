use Rattle.std.specs.Prelude.{map}
use Rattle.script.specs.Views.{sending_of}
use Rattle.qron_cli.proofs.Talks.{script_said}
use Rattle.qron_cli.proofs.talk_command.script_of.Goals as goal

pub returns-in-Read-clause-gave : goal.returns-in-Read-clause-gave
returns-in-Read-clause-gave g c =
    script_said (g.H.House.facts c.args.house.now) c.args.name.now c.in_ok-text.text.items c.as_slice.result.now (map sending_of c.in-Read.script.items)
    c.as_slice.ensures.value c.in_ok-text.ensures.gave c.in-Read.ensures
