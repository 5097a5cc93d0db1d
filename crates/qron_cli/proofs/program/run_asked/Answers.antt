use Rattle.qron_cli.proofs.program.run_asked.Goals as goal

pub returns-in-Replay : goal.returns-in-Replay
returns-in-Replay g c = rw (c.in-Replay.is) c.run_replay.ensures

pub returns-in-Talk : goal.returns-in-Talk
returns-in-Talk g c = rw (c.in-Talk.is) c.run_talk.ensures
