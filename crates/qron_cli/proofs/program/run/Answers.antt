use Rattle.std.proofs.Common.{ap, map, string_bytes}
use Rattle.word_lines.specs.Lines.{line_of}
use Rattle.cqc_server.specs.Watch.{LinkSeen}
use Rattle.cqc_server.specs.declared.post.Post.{Post}
use Rattle.node_table.specs.declared.settings.Settings.{Settings}
use Rattle.qron_cli.specs.Program.{Answered}
use Rattle.qron_cli.specs.Serve.{Report, Reports}
use Rattle.qron_cli.specs.Statuses.{status_of}
use Rattle.qron_cli.specs.Talk.{Handed}
use Rattle.qron_cli.proofs.Programs.{told_later, words_told, idle_told, ran_told}
use Rattle.qron_cli.proofs.program.run.Given as given
use Rattle.qron_cli.proofs.program.run.Goals as goal

abbrev seen : (g : given.Over) → g.row.H-Pipe.Denot → LinkSeen
seen g pipe = record { left = g.H.Pipe.Source.left pipe; held = g.H.Pipe.Sink.held pipe; read_faults = g.H.Pipe.Source.read_faults pipe; write_faults = g.H.Pipe.Sink.write_faults pipe }

abbrev seen_link : (g : given.Over) → g.row.H-Link.Denot → LinkSeen
seen_link g link = record { left = g.H.Link.Source.left link; held = g.H.Link.Sink.held link; read_faults = g.H.Link.Source.read_faults link; write_faults = g.H.Link.Sink.write_faults link }

abbrev reports : (g : given.Over) → goal.After-conclude g → Settings → Report → Type 0
reports g c = Reports (record {
  word = g.H.Dice.Dice.word;
  post = λ (p : Post g.row.H-Door.Denot g.row.H-Dice.Denot g.row.H-Patience.Denot). record { node = p.node; faults = g.H.Door.Door.faults p.door; closings = g.H.Door.Door.closings p.door; key = g.H.Dice.Dice.key p.dice; times = g.H.Patience.Patience.times p.patience; gave_up = g.H.Patience.Patience.gave_up p.patience };
  handed = λ p. g.H.Door.Door.handed p.door;
  was_led = λ a b. g.H.Door.Door.was_led a.door b.door;
  link = seen_link g;
  link_was_led = g.H.Link.Link.was_led;
}) (g.H.House.facts c.args.house.now).keys (g.H.House.posted c.args.house.now) (g.H.House.posted c.conclude.new.house)

abbrev handed : (g : given.Over) → goal.After-conclude g → LinkSeen → LinkSeen → Type 0
handed g c = Handed (seen_link g) g.H.Link.Link.was_led (g.H.House.handed c.args.house.now) (g.H.House.handed c.conclude.new.house)

-- what the words came to is what they came to once it is said what they complain of
told : (g : given.Over) (c : goal.After-conclude g) → Answered g.H.Dice.Dice.word (handed g c) (reports g c) (line_of (map string_bytes c.args.words.now))
    (g.H.House.facts c.args.house.now) (g.H.House.facts c.conclude.new.house) (seen g (g.H.House.pipe_of c.args.house.now)) (seen g (g.H.House.pipe_of c.conclude.new.house)) c.conclude.result
told g c =
    told_later g.H.Dice.Dice.word (handed g c) (reports g c) (line_of (map string_bytes c.args.words.now))
    (g.H.House.facts c.args.house.now) (g.H.House.facts c.run_words-outcome.new.house) (g.H.House.facts c.conclude.new.house)
    (seen g (g.H.House.pipe_of c.args.house.now)) (seen g (g.H.House.pipe_of c.run_words-outcome.new.house)) (seen g (g.H.House.pipe_of c.conclude.new.house))
    (status_of c.run_words-outcome.result) c.conclude.result (rw (c.conclude.ensures.handed, c.conclude.ensures.posted) c.run_words-outcome.ensures) c.conclude.ensures.facts (ap (seen g) c.conclude.ensures.pipe) c.conclude.ensures.status

pub returns-clause-words : goal.returns-clause-words
returns-clause-words g c =
    words_told g.H.Dice.Dice.word (handed g c) (reports g c) (line_of (map string_bytes c.args.words.now)) (g.H.House.facts c.args.house.now) (g.H.House.facts c.conclude.new.house)
    (seen g (g.H.House.pipe_of c.args.house.now)) (seen g (g.H.House.pipe_of c.conclude.new.house)) c.conclude.result (told g c)

pub returns-clause-idle : goal.returns-clause-idle
returns-clause-idle g c =
    idle_told g.H.Dice.Dice.word (handed g c) (reports g c) (line_of (map string_bytes c.args.words.now)) (g.H.House.facts c.args.house.now) (g.H.House.facts c.conclude.new.house)
    (seen g (g.H.House.pipe_of c.args.house.now)) (seen g (g.H.House.pipe_of c.conclude.new.house)) c.conclude.result (told g c)

pub returns-clause-ran : goal.returns-clause-ran
returns-clause-ran g c =
    ran_told g.H.Dice.Dice.word (handed g c) (reports g c) (line_of (map string_bytes c.args.words.now)) (g.H.House.facts c.args.house.now) (g.H.House.facts c.conclude.new.house)
    (seen g (g.H.House.pipe_of c.args.house.now)) (seen g (g.H.House.pipe_of c.conclude.new.house)) c.conclude.result (told g c)
