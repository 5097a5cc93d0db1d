-- The code's answer on some words, without where they lie in memory.
use Rattle.std.specs.Prelude.{List, ℕ, Option, Some, None, codes}
use Rattle.text_lines.specs.Words.{◌>>=◌, number_between, address_of}
use Rattle.word_lines.specs.declared.asked.Asked.{Asked}
use Rattle.word_lines.specs.declared.asked.Asked.TheVariants as asked
use Rattle.word_lines.specs.declared.asked.Mode.{Mode}
use Rattle.word_lines.specs.declared.asked.Mode.TheVariants as mode
use Rattle.word_lines.specs.Lines.{Line, pipe, pipe_with, replay, serve, talk, drill}

-- what is asked for
abbrev pub asked_line : Asked → Line
asked_line asked.Pipe = pipe
asked_line (asked.PipeWith settings) = pipe_with settings.now
asked_line (asked.Replay settings schedule) = replay settings.now schedule.now
asked_line (asked.Serve settings) = serve settings.now
asked_line (asked.Talk place script) = talk place script.now
asked_line (asked.Drill rounds) = drill rounds

-- ---- by the words that a command finds
-- the settings, which may be absent
abbrev pub pipe_found : Option (List ℕ) → Line
pipe_found None = pipe
pipe_found (Some settings) = pipe_with settings

-- the settings and the schedule
abbrev pub replay_found : Option (List ℕ) → Option (List ℕ) → Option Line
replay_found settings schedule = do
  first ← settings
  second ← schedule
  Some (replay first second)

-- the settings
abbrev pub serve_found : Option (List ℕ) → Option Line
serve_found settings = do
  first ← settings
  Some (serve first)

-- the address, the port and the script
abbrev pub talk_found : Option (List ℕ) → Option (List ℕ) → Option (List ℕ) → Option Line
talk_found address port script = do
  first ← address
  a ← address_of first
  second ← port
  p ← number_between 1 65_535 second
  third ← script
  Some (talk (record { address = a; port = p }) third)

-- the rounds
abbrev pub drill_found : Option (List ℕ) → Option Line
drill_found rounds = do
  word ← rounds
  n ← number_between 1 100_000 word
  Some (drill n)

-- what is asked for, by the text under each id
abbrev pub line_found : Mode → (List ℕ → Option (List ℕ)) → Option Line
line_found mode.Pipe text = Some (pipe_found (text (codes "settings")))
line_found mode.Replay text = replay_found (text (codes "settings")) (text (codes "schedule"))
line_found mode.Serve text = serve_found (text (codes "settings"))
line_found mode.Talk text = talk_found (text (codes "address")) (text (codes "port")) (text (codes "script"))
line_found mode.Drill text = drill_found (text (codes "rounds"))
