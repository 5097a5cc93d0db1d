-- The lines of words that the program takes, and what they ask for.
use Rattle.std.specs.Prelude.{ℕ, ◌==◌, Bool, if◌then◌else◌, codes, List, [], ◌∷◌, slice_index, Option, Some, None, option_map}
use Rattle.std.specs.List.{list_any}
use Rattle.std.specs.Str.{bytes_eq}
use Rattle.network_model.specs.declared.Place.{Place}
use Rattle.word_lines.specs.declared.asked.Mode.{Mode}
use Rattle.word_lines.specs.declared.asked.Mode.TheVariants as mode
use Rattle.text_lines.specs.Words.{◌>>=◌, number_between, address_of}

-- What is asked for: a connection over the pipe, without or with the name of a file of settings; a schedule, by the names of the files of
-- settings and of its own; the nodes of a network, by the name of the file of settings; a client at a place, by the name of its script; or
-- the generated input of so many rounds.
pub data Line : Type 0 where
  pipe : Line
  pipe_with : List ℕ → Line
  replay : List ℕ → List ℕ → Line
  serve : List ℕ → Line
  talk : Place → List ℕ → Line
  drill : ℕ → Line

-- the word begins with `-`
abbrev pub is_dashed : List ℕ → Bool
is_dashed word = slice_index word 0 == 45

-- the words behind `pipe`: none, or a file of settings
abbrev pub pipe_line : List (List ℕ) → Option Line
pipe_line [] = Some pipe
pipe_line (settings ∷ []) = Some (pipe_with settings)
pipe_line _ = None

-- the words behind `replay`: a file of settings, and a schedule
abbrev pub replay_line : List (List ℕ) → Option Line
replay_line (settings ∷ schedule ∷ []) = Some (replay settings schedule)
replay_line _ = None

-- the words behind `serve`: a file of settings
abbrev pub serve_line : List (List ℕ) → Option Line
serve_line (settings ∷ []) = Some (serve settings)
serve_line _ = None

-- the words behind `talk`: an address, a port and a script
abbrev pub talk_line : List (List ℕ) → Option Line
talk_line (address ∷ port ∷ script ∷ []) = do
  a ← address_of address
  p ← number_between 1 65_535 port
  Some (talk (record { address = a; port = p }) script)
talk_line _ = None

-- the words behind `drill`: how many rounds
abbrev pub drill_line : List (List ℕ) → Option Line
drill_line (rounds ∷ []) = option_map drill (number_between 1 100_000 rounds)
drill_line _ = None

-- the words behind the first of a line
abbrev pub line_for : Mode → List (List ℕ) → Option Line
line_for mode.Pipe words = pipe_line words
line_for mode.Replay words = replay_line words
line_for mode.Serve words = serve_line words
line_for mode.Talk words = talk_line words
line_for mode.Drill words = drill_line words

-- the words behind any first
abbrev pub line_behind : List ℕ → List (List ℕ) → Option Line
line_behind first later =
    if bytes_eq first (codes "pipe") then pipe_line later
    else (if bytes_eq first (codes "replay") then replay_line later
    else (if bytes_eq first (codes "serve") then serve_line later
    else (if bytes_eq first (codes "talk") then talk_line later
    else (if bytes_eq first (codes "drill") then drill_line later
    else None))))

-- What some words ask for, if they are one of the lines: none is with a later word that begins with `-`.
abbrev pub line_of : List (List ℕ) → Option Line
line_of [] = None
line_of (first ∷ later) = if list_any is_dashed later then None else line_behind first later
