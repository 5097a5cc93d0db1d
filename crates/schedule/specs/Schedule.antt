-- The grammar of a schedule, line by line, with the first refusal.
use Rattle.std.specs.Prelude.{ℕ, ◌+◌, nat_lt, nat_le, if◌then◌else◌, List, [], ◌∷◌, length, codes, Option, Some, None, option_and_then, Result, Ok, Err}
use Rattle.std.specs.Str.{bytes_eq}
use Rattle.text_lines.specs.Lines.{lines, content}
use Rattle.text_lines.specs.Words.{words, number_up_to, number_between, hex_bytes}
use Rattle.text_lines.specs.Reading.{◌>>=◌, ◌or◌, read_lines, is_passed_over}
use Rattle.schedule.specs.declared.plans.Why.{Why}
use Rattle.schedule.specs.declared.plans.Why.TheVariants.{Word, Number, Count, Hex, Many}
use Rattle.schedule.specs.Plans.{Plans, no_plans, with_plan, with_turns}

-- ---- operands
-- the number of a node or a connection: below `end`, of which neither has more than 255
abbrev pub below : ℕ → List ℕ → Option ℕ
below end word = option_and_then (λ n. if nat_lt n end then Some n else None) (number_up_to 255 word)

-- the most turns of a schedule
abbrev pub most_turns : ℕ
most_turns = 1_048_576

-- how many turns a line gives
abbrev pub turns_in : List ℕ → Option ℕ
turns_in word = number_between 1 most_turns word

-- an input: `-` for no byte, or hexadecimal digits, two a byte
abbrev pub input_of : List ℕ → Option (List ℕ)
input_of word = if bytes_eq word (codes "-") then Some [] else hex_bytes word

-- ---- lines
-- the most connections of a schedule
abbrev pub most_connections : ℕ
most_connections = 64

-- the most bytes that a sink has room for
abbrev pub most_room : ℕ
most_room = 1_048_576

-- c <node> <room> <input>
unfoldable pub connection_line : ℕ → Plans → List (List ℕ) → Result Plans Why
connection_line nodes so_far (node ∷ room ∷ input ∷ []) = do
  n ← below nodes node or Number
  r ← number_up_to most_room room or Number
  bytes ← input_of input or Hex
  if nat_lt (length so_far.plans) most_connections then Ok (with_plan so_far (record { node = n; room = r; bytes = bytes })) else Err Many
connection_line nodes so_far _ = Err Count

-- s <connection> <count>
unfoldable pub turns_line : Plans → List (List ℕ) → Result Plans Why
turns_line so_far (connection ∷ count ∷ []) = do
  k ← below (length so_far.plans) connection or Number
  n ← turns_in count or Number
  if nat_le (length so_far.order + n) most_turns then Ok (with_turns so_far k n) else Err Many
turns_line so_far _ = Err Count

-- the words of a line, of which the first says what it adds
abbrev pub line_of : ℕ → Plans → List (List ℕ) → Result Plans Why
line_of nodes so_far [] = Err Word
line_of nodes so_far (word ∷ operands) =
    if bytes_eq word (codes "c") then connection_line nodes so_far operands
    else (if bytes_eq word (codes "s") then turns_line so_far operands else Err Word)

-- what a line makes of the schedule so far: one that is passed over leaves it
abbrev pub take_line : ℕ → Plans → List ℕ → Result Plans Why
take_line nodes so_far line =
    if is_passed_over (content line) then Ok so_far else line_of nodes so_far (words (content line))

-- the schedule that a text is, or its first refusal, with the number of its line from 1 on
abbrev pub schedule_of : ℕ → List ℕ → Result Plans (ℕ × Why)
schedule_of nodes text = read_lines (take_line nodes) 1 no_plans (lines text)
