-- What a drill's history tells of its two connections, and the lines that are printed of it.
use Rattle.std.specs.Prelude.{ℕ, Bool, List, ◌++◌, codes, Option, Some, None}
use Rattle.std.specs.Bool.{beq}
use Rattle.std.specs.List.{filter_map, zip, count_by}
use Rattle.std.specs.Fmt.{decimal}
use Rattle.network_model.specs.declared.Entry.{Entry}
use Rattle.network_model.specs.declared.CoreReply.{CoreReply}
use Rattle.network_model.specs.declared.CoreReply.TheVariants.{Outcome}
use Rattle.network_model.specs.History.{own_entries}
use Rattle.session_model.specs.Heard.{line}
use Rattle.cqc_client.specs.declared.printed.Summary.{Summary}

-- the bit that a reply tells, if it is an outcome
unfoldable pub told : CoreReply → Option Bool
told (Outcome bit) = Some bit
told _ = None

-- the outcomes that the first connection of a seat measured, in order
abbrev pub outcomes : ℕ → List Entry → List Bool
outcomes seat history = filter_map (λ e. told e.reply) (own_entries seat 0 history)

-- the rounds in which the connections of seats 0 and 1 measured the same
abbrev pub equal : List Entry → ℕ
equal history = count_by (λ both. beq both.0 both.1) (zip (outcomes 0 history) (outcomes 1 history))

-- the rounds in which the connection of seat 0 measured 1
abbrev pub ones : List Entry → ℕ
ones history = count_by (λ bit. bit) (outcomes 0 history)

-- a word, and a number behind it
abbrev pub numbered : List ℕ → ℕ → List ℕ
numbered word n = word ++ codes " " ++ decimal n

-- what is printed of a drill: five lines
abbrev pub lines_of : Summary → List ℕ
lines_of s =
    line (numbered (codes "rounds") s.rounds)
    ++ line (numbered (codes "entries") s.entries)
    ++ line (numbered (codes "equal") s.tally.equal)
    ++ line (numbered (codes "ones") s.tally.ones)
    ++ line (numbered (numbered (codes "bytes") s.first_bytes) s.second_bytes)
