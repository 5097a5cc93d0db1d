-- The lines of a text.
use Rattle.std.specs.Prelude.{ℕ, ◌==◌, Bool, if◌then◌else◌, List, [], ◌∷◌}
use Rattle.std.specs.List.{onto_first, before_first}

-- LF, which ends a line
abbrev pub is_line_feed : ℕ → Bool
is_line_feed c = c == 10

-- Each line ends with LF, and holds it; the last line may lack it.
abbrev pub lines : List ℕ → List (List ℕ)
lines [] = []
lines (c ∷ text) = if is_line_feed c then (c ∷ []) ∷ lines text else onto_first c (lines text)

-- a line without its LF
abbrev pub content : List ℕ → List ℕ
content line = before_first is_line_feed line
