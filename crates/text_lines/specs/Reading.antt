-- Reading a text line by line, to its first refusal.
use Rattle.std.specs.Prelude.{◌≡◌, ℕ, ◌+◌, ◌==◌, Bool, true, List, [], ◌∷◌, Option, Some, None, Result, Ok, Err}
use Rattle.text_lines.specs.declared.fault.LineFault.{LineFault}
use Rattle.text_lines.specs.declared.fault.LineFault.TheVariants.{OutOfMemory, Refused}

-- ---- in a line
infixl 10 ◌>>=◌
-- reading goes on with what was found, or stops at a refusal
abbrev pub ◌>>=◌ : {A B Why : Type 0} → Result A Why → (A → Result B Why) → Result B Why
(Ok x) >>= f = f x
(Err why) >>= f = Err why

infixl 12 ◌or◌
-- what is there, or else a refusal
abbrev pub ◌or◌ : {A Why : Type 0} → Option A → Why → Result A Why
(Some x) or why = Ok x
None or why = Err why

-- a line that is empty, or begins with `#`
abbrev pub is_passed_over : List ℕ → Bool
is_passed_over [] = true
is_passed_over (c ∷ line) = c == 35

-- A line made this state of the one before, or was refused, unless memory ran out.
abbrev pub Takes : {State Why : Type 0} → Result (Unit {0}) (LineFault Why) → State → Result State Why → Type 0
Takes (Ok _) state meaning = meaning ≡ Ok state
Takes (Err (Refused why)) state meaning = meaning ≡ Err why
Takes (Err OutOfMemory) state meaning = Unit {0}

-- ---- line by line
-- reading goes on with the state that a line made, or stops at its refusal, told with the line's number
abbrev pub after_line : {State Why : Type 0} → ℕ → Result State Why → (State → Result State (ℕ × Why)) → Result State (ℕ × Why)
after_line number (Ok state) others = others state
after_line number (Err why) others = Err (number, why)

-- What some lines make of a state, one by one, or the first refusal with the number of its line: the first of them has this number.
abbrev pub read_lines : {State Why : Type 0} → (State → List ℕ → Result State Why) → ℕ → State → List (List ℕ) → Result State (ℕ × Why)
read_lines take_line number state [] = Ok state
read_lines take_line number state (line ∷ others) =
    after_line number (take_line state line) (λ next. read_lines take_line (number + 1) next others)
