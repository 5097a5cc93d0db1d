-- Readings that went well: what each step found, and what each line keeps, the whole text keeps.
use Rattle.std.proofs.Common.{◌≡◌, ℕ, ◌+◌, List, [], ◌∷◌, Option, Some, None, Result, Ok, Err, Bool, true, false, cond, refl, subst}
use Rattle.text_lines.specs.Reading.{◌>>=◌, ◌or◌, after_line, read_lines}

-- a step found what it looked for
pub found : {A B Why : Type 0} (o : Option A) (why : Why) (f : A → Result B Why) (y : B) → ((o or why) >>= f) ≡ Ok y → (x : A) × (o ≡ Some x) × (f x ≡ Ok y)
found (Some x) why f y e = (x, refl, e)
found None why f y e = let none : Err why ≡ Ok y = e in absurd cc

-- a last test passed
pub passed : {A Why : Type 0} (b : Bool) (why : Why) (x y : A) → cond b (Ok x) (Err why) ≡ Ok y → (b ≡ true) × (x ≡ y)
passed true why x y e = (refl, cc)
passed false why x y e = let none : Err why ≡ Ok y = e in absurd cc

-- a line was taken, and so were the others
pub after_line-Ok : {State Why : Type 0} (number : ℕ) (r : Result State Why) (others : State → Result State (ℕ × Why)) (last : State) → after_line number r others ≡ Ok last → (next : State) × (r ≡ Ok next) × (others next ≡ Ok last)
after_line-Ok number (Ok next) others last e = (next, refl, e)
after_line-Ok number (Err why) others last e = let none : Err (number, why) ≡ Ok last = e in absurd cc

-- what each line keeps, the whole text keeps
pub read_lines-keeps : {State Why : Type 0} (P : State → Type 0) (take_line : State → List ℕ → Result State Why)
    → ((state next : State) (line : List ℕ) → take_line state line ≡ Ok next → P state → P next)
    → (number : ℕ) (state last : State) (lines : List (List ℕ)) → read_lines take_line number state lines ≡ Ok last → P state → P last
read_lines-keeps P take_line kept number state last [] e holds = let same : state ≡ last = cc in subst P same holds
read_lines-keeps P take_line kept number state last (line ∷ lines) e holds =
    let (next, taken, others) = after_line-Ok number (take_line state line) _ last e in
    read_lines-keeps P take_line kept (number + 1) next last lines others (kept state next line taken holds)
