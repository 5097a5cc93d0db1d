-- Marks of numbers, and the numbers that are marked.
use Rattle.std.specs.Prelude.{ℕ, ◌≡◌, ◌+◌, ◌<◌, ◌==◌, Bool, true, false, not, ◌&&◌, ◌||◌, List, [], ◌∷◌}
use Rattle.state_model.specs.Row.{is_listed}

-- the places of the marks that are set, counted from n
unfoldable pub positions_from : ℕ → List Bool → List ℕ
positions_from n [] = []
positions_from n (true ∷ marks) = n ∷ positions_from (n + 1) marks
positions_from n (false ∷ marks) = positions_from (n + 1) marks

-- the places of the marks that are set
unfoldable pub positions : List Bool → List ℕ
positions marks = positions_from 0 marks

-- n is listed, and no lesser number is
pub record IsLeastListed (ns : List ℕ) (n : ℕ) : Type 0 where
  pub listed : is_listed ns n ≡ true
  pub least : (m : ℕ) → m < n → is_listed ns m ≡ false

-- the second list has the numbers of the first without n
abbrev pub IsWithout : ℕ → List ℕ → List ℕ → Type 0
IsWithout n old new = (q : ℕ) → is_listed new q ≡ (is_listed old q && not (q == n))

-- the second list has the numbers of the first and n
abbrev pub IsWith : ℕ → List ℕ → List ℕ → Type 0
IsWith n old new = (q : ℕ) → is_listed new q ≡ (is_listed old q || (q == n))
