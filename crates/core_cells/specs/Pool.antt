-- The pool: free qubit numbers, free slots, and the number of pairs made.
use Rattle.std.specs.Prelude.{ℕ, ◌≡◌, ◌==◌, nat_lt, not, ◌&&◌, ◌||◌, List}
use Rattle.state_model.specs.Row.{is_listed}

-- what contracts see of a pool
pub record Pool : Type 0 where
  pub numbers : List ℕ
  pub slots : List ℕ
  pub pairs : ℕ

-- a number that was free isn't any more
pub record IsNumberTaken (n : ℕ) (old new : Pool) : Type 0 where
  pub numbers : (q : ℕ) → is_listed new.numbers q ≡ (is_listed old.numbers q && not (q == n))
  pub slots : new.slots ≡ old.slots
  pub pairs : new.pairs ≡ old.pairs

-- a number is free
pub record IsNumberFreed (n : ℕ) (old new : Pool) : Type 0 where
  pub numbers : (q : ℕ) → is_listed new.numbers q ≡ (is_listed old.numbers q || (q == n))
  pub slots : new.slots ≡ old.slots
  pub pairs : new.pairs ≡ old.pairs

-- a slot that was free isn't any more
pub record IsSlotTaken (n : ℕ) (old new : Pool) : Type 0 where
  pub numbers : new.numbers ≡ old.numbers
  pub slots : (t : ℕ) → is_listed new.slots t ≡ (is_listed old.slots t && not (t == n))
  pub pairs : new.pairs ≡ old.pairs

-- a slot is free
pub record IsSlotFreed (n : ℕ) (old new : Pool) : Type 0 where
  pub numbers : new.numbers ≡ old.numbers
  pub slots : (t : ℕ) → is_listed new.slots t ≡ (is_listed old.slots t || (t == n))
  pub pairs : new.pairs ≡ old.pairs

-- the numbers and slots below a count are free, and no pair was made
pub record IsFullPool (count : ℕ) (p : Pool) : Type 0 where
  pub numbers : (q : ℕ) → is_listed p.numbers q ≡ nat_lt q count
  pub slots : (t : ℕ) → is_listed p.slots t ≡ nat_lt t count
  pub pairs : p.pairs ≡ 0
