-- The power of 3 + 2 √2 that balances a weight.
use Rattle.std.specs.Prelude.{ℤ, ◌<◌, unsigned_abs}
use Rattle.state_model.specs.Coefficient.{Weight}
use Rattle.state_model.specs.Divisors.{IsBalanced, weight_product, unit_power}

-- no power nearer to 0 balances p
abbrev pub IsFirstPower : Weight → ℤ → Type 0
IsFirstPower p n = (k : ℤ) → unsigned_abs k < unsigned_abs n → ¬ IsBalanced (weight_product p (unit_power k))
