-- The powers of 3 + 2 √2 are weights of units, so a reduced list whose weight one of them balances has the balanced x as its least size.
use Prim.Native.Nat.{zero, suc}
use Rattle.std.proofs.Common.{◌≡◌, ◌≢◌, ℕ, ℤ, pos, negsuc, List, refl, sym, ap, subst, ◌∙◌}
use Rattle.state_model.specs.Coefficient.{Coefficient, zero_coefficient, one_coefficient, ◌⊗◌, Weight, weight}
use Rattle.state_model.specs.Divisors.{Divides, IsBalanced, weight_product, unit_up, unit_down, unit_weight, unit_weight_down, unit_power}
use Rattle.state_model.specs.CoefficientList.{at, IsReduced, IsScaled, IsNormal, IsLeastSize, total_weight}
use Rattle.state_model.proofs.Domain.{zero_coefficient-⊗}
use Rattle.state_model.proofs.Euclid.{one-⊗}
use Rattle.state_model.proofs.Norms.{weight-⊗}
use Rattle.state_model.proofs.Ring.{⊗_comm, ⊗_assoc}
use Rattle.state_model.proofs.RegisterLists.{one_not_zero}
use Rattle.state_model.proofs.RegisterSizes.{normal_least}
use Rattle.register_merge.proofs.ProductLists.{multiples, length_multiples, at_multiples, total_multiples}

-- ---- powers of √2 + 1 and √2 - 1
abbrev up_power : ℕ → Coefficient
up_power zero = one_coefficient
up_power (suc k) = up_power k ⊗ unit_up

abbrev down_power : ℕ → Coefficient
down_power zero = one_coefficient
down_power (suc k) = down_power k ⊗ unit_down

weight_up : (k : ℕ) → weight (up_power k) ≡ unit_weight k
weight_up zero = refl
weight_up (suc k) = weight-⊗ (up_power k) unit_up ∙ ap (λ (t : Weight). weight_product t (weight unit_up)) (weight_up k)

weight_down : (k : ℕ) → weight (down_power k) ≡ unit_weight_down k
weight_down zero = refl
weight_down (suc k) = weight-⊗ (down_power k) unit_down ∙ ap (λ (t : Weight). weight_product t (weight unit_down)) (weight_down k)

middle : (a b c d : Coefficient) → (a ⊗ b) ⊗ (c ⊗ d) ≡ (a ⊗ c) ⊗ (b ⊗ d)
middle a b c d =
    ⊗_assoc a b (c ⊗ d) ∙ ap (λ (t : Coefficient). a ⊗ t) (sym (⊗_assoc b c d) ∙ ap (λ (t : Coefficient). t ⊗ d) (⊗_comm b c) ∙ ⊗_assoc c b d)
    ∙ sym (⊗_assoc a c (b ⊗ d))

powers_cancel : (k : ℕ) → up_power k ⊗ down_power k ≡ one_coefficient
powers_cancel zero = refl
powers_cancel (suc k) = middle (up_power k) unit_up (down_power k) unit_down ∙ ap (λ (t : Coefficient). t ⊗ (unit_up ⊗ unit_down)) (powers_cancel k) ∙ one-⊗ (unit_up ⊗ unit_down)

-- a unit of that weight, and its inverse
record IsUnitOf (n : ℤ) : Type 0 where
  factor : Coefficient
  inverse : Coefficient
  product : factor ⊗ inverse ≡ one_coefficient
  weight_is : weight factor ≡ unit_power n

unit_of : (n : ℤ) → IsUnitOf n
unit_of (pos k) = record { factor = up_power k; inverse = down_power k; product = powers_cancel k; weight_is = weight_up k }
unit_of (negsuc k) = record { factor = down_power (suc k); inverse = up_power (suc k); product = ⊗_comm (down_power (suc k)) (up_power (suc k)) ∙ powers_cancel (suc k); weight_is = weight_down (suc k) }

-- ---- multiples by a unit
undone : (f g z : Coefficient) → f ⊗ g ≡ one_coefficient → z ≡ g ⊗ (z ⊗ f)
undone f g z e = sym (⊗_comm g (z ⊗ f) ∙ ⊗_assoc z f g ∙ ap (λ (t : Coefficient). z ⊗ t) e ∙ ⊗_comm z one_coefficient ∙ one-⊗ z)

inverse_some : (f g : Coefficient) → f ⊗ g ≡ one_coefficient → g ≢ zero_coefficient
inverse_some f g e z = one_not_zero (sym e ∙ ap (λ (t : Coefficient). f ⊗ t) z ∙ ⊗_comm f zero_coefficient ∙ zero_coefficient-⊗ f)

divides_times : (u z g : Coefficient) → Divides u z → Divides u (g ⊗ z)
divides_times u z g d = (g ⊗ d.0, ap (λ (t : Coefficient). g ⊗ t) (d.1) ∙ sym (⊗_assoc g (d.0) u))

unit_multiple_least : (vs : List Coefficient) (n : ℤ) (w : Weight) → IsUnitOf n → IsReduced vs → w ≡ weight_product (total_weight vs) (unit_power n) → IsBalanced w → IsLeastSize vs w.x
unit_multiple_least vs n w unit reduced e balanced = normal_least vs new w.x (length_multiples vs unit.factor) scaled normal (ap (λ (t : Weight). t.x) total)
  where
    new : List Coefficient
    new = multiples vs unit.factor

    total : total_weight new ≡ w
    total = total_multiples vs unit.factor ∙ ap (weight_product (total_weight vs)) unit.weight_is ∙ sym e

    back : (i : ℕ) → at vs i ≡ unit.inverse ⊗ at new i
    back i = undone unit.factor unit.inverse (at vs i) unit.product ∙ ap (λ (t : Coefficient). unit.inverse ⊗ t) (sym (at_multiples vs unit.factor i))

    scaled : IsScaled new vs
    scaled = record { factor = unit.inverse; nonzero = inverse_some unit.factor unit.inverse unit.product; value = back }

    normal : IsNormal new
    normal = record {
      reduced = λ u d. reduced u (λ i. subst (Divides u) (sym (back i)) (divides_times u (at new i) unit.inverse (d i)));
      balanced = subst IsBalanced (sym total) balanced;
    }

pub balanced_least_size : (vs : List Coefficient) (n : ℤ) (w : Weight) → IsReduced vs → w ≡ weight_product (total_weight vs) (unit_power n) → IsBalanced w → IsLeastSize vs w.x
balanced_least_size vs n w reduced e balanced = unit_multiple_least vs n w (unit_of n) reduced e balanced
