-- The size of a product is the x of its balanced weight.
use Rattle.std.proofs.Common.{◌≡◌, ◌++◌, ℤ, pos, ◌+ℤ◌, neg_ℤ, ◌≤ℤ◌, nat_abs, sym, ap, subst, ◌∙◌, arith}
use mathlib.Core.Path.{fun_ext}
use Rattle.std.proofs.lemmas.Int.{ints}
use Rattle.state_model.specs.Coefficient.{Weight}
use Rattle.state_model.specs.Divisors.{IsBalanced, weight_product, unit_power}
use Rattle.state_model.specs.CoefficientList.{IsLeastSize, total_weight}
use Rattle.state_model.specs.StateVector.{Vector, IsSize}
use Rattle.state_model.specs.Amplitudes.{Amplitudes, HasRows}
use Rattle.state_model.proofs.RegisterLists.{reduced_nonzero}
use Rattle.state_model.proofs.RegisterSizes.{least_size}
use Rattle.amplitude_register.specs.States.{IsKept}
use Rattle.register_merge.specs.Merging.{AreApart, merged, products}
use Rattle.register_merge.proofs.ProductLists.{total_products, reduced_products}
use Rattle.register_merge.proofs.ProductVectors.{product_vector, product_has_rows}
use Rattle.register_merge.proofs.UnitMultiples.{balanced_least_size}

pub balanced_sign : (w : Weight) → IsBalanced w → pos 0 ≤ℤ w.x
balanced_sign w b = at w.x w.y b.high b.low
  where
    at : (x y : ℤ) → (y +ℤ y) ≤ℤ x → neg_ℤ (y +ℤ y) ≤ℤ x → pos 0 ≤ℤ x
    at x y h l = omega (arith, ints)

pos_abs : (x : ℤ) → pos 0 ≤ℤ x → x ≡ pos (nat_abs x)
pos_abs x h = omega (arith, ints)

pub merged_size : (a b : Amplitudes) (n : ℤ) (w : Weight) → HasRows a → HasRows b → AreApart a b → IsKept a → IsKept b
    → w ≡ weight_product (weight_product (total_weight a.list) (total_weight b.list)) (unit_power n) → IsBalanced w → IsSize (merged a b) (a.qubits ++ b.qubits) (nat_abs w.x)
merged_size a b n w in_a in_b apart kept_a kept_b e balanced =
    let reduced = reduced_products a.list b.list kept_a.normal.reduced kept_b.normal.reduced in
    subst (λ (v : Vector). IsSize v (a.qubits ++ b.qubits) (nat_abs w.x)) (fun_ext (product_vector a b in_a))
    (least_size record { qubits = a.qubits ++ b.qubits; list = products a.list b.list } (nat_abs w.x) (product_has_rows a b in_a in_b apart) (reduced_nonzero (products a.list b.list) reduced)
    (subst (IsLeastSize (products a.list b.list)) (pos_abs w.x (balanced_sign w balanced))
    (balanced_least_size (products a.list b.list) n w reduced (e ∙ ap (λ (t : Weight). weight_product t (unit_power n)) (sym (total_products a.list b.list))) balanced)))
