-- The list of the products of two lists' entries: its rows, its weight, which is the product of their weights,
-- and that it is reduced where both are.
use Prim.Native.Nat.{zero, suc}
use Rattle.std.proofs.Common.{◌≡◌, ℕ, ◌+◌, ◌*◌, ◌<◌, ◌≤◌, pos, List, [], ◌∷◌, ◌++◌, length, map, refl, sym, ap, subst, ◌∙◌, arith, ⊎_elim}
use Rattle.std.proofs.lemmas.Bool.{cases_lt}
use Rattle.std.proofs.lemmas.List.{length-append, length-map, get_or_append_left, get_or-append-add}
use Rattle.state_model.specs.Coefficient.{Coefficient, zero_coefficient, ◌⊗◌, Weight, weight, no_weight, weight_sum}
use Rattle.state_model.specs.Divisors.{Divides, weight_product}
use Rattle.state_model.specs.CoefficientList.{at, IsReduced, total_weight}
use Rattle.state_model.proofs.Domain.{⊗-zero_coefficient, zero_coefficient-⊗}
use Rattle.state_model.proofs.Ring.{⊗_comm}
use Rattle.state_model.proofs.Polynomial.{number, plus}
use Rattle.state_model.proofs.Expressions.{Pair, pair, mul_pair, equal_pairs}
use Rattle.state_model.proofs.Euclid.{divides_zero}
use Rattle.state_model.proofs.Least.{multiple_weight}
use Rattle.state_model.proofs.Reduced.{product_reduced}
use Rattle.state_model.proofs.RegisterLists.{at_past}
use Rattle.state_model.proofs.RegisterSums.{weight_sum_assoc, weight_sum-none}
use Rattle.register_merge.specs.Merging.{products}

-- each entry times u
abbrev pub multiples : List Coefficient → Coefficient → List Coefficient
multiples vs u = map (λ v. v ⊗ u) vs

pub length_multiples : (vs : List Coefficient) (u : Coefficient) → length (multiples vs u) ≡ length vs
length_multiples vs u = length-map vs (λ v. v ⊗ u)

pub at_multiples : (vs : List Coefficient) (u : Coefficient) (i : ℕ) → at (multiples vs u) i ≡ at vs i ⊗ u
at_multiples [] u i = sym (zero_coefficient-⊗ u)
at_multiples (v ∷ vs) u zero = refl
at_multiples (v ∷ vs) u (suc i) = at_multiples vs u i

pub total_multiples : (vs : List Coefficient) (u : Coefficient) → total_weight (multiples vs u) ≡ weight_product (total_weight vs) (weight u)
total_multiples vs u = multiple_weight u vs (multiples vs u) (length_multiples vs u) (λ j. at_multiples vs u j ∙ ⊗_comm (at vs j) u)

-- ---- rows
pub length_products : (vs us : List Coefficient) → length (products vs us) ≡ length vs * length us
length_products vs [] = none (length vs)
  where
    none : (n : ℕ) → 0 ≡ n * 0
    none n = omega arith
length_products vs (u ∷ us) =
    length-append (multiples vs u) (products vs us) ∙ ap (λ n. n + length (products vs us)) (length_multiples vs u)
    ∙ ap (λ n. length vs + n) (length_products vs us) ∙ next (length vs) (length us)
  where
    next : (n m : ℕ) → n + n * m ≡ n * suc m
    next n m = omega arith

pub at_products : (vs us : List Coefficient) (i j : ℕ) → i < length vs → at (products vs us) (length vs * j + i) ≡ at vs i ⊗ at us j
at_products vs [] i j l = sym (⊗-zero_coefficient (at vs i))
at_products vs (u ∷ us) i zero l =
    ap (at (products vs (u ∷ us))) (first (length vs) i)
    ∙ get_or_append_left (multiples vs u) (products vs us) zero_coefficient i (subst (λ n. i < n) (sym (length_multiples vs u)) l)
    ∙ at_multiples vs u i
  where
    first : (n i : ℕ) → n * 0 + i ≡ i
    first n i = omega arith
at_products vs (u ∷ us) i (suc j) l =
    ap (at (products vs (u ∷ us))) (later (length vs) i j ∙ ap (λ n. n + (length vs * j + i)) (sym (length_multiples vs u)))
    ∙ get_or-append-add (multiples vs u) (products vs us) (length vs * j + i) zero_coefficient
    ∙ at_products vs us i j l
  where
    later : (n i j : ℕ) → n * suc j + i ≡ n + (n * j + i)
    later n i j = omega arith

-- ---- weights
total_append : (xs ys : List Coefficient) → total_weight (xs ++ ys) ≡ weight_sum (total_weight xs) (total_weight ys)
total_append [] ys = sym (weight_sum-none (total_weight ys))
total_append (x ∷ xs) ys = ap (weight_sum (weight x)) (total_append xs ys) ∙ weight_sum_assoc (weight x) (total_weight xs) (total_weight ys)

abbrev add_pair : Pair → Pair → Pair
add_pair v w = record { x = plus v.x w.x; y = plus v.y w.y }

spread : (p v w : Weight) → weight_sum (weight_product p v) (weight_product p w) ≡ weight_product p (weight_sum v w)
spread p v w =
    let a = pair 0 in let b = pair 2 in let c = pair 4 in
    equal_pairs (p.x ∷ p.y ∷ v.x ∷ v.y ∷ w.x ∷ w.y ∷ []) (add_pair (mul_pair a b) (mul_pair a c)) (mul_pair a (add_pair b c)) refl refl

product-none : (p : Weight) → no_weight ≡ weight_product p no_weight
product-none p = let a = pair 0 in let o : Pair = record { x = number (pos 0); y = number (pos 0) } in equal_pairs (p.x ∷ p.y ∷ []) o (mul_pair a o) refl refl

pub total_products : (vs us : List Coefficient) → total_weight (products vs us) ≡ weight_product (total_weight vs) (total_weight us)
total_products vs [] = product-none (total_weight vs)
total_products vs (u ∷ us) =
    total_append (multiples vs u) (products vs us) ∙ ap (λ (t : Weight). weight_sum t (total_weight (products vs us))) (total_multiples vs u)
    ∙ ap (weight_sum (weight_product (total_weight vs) (weight u))) (total_products vs us)
    ∙ spread (total_weight vs) (weight u) (total_weight us)

-- ---- divisors
pub reduced_products : (vs us : List Coefficient) → IsReduced vs → IsReduced us → IsReduced (products vs us)
reduced_products vs us h k u d = product_reduced vs us h k u (λ i j. ⊎_elim
    (λ (l : i < length vs). subst (Divides u) (at_products vs us i j l) (d (length vs * j + i)))
    (λ (l : length vs ≤ i). subst (Divides u) (sym (ap (λ (t : Coefficient). t ⊗ at us j) (at_past vs i l) ∙ zero_coefficient-⊗ (at us j))) (divides_zero u))
    (cases_lt i (length vs)))
