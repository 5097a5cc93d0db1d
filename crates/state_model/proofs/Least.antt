-- A reduced vector with a balanced weight has the least sum of squares of all whole vectors that are proportional to it.
use Rattle.std.proofs.Common.{◌≡◌, ◌≢◌, ℕ, suc, pos, ◌≤ℤ◌, refl, ap, ◌∙◌, arith, List, [], ◌∷◌, length}
use Rattle.state_model.specs.Coefficient.{Coefficient, zero_coefficient, ◌⊗◌, Weight, weight, no_weight, weight_sum}
use Rattle.state_model.specs.Divisors.{weight_product, IsBalanced}
use Rattle.state_model.specs.CoefficientList.{at, IsReduced, IsProportional, total_weight}
use Rattle.state_model.proofs.Domain.{zero_coefficient-⊗}
use Rattle.state_model.proofs.Polynomial.{number, plus}
use Rattle.state_model.proofs.Expressions.{Pair, pair, mul_pair, equal_pairs}
use Rattle.state_model.proofs.Norms.{weight-⊗, weight_below, weight_above, balanced_least}
use Rattle.state_model.proofs.Euclid.{whole_multiple}

abbrev add_pair : Pair → Pair → Pair
add_pair v w = record { x = plus v.x w.x; y = plus v.y w.y }

spread : (v w u : Weight) → weight_sum (weight_product u v) (weight_product w v) ≡ weight_product (weight_sum u w) v
spread v w u =
    let a = pair 0 in let b = pair 2 in let c = pair 4 in
    equal_pairs (v.x ∷ v.y ∷ w.x ∷ w.y ∷ u.x ∷ u.y ∷ []) (add_pair (mul_pair c a) (mul_pair b a)) (mul_pair (add_pair c b) a) refl refl

turn : (v w : Weight) → weight_product v w ≡ weight_product w v
turn v w = let a = pair 0 in let b = pair 2 in equal_pairs (v.x ∷ v.y ∷ w.x ∷ w.y ∷ []) (mul_pair a b) (mul_pair b a) refl refl

zero_weight : (v : Weight) → no_weight ≡ weight_product no_weight v
zero_weight v = let a = pair 0 in let o : Pair = record { x = number (pos 0); y = number (pos 0) } in equal_pairs (v.x ∷ v.y ∷ []) o (mul_pair o a) refl refl

-- the weight of a multiple
pub multiple_weight : (m : Coefficient) (vs us : List Coefficient) → length us ≡ length vs → ((j : ℕ) → at us j ≡ m ⊗ at vs j) → total_weight us ≡ weight_product (total_weight vs) (weight m)
multiple_weight m [] [] e h = zero_weight (weight m)
multiple_weight m [] (u ∷ us) e h = absurd (omega arith)
multiple_weight m (v ∷ vs) [] e h = absurd (omega arith)
multiple_weight m (v ∷ vs) (u ∷ us) e h =
    ap (λ (t : Weight). weight_sum t (total_weight us)) (ap weight (h 0) ∙ weight-⊗ m v ∙ turn (weight m) (weight v))
    ∙ ap (λ (t : Weight). weight_sum (weight_product (weight v) (weight m)) t) (multiple_weight m vs us (omega arith) (λ j. h (suc j)))
    ∙ spread (weight m) (total_weight vs) (weight v)

pub least : (vs us : List Coefficient) → IsReduced vs → IsBalanced (total_weight vs) → length us ≡ length vs → IsProportional vs us → (j : ℕ) → at us j ≢ zero_coefficient → (total_weight vs).x ≤ℤ (total_weight us).x
least vs us h b e p j n =
    let k : (m : Coefficient) × ((j : ℕ) → at us j ≡ m ⊗ at vs j) = whole_multiple vs us h e p in
    let m : Coefficient = k.0 in
    let o : m ≢ zero_coefficient = λ z. n (k.1 j ∙ ap (λ (t : Coefficient). t ⊗ at vs j) z ∙ zero_coefficient-⊗ (at vs j)) in
    let f : total_weight us ≡ weight_product (total_weight vs) (weight m) = multiple_weight m vs us e (k.1) in
    rw f (balanced_least (total_weight vs) (weight m) b.high b.low (weight_below m o) (weight_above m o))
