-- Gates on lists row by row: weights, common divisors, and one gate after another.
use Prim.Native.Nat.{zero, suc}
use Rattle.std.proofs.Common.{◌≡◌, ◌≢◌, ℕ, ◌<◌, ◌^◌, Bool, true, false, ℤ, pos, neg_ℤ, List, [], ◌∷◌, length, refl, sym, ap, subst, ◌∙◌, arith}
use borrow.Author.Differences.{ints}
use Rattle.state_model.specs.Coefficient.{Coefficient, zero_coefficient, one_coefficient, ◌⊕◌, ◌⊖◌, ◌⊗◌, times_root, root, Weight, weight, weight_sum, scaled}
use Rattle.state_model.specs.Divisors.{Divides, weight_product}
use Rattle.state_model.specs.CoefficientList.{at, DividesAll, IsReduced, IsNonzero, HasDeltaDivisors, total_weight}
use Rattle.state_model.specs.Row.{is_set, with_bit}
use Rattle.state_model.specs.Gate.{Matrix, matrix, entry, gate}
use Rattle.state_model.specs.Undo.{product, adjoint, times_one, scale_of}
use Rattle.state_model.specs.declared.Gate.{Gate}
use Rattle.state_model.specs.declared.Gate.TheVariants.{I, X, Y, Z, T, H, K, RotX, RotY, RotZ}
use Rattle.state_model.specs.Amplitudes.{IsGateList}
use Rattle.state_model.proofs.Ring.{same_coordinates, ⊕_comm, ⊗_comm}
use Rattle.state_model.proofs.Domain.{zero_coefficient-⊗, ⊗-zero_coefficient}
use Rattle.state_model.proofs.Expressions.{Quad, Pair, quad, pair, mul_quad, mul_pair, add_quad, sub_quad, equal_quads, equal_pairs, weight_quad, coordinates}
use Rattle.state_model.proofs.Polynomial.{var, number, plus, times, minus}
use Rattle.state_model.proofs.Norms.{weight-⊗}
use Rattle.state_model.proofs.Euclid.{one-⊗, divides_both, divides_trans}
use Rattle.state_model.proofs.Division.{whole_coefficient}
use Rattle.state_model.proofs.Reduced.{divides_scaled, divisor_of_four}
use Rattle.state_model.proofs.RegisterLists.{some_entry, one_not_zero}
use Rattle.state_model.proofs.RegisterSums.{weight_sum_comm, weight_to, weight_to-pairs, weight_to-total}
use Rattle.state_model.proofs.RowLaws.{is_set-with_bit_same}
use Rattle.state_model.proofs.Gates.{with_bit_again}
use Rattle.state_model.proofs.UndoLaws.{adjoints_undo_gates, gate-product}

-- ---- one gate after another
-- a gate on a list is a gate on the list as a vector of rows
list_is_gate : (m : Matrix) (j : ℕ) (xs ys : List Coefficient) → IsGateList m j xs ys → (r : ℕ) → at ys r ≡ gate m j (at xs) r
unfolding gate
list_is_gate m j xs ys h r = h r

gate_is_list : (m : Matrix) (j : ℕ) (xs ys : List Coefficient) → ((r : ℕ) → at ys r ≡ gate m j (at xs) r) → IsGateList m j xs ys
unfolding gate
gate_is_list m j xs ys h r = h r

gate_along : (m : Matrix) (j : ℕ) (v u : ℕ → Coefficient) → ((r : ℕ) → v r ≡ u r) → (r : ℕ) → gate m j v r ≡ gate m j u r
unfolding gate
gate_along m j v u e r = ap (λ t. entry m (is_set j r) t (v (with_bit j true r))) (e (with_bit j false r)) ∙ ap (λ t. entry m (is_set j r) (u (with_bit j false r)) t) (e (with_bit j true r))

-- one gate after another is the gate of the product
pub gate_lists : (m n : Matrix) (j : ℕ) (xs ys zs : List Coefficient) → IsGateList n j xs ys → IsGateList m j ys zs → IsGateList (product m n) j xs zs
gate_lists m n j xs ys zs h k = gate_is_list (product m n) j xs zs (λ r. list_is_gate m j ys zs k r ∙ gate_along m j (at ys) (gate n j (at xs)) (list_is_gate n j xs ys h) r ∙ gate-product m n j (at xs) r)

-- ---- weights
-- where a matrix makes of each pair of coefficients a pair of s times the weight, a list has s times the weight
pub gate_total : (m : Matrix) (s j n : ℕ) (xs ys : List Coefficient) → j < n → length xs ≡ 2 ^ n → length ys ≡ 2 ^ n
    → ((y z : Coefficient) → weight_sum (weight (entry m false y z)) (weight (entry m true y z)) ≡ scaled s (weight_sum (weight y) (weight z)))
    → IsGateList m j xs ys → total_weight ys ≡ scaled s (total_weight xs)
gate_total m s j n xs ys l e f pair h =
    sym (weight_to-total ys) ∙ ap (weight_to (λ i. weight (at ys i))) f
    ∙ weight_to-pairs n j l s (λ i. weight (at xs i)) (λ i. weight (at ys i)) (λ i. ap (λ z. weight_sum (weight z) (weight (at ys (with_bit j true i)))) (row i false) ∙ ap (λ z. weight_sum (weight (entry m false (at xs (with_bit j false i)) (at xs (with_bit j true i)))) (weight z)) (row i true) ∙ pair (at xs (with_bit j false i)) (at xs (with_bit j true i)))
    ∙ ap (scaled s) (ap (weight_to (λ i. weight (at xs i))) (sym e) ∙ weight_to-total xs)
  where
    row : (i : ℕ) (b : Bool) → at ys (with_bit j b i) ≡ entry m b (at xs (with_bit j false i)) (at xs (with_bit j true i))
    row i b =
        h (with_bit j b i) ∙ ap (λ t. entry m t (at xs (with_bit j false (with_bit j b i))) (at xs (with_bit j true (with_bit j b i)))) (is_set-with_bit_same j b i)
        ∙ ap (λ r. entry m b (at xs r) (at xs (with_bit j true (with_bit j b i)))) (with_bit_again j false b i) ∙ ap (λ r. entry m b (at xs (with_bit j false i)) (at xs r)) (with_bit_again j true b i)

-- ---- what the entries of three gates are
abbrev closed : ℤ → ℤ → ℤ → ℤ → Quad
closed a b c d = record { a = number a; b = number b; c = number c; d = number d }

abbrev row_quad : Quad → Quad → Quad
row_quad m n = add_quad (mul_quad m (quad 0)) (mul_quad n (quad 4))

abbrev one_quad : Quad
one_quad = closed (pos 1) (pos 0) (pos 0) (pos 0)

pub sum_entry : (y z : Coefficient) → y ⊕ z ≡ entry (matrix H) false y z
unfolding entry matrix
sum_entry y z = equal_quads (coordinates y (coordinates z [])) (add_quad (quad 0) (quad 4)) (row_quad one_quad one_quad) refl refl refl refl

sum_absent : (y : Coefficient) → y ⊕ zero_coefficient ≡ y
sum_absent y = same_coordinates _ _ (omega (arith, ints)) (omega (arith, ints)) (omega (arith, ints)) (omega (arith, ints))

absent_sum : (y : Coefficient) → zero_coefficient ⊕ y ≡ y
absent_sum y = ⊕_comm zero_coefficient y ∙ sum_absent y

pub first_row : (y z : Coefficient) → one_coefficient ⊗ y ⊕ zero_coefficient ⊗ z ≡ y
first_row y z = ap (λ t. t ⊕ zero_coefficient ⊗ z) (one-⊗ y) ∙ ap (λ t. y ⊕ t) (zero_coefficient-⊗ z) ∙ sum_absent y

pub second_row : (k y z : Coefficient) → zero_coefficient ⊗ y ⊕ k ⊗ z ≡ k ⊗ z
second_row k y z = ap (λ t. t ⊕ k ⊗ z) (zero_coefficient-⊗ y) ∙ absent_sum (k ⊗ z)

pub exchanged_low : (y z : Coefficient) → z ≡ entry (matrix X) false y z
unfolding entry matrix
exchanged_low y z = sym (second_row one_coefficient y z ∙ one-⊗ z)

pub exchanged_high : (y z : Coefficient) → y ≡ entry (matrix X) true y z
unfolding entry matrix
exchanged_high y z = sym (first_row y z)

pub turned_low : (k : ℕ) (y z : Coefficient) → y ≡ entry (matrix (RotZ k)) false y z
unfolding entry matrix
turned_low k y z = sym (first_row y z)

pub turned_high : (k : ℕ) (y z : Coefficient) → z ⊗ root k ≡ entry (matrix (RotZ k)) true y z
unfolding entry matrix
turned_high k y z = ⊗_comm z (root k) ∙ sym (second_row (root k) y z)

-- ---- weights of three gates
abbrev sum_pair : Pair → Pair → Pair
sum_pair v w = record { x = plus v.x w.x; y = plus v.y w.y }

pub difference_entry : (y z : Coefficient) → y ⊖ z ≡ entry (matrix H) true y z
unfolding entry matrix
difference_entry y z = equal_quads (coordinates y (coordinates z [])) (sub_quad (quad 0) (quad 4)) (row_quad one_quad (closed (neg_ℤ (pos 1)) (pos 0) (pos 0) (pos 0))) refl refl refl refl

-- the sum and the difference have twice the weight
pub mixed_weight : (y z : Coefficient) → weight_sum (weight (entry (matrix H) false y z)) (weight (entry (matrix H) true y z)) ≡ scaled 2 (weight_sum (weight y) (weight z))
mixed_weight y z =
    ap (λ t. weight_sum (weight t) (weight (entry (matrix H) true y z))) (sym (sum_entry y z)) ∙ ap (λ t. weight_sum (weight (y ⊕ z)) (weight t)) (sym (difference_entry y z))
    ∙ equal_pairs (coordinates y (coordinates z [])) (sum_pair (weight_quad (add_quad (quad 0) (quad 4))) (weight_quad (sub_quad (quad 0) (quad 4))))
    record { x = times (number (pos 2)) (plus (weight_quad (quad 0)).x (weight_quad (quad 4)).x); y = times (number (pos 2)) (plus (weight_quad (quad 0)).y (weight_quad (quad 4)).y) } refl refl

pub once : (w : Weight) → w ≡ scaled 1 w
once w = equal_pairs (w.x ∷ w.y ∷ []) (pair 0) record { x = times (number (pos 1)) (var 0); y = times (number (pos 1)) (var 1) } refl refl

pub exchanged_weight : (y z : Coefficient) → weight_sum (weight (entry (matrix X) false y z)) (weight (entry (matrix X) true y z)) ≡ scaled 1 (weight_sum (weight y) (weight z))
exchanged_weight y z =
    ap (λ t. weight_sum (weight t) (weight (entry (matrix X) true y z))) (sym (exchanged_low y z)) ∙ ap (λ t. weight_sum (weight z) (weight t)) (sym (exchanged_high y z))
    ∙ weight_sum_comm (weight z) (weight y) ∙ once (weight_sum (weight y) (weight z))

root_weight : (k : ℕ) → weight (root k) ≡ record { x = pos 1; y = pos 0 }
unfolding root
root_weight zero = refl
root_weight (suc k) = turned_weight_is (root k) ∙ root_weight k
  where
    turned_weight_is : (z : Coefficient) → weight (times_root z) ≡ weight z
    turned_weight_is z = equal_pairs (coordinates z []) (weight_quad record { a = minus (var 3); b = var 0; c = var 1; d = var 2 }) (weight_quad (quad 0)) refl refl

turned_alone : (k : ℕ) (z : Coefficient) → weight (z ⊗ root k) ≡ weight z
turned_alone k z = weight-⊗ z (root k) ∙ ap (weight_product (weight z)) (root_weight k) ∙ equal_pairs ((weight z).x ∷ (weight z).y ∷ []) (mul_pair (pair 0) record { x = number (pos 1); y = number (pos 0) }) (pair 0) refl refl

pub turned_weight : (k : ℕ) (y z : Coefficient) → weight_sum (weight (entry (matrix (RotZ k)) false y z)) (weight (entry (matrix (RotZ k)) true y z)) ≡ scaled 1 (weight_sum (weight y) (weight z))
turned_weight k y z =
    ap (λ t. weight_sum (weight t) (weight (entry (matrix (RotZ k)) true y z))) (sym (turned_low k y z)) ∙ ap (λ t. weight_sum (weight y) (weight t)) (sym (turned_high k y z))
    ∙ ap (weight_sum (weight y)) (turned_alone k z) ∙ once (weight_sum (weight y) (weight z))

-- ---- common divisors
divides_entry : (m : Matrix) (b : Bool) (u y z : Coefficient) → Divides u y → Divides u z → Divides u (entry m b y z)
unfolding entry
divides_entry m false u y z h k = divides_both u y z m.zero_zero m.zero_one h k
divides_entry m true u y z h k = divides_both u y z m.one_zero m.one_one h k

-- what divides all entries after a gate divides 1, 2 or 4
pub gate_divisors : (g : Gate) (j : ℕ) (xs ys : List Coefficient) → IsGateList (matrix g) j xs ys → IsReduced xs → (u : Coefficient) → DividesAll u ys → Divides u (times_one (scale_of g))
unfolding gate
gate_divisors g j xs ys h reduced u all = divides_scaled u (times_one (scale_of g)) xs reduced (λ r.
    subst (Divides u) (gate_along (adjoint (matrix g)) j (at ys) (gate (matrix g) j (at xs)) (list_is_gate (matrix g) j xs ys h) r ∙ adjoints_undo_gates g j (at xs) r)
    (divides_entry (adjoint (matrix g)) (is_set j r) u (at ys (with_bit j false r)) (at ys (with_bit j true r)) (all (with_bit j false r)) (all (with_bit j true r))))

scale_divides : (g : Gate) → Divides (times_one (scale_of g)) (whole_coefficient (pos 4))
unfolding scale_of times_one
scale_divides I = (times_one 4, refl)
scale_divides X = (times_one 4, refl)
scale_divides Y = (times_one 4, refl)
scale_divides Z = (times_one 4, refl)
scale_divides T = (times_one 4, refl)
scale_divides H = (times_one 2, refl)
scale_divides K = (times_one 2, refl)
scale_divides (RotX k) = (times_one 1, refl)
scale_divides (RotY k) = (times_one 1, refl)
scale_divides (RotZ k) = (times_one 4, refl)

-- after a gate on a reduced list the common divisors are units times powers of 1 - w
pub gate_delta_divisors : (g : Gate) (j : ℕ) (xs ys : List Coefficient) → IsGateList (matrix g) j xs ys → IsReduced xs → HasDeltaDivisors ys
gate_delta_divisors g j xs ys h reduced u all = divisor_of_four u (divides_trans u (times_one (scale_of g)) (whole_coefficient (pos 4)) (gate_divisors g j xs ys h reduced u all) (scale_divides g))

-- a gate that only moves or turns rows keeps a list reduced
pub gate_reduced : (g : Gate) (j : ℕ) (xs ys : List Coefficient) → scale_of g ≡ 1 → IsGateList (matrix g) j xs ys → IsReduced xs → IsReduced ys
unfolding times_one
gate_reduced g j xs ys e h reduced u all = subst (Divides u) (ap times_one e) (gate_divisors g j xs ys h reduced u all)

scale_some : (g : Gate) → times_one (scale_of g) ≢ zero_coefficient
unfolding scale_of times_one
scale_some I e = one_not_zero e
scale_some X e = one_not_zero e
scale_some Y e = one_not_zero e
scale_some Z e = one_not_zero e
scale_some T e = one_not_zero e
scale_some H e = let f : pos 2 ≡ pos 0 = ap (λ (z : Coefficient). z.a) e in cc f
scale_some K e = let f : pos 2 ≡ pos 0 = ap (λ (z : Coefficient). z.a) e in cc f
scale_some (RotX k) e = let f : pos 4 ≡ pos 0 = ap (λ (z : Coefficient). z.a) e in cc f
scale_some (RotY k) e = let f : pos 4 ≡ pos 0 = ap (λ (z : Coefficient). z.a) e in cc f
scale_some (RotZ k) e = one_not_zero e

-- after a gate on a reduced list some entry is not zero
pub gate_nonzero : (g : Gate) (j : ℕ) (xs ys : List Coefficient) → IsGateList (matrix g) j xs ys → IsReduced xs → IsNonzero ys
gate_nonzero g j xs ys h reduced = some_entry ys (λ all.
    let d = gate_divisors g j xs ys h reduced zero_coefficient (λ r. (zero_coefficient, all r ∙ sym (⊗-zero_coefficient zero_coefficient))) in
    scale_some g (d.1 ∙ ⊗-zero_coefficient (d.0)))
