-- Sums of weights over the rows of a register: by number, in pairs that differ in one bit, and over the rows of the network.
use Prim.Native.Nat.{zero, suc}
use Rattle.std.proofs.Common.{◌≡◌, ℕ, ◌+◌, ◌*◌, ◌<◌, ◌^◌, ◌==◌, Bool, true, false, cond, pos, ◌+ℤ◌, List, [], ◌∷◌, ◌++◌, length, map, sum_by, refl, sym, ap, ◌∙◌, arith}
use borrow.Author.Differences.{ints}
use Rattle.std.proofs.Math.Nat.{pow-succ'}
use Rattle.std.proofs.lemmas.List.Sums.{sum_by-cons}
use Rattle.state_model.specs.Coefficient.{Coefficient, zero_coefficient, squares, Weight, weight, no_weight, weight_sum, scaled}
use Rattle.state_model.specs.CoefficientList.{at, total_weight}
use Rattle.state_model.specs.Row.{with_bit, is_listed, within, rows_of}
use Rattle.state_model.specs.StateVector.{Vector, squares_over}
use Rattle.state_model.specs.Measurement.{weight_of}
use Rattle.state_model.specs.Registers.{register_row, register_vector}
use Rattle.state_model.specs.Amplitudes.{Amplitudes, vector_of, AreDistinct, HasRows}
use Rattle.state_model.proofs.Booleans.{eq_true, ne_of, or_false_left, or_false_right}
use Rattle.state_model.proofs.Domain.{square_sum}
use Rattle.state_model.proofs.Draws.{same_weight}
use Rattle.state_model.proofs.Integers.{mul_add_ℤ}
use Rattle.state_model.proofs.Parts.{within_all, no_bit_outside}
use Rattle.state_model.proofs.RowLaws.{is_set-with_bit_same, is_set-with_bit_other, zero_clear}
use Rattle.state_model.proofs.Registers.{register_blind, low_with_bit, high_with_bit}

-- ---- weights under sums
pub weight_sum_comm : (u v : Weight) → weight_sum u v ≡ weight_sum v u
weight_sum_comm u v = same_weight _ _ (omega (arith, ints)) (omega (arith, ints))

pub weight_sum_assoc : (u v w : Weight) → weight_sum u (weight_sum v w) ≡ weight_sum (weight_sum u v) w
weight_sum_assoc u v w = same_weight _ _ (omega (arith, ints)) (omega (arith, ints))

pub weight_sum-none : (u : Weight) → weight_sum no_weight u ≡ u
weight_sum-none u = same_weight _ _ (omega (arith, ints)) (omega (arith, ints))

none-weight_sum : (u : Weight) → weight_sum u no_weight ≡ u
none-weight_sum u = same_weight _ _ (omega (arith, ints)) (omega (arith, ints))

middle : (a b c d : Weight) → weight_sum (weight_sum a b) (weight_sum c d) ≡ weight_sum (weight_sum a c) (weight_sum b d)
middle a b c d = same_weight _ _ (omega (arith, ints)) (omega (arith, ints))

scaled-weight_sum : (n : ℕ) (u v : Weight) → scaled n (weight_sum u v) ≡ weight_sum (scaled n u) (scaled n v)
scaled-weight_sum n u v = same_weight _ _ (mul_add_ℤ (pos n) u.x v.x) (mul_add_ℤ (pos n) u.y v.y)

scaled-none : (n : ℕ) → scaled n no_weight ≡ no_weight
scaled-none n = same_weight _ _ (omega (arith, ints)) (omega (arith, ints))

-- ---- sums by number
-- the sum of f below n
unfoldable pub weight_to : (ℕ → Weight) → ℕ → Weight
weight_to f zero = no_weight
weight_to f (suc n) = weight_sum (weight_to f n) (f n)

pub weight_to-same : (f h : ℕ → Weight) (n : ℕ) → ((i : ℕ) → f i ≡ h i) → weight_to f n ≡ weight_to h n
unfolding weight_to
weight_to-same f h zero same = refl
weight_to-same f h (suc n) same = ap (λ t. weight_sum t (f n)) (weight_to-same f h n same) ∙ ap (weight_sum (weight_to h n)) (same n)

weight_to-first : (f : ℕ → Weight) (n : ℕ) → weight_to f (suc n) ≡ weight_sum (f 0) (weight_to (λ i. f (suc i)) n)
unfolding weight_to
weight_to-first f zero = weight_sum_comm no_weight (f 0)
weight_to-first f (suc n) = ap (λ t. weight_sum t (f (suc n))) (weight_to-first f n) ∙ sym (weight_sum_assoc (f 0) (weight_to (λ i. f (suc i)) n) (f (suc n)))

-- the total weight of a list is the sum over its numbers
pub weight_to-total : (vs : List Coefficient) → weight_to (λ i. weight (at vs i)) (length vs) ≡ total_weight vs
weight_to-total [] = unfold weight_to in refl
weight_to-total (v ∷ vs) = weight_to-first (λ i. weight (at (v ∷ vs) i)) (length vs) ∙ ap (weight_sum (weight v)) (weight_to-total vs)

weight_to-sum : (f h : ℕ → Weight) (n : ℕ) → weight_to (λ i. weight_sum (f i) (h i)) n ≡ weight_sum (weight_to f n) (weight_to h n)
unfolding weight_to
weight_to-sum f h zero = sym (weight_sum-none no_weight)
weight_to-sum f h (suc n) = ap (λ t. weight_sum t (weight_sum (f n) (h n))) (weight_to-sum f h n) ∙ middle (weight_to f n) (weight_to h n) (f n) (h n)

weight_to-scaled : (k : ℕ) (f : ℕ → Weight) (n : ℕ) → weight_to (λ i. scaled k (f i)) n ≡ scaled k (weight_to f n)
unfolding weight_to
weight_to-scaled k f zero = sym (scaled-none k)
weight_to-scaled k f (suc n) = ap (λ t. weight_sum t (scaled k (f n))) (weight_to-scaled k f n) ∙ sym (scaled-weight_sum k (weight_to f n) (f n))

-- the even numbers and the odd ones
weight_to-double : (f : ℕ → Weight) (n : ℕ) → weight_to f (2 * n) ≡ weight_sum (weight_to (λ i. f (0 + 2 * i)) n) (weight_to (λ i. f (1 + 2 * i)) n)
unfolding weight_to
weight_to-double f zero = sym (weight_sum-none no_weight)
weight_to-double f (suc n) =
    ap (weight_to f) (twice n)
    ∙ ap (λ t. weight_sum (weight_sum t (f (2 * n))) (f (suc (2 * n)))) (weight_to-double f n)
    ∙ sym (weight_sum_assoc _ (f (2 * n)) (f (suc (2 * n))))
    ∙ ap (λ t. weight_sum (weight_sum (weight_to (λ i. f (0 + 2 * i)) n) (weight_to (λ i. f (1 + 2 * i)) n)) (weight_sum (f t) (f (suc (2 * n))))) (plain n)
    ∙ ap (λ t. weight_sum (weight_sum (weight_to (λ i. f (0 + 2 * i)) n) (weight_to (λ i. f (1 + 2 * i)) n)) (weight_sum (f (0 + 2 * n)) (f t))) (next n)
    ∙ middle (weight_to (λ i. f (0 + 2 * i)) n) (weight_to (λ i. f (1 + 2 * i)) n) (f (0 + 2 * n)) (f (1 + 2 * n))
  where
    twice : (n : ℕ) → 2 * suc n ≡ suc (suc (2 * n))
    twice n = omega arith

    plain : (n : ℕ) → 2 * n ≡ 0 + 2 * n
    plain n = omega arith

    next : (n : ℕ) → suc (2 * n) ≡ 1 + 2 * n
    next n = omega arith

-- a sum over the rows of one more qubit, by its bit
pub weight_to-bit : (f : ℕ → Weight) (n : ℕ) → weight_to f (2 ^ suc n) ≡ weight_sum (weight_to (λ i. f (cond false 1 0 + 2 * i)) (2 ^ n)) (weight_to (λ i. f (cond true 1 0 + 2 * i)) (2 ^ n))
weight_to-bit f n = ap (weight_to f) (pow-succ' 2 n) ∙ weight_to-double f (2 ^ n)

-- where each pair of rows that differ in bit j alone has s times the weight, so has the whole
pub weight_to-pairs : (n j : ℕ) → j < n → (s : ℕ) (f h : ℕ → Weight)
    → ((i : ℕ) → weight_sum (h (with_bit j false i)) (h (with_bit j true i)) ≡ scaled s (weight_sum (f (with_bit j false i)) (f (with_bit j true i))))
    → weight_to h (2 ^ n) ≡ scaled s (weight_to f (2 ^ n))
weight_to-pairs zero j l s f h each = absurd (omega arith)
weight_to-pairs (suc n) zero l s f h each =
    weight_to-bit h n ∙ sym (weight_to-sum (λ i. h (cond false 1 0 + 2 * i)) (λ i. h (cond true 1 0 + 2 * i)) (2 ^ n))
    ∙ weight_to-same _ _ (2 ^ n) (λ i. ap (λ r. weight_sum (h r) (h (cond true 1 0 + 2 * i))) (sym (low_with_bit false false i)) ∙ ap (λ r. weight_sum (h (with_bit 0 false (cond false 1 0 + 2 * i))) (h r)) (sym (low_with_bit true false i))
    ∙ each (cond false 1 0 + 2 * i)
    ∙ ap (λ r. scaled s (weight_sum (f r) (f (with_bit 0 true (cond false 1 0 + 2 * i))))) (low_with_bit false false i) ∙ ap (λ r. scaled s (weight_sum (f (cond false 1 0 + 2 * i)) (f r))) (low_with_bit true false i))
    ∙ weight_to-scaled s (λ i. weight_sum (f (cond false 1 0 + 2 * i)) (f (cond true 1 0 + 2 * i))) (2 ^ n)
    ∙ ap (scaled s) (weight_to-sum (λ i. f (cond false 1 0 + 2 * i)) (λ i. f (cond true 1 0 + 2 * i)) (2 ^ n) ∙ sym (weight_to-bit f n))
weight_to-pairs (suc n) (suc j) l s f h each =
    weight_to-bit h n
    ∙ ap (λ t. weight_sum t (weight_to (λ i. h (cond true 1 0 + 2 * i)) (2 ^ n))) (weight_to-pairs n j (omega arith) s (λ i. f (cond false 1 0 + 2 * i)) (λ i. h (cond false 1 0 + 2 * i)) (part false))
    ∙ ap (weight_sum (scaled s (weight_to (λ i. f (cond false 1 0 + 2 * i)) (2 ^ n)))) (weight_to-pairs n j (omega arith) s (λ i. f (cond true 1 0 + 2 * i)) (λ i. h (cond true 1 0 + 2 * i)) (part true))
    ∙ sym (scaled-weight_sum s (weight_to (λ i. f (cond false 1 0 + 2 * i)) (2 ^ n)) (weight_to (λ i. f (cond true 1 0 + 2 * i)) (2 ^ n)))
    ∙ ap (scaled s) (sym (weight_to-bit f n))
  where
    pair : (c : Bool) (g : ℕ → Weight) (i : ℕ) → weight_sum (g (with_bit (suc j) false (cond c 1 0 + 2 * i))) (g (with_bit (suc j) true (cond c 1 0 + 2 * i))) ≡ weight_sum (g (cond c 1 0 + 2 * with_bit j false i)) (g (cond c 1 0 + 2 * with_bit j true i))
    pair c g i = ap (λ r. weight_sum (g r) (g (with_bit (suc j) true (cond c 1 0 + 2 * i)))) (high_with_bit false c i j) ∙ ap (λ r. weight_sum (g (cond c 1 0 + 2 * with_bit j false i)) (g r)) (high_with_bit true c i j)

    part : (c : Bool) (i : ℕ) → weight_sum (h (cond c 1 0 + 2 * with_bit j false i)) (h (cond c 1 0 + 2 * with_bit j true i)) ≡ scaled s (weight_sum (f (cond c 1 0 + 2 * with_bit j false i)) (f (cond c 1 0 + 2 * with_bit j true i)))
    part c i = sym (pair c h i) ∙ each (cond c 1 0 + 2 * i) ∙ ap (scaled s) (pair c f i)

-- ---- sums over the rows of the network
-- the sum over the rows of g
unfoldable pub weight_on : List ℕ → (ℕ → Weight) → Weight
weight_on [] f = f 0
weight_on (q ∷ g) f = weight_sum (weight_on g f) (weight_on g (λ x. f (with_bit q true x)))

unfoldable weight_listed : (ℕ → Weight) → List ℕ → Weight
weight_listed f [] = no_weight
weight_listed f (x ∷ xs) = weight_sum (f x) (weight_listed f xs)

weight_listed-append : (f : ℕ → Weight) (xs ys : List ℕ) → weight_listed f (xs ++ ys) ≡ weight_sum (weight_listed f xs) (weight_listed f ys)
unfolding weight_listed
weight_listed-append f [] ys = sym (weight_sum-none (weight_listed f ys))
weight_listed-append f (x ∷ xs) ys = ap (weight_sum (f x)) (weight_listed-append f xs ys) ∙ weight_sum_assoc (f x) (weight_listed f xs) (weight_listed f ys)

weight_listed-map : (f : ℕ → Weight) (k : ℕ → ℕ) (xs : List ℕ) → weight_listed f (map k xs) ≡ weight_listed (λ x. f (k x)) xs
unfolding weight_listed
weight_listed-map f k [] = refl
weight_listed-map f k (x ∷ xs) = ap (weight_sum (f (k x))) (weight_listed-map f k xs)

weight_listed-rows : (g : List ℕ) (f : ℕ → Weight) → weight_listed f (rows_of g) ≡ weight_on g f
unfolding weight_listed weight_on rows_of
weight_listed-rows [] f = none-weight_sum (f 0)
weight_listed-rows (q ∷ g) f =
    weight_listed-append f (rows_of g) (map (with_bit q true) (rows_of g))
    ∙ ap (λ t. weight_sum t (weight_listed f (map (with_bit q true) (rows_of g)))) (weight_listed-rows g f)
    ∙ ap (weight_sum (weight_on g f)) (weight_listed-map f (with_bit q true) (rows_of g) ∙ weight_listed-rows g (λ x. f (with_bit q true x)))

weight_of-listed : (v : Vector) (xs : List ℕ) → weight_of v xs ≡ weight_listed (λ x. weight (v x)) xs
unfolding weight_of weight_listed
weight_of-listed v [] = refl
weight_of-listed v (x ∷ xs) = ap (weight_sum (weight (v x))) (weight_of-listed v xs)

pub weight_of-rows : (g : List ℕ) (v : Vector) → weight_of v (rows_of g) ≡ weight_on g (λ x. weight (v x))
weight_of-rows g v = weight_of-listed v (rows_of g) ∙ weight_listed-rows g (λ x. weight (v x))

-- a row of g is one of q and g
one_more : (q : ℕ) (g : List ℕ) (x : ℕ) → within g x ≡ x → within (q ∷ g) x ≡ x
one_more q g x is = within_all (q ∷ g) x (λ p out. no_bit_outside g x p is (unfold is_listed in or_false_right (q == p) (is_listed g p) out))

one_more_set : (q : ℕ) (g : List ℕ) (x : ℕ) → within g x ≡ x → within (q ∷ g) (with_bit q true x) ≡ with_bit q true x
one_more_set q g x is = within_all (q ∷ g) (with_bit q true x) (λ p out.
    let other = ne_of q p (unfold is_listed in or_false_left (q == p) (is_listed g p) out) in
    is_set-with_bit_other p q true x (λ e. other (sym e)) ∙ no_bit_outside g x p is (unfold is_listed in or_false_right (q == p) (is_listed g p) out))

-- only the rows of g count
pub weight_on-same : (g : List ℕ) (f h : ℕ → Weight) → ((x : ℕ) → within g x ≡ x → f x ≡ h x) → weight_on g f ≡ weight_on g h
unfolding weight_on
weight_on-same [] f h same = same 0 (within_all [] 0 (λ p out. zero_clear p))
weight_on-same (q ∷ g) f h same =
    ap (λ t. weight_sum t (weight_on g (λ x. f (with_bit q true x)))) (weight_on-same g f h (λ x is. same x (one_more q g x is)))
    ∙ ap (weight_sum (weight_on g h)) (weight_on-same g (λ x. f (with_bit q true x)) (λ x. h (with_bit q true x)) (λ x is. same (with_bit q true x) (one_more_set q g x is)))

-- a sum over the network's rows is the sum over the register's
pub weight_on-register : (qs : List ℕ) → AreDistinct qs → (f : ℕ → Weight) → weight_on qs (λ x. f (register_row qs x)) ≡ weight_to f (2 ^ length qs)
unfolding weight_on register_row weight_to
weight_on-register [] apart f = sym (weight_sum-none (f 0))
weight_on-register (q ∷ qs) apart f =
    ap (λ t. weight_sum t (weight_on qs (λ x. f (register_row (q ∷ qs) (with_bit q true x)))))
    (weight_on-same qs (λ x. f (register_row (q ∷ qs) x)) (λ x. f (cond false 1 0 + 2 * register_row qs x)) (λ x is. ap (λ b. f (cond b 1 0 + 2 * register_row qs x)) (no_bit_outside qs x q is (apart.0)))
    ∙ weight_on-register qs (apart.1) (λ i. f (cond false 1 0 + 2 * i)))
    ∙ ap (weight_sum (weight_to (λ i. f (cond false 1 0 + 2 * i)) (2 ^ length qs)))
    (weight_on-same qs (λ x. f (register_row (q ∷ qs) (with_bit q true x))) (λ x. f (cond true 1 0 + 2 * register_row qs x))
    (λ x is. ap (λ b. f (cond b 1 0 + 2 * register_row qs (with_bit q true x))) (is_set-with_bit_same q true x) ∙ ap (λ n. f (cond true 1 0 + 2 * n)) (register_blind qs q true x (apart.0)))
    ∙ weight_on-register qs (apart.1) (λ i. f (cond true 1 0 + 2 * i)))
    ∙ sym (weight_to-bit f (length qs))

-- the coefficient of a register's row within the network's rows
pub vector-within : (qs : List ℕ) (list : List Coefficient) (x : ℕ) → within qs x ≡ x → register_vector qs list x ≡ at list (register_row qs x)
unfolding register_vector
vector-within qs list x is = ap (λ b. cond b (at list (register_row qs x)) zero_coefficient) (eq_true _ _ is)

-- the weight of a register's vector over its rows is that of its list
pub weight_of-register : (a : Amplitudes) → HasRows a → weight_of (vector_of a) (rows_of a.qubits) ≡ total_weight a.list
weight_of-register a h =
    weight_of-rows a.qubits (vector_of a)
    ∙ weight_on-same a.qubits (λ x. weight (vector_of a x)) (λ x. weight (at a.list (register_row a.qubits x))) (λ x is. ap weight (vector-within a.qubits a.list x is))
    ∙ weight_on-register a.qubits h.distinct (λ i. weight (at a.list i))
    ∙ ap (weight_to (λ i. weight (at a.list i))) (sym h.rows)
    ∙ weight_to-total a.list

pub squares-weight_of : (v : Vector) (xs : List ℕ) → (weight_of v xs).x ≡ pos (sum_by (λ x. squares (v x)) xs)
unfolding weight_of
squares-weight_of v [] = refl
squares-weight_of v (x ∷ xs) = ap (λ t. t +ℤ (weight_of v xs).x) (square_sum (v x)) ∙ ap (λ t. pos (squares (v x)) +ℤ t) (squares-weight_of v xs) ∙ ap pos (sym (sum_by-cons (λ y. squares (v y)) x xs))

-- the sum of squares of a register's vector is the x of its list's total weight
pub squares_over-register : (a : Amplitudes) → HasRows a → (total_weight a.list).x ≡ pos (squares_over a.qubits (vector_of a))
unfolding squares_over
squares_over-register a h = sym (ap (λ (w : Weight). w.x) (weight_of-register a h)) ∙ squares-weight_of (vector_of a) (rows_of a.qubits)
