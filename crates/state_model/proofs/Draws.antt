-- The outcome of a random word is the same for vectors that are the same up to scale and phase.
use Rattle.std.proofs.Common.{◌≡◌, ◌≢◌, ◌⊎◌, inl, inr, ℕ, ◌+◌, ◌*◌, ◌-◌, ◌^◌, ◌≤◌, ℤ, pos, negsuc, ◌+ℤ◌, ◌-ℤ◌, ◌*ℤ◌, ◌<ℤ◌, nat_abs, refl, sym, ap, subst, ◌∙◌, arith, Bool, true, false, List, [], ◌∷◌, filter, mul-le-mul}
use borrow.Author.Differences.{ints, same_in, sum_is_lem, product_is, neg_is, abs_is}
use Rattle.state_model.specs.Coefficient.{Coefficient, zero_coefficient, ◌⊗◌, conjugate, squares, Weight, weight, no_weight, weight_sum, scaled, weight_difference, is_positive, is_less}
use Rattle.state_model.specs.Row.{is_set, rows_of}
use Rattle.state_model.specs.StateVector.{Vector, IsSameState}
use Rattle.state_model.specs.Measurement.{weight_of, whole_weight, one_weight, draw}
use Rattle.state_model.proofs.Integers.{expand}
use Rattle.state_model.proofs.Ring.{⊗_comm, conjugate-⊗}
use Rattle.state_model.proofs.Domain.{real, norm, norm_of, norm_of-zero, no_squares, ⊗-conjugate, square_abs, square_sum}
use Rattle.state_model.proofs.SameStates.{exchange, stable}
use Rattle.state_model.proofs.Order.{IsAbove, product_x, product_y, real-⊗, positive-product}

-- the product of two weights
unfoldable pub times : Weight → Weight → Weight
times p q = record { x = product_x p.x p.y q.x q.y; y = product_y p.x p.y q.x q.y }

pub same_weight : (p q : Weight) → p.x ≡ q.x → p.y ≡ q.y → p ≡ q
same_weight p q e f = λ i. record { x = e i; y = f i }

real_same : (x y u v : ℤ) → real x y ≡ real u v → (x ≡ u) × (y ≡ v)
unfolding real
real_same x y u v e = (ap (λ t. t.a) e, ap (λ t. t.b) e)

-- the weight of a product is the product of the weights
pub weight-⊗ : (y z : Coefficient) → weight (y ⊗ z) ≡ times (weight y) (weight z)
unfolding times
weight-⊗ y z =
    let e = sym (⊗-conjugate (y ⊗ z)) ∙ ap (λ t. (y ⊗ z) ⊗ t) (conjugate-⊗ y z) ∙ exchange y z (conjugate y) (conjugate z)
    ∙ ap (λ t. t ⊗ (z ⊗ conjugate z)) (⊗-conjugate y) ∙ ap (λ t. real ((weight y).x) ((weight y).y) ⊗ t) (⊗-conjugate z)
    ∙ real-⊗ ((weight y).x) ((weight y).y) ((weight z).x) ((weight z).y) in
    let f = real_same _ _ _ _ e in
    same_weight _ _ (f.0) (f.1)

pub times-sum : (p q r : Weight) → times (weight_sum p q) r ≡ weight_sum (times p r) (times q r)
unfolding times product_x product_y
times-sum p q r = same_weight _ _ (simp expand (omega (arith, same_in, sum_is_lem))) (simp expand (omega (arith, same_in, sum_is_lem)))

times-difference : (p q r : Weight) → times (weight_difference p q) r ≡ weight_difference (times p r) (times q r)
unfolding times product_x product_y
times-difference p q r = same_weight _ _ (simp expand (omega (arith, same_in, sum_is_lem, neg_is))) (simp expand (omega (arith, same_in, sum_is_lem, neg_is)))

times-scaled : (n : ℕ) (p r : Weight) → times (scaled n p) r ≡ scaled n (times p r)
unfolding times product_x product_y
times-scaled n p r = same_weight _ _ (simp expand) (simp expand)

times-none : (r : Weight) → times no_weight r ≡ no_weight
unfolding times product_x product_y
times-none r = same_weight _ _ (omega (arith, ints)) (omega (arith, ints))

-- the sums of two vectors whose coefficients are proportional are so
weights_along : (v u : Vector) (a b : Weight) → ((x : ℕ) → times (weight (v x)) a ≡ times (weight (u x)) b) → (xs : List ℕ) → times (weight_of v xs) a ≡ times (weight_of u xs) b
unfolding weight_of
weights_along v u a b each [] = times-none a ∙ sym (times-none b)
weights_along v u a b each (x ∷ xs) =
    times-sum (weight (v x)) (weight_of v xs) a
    ∙ ap (λ t. weight_sum t (times (weight_of v xs) a)) (each x)
    ∙ ap (λ t. weight_sum (times (weight (u x)) b) t) (weights_along v u a b each xs)
    ∙ sym (times-sum (weight (u x)) (weight_of u xs) b)

-- twice a product is at most the sum of the squares
means : (u v : ℕ) → 2 * (u * v) ≤ u * u + v * v
means u v = by (u - v) (v - u) (grind arith)
  where
    by : (j k : ℕ) → (u ≡ v + j) ⊎ (v ≡ u + k) → 2 * (u * v) ≤ u * u + v * v
    by j k (inl e) = subst (λ w. 2 * (w * v) ≤ w * w + v * v) (sym e) (omega arith)
    by j k (inr e) = subst (λ w. 2 * (u * w) ≤ u * u + w * w) (sym e) (omega arith)

-- the square of b p + d r is at most (b² + d²) (p² + r²)
cauchy : (b d p r : ℕ) → (b * p + d * r) * (b * p + d * r) ≤ (b * b + d * d) * (p * p + r * r)
cauchy b d p r = let m = means (b * r) (d * p) in omega arith

pub abs_times : (a b : ℤ) → nat_abs (a *ℤ b) ≡ nat_abs a * nat_abs b
abs_times (pos a) (pos b) = refl
abs_times (pos a) (negsuc b) = omega (arith, abs_is, product_is)
abs_times (negsuc a) (pos b) = omega (arith, abs_is, product_is)
abs_times (negsuc a) (negsuc b) = omega (arith, abs_is, product_is)

pub abs_sum : (a b : ℤ) → nat_abs (a +ℤ b) ≤ nat_abs a + nat_abs b
abs_sum a b = omega (arith, ints)

y_factored : (z : Coefficient) → (weight z).y ≡ z.b *ℤ (z.c +ℤ z.a) +ℤ z.d *ℤ (z.c -ℤ z.a)
y_factored z = simp expand (omega (arith, ints))

two_squares : (a c : ℤ) → (c +ℤ a) *ℤ (c +ℤ a) +ℤ (c -ℤ a) *ℤ (c -ℤ a) ≡ (a *ℤ a +ℤ c *ℤ c) +ℤ (a *ℤ a +ℤ c *ℤ c)
two_squares a c = simp expand (omega (arith, ints))

two_squares_abs : (a c : ℤ) → nat_abs (c +ℤ a) * nat_abs (c +ℤ a) + nat_abs (c -ℤ a) * nat_abs (c -ℤ a) ≡ 2 * (nat_abs a * nat_abs a + nat_abs c * nat_abs c)
two_squares_abs a c =
    let e = two_squares a c in
    let p = square_abs (c +ℤ a) in
    let r = square_abs (c -ℤ a) in
    let f = square_abs a in
    let g = square_abs c in
    same_squares _ _ _ _ _ _ _ _ p r f g e
  where
    same_squares : (pp rr aa cc : ℤ) (i j k l : ℕ) → pp ≡ pos i → rr ≡ pos j → aa ≡ pos k → cc ≡ pos l → pp +ℤ rr ≡ (aa +ℤ cc) +ℤ (aa +ℤ cc) → i + j ≡ 2 * (k + l)
    same_squares pp rr aa cc i j k l p r f g e = omega (arith, ints)

-- twice the square of y is at most the square of x
pub y_below : (z : Coefficient) → 2 * (nat_abs ((weight z).y) * nat_abs ((weight z).y)) ≤ squares z * squares z
unfolding squares
y_below z =
    let b = nat_abs z.b in
    let d = nat_abs z.d in
    let p = nat_abs (z.c +ℤ z.a) in
    let r = nat_abs (z.c -ℤ z.a) in
    let low : nat_abs ((weight z).y) ≤ b * p + d * r =
    subst (λ (t : ℤ). nat_abs t ≤ b * p + d * r) (sym (y_factored z))
    (let s = abs_sum (z.b *ℤ (z.c +ℤ z.a)) (z.d *ℤ (z.c -ℤ z.a)) in let t = abs_times z.b (z.c +ℤ z.a) in let u = abs_times z.d (z.c -ℤ z.a) in omega arith) in
    squared (nat_abs ((weight z).y)) (nat_abs z.a) b (nat_abs z.c) d p r low (two_squares_abs z.a z.c)
  where
    squared : (y a b c d p r : ℕ) → y ≤ b * p + d * r → p * p + r * r ≡ 2 * (a * a + c * c) → 2 * (y * y) ≤ (a * a + b * b + c * c + d * d) * (a * a + b * b + c * c + d * d)
    squared y a b c d p r low e =
        let f = mul-le-mul low low in
        let g = cauchy b d p r in
        let h = ap (λ t. (b * b + d * d) * t) e in
        let m = means (a * a + c * c) (b * b + d * d) in
        omega arith

norm_not_below : (x y : ℤ) (n : ℕ) → x ≡ pos n → 2 * (nat_abs y * nat_abs y) ≤ n * n → ¬ (norm x y ≡ pos 0) → pos 0 <ℤ norm x y
unfolding norm
norm_not_below x y n e h some =
    let f = square_abs y in
    let g : x *ℤ x ≡ pos (n * n) = ap (λ t. t *ℤ t) e in
    omega (arith, ints)

-- the weight of a coefficient other than zero is above 0
pub weight_above : (z : Coefficient) → z ≢ zero_coefficient → IsAbove ((weight z).x) ((weight z).y)
unfolding IsAbove norm_of
weight_above z h = inl (
  (let e = square_sum z in let n : ¬ (squares z ≡ 0) = λ none. h (no_squares z none) in omega (arith, ints)),
  norm_not_below ((weight z).x) ((weight z).y) (squares z) (square_sum z) (y_below z) (λ none. h (norm_of-zero z none)),
)

positive-times : (p r : Weight) → IsAbove r.x r.y → is_positive (times p r) ≡ is_positive p
unfolding is_positive times
positive-times p r h = positive-product p.x p.y r.x r.y h

-- the comparison is the same for proportional sums
less_along : (p q s t a b : Weight) → IsAbove a.x a.y → IsAbove b.x b.y → times p a ≡ times s b → times q a ≡ times t b → is_less p q ≡ is_less s t
unfolding is_less
less_along p q s t a b above_a above_b e f =
    sym (positive-times (weight_difference q p) a above_a)
    ∙ ap is_positive (times-difference q p a ∙ ap (λ w. weight_difference w (times p a)) f ∙ ap (λ w. weight_difference (times t b) w) e ∙ sym (times-difference t s b))
    ∙ positive-times (weight_difference t s) b above_b

bool_stable : (a b : Bool) → ¬ (a ≢ b) → a ≡ b
bool_stable true true h = refl
bool_stable true false h = absurd (h (λ e. cc))
bool_stable false true h = absurd (h (λ e. cc))
bool_stable false false h = refl

-- same states give the same outcome
pub same_draw : (live : List ℕ) (v u : Vector) (q word : ℕ) → ¬ ((x : ℕ) → v x ≡ zero_coefficient) → IsSameState v u → draw live v q word ≡ draw live u q word
unfolding draw whole_weight one_weight
same_draw live v u q word some s = bool_stable _ _ (λ n. some (λ r. stable (v r) zero_coefficient (λ h. n (along r h))))
  where
    along : (r : ℕ) → v r ≢ zero_coefficient → draw live v q word ≡ draw live u q word
    along r h =
        let a = weight (u r) in
        let b = weight (v r) in
        let other : u r ≢ zero_coefficient = λ e. h ((s.rows r).1 e) in
        let each : (x : ℕ) → times (weight (v x)) a ≡ times (weight (u x)) b = λ x. sym (weight-⊗ (v x) (u r)) ∙ ap weight (s.ratios x r ∙ ⊗_comm (v r) (u x)) ∙ weight-⊗ (u x) (v r) in
        let rows = rows_of live in
        let ones = filter (is_set q) rows in
        less_along (scaled word (weight_of v rows)) (scaled (2 ^ 64) (weight_of v ones)) (scaled word (weight_of u rows)) (scaled (2 ^ 64) (weight_of u ones)) a b (weight_above (u r) other) (weight_above (v r) h)
        (times-scaled word (weight_of v rows) a ∙ ap (scaled word) (weights_along v u a b each rows) ∙ sym (times-scaled word (weight_of u rows) b))
        (times-scaled (2 ^ 64) (weight_of v ones) a ∙ ap (scaled (2 ^ 64)) (weights_along v u a b each ones) ∙ sym (times-scaled (2 ^ 64) (weight_of u ones) b))
