-- The outcome that a word draws has a row: what a measurement keeps is a vector with a row again.
use Prim.Native.Nat.{zero, suc}
use Rattle.std.proofs.Common.{◌≡◌, inl, inr, ℕ, ◌+◌, ◌-◌, ◌*◌, ◌^◌, ◌<◌, ◌≤◌, ◌==◌, ℤ, pos, negsuc, ◌-ℤ◌, ◌*ℤ◌, ◌<ℤ◌, neg_ℤ, nat_abs, Bool, true, false, cond, ◌&&◌, ◌||◌, List, [], ◌∷◌, map, filter, refl, sym, ap, subst, ◌∙◌, arith, mul-le-mul}
use borrow.Author.Differences.{up, down, ints, same_in, sum_is_lem, product_is, neg_is}
use Rattle.state_model.specs.Coefficient.{zero_coefficient, squares, Weight, weight, no_weight, weight_sum, scaled, is_positive, is_less}
use Rattle.state_model.specs.Row.{is_set, with_bit, is_listed, within, rows_of}
use Rattle.state_model.specs.StateVector.{Vector, IsOver}
use Rattle.state_model.specs.Measurement.{weight_of, whole_weight, one_weight, draw, keep}
use Rattle.state_model.proofs.Domain.{norm, square_abs, no_squares, norm_zero}
use Rattle.state_model.proofs.Order.{IsAbove, above-positive, positive-true, norm-neg}
use Rattle.state_model.proofs.SameStates.{stable}
use Rattle.state_model.proofs.Draws.{same_weight, y_below, abs_sum, abs_times}
use Rattle.state_model.proofs.Domain.{square_sum}
use Rattle.state_model.proofs.Booleans.{and_false, clash, eq_true, eq_of, ne_of, eq_false, or_true}
use Rattle.state_model.proofs.Numbers.{is_listed-snoc}
use Rattle.state_model.proofs.RowLaws.{same_row, is_set-within, is_set-with_bit_same, is_set-with_bit_other, zero_clear}

-- x + y √2 and x - y √2 are not below 0, where x is the natural n
pub record IsNatural (n : ℕ) (w : Weight) : Type 0 where
  pub x : w.x ≡ pos n
  pub y : 2 * (nat_abs w.y * nat_abs w.y) ≤ n * n

-- half of the square of a sum
half_square : (a b n m : ℕ) → 2 * (a * a) ≤ n * n → 2 * (b * b) ≤ m * m → 2 * ((a + b) * (a + b)) ≤ (n + m) * (n + m)
half_square a b n m p q = finish (below (2 * (a * b)) (n * m) (let product = mul-le-mul p q in omega arith))
  where
    below : (u v : ℕ) → u * u ≤ v * v → u ≤ v
    below u v h = not_more (λ g. let s = mul-le-mul g g in omega arith)
      where
        not_more : ¬ (suc v ≤ u) → u ≤ v
        not_more n = omega arith

    finish : 2 * (a * b) ≤ n * m → 2 * ((a + b) * (a + b)) ≤ (n + m) * (n + m)
    finish h = omega arith

sum_natural : (n m : ℕ) (p q : Weight) → IsNatural n p → IsNatural m q → IsNatural (n + m) (weight_sum p q)
sum_natural n m p q f g = record {
  x = (let e = f.x in let h = g.x in omega (arith, ints));
  y = (let low = abs_sum p.y q.y in let s = mul-le-mul low low in let h = half_square (nat_abs p.y) (nat_abs q.y) n m f.y g.y in omega arith);
}

-- the sum of the squares of the listed rows
unfoldable pub sum_squares : Vector → List ℕ → ℕ
sum_squares v [] = 0
sum_squares v (x ∷ xs) = squares (v x) + sum_squares v xs

pub weights_natural : (v : Vector) (xs : List ℕ) → IsNatural (sum_squares v xs) (weight_of v xs)
unfolding weight_of sum_squares
weights_natural v [] = record { x = refl; y = omega arith }
weights_natural v (x ∷ xs) = sum_natural _ _ _ _ (record { x = square_sum (v x); y = y_below (v x) }) (weights_natural v xs)

pub no_sum : (v : Vector) (xs : List ℕ) (x : ℕ) → is_listed xs x ≡ true → sum_squares v xs ≡ 0 → v x ≡ zero_coefficient
unfolding sum_squares is_listed
no_sum v [] x h e = cc
no_sum v (y ∷ xs) x h e = by (λ g. no_sum v xs x g (rest (squares (v y)) (sum_squares v xs) e)) (y == x) refl
  where
    rest : (m n : ℕ) → m + n ≡ 0 → n ≡ 0
    rest m n e = omega arith

    first : (m n : ℕ) → m + n ≡ 0 → m ≡ 0
    first m n e = omega arith

    by : (is_listed xs x ≡ true → v x ≡ zero_coefficient) → (t : Bool) → (y == x) ≡ t → v x ≡ zero_coefficient
    by again true t = ap v (sym (eq_of y x t)) ∙ no_squares (v y) (first (squares (v y)) (sum_squares v xs) e)
    by again false t = again (sym (ap (λ b. b || is_listed xs x) t) ∙ h)

-- ---- each row within g is one of its rows
pub is_listed-map : (f : ℕ → ℕ) (xs : List ℕ) (x : ℕ) → is_listed xs x ≡ true → is_listed (map f xs) (f x) ≡ true
unfolding is_listed
is_listed-map f [] x h = cc
is_listed-map f (y ∷ xs) x h = by (λ g. is_listed-map f xs x g) (y == x) refl
  where
    by : (is_listed xs x ≡ true → is_listed (map f xs) (f x) ≡ true) → (t : Bool) → (y == x) ≡ t → ((f y == f x) || is_listed (map f xs) (f x)) ≡ true
    by again true t = ap (λ b. b || is_listed (map f xs) (f x)) (eq_true (f y) (f x) (ap f (eq_of y x t)))
    by again false t = ap (λ b. (f y == f x) || b) (again (sym (ap (λ b. b || is_listed xs x) t) ∙ h)) ∙ or_true (f y == f x)

pub within_twice : (g : List ℕ) (x : ℕ) → within g (within g x) ≡ within g x
within_twice g x = same_row _ _ (λ p. is_set-within g p (within g x) ∙ ap (λ b. b && is_listed g p) (is_set-within g p x) ∙ twice (is_set p x) (is_listed g p) ∙ sym (is_set-within g p x))
  where
    twice : (a b : Bool) → ((a && b) && b) ≡ (a && b)
    twice true true = refl
    twice true false = refl
    twice false b = refl

none : (x : ℕ) → within [] x ≡ 0
none x = same_row _ _ (λ p. is_set-within [] p x ∙ unlisted p ∙ sym (zero_clear p))
  where
    unlisted : (p : ℕ) → (is_set p x && is_listed [] p) ≡ false
    unlisted p = unfold is_listed in and_false (is_set p x)

zero_listed : is_listed (0 ∷ []) 0 ≡ true
unfolding is_listed
zero_listed = refl

pub rows_complete : (g : List ℕ) (x : ℕ) → within g x ≡ x → is_listed (rows_of g) x ≡ true
unfolding rows_of
rows_complete [] x h = ap (λ n. is_listed (0 ∷ []) n) (sym h ∙ none x) ∙ zero_listed
rows_complete (q ∷ g) x h = is_listed-snoc (rows_of g) (map (with_bit q true) (rows_of g)) x ∙ by (λ y e. rows_complete g y e) (is_set q x) refl
  where
    -- a bit other than q's is in g where it is set
    other_bit : (p : ℕ) → (p == q) ≡ false → (is_set p x && is_listed g p) ≡ is_set p x
    other_bit p e = ap (λ b. is_set p x && (b || is_listed g p)) (sym (eq_false q p (λ f. ne_of p q e (sym f)))) ∙ unfold is_listed in (sym (is_set-within (q ∷ g) p x) ∙ ap (is_set p) h)

    set_bit : (p : ℕ) (t : Bool) → (p == q) ≡ t → is_set q x ≡ true → is_set p (with_bit q true (within g x)) ≡ is_set p x
    set_bit p true e k = ap (λ n. is_set n (with_bit q true (within g x))) (eq_of p q e) ∙ is_set-with_bit_same q true (within g x) ∙ sym (ap (λ n. is_set n x) (eq_of p q e) ∙ k)
    set_bit p false e k = is_set-with_bit_other p q true (within g x) (ne_of p q e) ∙ is_set-within g p x ∙ other_bit p e

    clear_bit : (p : ℕ) (t : Bool) → (p == q) ≡ t → is_set q x ≡ false → (is_set p x && is_listed g p) ≡ is_set p x
    clear_bit p true e k = let unset : is_set p x ≡ false = ap (λ n. is_set n x) (eq_of p q e) ∙ k in ap (λ b. b && is_listed g p) unset ∙ sym unset
    clear_bit p false e k = other_bit p e

    by : ((y : ℕ) → within g y ≡ y → is_listed (rows_of g) y ≡ true) → (t : Bool) → is_set q x ≡ t → (is_listed (rows_of g) x || is_listed (map (with_bit q true) (rows_of g)) x) ≡ true
    by again true t =
        let y = within g x in
        let is : with_bit q true y ≡ x = same_row _ _ (λ p. set_bit p (p == q) refl t) in
        ap (λ b. is_listed (rows_of g) x || b) (ap (is_listed (map (with_bit q true) (rows_of g))) (sym is) ∙ is_listed-map (with_bit q true) (rows_of g) y (again y (within_twice g x))) ∙ or_true (is_listed (rows_of g) x)
    by again false t =
        let inside : within g x ≡ x = same_row _ _ (λ p. is_set-within g p x ∙ clear_bit p (p == q) refl t) in
        ap (λ b. b || is_listed (map (with_bit q true) (rows_of g)) x) (again x inside)

-- ---- the outcome
-- a multiple of a sum of weights is not below 0, and it is above 0 where the sum is
scaled_natural : (k n : ℕ) (w : Weight) → IsNatural n w → IsNatural (k * n) (scaled k w)
scaled_natural k n w f = record {
  x = (let e = f.x in ap (λ t. pos k *ℤ t) e);
  y = (let a = abs_times (pos k) w.y in let s = ap (λ t. t * t) a in let g = f.y in let h = times_square k (nat_abs w.y) n g in omega arith);
}
  where
    times_square : (k a n : ℕ) → 2 * (a * a) ≤ n * n → 2 * ((k * a) * (k * a)) ≤ (k * n) * (k * n)
    times_square k a n h = let s = mul-le-mul (same k) h in omega arith
      where
        same : (k : ℕ) → k * k ≤ k * k
        same k = omega arith

natural_norm : (n : ℕ) (w : Weight) → IsNatural n w → ¬ (norm w.x w.y <ℤ pos 0)
unfolding norm
natural_norm n w f below =
    let e = square_abs w.y in
    let g : w.x *ℤ w.x ≡ pos (n * n) = ap (λ t. t *ℤ t) f.x in
    let h = f.y in
    omega (arith, ints)

-- the negation of such a weight is not positive
negative : (n : ℕ) (w : Weight) → IsNatural n w → IsAbove (neg_ℤ w.x) (neg_ℤ w.y) → ⊥
unfolding IsAbove
negative n w f (inl h) = let a = h.0 in let b = f.x in omega (arith, ints)
negative n w f (inr h) = natural_norm n w f (subst (λ (z : ℤ). z <ℤ pos 0) (norm-neg w.x w.y) (h.1))

-- such a weight with n above 0 is positive
pub positive : (n : ℕ) (w : Weight) → IsNatural n w → ¬ (n ≡ 0) → IsAbove w.x w.y
unfolding IsAbove
positive n w f some = inl (
  (let a = f.x in omega (arith, ints)),
  not_below (norm w.x w.y) (natural_norm n w f) (λ e. some (sym (ap nat_abs f.x) ∙ norm_zero w.x w.y e)),
)
  where
    not_below : (z : ℤ) → ¬ (z <ℤ pos 0) → ¬ (z ≡ pos 0) → pos 0 <ℤ z
    not_below (pos zero) a b = absurd (b refl)
    not_below (pos (suc z)) a b = omega (arith, ints)
    not_below (negsuc z) a b = absurd (a (omega (arith, ints)))

weightless : (w : Weight) → weight_sum (weight zero_coefficient) w ≡ w
weightless w = same_weight _ _ (omega (arith, ints)) (omega (arith, ints))

-- the rows that fail a test do not weigh where their coefficients are zero
filtered : (v : Vector) (test : ℕ → Bool) (xs : List ℕ) → ((x : ℕ) → test x ≡ false → v x ≡ zero_coefficient) → weight_of v (filter test xs) ≡ weight_of v xs
unfolding weight_of
filtered v test [] zero_at = refl
filtered v test (x ∷ xs) zero_at = by (test x) refl (filtered v test xs zero_at)
  where
    by : (t : Bool) → test x ≡ t → weight_of v (filter test xs) ≡ weight_of v xs → weight_of v (cond (test x) (x ∷ filter test xs) (filter test xs)) ≡ weight_sum (weight (v x)) (weight_of v xs)
    by true t h = ap (λ b. weight_of v (cond b (x ∷ filter test xs) (filter test xs))) t ∙ ap (weight_sum (weight (v x))) h
    by false t h = ap (λ b. weight_of v (cond b (x ∷ filter test xs) (filter test xs))) t ∙ h ∙ sym (ap (λ z. weight_sum (weight z) (weight_of v xs)) (zero_at x t) ∙ weightless (weight_of v xs))

-- rows whose coefficients are zero do not weigh
none_filtered : (v : Vector) (test : ℕ → Bool) (xs : List ℕ) → ((x : ℕ) → test x ≡ true → v x ≡ zero_coefficient) → weight_of v (filter test xs) ≡ no_weight
unfolding weight_of
none_filtered v test [] zero_at = refl
none_filtered v test (x ∷ xs) zero_at = by (test x) refl (none_filtered v test xs zero_at)
  where
    by : (t : Bool) → test x ≡ t → weight_of v (filter test xs) ≡ no_weight → weight_of v (cond (test x) (x ∷ filter test xs) (filter test xs)) ≡ no_weight
    by true t h = ap (λ b. weight_of v (cond b (x ∷ filter test xs) (filter test xs))) t ∙ ap (λ z. weight_sum (weight z) (weight_of v (filter test xs))) (zero_at x t) ∙ weightless (weight_of v (filter test xs)) ∙ h
    by false t h = ap (λ b. weight_of v (cond b (x ∷ filter test xs) (filter test xs))) t ∙ h

-- the comparison where no row has the bit 1
less_none : (word n : ℕ) (p : Weight) → IsNatural n p → is_less (scaled word p) (scaled (2 ^ 64) no_weight) ≡ true → ⊥
unfolding is_less is_positive
less_none word n p f e =
    negative (word * n) (scaled word p) (scaled_natural word n p f)
    (subst (λ (z : ℤ). IsAbove z (neg_ℤ (scaled word p).y)) (minus_x (scaled word p)) (subst (λ (z : ℤ). IsAbove ((scaled (2 ^ 64) no_weight).x -ℤ (scaled word p).x) z) (minus_y (scaled word p)) (positive-true _ _ e)))
  where
    minus_x : (w : Weight) → (scaled (2 ^ 64) no_weight).x -ℤ w.x ≡ neg_ℤ w.x
    minus_x w = omega (arith, ints)

    minus_y : (w : Weight) → (scaled (2 ^ 64) no_weight).y -ℤ w.y ≡ neg_ℤ w.y
    minus_y w = omega (arith, ints)

product_some : (m n : ℕ) → ¬ (m ≡ 0) → ¬ (n ≡ 0) → ¬ (m * n ≡ 0)
product_some zero n h k e = h refl
product_some (suc m) zero h k e = k refl
product_some (suc m) (suc n) h k e = grind arith

scaled_difference : (a k word : ℕ) (z : ℤ) → a ≡ k + word → pos k *ℤ z ≡ pos a *ℤ z -ℤ pos word *ℤ z
scaled_difference a k word z e =
    let u = ap (λ t. t * up z) e in
    let d = ap (λ t. t * down z) e in
    same_in (pos k *ℤ z) (pos a *ℤ z -ℤ pos word *ℤ z) (omega (arith, product_is, sum_is_lem, neg_is))

-- the comparison where each row has the bit 1
less_all : (word n : ℕ) (p : Weight) → IsNatural n p → ¬ (n ≡ 0) → word < 2 ^ 64 → is_less (scaled word p) (scaled (2 ^ 64) p) ≡ true
unfolding is_less is_positive
less_all word n p f some h = above-positive _ _
    (subst (λ (z : ℤ). IsAbove z ((scaled (2 ^ 64) p).y -ℤ (scaled word p).y)) (rest_x p.x) (subst (λ (z : ℤ). IsAbove ((scaled (2 ^ 64 - word) p).x) z) (rest_y p.y)
    (positive ((2 ^ 64 - word) * n) (scaled (2 ^ 64 - word) p) (scaled_natural (2 ^ 64 - word) n p f) (product_some (2 ^ 64 - word) n (λ e. absurd (omega arith)) some))))
  where
    rest_x : (x : ℤ) → (scaled (2 ^ 64 - word) p).x ≡ (scaled (2 ^ 64) p).x -ℤ (scaled word p).x
    rest_x x = scaled_difference (2 ^ 64) (2 ^ 64 - word) word p.x (omega arith)

    rest_y : (y : ℤ) → (scaled (2 ^ 64 - word) p).y ≡ (scaled (2 ^ 64) p).y -ℤ (scaled word p).y
    rest_y y = scaled_difference (2 ^ 64) (2 ^ 64 - word) word p.y (omega arith)

-- what the drawn outcome keeps has a row
pub kept_some_row : (live : List ℕ) (v : Vector) (q word : ℕ) → word < 2 ^ 64 → IsOver live v → ¬ ((x : ℕ) → v x ≡ zero_coefficient) → ¬ ((x : ℕ) → keep q (draw live v q word) v x ≡ zero_coefficient)
unfolding keep draw whole_weight one_weight
kept_some_row live v q word small over some nothing = by (draw live v q word) refl
  where
    rows : List ℕ
    rows = rows_of live

    total : IsNatural (sum_squares v rows) (weight_of v rows)
    total = weights_natural v rows

    total_some : ¬ (sum_squares v rows ≡ 0)
    total_some e = some (λ x. stable (v x) zero_coefficient (λ row. row (no_sum v rows x (rows_complete live x (over x row)) e)))

    again : (b : Bool) (y : ℕ) → is_set q y ≡ b → with_bit q b (with_bit q false y) ≡ y
    again b y e = same_row _ _ (λ p. at p (p == q) refl)
      where
        at : (p : ℕ) (t : Bool) → (p == q) ≡ t → is_set p (with_bit q b (with_bit q false y)) ≡ is_set p y
        at p true f = ap (λ n. is_set n (with_bit q b (with_bit q false y))) (eq_of p q f) ∙ is_set-with_bit_same q b _ ∙ sym (ap (λ n. is_set n y) (eq_of p q f) ∙ e)
        at p false f = is_set-with_bit_other p q b _ (ne_of p q f) ∙ is_set-with_bit_other p q false y (ne_of p q f)

    zero_at : (b : Bool) → draw live v q word ≡ b → (y : ℕ) → is_set q y ≡ b → v y ≡ zero_coefficient
    zero_at b e y f = ap v (sym (again b y f)) ∙ sym (ap (λ t. cond t zero_coefficient (v (with_bit q b (with_bit q false y)))) (is_set-with_bit_same q false y)) ∙ ap (λ d. keep q d v (with_bit q false y)) (sym e) ∙ nothing (with_bit q false y)

    by : (b : Bool) → draw live v q word ≡ b → ⊥
    by true e = less_none word (sum_squares v rows) (weight_of v rows) total
        (ap (λ w. is_less (scaled word (weight_of v rows)) (scaled (2 ^ 64) w)) (sym (none_filtered v (is_set q) rows (zero_at true e))) ∙ e)
    by false e = clash (sym (less_all word (sum_squares v rows) (weight_of v rows) total total_some small)
        ∙ ap (λ w. is_less (scaled word (weight_of v rows)) (scaled (2 ^ 64) w)) (sym (filtered v (is_set q) rows (zero_at false e))) ∙ e)
