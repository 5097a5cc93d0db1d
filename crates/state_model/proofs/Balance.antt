-- Steps by 3 - 2 √2, which make the x of a weight smaller while 2 y is greater than x.
use Rattle.std.proofs.Common.{◌≡◌, ℕ, suc, zero, ◌+◌, ◌*◌, ◌<◌, ◌^◌, ℤ, pos, negsuc, ◌+ℤ◌, ◌-ℤ◌, ◌*ℤ◌, neg_ℤ, ◌≤ℤ◌, ◌<ℤ◌, nat_abs, refl, sym, subst, ap, ◌∙◌, arith, ⊎_elim, [], ◌∷◌}
use Rattle.std.proofs.lemmas.Int.{by_lt_z}
use Rattle.std.proofs.lemmas.Nat.{pow_below}
use Rattle.std.proofs.lemmas.Bool.{cases_lt}
use lib.IntN.{neg_ℤ-neg_ℤ}
use Rattle.state_model.specs.Coefficient.{Weight}
use Rattle.state_model.specs.Divisors.{weight_product, unit_weight, unit_weight_down, unit_power, IsBalanced}
use Rattle.state_model.proofs.Polynomial.{var, number, plus, times, minus, less, square, two, equal}
use Rattle.state_model.proofs.Expressions.{pair, mul_pair, equal_pairs, same_weight}
use Rattle.state_model.proofs.Inequalities.{order, doubled, tripled, fourfold, square_not_negative, product_not_negative, product_positive, below_of_product}

abbrev pub next_x : ℤ → ℤ → ℤ
next_x x y = pos 3 *ℤ x -ℤ pos 4 *ℤ y

abbrev pub next_y : ℤ → ℤ → ℤ
next_y x y = pos 3 *ℤ y -ℤ pos 2 *ℤ x

pub y_below : (x y : ℤ) → pos 0 <ℤ x → (pos 2 *ℤ (y *ℤ y)) <ℤ (x *ℤ x) → (y <ℤ x) × (neg_ℤ y <ℤ x)
y_below x y h r = (by_lt_z y x (λ p. p) (λ l. absurd (above l)), by_lt_z (neg_ℤ y) x (λ p. p) (λ l. absurd (below l)))
  where
    d : pos 2 *ℤ (y *ℤ y) ≡ y *ℤ y +ℤ y *ℤ y
    d = doubled (y *ℤ y)

    above : x ≤ℤ y → ⊥
    above l =
        let p = product_not_negative (y -ℤ x) (y +ℤ x) (omega (arith, order)) (omega (arith, order)) in
        let e : (y -ℤ x) *ℤ (y +ℤ x) ≡ y *ℤ y -ℤ x *ℤ x = let s = var 0 in let t = var 1 in equal (y ∷ x ∷ []) (times (less s t) (plus s t)) (less (square s) (square t)) refl in
        let f = square_not_negative y in
        let g = d in
        omega (arith, order)

    below : x ≤ℤ neg_ℤ y → ⊥
    below l =
        let p = product_not_negative (neg_ℤ y -ℤ x) (neg_ℤ y +ℤ x) (omega (arith, order)) (omega (arith, order)) in
        let e : (neg_ℤ y -ℤ x) *ℤ (neg_ℤ y +ℤ x) ≡ y *ℤ y -ℤ x *ℤ x = let s = var 0 in let t = var 1 in equal (y ∷ x ∷ []) (times (less (minus s) t) (plus (minus s) t)) (less (square s) (square t)) refl in
        let f = square_not_negative y in
        let g = d in
        omega (arith, order)

pub next_positive : (x y : ℤ) → pos 0 <ℤ x → (pos 2 *ℤ (y *ℤ y)) <ℤ (x *ℤ x) → x <ℤ (y +ℤ y) → pos 0 <ℤ next_x x y
next_positive x y h r l =
    let k = pos 3 *ℤ x +ℤ pos 4 *ℤ y in
    let a = tripled x in
    let b = fourfold y in
    let e : k *ℤ next_x x y ≡ x *ℤ x +ℤ pos 8 *ℤ (x *ℤ x -ℤ pos 2 *ℤ (y *ℤ y)) =
    let s = var 0 in let t = var 1 in let p = times (number (pos 3)) s in let q = times (number (pos 4)) t in
    equal (x ∷ y ∷ []) (times (plus p q) (less p q)) (plus (square s) (times (number (pos 8)) (less (square s) (times two (square t))))) refl in
    let f = product_positive (pos 8) (x *ℤ x -ℤ pos 2 *ℤ (y *ℤ y)) (omega (arith, order)) (omega (arith, order)) in
    let g = product_positive x x h h in
    let z : k *ℤ pos 0 ≡ pos 0 = equal (k ∷ []) (times (var 0) (number (pos 0))) (number (pos 0)) refl in
    below_of_product k (pos 0) (next_x x y) (omega (arith, order)) (omega (arith, order))

pub next_smaller : (x y : ℤ) → x <ℤ (y +ℤ y) → next_x x y <ℤ x
next_smaller x y l = let a = tripled x in let b = fourfold y in omega (arith, order)

pub next_low : (x y : ℤ) → x <ℤ (y +ℤ y) → neg_ℤ (next_y x y +ℤ next_y x y) ≤ℤ next_x x y
next_low x y l = let a = tripled x in let b = fourfold y in let c = tripled y in let d = doubled x in omega (arith, order)

pub next_real : (x y : ℤ) → (pos 2 *ℤ (y *ℤ y)) <ℤ (x *ℤ x) → (pos 2 *ℤ (next_y x y *ℤ next_y x y)) <ℤ (next_x x y *ℤ next_x x y)
next_real x y r =
    let e : next_x x y *ℤ next_x x y -ℤ pos 2 *ℤ (next_y x y *ℤ next_y x y) ≡ x *ℤ x -ℤ pos 2 *ℤ (y *ℤ y) =
    let s = var 0 in let t = var 1 in let three = number (pos 3) in
    equal (x ∷ y ∷ []) (less (square (less (times three s) (times (number (pos 4)) t))) (times two (square (less (times three t) (times two s))))) (less (square s) (times two (square t))) refl in
    omega (arith, order)

-- one step more
pub next_value : (x y : ℤ) (w : Weight) (k : ℕ) → w ≡ weight_product record { x = next_x x y; y = next_y x y } (unit_weight_down k) → w ≡ weight_product record { x = x; y = y } (unit_weight_down (k + 1))
next_value x y w k e = e ∙ turn (unit_weight_down k) ∙ ap (λ (n : ℕ). weight_product record { x = x; y = y } (unit_weight_down n)) (one_more k)
  where
    one_more : (k : ℕ) → suc k ≡ k + 1
    one_more k = omega arith

    turn : (u : Weight) → weight_product record { x = next_x x y; y = next_y x y } u ≡ weight_product record { x = x; y = y } (weight_product u record { x = pos 3; y = neg_ℤ (pos 2) })
    turn u =
        let v = pair 0 in let t = pair 2 in let three = number (pos 3) in
        equal_pairs (x ∷ y ∷ u.x ∷ u.y ∷ [])
        (mul_pair record { x = less (times three v.x) (times (number (pos 4)) v.y); y = less (times three v.y) (times two v.x) } t)
        (mul_pair v (mul_pair t record { x = three; y = minus two })) refl refl

twice : (k : ℕ) → 2 ^ (k + 1) ≡ 2 * 2 ^ k
twice k = let e : k + 1 ≡ suc k = omega arith in let f : 2 ^ suc k ≡ 2 * 2 ^ k = omega arith in ap (λ (n : ℕ). 2 ^ n) e ∙ f

pub next_steps : (x y : ℤ) (k : ℕ) → pos 0 <ℤ x → ((next_y x y +ℤ next_y x y) ≤ℤ next_x x y → k ≡ 0) → pos (2 ^ k) ≤ℤ (next_x x y +ℤ next_x x y) → pos (2 ^ (k + 1)) ≤ℤ (x +ℤ x)
next_steps x y k h done l =
    let a = tripled x in let b = fourfold y in let c = tripled y in let d = doubled x in
    by_lt_z (next_x x y) (next_y x y +ℤ next_y x y)
    (λ p. let e : 2 ^ (k + 1) ≡ 2 * 2 ^ k = twice k in omega (arith, order, ap pos e))
    (λ p. let e : k ≡ 0 = done p in let f : 2 ^ (k + 1) ≡ 2 = ap (λ (n : ℕ). 2 ^ (n + 1)) e in omega (arith, order, ap pos f))

pub few_steps : (x : ℤ) (k : ℕ) → pos (2 ^ k) ≤ℤ (x +ℤ x) → x <ℤ pos (2 ^ 122) → k < 124
few_steps x k l h = ⊎_elim (λ p. p) (λ p. let q : 2 ^ 123 < 2 ^ k = pow_below 123 k (omega arith) in absurd (omega (arith, order))) (cases_lt k 124)

-- what holds of the next weight, under other names
pub record IsNext (x y u v : ℤ) : Type 0 where
  pub x_is : u ≡ next_x x y
  pub y_is : v ≡ next_y x y
  pub positive : pos 0 <ℤ u
  pub smaller : u <ℤ x
  pub low : neg_ℤ (v +ℤ v) ≤ℤ u
  pub real : (pos 2 *ℤ (v *ℤ v)) <ℤ (u *ℤ u)

pub is_next : (x y u v : ℤ) → u ≡ next_x x y → v ≡ next_y x y → pos 0 <ℤ x → (pos 2 *ℤ (y *ℤ y)) <ℤ (x *ℤ x) → x <ℤ (y +ℤ y) → IsNext x y u v
is_next x y u v e f h r l = record {
  x_is = e;
  y_is = f;
  positive = rw e (next_positive x y h r l);
  smaller = rw e (next_smaller x y l);
  low = rw (e, f) (next_low x y l);
  real = rw (e, f) (next_real x y r);
}

pub value_along : (x y u v : ℤ) (w : Weight) (k : ℕ) → IsNext x y u v → w ≡ weight_product record { x = u; y = v } (unit_weight_down k) → w ≡ weight_product record { x = x; y = y } (unit_weight_down (k + 1))
value_along x y u v w k n e = next_value x y w k (e ∙ ap (λ (z : Weight). weight_product z (unit_weight_down k)) (same_weight record { x = u; y = v } record { x = next_x x y; y = next_y x y } n.x_is n.y_is))

pub steps_along : (x y u v : ℤ) (k : ℕ) → IsNext x y u v → pos 0 <ℤ x → ((v +ℤ v) ≤ℤ u → k ≡ 0) → pos (2 ^ k) ≤ℤ (u +ℤ u) → pos (2 ^ (k + 1)) ≤ℤ (x +ℤ x)
steps_along x y u v k n h done l = next_steps x y k h (rw (n.x_is, n.y_is) at done) (rw (n.x_is) at l)

-- ---- the two directions
abbrev pub flip : Weight → Weight
flip v = record { x = v.x; y = neg_ℤ v.y }

flip_product : (v w : Weight) → flip (weight_product v w) ≡ weight_product (flip v) (flip w)
flip_product v w =
    let a = pair 0 in let b = pair 2 in
    equal_pairs (v.x ∷ v.y ∷ w.x ∷ w.y ∷ []) record { x = (mul_pair a b).x; y = minus (mul_pair a b).y } (mul_pair record { x = a.x; y = minus a.y } record { x = b.x; y = minus b.y }) refl refl

flip_unit : (k : ℕ) → flip (unit_weight_down k) ≡ unit_weight k
flip_unit zero = refl
flip_unit (suc k) = flip_product (unit_weight_down k) record { x = pos 3; y = neg_ℤ (pos 2) } ∙ ap (λ (v : Weight). weight_product v record { x = pos 3; y = pos 2 }) (flip_unit k)

twice_flip : (v : Weight) → flip (flip v) ≡ v
twice_flip v = same_weight (flip (flip v)) v refl (neg_ℤ-neg_ℤ v.y)

pub flip_value : (v r : Weight) (k : ℕ) → r ≡ weight_product (flip v) (unit_weight_down k) → flip r ≡ weight_product v (unit_weight k)
flip_value v r k e =
    ap flip e ∙ flip_product (flip v) (unit_weight_down k) ∙ ap (weight_product (flip (flip v))) (flip_unit k) ∙ ap (λ (w : Weight). weight_product w (unit_weight k)) (twice_flip v)

pub power_down : (k : ℕ) (z : ℤ) → z ≡ neg_ℤ (pos k) → unit_power z ≡ unit_weight_down k
power_down k z e = ap unit_power e ∙ at k
  where
    at : (k : ℕ) → unit_power (neg_ℤ (pos k)) ≡ unit_weight_down k
    at zero = refl
    at (suc k) = refl

pub power_up : (k : ℕ) (z : ℤ) → z ≡ pos k → unit_power z ≡ unit_weight k
power_up k z e = ap unit_power e

-- ---- no step was one too many
-- the weight at the start isn't balanced, and neither is any of those before the last
pub unbalanced_along : (x y u v : ℤ) (n : ℕ) → IsNext x y u v → x <ℤ (y +ℤ y)
    → ((k : ℕ) → k < n → ¬ IsBalanced (weight_product record { x = u; y = v } (unit_weight_down k)))
    → (k : ℕ) → k < n + 1 → ¬ IsBalanced (weight_product record { x = x; y = y } (unit_weight_down k))
unbalanced_along x y u v n next l rest zero h b = let k = b.high in let e = at_start.0 in let f = at_start.1 in omega (arith, order)
  where
    at_start : (x *ℤ pos 1 +ℤ pos 2 *ℤ (y *ℤ pos 0) ≡ x) × (x *ℤ pos 0 +ℤ y *ℤ pos 1 ≡ y)
    at_start =
        let s = var 0 in let t = var 1 in let o = number (pos 0) in let i = number (pos 1) in
        (equal (x ∷ y ∷ []) (plus (times s i) (times two (times t o))) s refl, equal (x ∷ y ∷ []) (plus (times s o) (times t i)) t refl)
unbalanced_along x y u v n next l rest (suc k) h b = rest k (omega arith) (subst IsBalanced (sym (subst (λ (m : ℕ). weight_product record { x = u; y = v } (unit_weight_down k) ≡ weight_product record { x = x; y = y } (unit_weight_down m)) (one_more k) (value_along x y u v _ k next refl))) b)
  where
    one_more : (k : ℕ) → k + 1 ≡ suc k
    one_more k = omega arith

-- y is greater than half of x
pub record IsHigh (p : Weight) : Type 0 where
  pub positive : pos 0 <ℤ p.x
  pub high : p.x <ℤ (p.y +ℤ p.y)

-- steps by 3 + 2 √2 keep y greater than half of x
high_up : (p : Weight) → IsHigh p → (k : ℕ) → IsHigh (weight_product p (unit_weight k))
high_up p h zero = subst IsHigh (sym (times_one p)) h
  where
    times_one : (p : Weight) → weight_product p record { x = pos 1; y = pos 0 } ≡ p
    times_one p = equal_pairs (p.x ∷ p.y ∷ []) (mul_pair (pair 0) record { x = number (pos 1); y = number (pos 0) }) (pair 0) refl refl
high_up p h (suc k) = subst IsHigh (sym (up_value p (unit_weight k))) (higher (weight_product p (unit_weight k)) (high_up p h k))
  where
    up_value : (p u : Weight) → weight_product p (weight_product u record { x = pos 3; y = pos 2 })
        ≡ record { x = pos 3 *ℤ (weight_product p u).x +ℤ pos 4 *ℤ (weight_product p u).y; y = pos 2 *ℤ (weight_product p u).x +ℤ pos 3 *ℤ (weight_product p u).y }
    up_value p u =
        let a = pair 0 in let b = pair 2 in let r = mul_pair a b in let three = number (pos 3) in
        equal_pairs (p.x ∷ p.y ∷ u.x ∷ u.y ∷ []) (mul_pair a (mul_pair b record { x = three; y = two })) record { x = plus (times three r.x) (times (number (pos 4)) r.y); y = plus (times two r.x) (times three r.y) } refl refl

    higher : (r : Weight) → IsHigh r → IsHigh record { x = pos 3 *ℤ r.x +ℤ pos 4 *ℤ r.y; y = pos 2 *ℤ r.x +ℤ pos 3 *ℤ r.y }
    higher r h =
        let p = h.positive in let q = h.high in
        let a = tripled r.x in let b = fourfold r.y in let c = doubled r.x in let d = tripled r.y in
        record { positive = omega (arith, order); high = omega (arith, order) }

-- where n steps by 3 - 2 √2 were the first to balance p, no power nearer to 0 does
pub first_down : (p : Weight) (n : ℕ) (q : ℤ) → nat_abs q ≡ n → pos 0 <ℤ p.x → ((p.y +ℤ p.y) ≤ℤ p.x → n ≡ 0)
    → ((k : ℕ) → k < n → ¬ IsBalanced (weight_product p (unit_weight_down k)))
    → (k : ℤ) → nat_abs k < nat_abs q → ¬ IsBalanced (weight_product p (unit_power k))
first_down p n q e h done rest (pos k) l b =
    let u : IsHigh p = record { positive = h; high = by_lt_z p.x (p.y +ℤ p.y) (λ c. c) (λ c. let z = done c in absurd (omega arith)) } in
    let r = high_up p u k in
    let c = b.high in let d = r.high in
    omega (arith, order)
first_down p n q e h done rest (negsuc k) l b = rest (suc k) (omega arith) b

flip_up : (k : ℕ) → flip (unit_weight k) ≡ unit_weight_down k
flip_up k = ap flip (sym (flip_unit k)) ∙ twice_flip (unit_weight_down k)

flip_balanced : (p q : Weight) → flip p ≡ q → IsBalanced p → IsBalanced q
flip_balanced p q e b = subst IsBalanced e (turned p b)
  where
    turned : (p : Weight) → IsBalanced p → IsBalanced (flip p)
    turned p b = let h = b.high in let l = b.low in record { high = omega (arith, order); low = omega (arith, order) }

-- the same upward, where the flipped weight was stepped down
pub first_up : (p : Weight) (n : ℕ) (q : ℤ) → nat_abs q ≡ n → pos 0 <ℤ p.x → (((flip p).y +ℤ (flip p).y) ≤ℤ p.x → n ≡ 0)
    → ((k : ℕ) → k < n → ¬ IsBalanced (weight_product (flip p) (unit_weight_down k)))
    → (k : ℤ) → nat_abs k < nat_abs q → ¬ IsBalanced (weight_product p (unit_power k))
first_up p n q e h done rest (pos k) l b = first_down (flip p) n q e h done rest (neg_ℤ (pos k)) (at_neg k l) (flip_balanced _ _ (flip_product p (unit_weight k) ∙ ap (weight_product (flip p)) (flip_up k ∙ sym (power_down k (neg_ℤ (pos k)) refl))) b)
  where
    at_neg : (k : ℕ) → k < nat_abs q → nat_abs (neg_ℤ (pos k)) < nat_abs q
    at_neg zero l = l
    at_neg (suc k) l = l
first_up p n q e h done rest (negsuc k) l b = first_down (flip p) n q e h done rest (pos (suc k)) l (flip_balanced _ _ (flip_product p (unit_weight_down (suc k)) ∙ ap (weight_product (flip p)) (flip_unit (suc k))) b)
