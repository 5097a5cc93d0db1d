-- Weights times those of units, and over those of 1 - w and 1 + w, as the code computes them.
use Rattle.std.proofs.Common.{◌≡◌, ◌<◌, ◌^◌, ℤ, pos, ◌+ℤ◌, ◌-ℤ◌, neg_ℤ, unsigned_abs, refl, sym, ap, ◌∙◌, arith, [], ◌∷◌}
use Rattle.std.proofs.lemmas.Int.{ints}
use Rattle.state_model.specs.Coefficient.{Weight}
use Rattle.state_model.specs.Divisors.{weight_product}
use Rattle.omega_ring.specs.Range.{PartsBelow}
use Rattle.state_model.proofs.Delta.{product-conjugate, product-delta}
use Rattle.state_model.proofs.Expressions.{pair, mul_pair, equal_pairs, same_weight}
use Rattle.state_model.proofs.Inequalities.{order}
use Rattle.state_model.proofs.Polynomial.{number, plus, less}
use Rattle.omega_ring.proofs.Stored.{long, back_of}

-- ---- times those of √2 - 1 and √2 + 1
pub product-unit_down : (v : Weight) → weight_product v record { x = pos 3; y = neg_ℤ (pos 2) } ≡ record { x = (v.x +ℤ v.x +ℤ v.x) -ℤ (v.y +ℤ v.y +ℤ v.y +ℤ v.y); y = (v.y +ℤ v.y +ℤ v.y) -ℤ (v.x +ℤ v.x) }
product-unit_down v =
    let t = pair 0 in
    equal_pairs (v.x ∷ v.y ∷ []) (mul_pair t record { x = number (pos 3); y = number (neg_ℤ (pos 2)) }) record { x = less (plus (plus t.x t.x) t.x) (plus (plus (plus t.y t.y) t.y) t.y); y = less (plus (plus t.y t.y) t.y) (plus t.x t.x) } refl refl

pub product-unit_up : (v : Weight) → weight_product v record { x = pos 3; y = pos 2 } ≡ record { x = (v.x +ℤ v.x +ℤ v.x) +ℤ (v.y +ℤ v.y +ℤ v.y +ℤ v.y); y = (v.y +ℤ v.y +ℤ v.y) +ℤ (v.x +ℤ v.x) }
product-unit_up v =
    let t = pair 0 in
    equal_pairs (v.x ∷ v.y ∷ []) (mul_pair t record { x = number (pos 3); y = number (pos 2) }) record { x = plus (plus (plus t.x t.x) t.x) (plus (plus (plus t.y t.y) t.y) t.y); y = plus (plus (plus t.y t.y) t.y) (plus t.x t.x) } refl refl

-- ---- over those of 1 + w and 1 - w
-- a sum and a difference of small numbers, as their bits are read
long_difference : (x y : ℤ) → unsigned_abs x < 2 ^ 122 → unsigned_abs y < 2 ^ 122 → long (long x -ℤ long y) ≡ x -ℤ y
long_difference x y p q = rw (back_of x (omega (arith, p)), back_of y (omega (arith, q))) (back_of (x -ℤ y) (omega (arith, ints)))

long_sum : (x y : ℤ) → unsigned_abs x < 2 ^ 122 → unsigned_abs y < 2 ^ 122 → long (long x +ℤ long y) ≡ x +ℤ y
long_sum x y p q = rw (back_of x (omega (arith, p)), back_of y (omega (arith, q))) (back_of (x +ℤ y) (omega (arith, ints)))

half_small : (x h : ℤ) → unsigned_abs x < 2 ^ 122 → x ≡ h +ℤ h → unsigned_abs h < 2 ^ 122
half_small x h p e = omega (arith, ints)

pub over_conjugate_is : (w : Weight) (h : ℤ) → PartsBelow (2 ^ 122) w → long w.x ≡ h +ℤ h → w ≡ weight_product record { x = long (long w.x -ℤ long w.y); y = long (long w.y -ℤ long h) } record { x = pos 2; y = pos 1 }
over_conjugate_is w h s f =
    let e = sym (back_of w.x (omega (arith, s.x))) ∙ f in
    at w h e ∙ ap (λ (t : Weight). weight_product t record { x = pos 2; y = pos 1 }) (sym (same_weight _ record { x = w.x -ℤ w.y; y = w.y -ℤ h } (long_difference w.x w.y s.x s.y) (long_difference w.y h s.y (half_small w.x h s.x e))))
  where
    at : (w : Weight) (h : ℤ) → w.x ≡ h +ℤ h → w ≡ weight_product record { x = w.x -ℤ w.y; y = w.y -ℤ h } record { x = pos 2; y = pos 1 }
    at w h e =
        let v : Weight = record { x = w.x -ℤ w.y; y = w.y -ℤ h } in
        same_weight w record { x = v.x +ℤ v.x +ℤ v.y +ℤ v.y; y = v.x +ℤ v.y +ℤ v.y } (omega (arith, order)) (omega (arith, order)) ∙ sym (product-conjugate v)

pub over_delta_is : (w : Weight) (h : ℤ) → PartsBelow (2 ^ 122) w → long w.x ≡ h +ℤ h → w ≡ weight_product record { x = long (long w.x +ℤ long w.y); y = long (long w.y +ℤ long h) } record { x = pos 2; y = neg_ℤ (pos 1) }
over_delta_is w h s f =
    let e = sym (back_of w.x (omega (arith, s.x))) ∙ f in
    at w h e ∙ ap (λ (t : Weight). weight_product t record { x = pos 2; y = neg_ℤ (pos 1) }) (sym (same_weight _ record { x = w.x +ℤ w.y; y = w.y +ℤ h } (long_sum w.x w.y s.x s.y) (long_sum w.y h s.y (half_small w.x h s.x e))))
  where
    at : (w : Weight) (h : ℤ) → w.x ≡ h +ℤ h → w ≡ weight_product record { x = w.x +ℤ w.y; y = w.y +ℤ h } record { x = pos 2; y = neg_ℤ (pos 1) }
    at w h e =
        let v : Weight = record { x = w.x +ℤ w.y; y = w.y +ℤ h } in
        same_weight w record { x = v.x +ℤ v.x -ℤ v.y -ℤ v.y; y = v.y +ℤ v.y -ℤ v.x } (omega (arith, order)) (omega (arith, order)) ∙ sym (product-delta v)
