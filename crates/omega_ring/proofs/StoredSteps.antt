-- The steps by 3 - 2 √2 as the code takes them.
use Rattle.std.proofs.Common.{◌≡◌, ◌<◌, ◌^◌, ℤ, pos, ◌+ℤ◌, ◌*ℤ◌, neg_ℤ, ◌<ℤ◌, unsigned_abs, FitsSigned, to_z, of_z, refl, ap, ◌∙◌, arith, [], ◌∷◌}
use Rattle.std.proofs.lemmas.Int.{ints, to_z-of_z}
use mir.Syntax.{w128}
use Rattle.state_model.specs.Coefficient.{Weight}
use Rattle.state_model.specs.Divisors.{weight_product}
use Rattle.state_model.proofs.Balance.{IsNext, is_next, next_x, next_y, y_below}
use Rattle.state_model.proofs.Expressions.{pair, mul_pair, equal_pairs, same_weight}
use Rattle.state_model.proofs.Polynomial.{number, less, times}
use Rattle.omega_ring.proofs.Stored.{back_of}

-- the product with 3 - 2 √2
times_down : (x y : ℤ) → weight_product record { x = x; y = y } record { x = pos 3; y = neg_ℤ (pos 2) } ≡ record { x = next_x x y; y = next_y x y }
times_down x y =
    let t = pair 0 in
    equal_pairs (x ∷ y ∷ []) (mul_pair t record { x = number (pos 3); y = number (neg_ℤ (pos 2)) }) record { x = less (times (number (pos 3)) t.x) (times (number (pos 4)) t.y); y = less (times (number (pos 3)) t.y) (times (number (pos 2)) t.x) } refl refl

-- the next weight, as the code computed it
pub next_stored : (x y : ℤ) (w : Weight) → FitsSigned w128 x → FitsSigned w128 y → FitsSigned w128 w.x → FitsSigned w128 w.y
    → w ≡ weight_product record { x = to_z w128 (of_z w128 x); y = to_z w128 (of_z w128 y) } record { x = pos 3; y = neg_ℤ (pos 2) }
    → pos 0 <ℤ x → (pos 2 *ℤ (y *ℤ y)) <ℤ (x *ℤ x) → x <ℤ (y +ℤ y) → IsNext x y (to_z w128 (of_z w128 w.x)) (to_z w128 (of_z w128 w.y))
next_stored x y w hx hy hu hv e h r l =
    let f = e ∙ ap (λ (t : Weight). weight_product t record { x = pos 3; y = neg_ℤ (pos 2) }) (same_weight _ record { x = x; y = y } (to_z-of_z w128 x hx) (to_z-of_z w128 y hy)) ∙ times_down x y in
    is_next x y (to_z w128 (of_z w128 w.x)) (to_z w128 (of_z w128 w.y)) (to_z-of_z w128 w.x hu ∙ ap (λ (t : Weight). t.x) f) (to_z-of_z w128 w.y hv ∙ ap (λ (t : Weight). t.y) f) h r l

-- a weight as its bits are read
pub weight_back : (v : Weight) → pos 0 <ℤ v.x → v.x <ℤ pos (2 ^ 122) → (pos 2 *ℤ (v.y *ℤ v.y)) <ℤ (v.x *ℤ v.x) → (to_z w128 (of_z w128 v.x) ≡ v.x) × (to_z w128 (of_z w128 v.y) ≡ v.y)
weight_back v h s r =
    let b : (v.y <ℤ v.x) × (neg_ℤ v.y <ℤ v.x) = y_below v.x v.y h r in
    let p : unsigned_abs v.x < 2 ^ 127 = omega (arith, ints) in
    let q : unsigned_abs v.y < 2 ^ 127 = omega (arith, ints, b.0, b.1) in
    (back_of v.x p, back_of v.y q)
