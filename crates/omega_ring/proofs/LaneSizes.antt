-- How large sums are of lists whose numbers are small.
use Rattle.std.proofs.Common.{◌≡◌, ℕ, suc, ◌*◌, ◌<◌, ◌≤◌, ◌^◌, ℤ, pos, ◌+ℤ◌, ◌*ℤ◌, ◌≤ℤ◌, ◌<ℤ◌, unsigned_abs, Bool, true, false, ltb, List, [], ◌∷◌, length, take, replicate, refl, sym, subst, arith}
use native.Mathlib.Nat.{mul-le-mul}
use Rattle.std.proofs.lemmas.Int.{ints, unsigned_abs-mul}
use Rattle.std.proofs.lemmas.Bool.{ltb-true, ltb-false}
use Rattle.std.proofs.lemmas.List.{get_or_past, get_or-replicate, length-replicate, get_or-take, length-take}
use Rattle.state_model.specs.CoefficientList.{total_weight}
use Rattle.omega_ring.specs.Lanes.{place, AreBelow, lane_values}

-- the first places of a list
pub below_take : (n k : ℕ) (xs : List ℤ) → 0 < n → AreBelow n xs → AreBelow n (take k xs)
below_take n k xs p h = record { each = λ j. by j (ltb j k) refl }
  where
    by : (j : ℕ) (t : Bool) → ltb j k ≡ t → unsigned_abs (place (take k xs) j) < n
    by j true e = subst (λ (x : ℤ). unsigned_abs x < n) (sym (get_or-take k xs j (pos 0) (ltb-true j k e))) (h.each j)
    by j false e = subst (λ (x : ℤ). unsigned_abs x < n) (sym (get_or_past (take k xs) j (pos 0) (omega (arith, ltb-false j k e, length-take k xs)))) p

square_below : (x : ℤ) → unsigned_abs x < 1000 → (x *ℤ x) <ℤ pos 1000000
square_below x h =
    let k : unsigned_abs x ≤ 999 = omega arith in
    let l : unsigned_abs (x *ℤ x) ≤ 999 * 999 = omega (arith, unsigned_abs-mul x x, mul-le-mul k k) in
    small (x *ℤ x) l
  where
    small : (z : ℤ) → unsigned_abs z ≤ 999 * 999 → z <ℤ pos 1000000
    small z l = omega (arith, ints)

rest : (n : ℕ) (x : ℤ) (xs : List ℤ) → AreBelow n (x ∷ xs) → AreBelow n xs
rest n x xs h = record { each = λ i. h.each (suc i) }

-- the sum of squares over lists of small numbers
pub total_below : (a b c d : List ℤ) → AreBelow 1000 a → AreBelow 1000 b → AreBelow 1000 c → AreBelow 1000 d → (total_weight (lane_values a b c d)).x ≤ℤ pos (4000000 * length a)
total_below [] b c d h k l m = omega (arith, ints)
total_below (p ∷ a) [] c d h k l m = omega (arith, ints)
total_below (p ∷ a) (q ∷ b) [] d h k l m = omega (arith, ints)
total_below (p ∷ a) (q ∷ b) (r ∷ c) [] h k l m = omega (arith, ints)
total_below (p ∷ a) (q ∷ b) (r ∷ c) (s ∷ d) h k l m =
    more (p *ℤ p) (q *ℤ q) (r *ℤ r) (s *ℤ s) (total_weight (lane_values a b c d)).x (length a)
    (square_below p (h.each 0)) (square_below q (k.each 0)) (square_below r (l.each 0)) (square_below s (m.each 0))
    (total_below a b c d (rest 1000 p a h) (rest 1000 q b k) (rest 1000 r c l) (rest 1000 s d m))
  where
    more : (p q r s t : ℤ) (n : ℕ) → p <ℤ pos 1000000 → q <ℤ pos 1000000 → r <ℤ pos 1000000 → s <ℤ pos 1000000 → t ≤ℤ pos (4000000 * n) → (p +ℤ q +ℤ r +ℤ s +ℤ t) ≤ℤ pos (4000000 * suc n)
    more p q r s t n e f g h k = omega (arith, ints)

pub total_small : (n : ℕ) (a b c d : List ℤ) → n ≤ 4096 → AreBelow 1000 a → AreBelow 1000 b → AreBelow 1000 c → AreBelow 1000 d → (total_weight (lane_values (take n a) (take n b) (take n c) (take n d))).x <ℤ pos (2 ^ 60)
total_small n a b c d l h k i j =
    along (total_weight (lane_values (take n a) (take n b) (take n c) (take n d))).x (length (take n a)) (omega (arith, length-take n a))
    (total_below (take n a) (take n b) (take n c) (take n d) (below_take 1000 n a (omega arith) h) (below_take 1000 n b (omega arith) k) (below_take 1000 n c (omega arith) i) (below_take 1000 n d (omega arith) j))
  where
    along : (x : ℤ) (m : ℕ) → m ≤ 4096 → x ≤ℤ pos (4000000 * m) → x <ℤ pos (2 ^ 60)
    along x m l h = omega (arith, ints)

-- a list of zeros
pub zeros_below : (n m : ℕ) → 0 < n → AreBelow n (replicate m (pos 0))
zeros_below n m p = record { each = λ i. by i (ltb i m) refl }
  where
    by : (i : ℕ) (t : Bool) → ltb i m ≡ t → unsigned_abs (place (replicate m (pos 0)) i) < n
    by i true e = subst (λ (x : ℤ). unsigned_abs x < n) (sym (get_or-replicate m i (pos 0) (pos 0) (ltb-true i m e))) p
    by i false e = subst (λ (x : ℤ). unsigned_abs x < n) (sym (get_or_past (replicate m (pos 0)) i (pos 0) (omega (arith, ltb-false i m e, length-replicate m (pos 0))))) p
