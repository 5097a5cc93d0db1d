-- Odd sums in four lists: at one place, at eight places that a vector takes, and at places joined.
use Rattle.std.proofs.Common.{◌≡◌, ℕ, ◌+◌, ◌-◌, ◌%◌, ◌<◌, ◌≤◌, ℤ, pos, ◌+ℤ◌, IsTrue, ◌↔◌, Bool, nat_eq, true, false, not, of_z, FitsSigned, List, length, map, get_or, bit_and, bit_or, bit_xor, ltb, refl, sym, ap, subst, ◌∙◌, arith}
use Rattle.std.specs.Int.{w64}
use Rattle.std.specs.Simd.Lanes.{fold_l, zip2}
use Rattle.std.proofs.lemmas.Simd.{get_or-zip2, length-zip2}
use Rattle.std.proofs.lemmas.List.{get_or_past, length-map, get_or-map}
use Rattle.std.proofs.lemmas.Bool.{ltb-true, ltb-false}
use Rattle.state_model.specs.Quotients.{IsEven}
use Rattle.omega_ring.specs.Lanes.{place, AreLanes, IsOddAt, HasOddSum}
use Rattle.omega_ring.specs.LaneSteps.{HasOddBetween, IsChunk}
use Rattle.omega_ring.proofs.LaneLoads.{chunk_place}
use Rattle.omega_ring.proofs.ParityBits.{parity_bits, parity_test, or_even, or_odd, OddWord}

-- ---- places joined
past_even : (a b c d : List ℤ) (i : ℕ) → AreLanes a b c d → length a ≤ i → IsEven (place a i +ℤ place b i +ℤ place c i +ℤ place d i)
past_even a b c d i l h =
    let e = get_or_past a i (pos 0) h in
    let f = get_or_past b i (pos 0) (omega (arith, l.second)) in
    let g = get_or_past c i (pos 0) (omega (arith, l.third)) in
    let k = get_or_past d i (pos 0) (omega (arith, l.fourth)) in
    (pos 0, rw (e, f, g, k) refl)

pub none_join : (a b c d : List ℤ) (s m e : ℕ) → ¬ HasOddBetween s m a b c d → ¬ HasOddBetween m e a b c d → ¬ HasOddBetween s e a b c d
none_join a b c d s m e p q (i, h, k, odd) = by (ltb i m) refl
  where
    by : (t : Bool) → ltb i m ≡ t → ⊥
    by true z = p (i, h, ltb-true i m z, odd)
    by false z = q (i, ltb-false i m z, k, odd)

pub none_one : (a b c d : List ℤ) (i : ℕ) → ¬ IsOddAt a b c d i → ¬ HasOddBetween i (i + 1) a b c d
none_one a b c d i p (j, h, k, odd) = let e : j ≡ i = omega arith in p (subst (IsOddAt a b c d) e odd)

pub none_whole : (a b c d : List ℤ) (m : ℕ) → AreLanes a b c d → ¬ HasOddBetween 0 m a b c d → ¬ HasOddBetween m (length a) a b c d → ¬ HasOddSum a b c d
none_whole a b c d m l p q (i, odd) = by (ltb i (length a)) refl
  where
    by : (t : Bool) → ltb i (length a) ≡ t → ⊥
    by true z = none_join a b c d 0 m (length a) p q (i, omega arith, ltb-true i (length a) z, odd)
    by false z = odd (past_even a b c d i l (ltb-false i (length a) z))

-- the answer for the places from m on is that for all, where no place before is odd
pub odd_whole : (a b c d : List ℤ) (m : ℕ) (found : Bool) → AreLanes a b c d → ¬ HasOddBetween 0 m a b c d → IsTrue found ↔ HasOddBetween m (length a) a b c d → IsTrue found ↔ HasOddSum a b c d
odd_whole a b c d m true l p h = (λ z. let w = h.0 z in (w.0, w.3), λ w. refl)
odd_whole a b c d m false l p h = (λ z. let w = h.0 z in (w.0, w.3), λ w. absurd (none_whole a b c d m l p (λ v. absurd (cc (h.1 v))) w))

-- ---- words
-- the low bits of the four words of a place
abbrev pub word_at : List ℤ → List ℤ → List ℤ → List ℤ → ℕ → ℕ
word_at a b c d k = bit_xor (bit_xor (bit_xor (of_z w64 (place a k)) (of_z w64 (place b k))) (of_z w64 (place c k))) (of_z w64 (place d k))

pub odd_place : (a b c d : List ℤ) (k : ℕ) → FitsSigned w64 (place a k) → FitsSigned w64 (place b k) → FitsSigned w64 (place c k) → FitsSigned w64 (place d k)
    → IsTrue (not (nat_eq (bit_and (word_at a b c d k) 1) 0)) ↔ IsOddAt a b c d k
odd_place a b c d k f g h l = parity_test (word_at a b c d k) (parity_bits (place a k) (place b k) (place c k) (place d k) f g h l)

-- a list of eight words that has f at each place
record Tells (f : ℕ → ℕ) (ms : List ℕ) : Type 0 where
  long : length ms ≡ 8
  each : (k : ℕ) → k < 8 → get_or ms k 0 ≡ f k

tells_xor : (f g : ℕ → ℕ) (ms ns : List ℕ) → Tells f ms → Tells g ns → Tells (λ k. bit_xor (f k) (g k)) (zip2 bit_xor ms ns)
tells_xor f g ms ns h l = record {
  long = length-zip2 bit_xor ms ns (h.long ∙ sym l.long) ∙ h.long;
  each = λ k b. get_or-zip2 bit_xor ms ns k 0 0 0 (omega (arith, h.long)) (omega (arith, l.long)) ∙ ap (λ (x : ℕ). bit_xor x (get_or ns k 0)) (h.each k b) ∙ ap (λ (x : ℕ). bit_xor (f k) x) (l.each k b);
}

tells_chunk : (i : ℕ) (xs v : List ℤ) → IsChunk i xs v → Tells (λ k. of_z w64 (place v k)) (map (of_z w64) v)
tells_chunk i xs v h = record { long = length-map v (of_z w64) ∙ h.long; each = λ k l. get_or-map (of_z w64) v k (pos 0) 0 (omega (arith, h.long)) }

abbrev pub words : List ℤ → List ℤ → List ℤ → List ℤ → List ℕ
words p q r s = zip2 bit_xor (zip2 bit_xor (zip2 bit_xor (map (of_z w64) p) (map (of_z w64) q)) (map (of_z w64) r)) (map (of_z w64) s)

-- four vectors that are read from the four lists
pub record AreChunks (i : ℕ) (a b c d p q r s : List ℤ) : Type 0 where
  pub first : IsChunk i a p
  pub second : IsChunk i b q
  pub third : IsChunk i c r
  pub fourth : IsChunk i d s

tells_words : (i : ℕ) (a b c d p q r s : List ℤ) → AreChunks i a b c d p q r s → Tells (word_at p q r s) (words p q r s)
tells_words i a b c d p q r s h =
    let x = tells_chunk i a p h.first in
    let y = tells_chunk i b q h.second in
    let z = tells_chunk i c r h.third in
    let t = tells_chunk i d s h.fourth in
    let two = tells_xor (λ k. of_z w64 (place p k)) (λ k. of_z w64 (place q k)) (map (of_z w64) p) (map (of_z w64) q) x y in
    let three = tells_xor (λ k. bit_xor (of_z w64 (place p k)) (of_z w64 (place q k))) (λ k. of_z w64 (place r k)) (zip2 bit_xor (map (of_z w64) p) (map (of_z w64) q)) (map (of_z w64) r) two z in
    tells_xor (λ k. bit_xor (bit_xor (of_z w64 (place p k)) (of_z w64 (place q k))) (of_z w64 (place r k))) (λ k. of_z w64 (place s k)) (zip2 bit_xor (zip2 bit_xor (map (of_z w64) p) (map (of_z w64) q)) (map (of_z w64) r)) (map (of_z w64) s) three t

-- ---- eight places
same_sum : (i : ℕ) (a b c d p q r s : List ℤ) (k : ℕ) → AreChunks i a b c d p q r s → k < 8
    → place p k +ℤ place q k +ℤ place r k +ℤ place s k ≡ place a (i + k) +ℤ place b (i + k) +ℤ place c (i + k) +ℤ place d (i + k)
same_sum i a b c d p q r s k h l = rw (chunk_place i a p k h.first l, chunk_place i b q k h.second l, chunk_place i c r k h.third l, chunk_place i d s k h.fourth l) refl

chunk_even : (i : ℕ) (a b c d p q r s : List ℤ) (k : ℕ) → AreChunks i a b c d p q r s → k < 8
    → (word_at p q r s k % 2 ≡ 0) ↔ IsEven (place a (i + k) +ℤ place b (i + k) +ℤ place c (i + k) +ℤ place d (i + k))
chunk_even i a b c d p q r s k h l = subst (λ (z : ℤ). (word_at p q r s k % 2 ≡ 0) ↔ IsEven z) (same_sum i a b c d p q r s k h l)
    (parity_bits (place p k) (place q k) (place r k) (place s k) (h.first.fits k) (h.second.fits k) (h.third.fits k) (h.fourth.fits k))

pub odd_chunk : (i : ℕ) (a b c d p q r s : List ℤ) → AreChunks i a b c d p q r s
    → IsTrue (not (nat_eq (bit_and (fold_l bit_or 0 (words p q r s)) 1) 0)) ↔ HasOddBetween i (i + 8) a b c d
odd_chunk i a b c d p q r s h =
    let t = tells_words i a b c d p q r s h in
    let test = parity_test {P = fold_l bit_or 0 (words p q r s) % 2 ≡ 0} (fold_l bit_or 0 (words p q r s)) (λ e. e, λ e. e) in
    (λ z. found t (or_odd 0 (words p q r s) refl (test.0 z)), λ w. test.1 (λ e. missed t (or_even 0 (words p q r s) e).1 w))
  where
    found : Tells (word_at p q r s) (words p q r s) → OddWord (words p q r s) → HasOddBetween i (i + 8) a b c d
    found t o =
        let l : o.place < 8 = omega (arith, o.within, t.long) in
        (i + o.place, omega arith, omega arith, λ e. o.odd (ap (λ (m : ℕ). m % 2) (t.each o.place l) ∙ (chunk_even i a b c d p q r s o.place h l).1 e))

    missed : Tells (word_at p q r s) (words p q r s) → ((k : ℕ) → k < length (words p q r s) → get_or (words p q r s) k 0 % 2 ≡ 0) → ¬ HasOddBetween i (i + 8) a b c d
    missed t e (j, low, high, odd) =
        let at : i + (j - i) ≡ j = omega arith in
        let l : j - i < 8 = omega arith in
        odd (subst (λ (m : ℕ). IsEven (place a m +ℤ place b m +ℤ place c m +ℤ place d m)) at
        ((chunk_even i a b c d p q r s (j - i) h l).0 (ap (λ (m : ℕ). m % 2) (sym (t.each (j - i) l)) ∙ e (j - i) (omega (arith, t.long)))))
