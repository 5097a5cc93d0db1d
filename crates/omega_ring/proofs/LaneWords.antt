-- Sums of words that wrap: what a vector adds and multiplies is exact up to multiples of 2^64.
--     Same     equal up to a multiple of 2^64
--     chunk_sums     the sums with eight weights more
--     total_is     what the sums stand for, where it is small
use Rattle.std.proofs.Common.{◌≡◌, ℕ, suc, ◌+◌, ◌-◌, ◌*◌, ◌%◌, ◌<◌, ◌^◌, ℤ, pos, ◌+ℤ◌, ◌-ℤ◌, ◌*ℤ◌, neg_ℤ, of_z, to_z, unsigned_abs, FitsSigned, w64, List, [], ◌∷◌, length, map, refl, sym, ap, subst, ◌∙◌, arith}
use Rattle.std.specs.Int.{int_wrap, w128}
use Rattle.std.specs.Simd.Lanes.{zip2, fold_l, Each1, chunk}
use Rattle.std.proofs.lemmas.Int.{ints, wrapping_add-bits, wrapping_sub-bits, wrapping_mul-bits, int_wrap_fits, int_wrap-add_same, int_wrap-sub_right, SFits-int_wrap}
use Rattle.std.proofs.lemmas.List.{length-map}
use Rattle.std.proofs.lemmas.Simd.{length-zip2, Each1-zip2, Each2-all}
use Rattle.std.proofs.Math.Facts.{Fits-of_z, sfits_to_z}
use Rattle.state_model.specs.Coefficient.{Weight, weight, weight_sum}
use Rattle.state_model.specs.CoefficientList.{total_weight}
use Rattle.state_model.proofs.Inequalities.{order}
use Rattle.state_model.proofs.Expressions.{same_weight}
use Rattle.omega_ring.specs.declared.lanes.Sums.{Sums}
use Rattle.omega_ring.specs.Lanes.{AreLanes, lane_values}
use Rattle.omega_ring.specs.LaneSteps.{IsChunk, IsSum, AreSums, lane_sum}
use Rattle.omega_ring.proofs.LaneLoads.{read_back, each_fits}
use Rattle.omega_ring.proofs.LaneValues.{chunk-lane_values, none, tails}
use Rattle.omega_ring.proofs.Stored.{back_of}
use Rattle.omega_ring.proofs.LaneParity.{AreChunks}

-- ---- equal up to a multiple of 2^64
pub record Same (u v : ℤ) : Type 0 where
  pub wraps : int_wrap w64 u ≡ int_wrap w64 v

same_trans : (u v w : ℤ) → Same u v → Same v w → Same u w
same_trans u v w h k = record { wraps = h.wraps ∙ k.wraps }

same_left : (u v w : ℤ) → Same u v → Same (u +ℤ w) (v +ℤ w)
same_left u v w h = record { wraps = int_wrap-add_same w64 u v w h.wraps }

swap : (u v : ℤ) → u +ℤ v ≡ v +ℤ u
swap u v = omega (arith, order)

same_add : (u v s t : ℤ) → Same u v → Same s t → Same (u +ℤ s) (v +ℤ t)
same_add u v s t h k = record {
  wraps = (same_left u v s h).wraps ∙ ap (int_wrap w64) (swap v s) ∙ (same_left s t v k).wraps ∙ ap (int_wrap w64) (swap t v);
}

less_as_sum : (u s : ℤ) → u -ℤ s ≡ neg_ℤ s +ℤ u
less_as_sum u s = omega (arith, order)

same_sub : (u v s t : ℤ) → Same u v → Same s t → Same (u -ℤ s) (v -ℤ t)
same_sub u v s t h k = record {
  wraps = sym (int_wrap-sub_right w64 u s) ∙ ap (λ (x : ℤ). int_wrap w64 (u -ℤ x)) k.wraps ∙ int_wrap-sub_right w64 u t
      ∙ ap (int_wrap w64) (less_as_sum u t ∙ swap (neg_ℤ t) u) ∙ (same_left u v (neg_ℤ t) h).wraps ∙ ap (int_wrap w64) (swap v (neg_ℤ t) ∙ sym (less_as_sum v t));
}

same_wrap : (x z : ℤ) → x ≡ int_wrap w64 z → Same x z
same_wrap x z e = record { wraps = ap (int_wrap w64) e ∙ int_wrap_fits w64 (int_wrap w64 z) (SFits-int_wrap w64 z) }

-- ---- one word
abbrev Word : ℕ → Type 0
Word n = n < 2 ^ 64

abbrev add : ℕ → ℕ → ℕ
add m n = (m + n) % 2 ^ 64

abbrev sub : ℕ → ℕ → ℕ
sub m n = (m + (2 ^ 64 - n)) % 2 ^ 64

abbrev mul : ℕ → ℕ → ℕ
mul m n = (m * n) % 2 ^ 64

add_same : (m n : ℕ) → Word m → Word n → Same (to_z w64 (add m n)) (to_z w64 m +ℤ to_z w64 n)
add_same m n h k = same_wrap (to_z w64 (add m n)) (to_z w64 m +ℤ to_z w64 n) (wrapping_add-bits w64 m n h k)

sub_same : (m n : ℕ) → Word m → Word n → Same (to_z w64 (sub m n)) (to_z w64 m -ℤ to_z w64 n)
sub_same m n h k = same_wrap (to_z w64 (sub m n)) (to_z w64 m -ℤ to_z w64 n) (wrapping_sub-bits w64 m n h k)

mul_same : (m n : ℕ) → Word m → Word n → Same (to_z w64 (mul m n)) (to_z w64 m *ℤ to_z w64 n)
mul_same m n h k = same_wrap (to_z w64 (mul m n)) (to_z w64 m *ℤ to_z w64 n) (wrapping_mul-bits w64 m n h k)

word_mod : (k : ℕ) → Word (k % 2 ^ 64)
word_mod k = omega arith

-- ---- lists of words
-- a list of eight words
record Words (ms : List ℕ) : Type 0 where
  long : length ms ≡ 8
  each : Each1 Word ms

abbrev sum_of : List ℕ → ℤ
sum_of ms = lane_sum (map (to_z w64) ms)

abbrev dot : List ℤ → List ℤ → ℤ
dot [] ys = pos 0
dot (x ∷ xs) [] = pos 0
dot (x ∷ xs) (y ∷ ys) = x *ℤ y +ℤ dot xs ys

words_zip : (f : ℕ → ℕ → ℕ) (ms ns : List ℕ) → ((m n : ℕ) → Word (f m n)) → Words ms → Words ns → Words (zip2 f ms ns)
words_zip f ms ns w h k = record {
  long = length-zip2 f ms ns (h.long ∙ sym k.long) ∙ h.long;
  each = Each1-zip2 f Word ms ns (Each2-all (λ m n. Word (f m n)) w ms ns);
}

words_add : (ms ns : List ℕ) → Words ms → Words ns → Words (zip2 add ms ns)
words_add ms ns = words_zip add ms ns (λ m n. word_mod (m + n))

words_sub : (ms ns : List ℕ) → Words ms → Words ns → Words (zip2 sub ms ns)
words_sub ms ns = words_zip sub ms ns (λ m n. word_mod (m + (2 ^ 64 - n)))

words_mul : (ms ns : List ℕ) → Words ms → Words ns → Words (zip2 mul ms ns)
words_mul ms ns = words_zip mul ms ns (λ m n. word_mod (m * n))

four_sum : (p q r s : ℤ) → (p +ℤ q) +ℤ (r +ℤ s) ≡ (p +ℤ r) +ℤ (q +ℤ s)
four_sum p q r s = omega (arith, order)

four_less : (p q r s : ℤ) → (p -ℤ q) +ℤ (r -ℤ s) ≡ (p +ℤ r) -ℤ (q +ℤ s)
four_less p q r s = omega (arith, order)

sum_add : (ms ns : List ℕ) → length ms ≡ length ns → Each1 Word ms → Each1 Word ns → Same (sum_of (zip2 add ms ns)) (sum_of ms +ℤ sum_of ns)
sum_add [] [] e h k = record { wraps = refl }
sum_add [] (n ∷ ns) e h k = let f : 0 ≡ suc (length ns) = e in absurd (omega arith)
sum_add (m ∷ ms) [] e h k = let f : suc (length ms) ≡ 0 = e in absurd (omega arith)
sum_add (m ∷ ms) (n ∷ ns) e h k =
    let f : suc (length ms) ≡ suc (length ns) = e in
    subst (Same (to_z w64 (add m n) +ℤ sum_of (zip2 add ms ns))) (four_sum (to_z w64 m) (to_z w64 n) (sum_of ms) (sum_of ns))
    (same_add (to_z w64 (add m n)) (to_z w64 m +ℤ to_z w64 n) (sum_of (zip2 add ms ns)) (sum_of ms +ℤ sum_of ns) (add_same m n h.0 k.0) (sum_add ms ns (omega arith) h.1 k.1))

sum_sub : (ms ns : List ℕ) → length ms ≡ length ns → Each1 Word ms → Each1 Word ns → Same (sum_of (zip2 sub ms ns)) (sum_of ms -ℤ sum_of ns)
sum_sub [] [] e h k = record { wraps = refl }
sum_sub [] (n ∷ ns) e h k = let f : 0 ≡ suc (length ns) = e in absurd (omega arith)
sum_sub (m ∷ ms) [] e h k = let f : suc (length ms) ≡ 0 = e in absurd (omega arith)
sum_sub (m ∷ ms) (n ∷ ns) e h k =
    let f : suc (length ms) ≡ suc (length ns) = e in
    subst (Same (to_z w64 (sub m n) +ℤ sum_of (zip2 sub ms ns))) (four_less (to_z w64 m) (to_z w64 n) (sum_of ms) (sum_of ns))
    (same_add (to_z w64 (sub m n)) (to_z w64 m -ℤ to_z w64 n) (sum_of (zip2 sub ms ns)) (sum_of ms -ℤ sum_of ns) (sub_same m n h.0 k.0) (sum_sub ms ns (omega arith) h.1 k.1))

sum_mul : (ms ns : List ℕ) → length ms ≡ length ns → Each1 Word ms → Each1 Word ns → Same (sum_of (zip2 mul ms ns)) (dot (map (to_z w64) ms) (map (to_z w64) ns))
sum_mul [] [] e h k = record { wraps = refl }
sum_mul [] (n ∷ ns) e h k = let f : 0 ≡ suc (length ns) = e in absurd (omega arith)
sum_mul (m ∷ ms) [] e h k = let f : suc (length ms) ≡ 0 = e in absurd (omega arith)
sum_mul (m ∷ ms) (n ∷ ns) e h k =
    let f : suc (length ms) ≡ suc (length ns) = e in
    same_add (to_z w64 (mul m n)) (to_z w64 m *ℤ to_z w64 n) (sum_of (zip2 mul ms ns)) (dot (map (to_z w64) ms) (map (to_z w64) ns)) (mul_same m n h.0 k.0) (sum_mul ms ns (omega arith) h.1 k.1)

-- a list of eight words whose sum is z up to a multiple of 2^64
record Counts (z : ℤ) (ms : List ℕ) : Type 0 where
  words : Words ms
  sum : Same (sum_of ms) z

counts_add : (y z : ℤ) (ms ns : List ℕ) → Counts y ms → Counts z ns → Counts (y +ℤ z) (zip2 add ms ns)
counts_add y z ms ns h k = record {
  words = words_add ms ns h.words k.words;
  sum = same_trans (sum_of (zip2 add ms ns)) (sum_of ms +ℤ sum_of ns) (y +ℤ z) (sum_add ms ns (h.words.long ∙ sym k.words.long) h.words.each k.words.each) (same_add (sum_of ms) y (sum_of ns) z h.sum k.sum);
}

counts_sub : (y z : ℤ) (ms ns : List ℕ) → Counts y ms → Counts z ns → Counts (y -ℤ z) (zip2 sub ms ns)
counts_sub y z ms ns h k = record {
  words = words_sub ms ns h.words k.words;
  sum = same_trans (sum_of (zip2 sub ms ns)) (sum_of ms -ℤ sum_of ns) (y -ℤ z) (sum_sub ms ns (h.words.long ∙ sym k.words.long) h.words.each k.words.each) (same_sub (sum_of ms) y (sum_of ns) z h.sum k.sum);
}

-- a vector and its words
record Vector (v : List ℤ) : Type 0 where
  long : length v ≡ 8
  fits : Each1 (FitsSigned w64) v

words_of : (v : List ℤ) → Vector v → Words (map (of_z w64) v)
words_of v h = record { long = length-map v (of_z w64) ∙ h.long; each = each v h.fits }
  where
    each : (xs : List ℤ) → Each1 (FitsSigned w64) xs → Each1 Word (map (of_z w64) xs)
    each [] f = tt
    each (x ∷ xs) f = ((Fits-of_z f.0).fits, each xs f.1)

counts_mul : (u v : List ℤ) → Vector u → Vector v → Counts (dot u v) (zip2 mul (map (of_z w64) u) (map (of_z w64) v))
counts_mul u v h k =
    let a = words_of u h in
    let b = words_of v k in
    record {
      words = words_mul (map (of_z w64) u) (map (of_z w64) v) a b;
      sum = rw (read_back u h.fits, read_back v k.fits) at (sum_mul (map (of_z w64) u) (map (of_z w64) v) (a.long ∙ sym b.long) a.each b.each);
    }

counts_of : (z : ℤ) (v : List ℤ) → IsSum z v → Counts z (map (of_z w64) v)
counts_of z v h = record { words = words_of v record { long = h.long; fits = h.fits }; sum = rw (read_back v h.fits) (record { wraps = h.sum }) }

sum_back : (z : ℤ) (ms : List ℕ) → Counts z ms → IsSum z (map (to_z w64) ms)
sum_back z ms h = record { long = length-map ms (to_z w64) ∙ h.words.long; fits = each ms h.words.each; sum = h.sum.wraps }
  where
    each : (ns : List ℕ) → Each1 Word ns → Each1 (FitsSigned w64) (map (to_z w64) ns)
    each [] f = tt
    each (n ∷ ns) f = (sfits_to_z record { fits = f.0 }, each ns f.1)

-- ---- eight weights
abbrev squares_of : List ℤ → List ℤ → List ℤ → List ℤ → ℤ
squares_of p q r s = dot p p +ℤ dot q q +ℤ dot r r +ℤ dot s s

abbrev mixed_of : List ℤ → List ℤ → List ℤ → List ℤ → ℤ
mixed_of p q r s = dot p q +ℤ dot q r +ℤ dot r s -ℤ dot s p

regroup : (p q r s a b c d : ℤ) → (p +ℤ q +ℤ r +ℤ s) +ℤ (a +ℤ b +ℤ c +ℤ d) ≡ (p +ℤ a) +ℤ (q +ℤ b) +ℤ (r +ℤ c) +ℤ (s +ℤ d)
regroup p q r s a b c d = omega (arith, order)

regroup_less : (p q r s a b c d : ℤ) → (p +ℤ q +ℤ r -ℤ s) +ℤ (a +ℤ b +ℤ c -ℤ d) ≡ (p +ℤ a) +ℤ (q +ℤ b) +ℤ (r +ℤ c) -ℤ (s +ℤ d)
regroup_less p q r s a b c d = omega (arith, order)

abbrev dots_of : List ℤ → List ℤ → List ℤ → List ℤ → Weight
dots_of p q r s = record { x = squares_of p q r s; y = mixed_of p q r s }

dots_total : (p q r s : List ℤ) → AreLanes p q r s → total_weight (lane_values p q r s) ≡ dots_of p q r s
dots_total [] q r s l = rw (none q l.second, none r l.third, none s l.fourth) refl
dots_total (x ∷ p) [] r s l = let e : 0 ≡ suc (length p) = l.second in absurd (omega arith)
dots_total (x ∷ p) (y ∷ q) [] s l = let e : 0 ≡ suc (length p) = l.third in absurd (omega arith)
dots_total (x ∷ p) (y ∷ q) (z ∷ r) [] l = let e : 0 ≡ suc (length p) = l.fourth in absurd (omega arith)
dots_total (x ∷ p) (y ∷ q) (z ∷ r) (t ∷ s) l =
    ap (weight_sum (weight record { a = x; b = y; c = z; d = t })) (dots_total p q r s (tails x y z t p q r s l))
    ∙ same_weight (weight_sum (weight record { a = x; b = y; c = z; d = t }) (dots_of p q r s)) (dots_of (x ∷ p) (y ∷ q) (z ∷ r) (t ∷ s))
    (regroup (x *ℤ x) (y *ℤ y) (z *ℤ z) (t *ℤ t) (dot p p) (dot q q) (dot r r) (dot s s))
    (regroup_less (x *ℤ y) (y *ℤ z) (z *ℤ t) (t *ℤ x) (dot p q) (dot q r) (dot r s) (dot s p))

vector_of : (i : ℕ) (xs v : List ℤ) → IsChunk i xs v → Vector v
vector_of i xs v h = record { long = h.long; fits = each_fits v h.fits }

abbrev product : List ℤ → List ℤ → List ℕ
product u v = zip2 mul (map (of_z w64) u) (map (of_z w64) v)

-- the words of the new sums of squares and of mixed products
abbrev pub squares_words : List ℤ → List ℤ → List ℤ → List ℤ → List ℤ → List ℕ
squares_words u p q r s = zip2 add (map (of_z w64) u) (zip2 add (zip2 add (zip2 add (product p p) (product q q)) (product r r)) (product s s))

abbrev pub mixed_words : List ℤ → List ℤ → List ℤ → List ℤ → List ℤ → List ℕ
mixed_words u p q r s = zip2 add (map (of_z w64) u) (zip2 sub (zip2 add (zip2 add (product p q) (product q r)) (product r s)) (product s p))

squares_sum : (z : ℤ) (u p q r s : List ℤ) → IsSum z u → Vector p → Vector q → Vector r → Vector s → IsSum (z +ℤ squares_of p q r s) (map (to_z w64) (squares_words u p q r s))
squares_sum z u p q r s h a b c d =
    let pq = counts_add (dot p p) (dot q q) (product p p) (product q q) (counts_mul p p a a) (counts_mul q q b b) in
    let pqr = counts_add (dot p p +ℤ dot q q) (dot r r) (zip2 add (product p p) (product q q)) (product r r) pq (counts_mul r r c c) in
    let pqrs = counts_add (dot p p +ℤ dot q q +ℤ dot r r) (dot s s) (zip2 add (zip2 add (product p p) (product q q)) (product r r)) (product s s) pqr (counts_mul s s d d) in
    sum_back (z +ℤ squares_of p q r s) (squares_words u p q r s) (counts_add z (squares_of p q r s) (map (of_z w64) u) (zip2 add (zip2 add (zip2 add (product p p) (product q q)) (product r r)) (product s s)) (counts_of z u h) pqrs)

mixed_sum : (z : ℤ) (u p q r s : List ℤ) → IsSum z u → Vector p → Vector q → Vector r → Vector s → IsSum (z +ℤ mixed_of p q r s) (map (to_z w64) (mixed_words u p q r s))
mixed_sum z u p q r s h a b c d =
    let pq = counts_add (dot p q) (dot q r) (product p q) (product q r) (counts_mul p q a b) (counts_mul q r b c) in
    let pqr = counts_add (dot p q +ℤ dot q r) (dot r s) (zip2 add (product p q) (product q r)) (product r s) pq (counts_mul r s c d) in
    let pqrs = counts_sub (dot p q +ℤ dot q r +ℤ dot r s) (dot s p) (zip2 add (zip2 add (product p q) (product q r)) (product r s)) (product s p) pqr (counts_mul s p d a) in
    sum_back (z +ℤ mixed_of p q r s) (mixed_words u p q r s) (counts_add z (mixed_of p q r s) (map (of_z w64) u) (zip2 sub (zip2 add (zip2 add (product p q) (product q r)) (product r s)) (product s p)) (counts_of z u h) pqrs)

chunk_total : (i : ℕ) (a b c d p q r s : List ℤ) → AreChunks i a b c d p q r s → total_weight (chunk i 8 (lane_values a b c d)) ≡ dots_of p q r s
chunk_total i a b c d p q r s h =
    ap total_weight (sym (chunk-lane_values i 8 a b c d)) ∙ rw (← h.first.value, ← h.second.value, ← h.third.value, ← h.fourth.value) (dots_total p q r s record { second = h.second.long ∙ sym h.first.long; third = h.third.long ∙ sym h.first.long; fourth = h.fourth.long ∙ sym h.first.long })

pub chunk_sums : (i : ℕ) (a b c d p q r s : List ℤ) (w : Weight) (sums : Sums) → AreChunks i a b c d p q r s → AreSums w sums
    → AreSums (weight_sum w (total_weight (chunk i 8 (lane_values a b c d)))) record { x = map (to_z w64) (squares_words sums.x p q r s); y = map (to_z w64) (mixed_words sums.y p q r s) }
chunk_sums i a b c d p q r s w sums h k =
    let x = vector_of i a p h.first in
    let y = vector_of i b q h.second in
    let z = vector_of i c r h.third in
    let t = vector_of i d s h.fourth in
    let e = chunk_total i a b c d p q r s h in
    rw e record { x = squares_sum w.x sums.x p q r s k.x x y z t; y = mixed_sum w.y sums.y p q r s k.y x y z t }

-- ---- the total
plus_zero : (z : ℤ) → z ≡ z +ℤ pos 0
plus_zero z = omega (arith, order)

plus_assoc : (u v w : ℤ) → (u +ℤ v) +ℤ w ≡ u +ℤ (v +ℤ w)
plus_assoc u v w = omega (arith, order)

fold_same : (m : ℕ) (ms : List ℕ) → Word m → Each1 Word ms → Same (to_z w64 (fold_l add m ms)) (to_z w64 m +ℤ sum_of ms)
fold_same m [] h k = record { wraps = ap (int_wrap w64) (plus_zero (to_z w64 m)) }
fold_same m (n ∷ ms) h k =
    subst (Same (to_z w64 (fold_l add (add m n) ms))) (plus_assoc (to_z w64 m) (to_z w64 n) (sum_of ms))
    (same_trans (to_z w64 (fold_l add (add m n) ms)) (to_z w64 (add m n) +ℤ sum_of ms) ((to_z w64 m +ℤ to_z w64 n) +ℤ sum_of ms) (fold_same (add m n) ms (word_mod (m + n)) k.1) (same_left (to_z w64 (add m n)) (to_z w64 m +ℤ to_z w64 n) (sum_of ms) (add_same m n h k.0)))

fold_word : (m : ℕ) (ms : List ℕ) → Word m → Word (fold_l add m ms)
fold_word m [] h = h
fold_word m (n ∷ ms) h = fold_word (add m n) ms (word_mod (m + n))

same_exact : (x z : ℤ) → Same x z → FitsSigned w64 x → FitsSigned w64 z → x ≡ z
same_exact x z h f g = sym (int_wrap_fits w64 x f) ∙ h.wraps ∙ int_wrap_fits w64 z g

zero_plus : (z : ℤ) → pos 0 +ℤ z ≡ z
zero_plus z = omega (arith, order)

pub part_total : (z : ℤ) (v : List ℤ) → IsSum z v → unsigned_abs z < 2 ^ 60 → to_z w128 (of_z w128 (to_z w64 (fold_l add 0 (map (of_z w64) v)))) ≡ z
part_total z v h small =
    let n = counts_of z v h in
    let ms = map (of_z w64) v in
    let g : FitsSigned w64 z = omega (arith, ints) in
    let s = subst (Same (to_z w64 (fold_l add 0 ms))) (zero_plus (sum_of ms)) (fold_same 0 ms (omega arith) n.words.each) in
    let e = same_exact (to_z w64 (fold_l add 0 ms)) z (same_trans (to_z w64 (fold_l add 0 ms)) (sum_of ms) z s n.sum) (sfits_to_z record { fits = fold_word 0 ms (omega arith) }) g in
    ap (λ (x : ℤ). to_z w128 (of_z w128 x)) e ∙ back_of z (omega arith)
