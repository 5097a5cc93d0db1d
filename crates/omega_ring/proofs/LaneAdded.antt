-- Sums of two lists, place by place: by eight places, by one, and joined.
use Rattle.std.proofs.Common.{◌≡◌, ℕ, ◌+◌, ◌-◌, ◌<◌, ◌≤◌, ◌^◌, ◌%◌, ℤ, pos, ◌+ℤ◌, ◌-ℤ◌, unsigned_abs, of_z, to_z, FitsSigned, w64, Bool, true, false, ltb, List, length, map, drop, get_or, slice_set, refl, sym, ap, subst, ◌∙◌, arith}
use Rattle.std.specs.Simd.Lanes.{zip2, chunk, put_chunk}
use Rattle.std.proofs.lemmas.Int.{ints, wrapping_add_is, wrapping_sub_is, int_wrap_fits}
use Rattle.std.proofs.lemmas.Bool.{ltb-true, ltb-false}
use Rattle.std.proofs.lemmas.List.{get_or_past, get_or-drop, length-map, get_or-map, length-set, get_or-set_same, get_or-set_other}
use Rattle.std.proofs.lemmas.Simd.{length-put_chunk, length-zip2, length-chunk, get_or-chunk, get_or-zip2, get_or-put_chunk_below, get_or-put_chunk_at, get_or-put_chunk_above}
use Rattle.omega_ring.specs.Lanes.{place, added, AreBelow, AreAdded}
use Rattle.omega_ring.specs.LaneSteps.{AreAddedBetween}

-- ---- joined
pub added_join : (minus : Bool) (s m e : ℕ) (old from mid new : List ℤ) → s ≤ m → m ≤ e → AreAddedBetween minus s m old from mid → AreAddedBetween minus m e mid from new → AreAddedBetween minus s e old from new
added_join minus s m e old from mid new l k p q = record {
  same = q.same ∙ p.same;
  before = λ i h. q.before i (omega arith) ∙ p.before i h;
  each = λ i h r. by i h r (ltb i m) refl;
  after = λ i h. q.after i h ∙ p.after i (omega arith);
}
  where
    by : (i : ℕ) → s ≤ i → i < e → (t : Bool) → ltb i m ≡ t → place new i ≡ added minus (place old i) (place from i)
    by i h r true z = q.before i (ltb-true i m z) ∙ p.each i h (ltb-true i m z)
    by i h r false z = q.each i (ltb-false i m z) r ∙ ap (λ (x : ℤ). added minus x (place from i)) (p.after i (ltb-false i m z))

added_zero : (minus : Bool) → pos 0 ≡ added minus (pos 0) (pos 0)
added_zero true = refl
added_zero false = refl

pub added_whole : (minus : Bool) (m : ℕ) (old from mid new : List ℤ) → length from ≡ length old → m ≤ length old → AreAddedBetween minus 0 m old from mid → AreAddedBetween minus m (length mid) mid from new → AreAdded minus old from new
added_whole minus m old from mid new e l p q =
    let w = added_join minus 0 m (length mid) old from mid new (omega arith) (omega (arith, p.same)) p q in
    record { same = w.same; each = λ i. by i w (ltb i (length old)) refl }
  where
    by : (i : ℕ) → AreAddedBetween minus 0 (length mid) old from new → (t : Bool) → ltb i (length old) ≡ t → place new i ≡ added minus (place old i) (place from i)
    by i w true z = w.each i (omega arith) (omega (arith, p.same, ltb-true i (length old) z))
    by i w false z =
        let h = ltb-false i (length old) z in
        get_or_past new i (pos 0) (omega (arith, w.same, h)) ∙ added_zero minus
        ∙ sym (ap (λ (x : ℤ). added minus x (place from i)) (get_or_past old i (pos 0) h) ∙ ap (λ (x : ℤ). added minus (pos 0) x) (get_or_past from i (pos 0) (omega (arith, h))))

-- what comes after the places that were added is as small as before
pub below_after : (minus : Bool) (s m n : ℕ) (old from mid : List ℤ) → AreBelow n (drop s old) → s ≤ m → AreAddedBetween minus s m old from mid → AreBelow n (drop m mid)
below_after minus s m n old from mid b l p = record {
  each = λ i.
      let e : m + i ≡ s + (m - s + i) = omega arith in
      subst (λ (x : ℤ). unsigned_abs x < n) (get_or-drop s old (m - s + i) (pos 0) ∙ sym (ap (place old) e) ∙ sym (p.after (m + i) (omega arith)) ∙ sym (get_or-drop m mid i (pos 0))) (b.each (m - s + i));
}

-- ---- eight places
-- a list of eight is put back
put_back : (minus : Bool) (i : ℕ) (out from new : List ℤ) → length new ≡ 8 → i + 8 ≤ length out → ((k : ℕ) → k < 8 → place new k ≡ added minus (place out (i + k)) (place from (i + k))) → AreAddedBetween minus i (i + 8) out from (put_chunk i out new)
put_back minus i out from new l h lane = record {
  same = length-put_chunk i out new;
  before = λ k r. get_or-put_chunk_below i out new k (pos 0) r;
  each = λ k r t. let at : i + (k - i) ≡ k = omega arith in subst (λ (j : ℕ). place (put_chunk i out new) j ≡ added minus (place out j) (place from j)) at (here (k - i) (omega arith));
  after = λ k r. get_or-put_chunk_above i out new k (pos 0) (omega (arith, l, r));
}
  where
    here : (k : ℕ) → k < 8 → place (put_chunk i out new) (i + k) ≡ added minus (place out (i + k)) (place from (i + k))
    here k r = get_or-put_chunk_at i out new k (pos 0) (omega (arith, l)) (omega (arith, l)) ∙ lane k r

word_length : (i : ℕ) (xs : List ℤ) → i + 8 ≤ length xs → length (map (of_z w64) (chunk i 8 xs)) ≡ 8
word_length i xs h = length-map (chunk i 8 xs) (of_z w64) ∙ length-chunk i 8 xs h

word_here : (i : ℕ) (xs : List ℤ) (k : ℕ) → i + 8 ≤ length xs → k < 8 → get_or (map (of_z w64) (chunk i 8 xs)) k 0 ≡ of_z w64 (place xs (i + k))
word_here i xs k h l = get_or-map (of_z w64) (chunk i 8 xs) k (pos 0) 0 (omega (arith, length-chunk i 8 xs h)) ∙ ap (of_z w64) (get_or-chunk i 8 xs k (pos 0) l)

lanes_length : (f : ℕ → ℕ → ℕ) (i : ℕ) (xs ys : List ℤ) → i + 8 ≤ length xs → length ys ≡ length xs → length (map (to_z w64) (zip2 f (map (of_z w64) (chunk i 8 xs)) (map (of_z w64) (chunk i 8 ys)))) ≡ 8
lanes_length f i xs ys h e =
    let x = word_length i xs h in
    length-map (zip2 f (map (of_z w64) (chunk i 8 xs)) (map (of_z w64) (chunk i 8 ys))) (to_z w64) ∙ length-zip2 f (map (of_z w64) (chunk i 8 xs)) (map (of_z w64) (chunk i 8 ys)) (x ∙ sym (word_length i ys (omega (arith, e)))) ∙ x

lane_here : (f : ℕ → ℕ → ℕ) (minus : Bool) (i : ℕ) (out from : List ℤ) (k : ℕ) → ((x y : ℤ) → unsigned_abs x < 2 ^ 61 → unsigned_abs y < 2 ^ 61 → to_z w64 (f (of_z w64 x) (of_z w64 y)) ≡ added minus x y)
    → i + 8 ≤ length out → length from ≡ length out → AreBelow (2 ^ 61) (drop i out) → AreBelow (2 ^ 61) from → k < 8
    → place (map (to_z w64) (zip2 f (map (of_z w64) (chunk i 8 out)) (map (of_z w64) (chunk i 8 from)))) k ≡ added minus (place out (i + k)) (place from (i + k))
lane_here f minus i out from k lane h e b m l =
    let xs = map (of_z w64) (chunk i 8 out) in
    let ys = map (of_z w64) (chunk i 8 from) in
    let h' : i + 8 ≤ length from = omega (arith, e) in
    let x : k < length xs = omega (arith, word_length i out h) in
    let y : k < length ys = omega (arith, word_length i from h') in
    let z : k < length (zip2 f xs ys) = omega (arith, x, length-zip2 f xs ys (word_length i out h ∙ sym (word_length i from h'))) in
    get_or-map (to_z w64) (zip2 f xs ys) k 0 (pos 0) z
    ∙ ap (to_z w64) (get_or-zip2 f xs ys k 0 0 0 x y ∙ ap (λ (u : ℕ). f u (get_or ys k 0)) (word_here i out k h l) ∙ ap (λ (u : ℕ). f (of_z w64 (place out (i + k))) u) (word_here i from k h' l))
    ∙ lane (place out (i + k)) (place from (i + k)) (subst (λ (u : ℤ). unsigned_abs u < 2 ^ 61) (get_or-drop i out k (pos 0)) (b.each k)) (m.each (i + k))

-- what a vector's operation gives is put back as the numbers of its words
written : (f : ℕ → ℕ → ℕ) (minus : Bool) (i : ℕ) (out from : List ℤ) → ((x y : ℤ) → unsigned_abs x < 2 ^ 61 → unsigned_abs y < 2 ^ 61 → to_z w64 (f (of_z w64 x) (of_z w64 y)) ≡ added minus x y)
    → i + 8 ≤ length out → length from ≡ length out → AreBelow (2 ^ 61) (drop i out) → AreBelow (2 ^ 61) from
    → AreAddedBetween minus i (i + 8) out from (put_chunk i out (map (to_z w64) (zip2 f (map (of_z w64) (chunk i 8 out)) (map (of_z w64) (chunk i 8 from)))))
written f minus i out from lane h e b m =
    let xs = map (of_z w64) (chunk i 8 out) in
    let ys = map (of_z w64) (chunk i 8 from) in
    put_back minus i out from (map (to_z w64) (zip2 f xs ys)) (lanes_length f i out from h e) h (λ k l. lane_here f minus i out from k lane h e b m l)

plus_lane : (x y : ℤ) → unsigned_abs x < 2 ^ 61 → unsigned_abs y < 2 ^ 61 → to_z w64 ((of_z w64 x + of_z w64 y) % 2 ^ 64) ≡ x +ℤ y
plus_lane x y h k =
    let f : FitsSigned w64 x = omega (arith, ints) in
    let g : FitsSigned w64 y = omega (arith, ints) in
    let r : FitsSigned w64 (x +ℤ y) = omega (arith, ints) in
    wrapping_add_is w64 x y f g ∙ int_wrap_fits w64 (x +ℤ y) r

less_lane : (x y : ℤ) → unsigned_abs x < 2 ^ 61 → unsigned_abs y < 2 ^ 61 → to_z w64 ((of_z w64 x + (2 ^ 64 - of_z w64 y)) % 2 ^ 64) ≡ x -ℤ y
less_lane x y h k =
    let f : FitsSigned w64 x = omega (arith, ints) in
    let g : FitsSigned w64 y = omega (arith, ints) in
    let r : FitsSigned w64 (x -ℤ y) = omega (arith, ints) in
    wrapping_sub_is w64 x y f g ∙ int_wrap_fits w64 (x -ℤ y) r

-- eight sums, as the words of a vector
pub plus_written : (minus : Bool) (i : ℕ) (out from : List ℤ) (sum : List ℕ) → minus ≡ false → sum ≡ zip2 (λ x y. (x + y) % 2 ^ 64) (map (of_z w64) (chunk i 8 out)) (map (of_z w64) (chunk i 8 from))
    → i + 8 ≤ length out → length from ≡ length out → AreBelow (2 ^ 61) (drop i out) → AreBelow (2 ^ 61) from
    → AreAddedBetween minus i (i + 8) out from (put_chunk i out (map (to_z w64) sum))
plus_written minus i out from sum t e h l b m = rw (t, e) (written (λ x y. (x + y) % 2 ^ 64) false i out from plus_lane h l b m)

-- eight differences
pub less_written : (minus : Bool) (i : ℕ) (out from : List ℤ) (sum : List ℕ) → minus ≡ true → sum ≡ zip2 (λ x y. (x + (2 ^ 64 - y)) % 2 ^ 64) (map (of_z w64) (chunk i 8 out)) (map (of_z w64) (chunk i 8 from))
    → i + 8 ≤ length out → length from ≡ length out → AreBelow (2 ^ 61) (drop i out) → AreBelow (2 ^ 61) from
    → AreAddedBetween minus i (i + 8) out from (put_chunk i out (map (to_z w64) sum))
less_written minus i out from sum t e h l b m = rw (t, e) (written (λ x y. (x + (2 ^ 64 - y)) % 2 ^ 64) true i out from less_lane h l b m)

-- ---- one place
pub place_written : (minus : Bool) (i : ℕ) (out from : List ℤ) (z : ℤ) → i < length out → z ≡ added minus (place out i) (place from i) → AreAddedBetween minus i (i + 1) out from (slice_set out i z)
place_written minus i out from z h e = record {
  same = length-set out i z;
  before = λ k l. get_or-set_other out i k z (pos 0) (omega arith);
  each = λ k l r. let at : i ≡ k = omega arith in subst (λ (j : ℕ). place (slice_set out i z) j ≡ added minus (place out j) (place from j)) at (get_or-set_same out i z (pos 0) h ∙ e);
  after = λ k l. get_or-set_other out i k z (pos 0) (omega arith);
}

-- a number as it is read at the place
pub first_below : (i : ℕ) (xs : List ℤ) → AreBelow (2 ^ 61) (drop i xs) → unsigned_abs (to_z w64 (of_z w64 (place xs i))) < 2 ^ 61
first_below i xs b =
    let h : unsigned_abs (place xs i) < 2 ^ 61 = subst (λ (x : ℤ). unsigned_abs x < 2 ^ 61) (get_or-drop i xs 0 (pos 0) ∙ ap (place xs) (omega arith)) (b.each 0) in
    omega (arith, ints)
