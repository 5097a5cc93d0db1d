-- Eight numbers of a list as a vector: a list whose numbers fit 64 bits is what its words tell.
use Rattle.std.proofs.Common.{◌≡◌, ℕ, ◌+◌, ◌<◌, ◌≤◌, ℤ, pos, of_z, to_z, FitsSigned, w64, Bool, true, false, ltb, List, [], ◌∷◌, length, map, refl, sym, ap, subst, ◌∙◌, arith}
use Rattle.std.specs.Simd.Lanes.{Each1, chunk}
use Rattle.std.proofs.lemmas.Int.{ints, to_z-of_z}
use Rattle.std.proofs.lemmas.Bool.{ltb-true, ltb-false}
use Rattle.std.proofs.lemmas.List.{get_or_past}
use Rattle.std.proofs.lemmas.Simd.{length-chunk, get_or-chunk, Each1-from_get_or}
use Rattle.omega_ring.specs.Lanes.{place}
use Rattle.omega_ring.specs.LaneSteps.{IsChunk}

pub zero_fits : FitsSigned w64 (pos 0)
zero_fits = omega (arith, ints)

pub each_fits : (xs : List ℤ) → ((k : ℕ) → FitsSigned w64 (place xs k)) → Each1 (FitsSigned w64) xs
each_fits xs f = Each1-from_get_or (FitsSigned w64) xs (pos 0) (λ k h. f k)

-- words that are read back
pub read_back : (xs : List ℤ) → Each1 (FitsSigned w64) xs → map (to_z w64) (map (of_z w64) xs) ≡ xs
read_back [] f = refl
read_back (x ∷ xs) f = cc (to_z-of_z w64 x f.0, read_back xs f.1)

pub chunk_place : (i : ℕ) (xs v : List ℤ) (k : ℕ) → IsChunk i xs v → k < 8 → place v k ≡ place xs (i + k)
chunk_place i xs v k h l = ap (λ (ys : List ℤ). place ys k) h.value ∙ get_or-chunk i 8 xs k (pos 0) l

-- a vector that is read from a list whose numbers fit
pub chunk_loaded : (i : ℕ) (xs : List ℤ) → i + 8 ≤ length xs → ((j : ℕ) → i ≤ j → j < i + 8 → FitsSigned w64 (place xs j)) → IsChunk i xs (map (to_z w64) (map (of_z w64) (chunk i 8 xs)))
chunk_loaded i xs h f =
    let e = read_back (chunk i 8 xs) (each_fits (chunk i 8 xs) fit) in
    record { long = ap length e ∙ length-chunk i 8 xs h; value = e; fits = λ k. subst (λ (ys : List ℤ). FitsSigned w64 (place ys k)) (sym e) (fit k) }
  where
    fit : (k : ℕ) → FitsSigned w64 (place (chunk i 8 xs) k)
    fit k = by (ltb k 8) refl
      where
        by : (t : Bool) → ltb k 8 ≡ t → FitsSigned w64 (place (chunk i 8 xs) k)
        by true z = subst (FitsSigned w64) (sym (get_or-chunk i 8 xs k (pos 0) (ltb-true k 8 z))) (let l : k < 8 = ltb-true k 8 z in f (i + k) (omega arith) (omega arith))
        by false z = subst (FitsSigned w64) (sym (get_or_past (chunk i 8 xs) k (pos 0) (omega (arith, length-chunk i 8 xs h, ltb-false k 8 z)))) zero_fits

pub fits_more : (xs : List ℤ) (i k : ℕ) → ((j : ℕ) → i ≤ j → j < k → FitsSigned w64 (place xs j)) → FitsSigned w64 (place xs k) → (j : ℕ) → i ≤ j → j < k + 1 → FitsSigned w64 (place xs j)
fits_more xs i k f here j l h = by (ltb j k) refl
  where
    by : (t : Bool) → ltb j k ≡ t → FitsSigned w64 (place xs j)
    by true z = f j l (ltb-true j k z)
    by false z = let e : k ≡ j = omega (arith, ltb-false j k z) in subst (λ (m : ℕ). FitsSigned w64 (place xs m)) e here
