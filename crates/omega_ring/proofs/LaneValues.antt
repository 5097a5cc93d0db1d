-- The coefficients of four lists: how many there are, each in terms of the lists' places, and parts of them.
use Rattle.std.proofs.Common.{◌≡◌, ℕ, suc, zero, ℤ, List, [], ◌∷◌, length, take, drop, of_z, to_z, FitsSigned, w64, refl, sym, ap, ◌∙◌, arith}
use Rattle.std.specs.Simd.Lanes.{chunk}
use Rattle.std.proofs.lemmas.Int.{to_z-of_z}
use Rattle.state_model.specs.Coefficient.{Coefficient, coefficient}
use Rattle.state_model.specs.CoefficientList.{at}
use Rattle.omega_ring.specs.Lanes.{place, AreLanes, lane_values}

pub tails : (p q r s : ℤ) (a b c d : List ℤ) → AreLanes (p ∷ a) (q ∷ b) (r ∷ c) (s ∷ d) → AreLanes a b c d
tails p q r s a b c d l =
    let e : suc (length b) ≡ suc (length a) = l.second in
    let f : suc (length c) ≡ suc (length a) = l.third in
    let g : suc (length d) ≡ suc (length a) = l.fourth in
    record { second = omega arith; third = omega arith; fourth = omega arith }

-- ---- lists of one length
pub length-lane_values : (a b c d : List ℤ) → AreLanes a b c d → length (lane_values a b c d) ≡ length a
length-lane_values [] b c d l = refl
length-lane_values (p ∷ a) [] c d l = l.second
length-lane_values (p ∷ a) (q ∷ b) [] d l = l.third
length-lane_values (p ∷ a) (q ∷ b) (r ∷ c) [] l = l.fourth
length-lane_values (p ∷ a) (q ∷ b) (r ∷ c) (s ∷ d) l = ap suc (length-lane_values a b c d (tails p q r s a b c d l))

pub none : (xs : List ℤ) → length xs ≡ 0 → xs ≡ []
none [] e = refl
none (x ∷ xs) e = let f : suc (length xs) ≡ 0 = e in absurd (omega arith)

pub at-lane_values : (a b c d : List ℤ) (i : ℕ) → AreLanes a b c d → at (lane_values a b c d) i ≡ coefficient (place a i) (place b i) (place c i) (place d i)
at-lane_values [] b c d i l = rw (none b l.second, none c l.third, none d l.fourth) refl
at-lane_values (p ∷ a) [] c d i l = let e : 0 ≡ suc (length a) = l.second in absurd (omega arith)
at-lane_values (p ∷ a) (q ∷ b) [] d i l = let e : 0 ≡ suc (length a) = l.third in absurd (omega arith)
at-lane_values (p ∷ a) (q ∷ b) (r ∷ c) [] i l = let e : 0 ≡ suc (length a) = l.fourth in absurd (omega arith)
at-lane_values (p ∷ a) (q ∷ b) (r ∷ c) (s ∷ d) zero l = refl
at-lane_values (p ∷ a) (q ∷ b) (r ∷ c) (s ∷ d) (suc i) l = at-lane_values a b c d i (tails p q r s a b c d l)

-- ---- parts
pub take-lane_values : (n : ℕ) (a b c d : List ℤ) → lane_values (take n a) (take n b) (take n c) (take n d) ≡ take n (lane_values a b c d)
take-lane_values zero a b c d = refl
take-lane_values (suc n) [] b c d = refl
take-lane_values (suc n) (p ∷ a) [] c d = refl
take-lane_values (suc n) (p ∷ a) (q ∷ b) [] d = refl
take-lane_values (suc n) (p ∷ a) (q ∷ b) (r ∷ c) [] = refl
take-lane_values (suc n) (p ∷ a) (q ∷ b) (r ∷ c) (s ∷ d) = ap (λ (vs : List Coefficient). coefficient p q r s ∷ vs) (take-lane_values n a b c d)

no_second : (a c d : List ℤ) → lane_values a [] c d ≡ []
no_second [] c d = refl
no_second (p ∷ a) c d = refl

no_third : (a b d : List ℤ) → lane_values a b [] d ≡ []
no_third [] b d = refl
no_third (p ∷ a) [] d = refl
no_third (p ∷ a) (q ∷ b) d = refl

no_fourth : (a b c : List ℤ) → lane_values a b c [] ≡ []
no_fourth [] b c = refl
no_fourth (p ∷ a) [] c = refl
no_fourth (p ∷ a) (q ∷ b) [] = refl
no_fourth (p ∷ a) (q ∷ b) (r ∷ c) = refl

pub drop-lane_values : (n : ℕ) (a b c d : List ℤ) → lane_values (drop n a) (drop n b) (drop n c) (drop n d) ≡ drop n (lane_values a b c d)
drop-lane_values zero a b c d = refl
drop-lane_values (suc n) [] b c d = refl
drop-lane_values (suc n) (p ∷ a) [] c d = no_second (drop n a) (drop (suc n) c) (drop (suc n) d)
drop-lane_values (suc n) (p ∷ a) (q ∷ b) [] d = no_third (drop n a) (drop n b) (drop (suc n) d)
drop-lane_values (suc n) (p ∷ a) (q ∷ b) (r ∷ c) [] = no_fourth (drop n a) (drop n b) (drop n c)
drop-lane_values (suc n) (p ∷ a) (q ∷ b) (r ∷ c) (s ∷ d) = drop-lane_values n a b c d

pub chunk-lane_values : (i n : ℕ) (a b c d : List ℤ) → lane_values (chunk i n a) (chunk i n b) (chunk i n c) (chunk i n d) ≡ chunk i n (lane_values a b c d)
chunk-lane_values i n a b c d = take-lane_values n (drop i a) (drop i b) (drop i c) (drop i d) ∙ ap (take n) (drop-lane_values i a b c d)

-- the coefficient of a place whose numbers are read one by one
pub entry_back : (a b c d : List ℤ) (i : ℕ) → AreLanes a b c d → FitsSigned w64 (place a i) → FitsSigned w64 (place b i) → FitsSigned w64 (place c i) → FitsSigned w64 (place d i)
    → coefficient (to_z w64 (of_z w64 (place a i))) (to_z w64 (of_z w64 (place b i))) (to_z w64 (of_z w64 (place c i))) (to_z w64 (of_z w64 (place d i))) ≡ at (lane_values a b c d) i
entry_back a b c d i l f g h k = rw (to_z-of_z w64 (place a i) f, to_z-of_z w64 (place b i) g, to_z-of_z w64 (place c i) h, to_z-of_z w64 (place d i) k) (sym (at-lane_values a b c d i l))
