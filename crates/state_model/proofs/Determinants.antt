-- The determinant of each gate's matrix is not zero.
use Prim.Native.Nat.{zero, suc}
use Rattle.std.proofs.Common.{◌≡◌, ◌≢◌, ℕ, ℤ, pos, negsuc, ◌+ℤ◌, neg_ℤ, refl, sym, ap, ◌∙◌, arith}
use borrow.Author.Differences.{ints, same_in, sum_is_lem, neg_is}
use Rattle.state_model.specs.Coefficient.{Coefficient, zero_coefficient, one_coefficient, ◌⊕◌, ◌⊗◌, negated, times_root, root}
use Rattle.state_model.specs.Gate.{imaginary, matrix}
use Rattle.state_model.specs.declared.Gate.{Gate}
use Rattle.state_model.specs.declared.Gate.TheVariants.{I, X, Y, Z, T, H, K, RotX, RotY, RotZ}
use Rattle.state_model.proofs.Integers.{expand}
use Rattle.state_model.proofs.Ring.{same_coordinates, ⊗_comm, ⊗_assoc}
use Rattle.state_model.proofs.Products.{one_some}
use Rattle.state_model.proofs.Gates.{determinant}

-- no power of w is zero
pub root_some : (k : ℕ) → root k ≢ zero_coefficient
unfolding root
root_some zero e = one_some e
root_some (suc k) e = root_some k (of_times (root k) e)
  where
    of_times : (z : Coefficient) → times_root z ≡ zero_coefficient → z ≡ zero_coefficient
    of_times z e = same_coordinates _ _ (ap (λ t. t.b) e) (ap (λ t. t.c) e) (ap (λ t. t.d) e) (let f : neg_ℤ z.d ≡ pos 0 = ap (λ t. t.a) e in omega (arith, ints))

doubled_some : (z : Coefficient) → z ⊕ z ≡ zero_coefficient → z ≡ zero_coefficient
doubled_some z e = same_coordinates _ _ (half z.a (ap (λ t. t.a) e)) (half z.b (ap (λ t. t.b) e)) (half z.c (ap (λ t. t.c) e)) (half z.d (ap (λ t. t.d) e))
  where
    half : (n : ℤ) → n +ℤ n ≡ pos 0 → n ≡ pos 0
    half n e = omega (arith, ints)

-- the difference of two squares
squares_differ : (e z : Coefficient) → (e ⊕ z) ⊗ (e ⊕ z) ⊕ negated ((e ⊕ negated z) ⊗ (e ⊕ negated z)) ≡ (e ⊗ z ⊕ z ⊗ e) ⊕ (e ⊗ z ⊕ z ⊗ e)
squares_differ e z = same_coordinates _ _
    (simp expand (omega (arith, same_in, sum_is_lem, neg_is)))
    (simp expand (omega (arith, same_in, sum_is_lem, neg_is)))
    (simp expand (omega (arith, same_in, sum_is_lem, neg_is)))
    (simp expand (omega (arith, same_in, sum_is_lem, neg_is)))

unit_times : (t : Coefficient) → one_coefficient ⊗ t ≡ t
unit_times t = same_coordinates _ _ (omega (arith, ints)) (omega (arith, ints)) (omega (arith, ints)) (omega (arith, ints))

four_times : (z : Coefficient) → (one_coefficient ⊕ z) ⊗ (one_coefficient ⊕ z) ⊕ negated ((one_coefficient ⊕ negated z) ⊗ (one_coefficient ⊕ negated z)) ≡ (z ⊕ z) ⊕ (z ⊕ z)
four_times z = squares_differ one_coefficient z ∙ ap (λ t. (t ⊕ z ⊗ one_coefficient) ⊕ (t ⊕ z ⊗ one_coefficient)) (unit_times z) ∙ ap (λ t. (z ⊕ t) ⊕ (z ⊕ t)) (⊗_comm z one_coefficient ∙ unit_times z)

-- -i and i cancel
pub turned_back : (y z : Coefficient) → (negated imaginary ⊗ y) ⊗ (imaginary ⊗ z) ≡ y ⊗ z
turned_back y z =
    ⊗_assoc (negated imaginary) y (imaginary ⊗ z) ∙ ap (λ t. negated imaginary ⊗ t) (⊗_comm y (imaginary ⊗ z) ∙ ⊗_assoc imaginary z y)
    ∙ sym (⊗_assoc (negated imaginary) imaginary (z ⊗ y)) ∙ one (z ⊗ y) ∙ ⊗_comm z y
  where
    is_unit : negated imaginary ⊗ imaginary ≡ one_coefficient
    is_unit = unfold imaginary root in refl

    one : (t : Coefficient) → (negated imaginary ⊗ imaginary) ⊗ t ≡ t
    one t = ap (λ k. k ⊗ t) is_unit ∙ unit_times t

diagonal : (z : Coefficient) → one_coefficient ⊗ z ⊕ negated (zero_coefficient ⊗ zero_coefficient) ≡ z
diagonal z = same_coordinates _ _ (omega (arith, ints)) (omega (arith, ints)) (omega (arith, ints)) (omega (arith, ints))

-- the determinant of each gate
pub determinant_of : Gate → Coefficient
determinant_of I = one_coefficient
determinant_of X = negated one_coefficient
determinant_of Y = negated one_coefficient
determinant_of Z = negated one_coefficient
determinant_of T = root 1
determinant_of H = negated one_coefficient ⊕ negated one_coefficient
determinant_of K = negated one_coefficient ⊕ negated one_coefficient
determinant_of (RotX k) = (root k ⊕ root k) ⊕ (root k ⊕ root k)
determinant_of (RotY k) = (root k ⊕ root k) ⊕ (root k ⊕ root k)
determinant_of (RotZ k) = root k

pub determinant_is : (g : Gate) → determinant (matrix g) ≡ determinant_of g
determinant_is I = unfold determinant determinant_of matrix imaginary root in refl
determinant_is X = unfold determinant determinant_of matrix imaginary root in refl
determinant_is Y = unfold determinant determinant_of matrix imaginary root in refl
determinant_is Z = unfold determinant determinant_of matrix imaginary root in refl
determinant_is T = unfold determinant determinant_of matrix imaginary root in refl
determinant_is H = unfold determinant determinant_of matrix imaginary root in refl
determinant_is K = unfold determinant determinant_of matrix imaginary root in refl
determinant_is (RotX k) = unfold determinant matrix determinant_of in four_times (root k)
determinant_is (RotY k) = unfold determinant matrix determinant_of in (ap (λ t. (one_coefficient ⊕ root k) ⊗ (one_coefficient ⊕ root k) ⊕ negated t) (turned_back (one_coefficient ⊕ negated (root k)) (one_coefficient ⊕ negated (root k))) ∙ four_times (root k))
determinant_is (RotZ k) = unfold determinant matrix determinant_of in diagonal (root k)

minus_one_some : negated one_coefficient ≢ zero_coefficient
minus_one_some e = let f : negsuc 0 ≡ pos 0 = ap (λ z. z.a) e in cc

determinant_of-some : (g : Gate) → determinant_of g ≢ zero_coefficient
unfolding determinant_of
determinant_of-some I = one_some
determinant_of-some X = minus_one_some
determinant_of-some Y = minus_one_some
determinant_of-some Z = minus_one_some
determinant_of-some T = root_some 1
determinant_of-some H = λ e. minus_one_some (doubled_some _ e)
determinant_of-some K = λ e. minus_one_some (doubled_some _ e)
determinant_of-some (RotX k) = λ e. root_some k (doubled_some _ (doubled_some _ e))
determinant_of-some (RotY k) = λ e. root_some k (doubled_some _ (doubled_some _ e))
determinant_of-some (RotZ k) = root_some k

pub determinant_some : (g : Gate) → determinant (matrix g) ≢ zero_coefficient
determinant_some g e = determinant_of-some g (sym (determinant_is g) ∙ e)
