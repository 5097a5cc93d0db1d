-- Each gate's matrix and its adjoint make 1, 2 or 4 times the identity, so a gate can be undone.
use Prim.Native.Nat.{zero, suc}
use Rattle.std.proofs.Common.{◌≡◌, ℕ, refl, sym, ap, ◌∙◌, arith}
use borrow.Author.Differences.{ints, same_in, sum_is_lem, neg_is}
use Rattle.state_model.specs.Coefficient.{Coefficient, zero_coefficient, one_coefficient, ◌⊕◌, ◌⊗◌, negated, conjugate, times_root, root}
use Rattle.state_model.specs.Gate.{Matrix, imaginary}
use Rattle.state_model.specs.Undo.{product, adjoint, times_one, identity_times}
use Rattle.state_model.proofs.Integers.{expand}
use Rattle.state_model.proofs.Ring.{same_coordinates, ⊕_comm, ⊗_comm, ⊗_assoc, ⊗-⊕, conjugate-⊗}
use Rattle.state_model.proofs.Domain.{⊗-zero_coefficient}
use Rattle.state_model.proofs.Determinants.{turned_back}

-- equal entries make equal matrices
same_matrix : (m n : Matrix) → m.zero_zero ≡ n.zero_zero → m.zero_one ≡ n.zero_one → m.one_zero ≡ n.one_zero → m.one_one ≡ n.one_one → m ≡ n
same_matrix m n a b c d = λ i. record { zero_zero = a i; zero_one = b i; one_zero = c i; one_one = d i }

-- ---- conjugates
conjugate-⊕ : (y z : Coefficient) → conjugate (y ⊕ z) ≡ conjugate y ⊕ conjugate z
conjugate-⊕ y z = same_coordinates _ _ (omega (arith, ints)) (omega (arith, ints)) (omega (arith, ints)) (omega (arith, ints))

conjugate-negated : (z : Coefficient) → conjugate (negated z) ≡ negated (conjugate z)
conjugate-negated z = same_coordinates _ _ (omega (arith, ints)) (omega (arith, ints)) (omega (arith, ints)) (omega (arith, ints))

conjugate_unit : conjugate one_coefficient ≡ one_coefficient
conjugate_unit = refl

conjugate_imaginary : conjugate imaginary ≡ negated imaginary
unfolding imaginary root
conjugate_imaginary = refl

conjugate_imaginary_negated : conjugate (negated imaginary) ≡ imaginary
unfolding imaginary root
conjugate_imaginary_negated = refl

conjugate_turned : (z : Coefficient) → conjugate (times_root z) ⊗ times_root z ≡ conjugate z ⊗ z
conjugate_turned z = same_coordinates _ _
    (simp expand (omega (arith, same_in, sum_is_lem, neg_is)))
    (simp expand (omega (arith, same_in, sum_is_lem, neg_is)))
    (simp expand (omega (arith, same_in, sum_is_lem, neg_is)))
    (simp expand (omega (arith, same_in, sum_is_lem, neg_is)))

-- a power of w times its conjugate is one
pub conjugate-root : (k : ℕ) → conjugate (root k) ⊗ root k ≡ one_coefficient
unfolding root
conjugate-root zero = refl
conjugate-root (suc k) = conjugate_turned (root k) ∙ conjugate-root k

-- ---- the rotations
same_signs : (e c f z : Coefficient) → (e ⊕ c) ⊗ (f ⊕ z) ⊕ (e ⊕ negated c) ⊗ (f ⊕ negated z) ≡ (e ⊗ f ⊕ c ⊗ z) ⊕ (e ⊗ f ⊕ c ⊗ z)
same_signs e c f z = same_coordinates _ _
    (simp expand (omega (arith, same_in, sum_is_lem, neg_is)))
    (simp expand (omega (arith, same_in, sum_is_lem, neg_is)))
    (simp expand (omega (arith, same_in, sum_is_lem, neg_is)))
    (simp expand (omega (arith, same_in, sum_is_lem, neg_is)))

other_signs : (e c f z : Coefficient) → (e ⊕ c) ⊗ (f ⊕ negated z) ⊕ (e ⊕ negated c) ⊗ (f ⊕ z) ≡ (e ⊗ f ⊕ negated (c ⊗ z)) ⊕ (e ⊗ f ⊕ negated (c ⊗ z))
other_signs e c f z = same_coordinates _ _
    (simp expand (omega (arith, same_in, sum_is_lem, neg_is)))
    (simp expand (omega (arith, same_in, sum_is_lem, neg_is)))
    (simp expand (omega (arith, same_in, sum_is_lem, neg_is)))
    (simp expand (omega (arith, same_in, sum_is_lem, neg_is)))

four_units : (one_coefficient ⊗ one_coefficient ⊕ one_coefficient) ⊕ (one_coefficient ⊗ one_coefficient ⊕ one_coefficient) ≡ times_one 4
unfolding times_one
four_units = refl

no_units : (one_coefficient ⊗ one_coefficient ⊕ negated one_coefficient) ⊕ (one_coefficient ⊗ one_coefficient ⊕ negated one_coefficient) ≡ zero_coefficient
no_units = refl

diagonal_is : (c z : Coefficient) → c ⊗ z ≡ one_coefficient → (one_coefficient ⊕ c) ⊗ (one_coefficient ⊕ z) ⊕ (one_coefficient ⊕ negated c) ⊗ (one_coefficient ⊕ negated z) ≡ times_one 4
diagonal_is c z e = same_signs one_coefficient c one_coefficient z ∙ ap (λ t. (one_coefficient ⊗ one_coefficient ⊕ t) ⊕ (one_coefficient ⊗ one_coefficient ⊕ t)) e ∙ four_units

other_is : (c z : Coefficient) → c ⊗ z ≡ one_coefficient → (one_coefficient ⊕ c) ⊗ (one_coefficient ⊕ negated z) ⊕ (one_coefficient ⊕ negated c) ⊗ (one_coefficient ⊕ z) ≡ zero_coefficient
other_is c z e = other_signs one_coefficient c one_coefficient z ∙ ap (λ t. (one_coefficient ⊗ one_coefficient ⊕ negated t) ⊕ (one_coefficient ⊗ one_coefficient ⊕ negated t)) e ∙ no_units

-- the matrices of the turns by z
unfoldable pub turn_x : Coefficient → Matrix
turn_x z = record { zero_zero = one_coefficient ⊕ z; zero_one = one_coefficient ⊕ negated z; one_zero = one_coefficient ⊕ negated z; one_one = one_coefficient ⊕ z }

unfoldable pub turn_y : Coefficient → Matrix
turn_y z = record { zero_zero = one_coefficient ⊕ z; zero_one = negated imaginary ⊗ (one_coefficient ⊕ negated z); one_zero = imaginary ⊗ (one_coefficient ⊕ negated z); one_one = one_coefficient ⊕ z }

unfoldable pub turn_z : Coefficient → Matrix
turn_z z = record { zero_zero = one_coefficient; zero_one = zero_coefficient; one_zero = zero_coefficient; one_one = z }

pub turn_x-undone : (c z : Coefficient) → c ⊗ z ≡ one_coefficient → product (turn_x c) (turn_x z) ≡ identity_times 4
unfolding product turn_x identity_times
turn_x-undone c z e = same_matrix _ _
    (diagonal_is c z e)
    (other_is c z e)
    (⊕_comm ((one_coefficient ⊕ negated c) ⊗ (one_coefficient ⊕ z)) ((one_coefficient ⊕ c) ⊗ (one_coefficient ⊕ negated z)) ∙ other_is c z e)
    (⊕_comm ((one_coefficient ⊕ negated c) ⊗ (one_coefficient ⊕ negated z)) ((one_coefficient ⊕ c) ⊗ (one_coefficient ⊕ z)) ∙ diagonal_is c z e)

-- a factor common to both terms
common : (k a b c d : Coefficient) → a ⊗ (k ⊗ b) ⊕ (k ⊗ c) ⊗ d ≡ k ⊗ (a ⊗ b ⊕ c ⊗ d)
common k a b c d =
    ap (λ t. t ⊕ (k ⊗ c) ⊗ d) (sym (⊗_assoc a k b) ∙ ap (λ t. t ⊗ b) (⊗_comm a k) ∙ ⊗_assoc k a b) ∙ ap (λ t. k ⊗ (a ⊗ b) ⊕ t) (⊗_assoc k c d) ∙ sym (⊗-⊕ k (a ⊗ b) (c ⊗ d))

pub turn_y-undone : (c z : Coefficient) → c ⊗ z ≡ one_coefficient → product (turn_y c) (turn_y z) ≡ identity_times 4
unfolding product turn_y identity_times
turn_y-undone c z e = same_matrix _ _
    (ap (λ t. (one_coefficient ⊕ c) ⊗ (one_coefficient ⊕ z) ⊕ t) (turned_back (one_coefficient ⊕ negated c) (one_coefficient ⊕ negated z)) ∙ diagonal_is c z e)
    (common (negated imaginary) (one_coefficient ⊕ c) (one_coefficient ⊕ negated z) (one_coefficient ⊕ negated c) (one_coefficient ⊕ z) ∙ ap (λ t. negated imaginary ⊗ t) (other_is c z e) ∙ ⊗-zero_coefficient (negated imaginary))
    (⊕_comm ((imaginary ⊗ (one_coefficient ⊕ negated c)) ⊗ (one_coefficient ⊕ z)) ((one_coefficient ⊕ c) ⊗ (imaginary ⊗ (one_coefficient ⊕ negated z))) ∙ common imaginary (one_coefficient ⊕ c) (one_coefficient ⊕ negated z) (one_coefficient ⊕ negated c) (one_coefficient ⊕ z) ∙ ap (λ t. imaginary ⊗ t) (other_is c z e) ∙ ⊗-zero_coefficient imaginary)
    (ap (λ t. t ⊕ (one_coefficient ⊕ c) ⊗ (one_coefficient ⊕ z)) (⊗_comm (imaginary ⊗ (one_coefficient ⊕ negated c)) (negated imaginary ⊗ (one_coefficient ⊕ negated z)) ∙ turned_back (one_coefficient ⊕ negated z) (one_coefficient ⊕ negated c) ∙ ⊗_comm (one_coefficient ⊕ negated z) (one_coefficient ⊕ negated c)) ∙ ⊕_comm ((one_coefficient ⊕ negated c) ⊗ (one_coefficient ⊕ negated z)) ((one_coefficient ⊕ c) ⊗ (one_coefficient ⊕ z)) ∙ diagonal_is c z e)

pub turn_z-undone : (c z : Coefficient) → c ⊗ z ≡ one_coefficient → product (turn_z c) (turn_z z) ≡ identity_times 1
unfolding product turn_z identity_times times_one
turn_z-undone c z e = same_matrix _ _
    (refl)
    (ap (λ t. one_coefficient ⊗ zero_coefficient ⊕ t) (⊗_comm zero_coefficient z ∙ ⊗-zero_coefficient z) ∙ refl)
    (ap (λ t. zero_coefficient ⊗ one_coefficient ⊕ t) (⊗-zero_coefficient c) ∙ refl)
    (ap (λ t. zero_coefficient ⊗ zero_coefficient ⊕ t) e ∙ refl)

conjugate_sum : (z : Coefficient) → conjugate (one_coefficient ⊕ z) ≡ one_coefficient ⊕ conjugate z
conjugate_sum z = conjugate-⊕ one_coefficient z ∙ ap (λ t. t ⊕ conjugate z) conjugate_unit

conjugate_difference : (z : Coefficient) → conjugate (one_coefficient ⊕ negated z) ≡ one_coefficient ⊕ negated (conjugate z)
conjugate_difference z = conjugate_sum (negated z) ∙ ap (λ t. one_coefficient ⊕ t) (conjugate-negated z)

pub turn_x-adjoint : (z : Coefficient) → adjoint (turn_x z) ≡ turn_x (conjugate z)
unfolding adjoint turn_x
turn_x-adjoint z = same_matrix _ _ (conjugate_sum z) (conjugate_difference z) (conjugate_difference z) (conjugate_sum z)

pub turn_y-adjoint : (z : Coefficient) → adjoint (turn_y z) ≡ turn_y (conjugate z)
unfolding adjoint turn_y
turn_y-adjoint z = same_matrix _ _
    (conjugate_sum z)
    (conjugate-⊗ imaginary (one_coefficient ⊕ negated z) ∙ ap (λ t. t ⊗ conjugate (one_coefficient ⊕ negated z)) conjugate_imaginary ∙ ap (λ t. negated imaginary ⊗ t) (conjugate_difference z))
    (conjugate-⊗ (negated imaginary) (one_coefficient ⊕ negated z) ∙ ap (λ t. t ⊗ conjugate (one_coefficient ⊕ negated z)) conjugate_imaginary_negated ∙ ap (λ t. imaginary ⊗ t) (conjugate_difference z))
    (conjugate_sum z)

pub turn_z-adjoint : (z : Coefficient) → adjoint (turn_z z) ≡ turn_z (conjugate z)
unfolding adjoint turn_z
turn_z-adjoint z = same_matrix _ _ conjugate_unit conjugate_absent conjugate_absent refl
  where
    conjugate_absent : conjugate zero_coefficient ≡ zero_coefficient
    conjugate_absent = refl
