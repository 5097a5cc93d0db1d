-- The laws of undoing: matrices, vectors, rows and parts.
use Rattle.std.proofs.Common.{◌≡◌, ℕ, Bool, true, false, refl, sym, ap, ◌∙◌, arith}
use borrow.Author.Differences.{ints}
use Rattle.state_model.specs.Coefficient.{Coefficient, zero_coefficient, one_coefficient, ◌⊕◌, ◌⊗◌, conjugate, root}
use Rattle.state_model.specs.Row.{is_set, with_bit}
use Rattle.state_model.specs.StateVector.{Vector}
use Rattle.state_model.specs.Gate.{Matrix, imaginary, matrix, entry, gate}
use Rattle.state_model.specs.Undo.{product, adjoint, times_one, identity_times, scale_of}
use Rattle.state_model.specs.Laws.{GatesCanBeUndone, AdjointsUndoGates, GatesKeepRows, GatesInsideMakeParts}
use Rattle.state_model.specs.declared.Gate.TheVariants.{I, X, Y, Z, T, H, K, RotX, RotY, RotZ}
use Rattle.state_model.proofs.Ring.{same_coordinates, ⊕_comm, ⊕_assoc, ⊗_comm, ⊗_assoc, ⊗-⊕}
use Rattle.state_model.proofs.Domain.{zero_coefficient-⊗}
use Rattle.state_model.proofs.RowLaws.{is_set-with_bit_same}
use Rattle.state_model.proofs.Gates.{with_bit_again, with_own_bit, gate_some_row, gate_part}
use Rattle.state_model.proofs.Determinants.{determinant_some}
use Rattle.state_model.proofs.Undoing.{turn_x, turn_y, turn_z, turn_x-undone, turn_y-undone, turn_z-undone, turn_x-adjoint, turn_y-adjoint, turn_z-adjoint, conjugate-root}

-- a turn and its adjoint, in both orders
both_orders : (turn : Coefficient → Matrix) (n : ℕ) → ((c z : Coefficient) → c ⊗ z ≡ one_coefficient → product (turn c) (turn z) ≡ identity_times n) → ((z : Coefficient) → adjoint (turn z) ≡ turn (conjugate z))
    → (k : ℕ) → (product (adjoint (turn (root k))) (turn (root k)) ≡ identity_times n) × (product (turn (root k)) (adjoint (turn (root k))) ≡ identity_times n)
both_orders turn n undone adjoint_is k = (
  ap (λ m. product m (turn (root k))) (adjoint_is (root k)) ∙ undone (conjugate (root k)) (root k) (conjugate-root k),
  ap (λ m. product (turn (root k)) m) (adjoint_is (root k)) ∙ undone (root k) (conjugate (root k)) (⊗_comm (root k) (conjugate (root k)) ∙ conjugate-root k),
)

rotated_x : (k : ℕ) → (product (adjoint (matrix (RotX k))) (matrix (RotX k)) ≡ identity_times (scale_of (RotX k))) × (product (matrix (RotX k)) (adjoint (matrix (RotX k))) ≡ identity_times (scale_of (RotX k)))
unfolding matrix scale_of turn_x
rotated_x k = both_orders turn_x 4 turn_x-undone turn_x-adjoint k

rotated_y : (k : ℕ) → (product (adjoint (matrix (RotY k))) (matrix (RotY k)) ≡ identity_times (scale_of (RotY k))) × (product (matrix (RotY k)) (adjoint (matrix (RotY k))) ≡ identity_times (scale_of (RotY k)))
unfolding matrix scale_of turn_y
rotated_y k = both_orders turn_y 4 turn_y-undone turn_y-adjoint k

rotated_z : (k : ℕ) → (product (adjoint (matrix (RotZ k))) (matrix (RotZ k)) ≡ identity_times (scale_of (RotZ k))) × (product (matrix (RotZ k)) (adjoint (matrix (RotZ k))) ≡ identity_times (scale_of (RotZ k)))
unfolding matrix scale_of turn_z
rotated_z k = both_orders turn_z 1 turn_z-undone turn_z-adjoint k

pub gates_can_be_undone : GatesCanBeUndone
unfolding product adjoint matrix imaginary identity_times times_one scale_of root
gates_can_be_undone I = (refl, refl)
gates_can_be_undone X = (refl, refl)
gates_can_be_undone Y = (refl, refl)
gates_can_be_undone Z = (refl, refl)
gates_can_be_undone T = (refl, refl)
gates_can_be_undone H = (refl, refl)
gates_can_be_undone K = (refl, refl)
gates_can_be_undone (RotX k) = rotated_x k
gates_can_be_undone (RotY k) = rotated_y k
gates_can_be_undone (RotZ k) = rotated_z k

-- a sum times a factor
sum_times : (a b c : Coefficient) → (a ⊕ b) ⊗ c ≡ a ⊗ c ⊕ b ⊗ c
sum_times a b c = ⊗_comm (a ⊕ b) c ∙ ⊗-⊕ c a b ∙ ap (λ t. t ⊕ c ⊗ b) (⊗_comm c a) ∙ ap (λ t. a ⊗ c ⊕ t) (⊗_comm c b)

middle : (a b c d : Coefficient) → (a ⊕ b) ⊕ (c ⊕ d) ≡ (a ⊕ c) ⊕ (b ⊕ d)
middle a b c d = ⊕_assoc a b (c ⊕ d) ∙ ap (λ t. a ⊕ t) (sym (⊕_assoc b c d) ∙ ap (λ t. t ⊕ d) (⊕_comm b c) ∙ ⊕_assoc c b d) ∙ sym (⊕_assoc a c (b ⊕ d))

-- two rows after one another
rows_after : (a b m n k l y z : Coefficient) → a ⊗ (m ⊗ y ⊕ n ⊗ z) ⊕ b ⊗ (k ⊗ y ⊕ l ⊗ z) ≡ (a ⊗ m ⊕ b ⊗ k) ⊗ y ⊕ (a ⊗ n ⊕ b ⊗ l) ⊗ z
rows_after a b m n k l y z =
    ap (λ t. t ⊕ b ⊗ (k ⊗ y ⊕ l ⊗ z)) (⊗-⊕ a (m ⊗ y) (n ⊗ z) ∙ ap (λ t. t ⊕ a ⊗ (n ⊗ z)) (sym (⊗_assoc a m y)) ∙ ap (λ t. (a ⊗ m) ⊗ y ⊕ t) (sym (⊗_assoc a n z)))
    ∙ ap (λ t. ((a ⊗ m) ⊗ y ⊕ (a ⊗ n) ⊗ z) ⊕ t) (⊗-⊕ b (k ⊗ y) (l ⊗ z) ∙ ap (λ t. t ⊕ b ⊗ (l ⊗ z)) (sym (⊗_assoc b k y)) ∙ ap (λ t. (b ⊗ k) ⊗ y ⊕ t) (sym (⊗_assoc b l z)))
    ∙ middle ((a ⊗ m) ⊗ y) ((a ⊗ n) ⊗ z) ((b ⊗ k) ⊗ y) ((b ⊗ l) ⊗ z)
    ∙ ap (λ t. t ⊕ ((a ⊗ n) ⊗ z ⊕ (b ⊗ l) ⊗ z)) (sym (sum_times (a ⊗ m) (b ⊗ k) y)) ∙ ap (λ t. (a ⊗ m ⊕ b ⊗ k) ⊗ y ⊕ t) (sym (sum_times (a ⊗ n) (b ⊗ l) z))

entry-product : (m n : Matrix) (b : Bool) (y z : Coefficient) → entry m b (entry n false y z) (entry n true y z) ≡ entry (product m n) b y z
unfolding entry product
entry-product m n false y z = rows_after m.zero_zero m.zero_one n.zero_zero n.zero_one n.one_zero n.one_one y z
entry-product m n true y z = rows_after m.one_zero m.one_one n.zero_zero n.zero_one n.one_zero n.one_one y z

-- one gate after another is the gate of the product
pub gate-product : (m n : Matrix) (q : ℕ) (v : Vector) (x : ℕ) → gate m q (gate n q v) x ≡ gate (product m n) q v x
unfolding gate
gate-product m n q v x =
    ap (λ t. entry m (is_set q x) t (at true)) (at_is false) ∙ ap (λ t. entry m (is_set q x) (entry n false low high) t) (at_is true) ∙ entry-product m n (is_set q x) low high
  where
    low : Coefficient
    low = v (with_bit q false x)

    high : Coefficient
    high = v (with_bit q true x)

    at : Bool → Coefficient
    at b = entry n (is_set q (with_bit q b x)) (v (with_bit q false (with_bit q b x))) (v (with_bit q true (with_bit q b x)))

    at_is : (b : Bool) → at b ≡ entry n b low high
    at_is b =
        ap (λ t. entry n t (v (with_bit q false (with_bit q b x))) (v (with_bit q true (with_bit q b x)))) (is_set-with_bit_same q b x)
        ∙ ap (λ r. entry n b (v r) (v (with_bit q true (with_bit q b x)))) (with_bit_again q false b x) ∙ ap (λ r. entry n b low (v r)) (with_bit_again q true b x)

sum_absent : (y : Coefficient) → y ⊕ zero_coefficient ≡ y
sum_absent y = same_coordinates _ _ (omega (arith, ints)) (omega (arith, ints)) (omega (arith, ints)) (omega (arith, ints))

-- n times the identity takes each coefficient n times
gate-identity_times : (n q : ℕ) (v : Vector) (x : ℕ) → gate (identity_times n) q v x ≡ times_one n ⊗ v x
unfolding gate entry identity_times
gate-identity_times n q v x = by (is_set q x) ∙ ap (λ r. times_one n ⊗ v r) (with_own_bit q x)
  where
    by : (b : Bool) → entry (identity_times n) b (v (with_bit q false x)) (v (with_bit q true x)) ≡ times_one n ⊗ v (with_bit q b x)
    by false = ap (λ t. times_one n ⊗ v (with_bit q false x) ⊕ t) (zero_coefficient-⊗ (v (with_bit q true x))) ∙ sum_absent (times_one n ⊗ v (with_bit q false x))
    by true = ap (λ t. t ⊕ times_one n ⊗ v (with_bit q true x)) (zero_coefficient-⊗ (v (with_bit q false x))) ∙ ⊕_comm zero_coefficient (times_one n ⊗ v (with_bit q true x)) ∙ sum_absent (times_one n ⊗ v (with_bit q true x))

pub adjoints_undo_gates : AdjointsUndoGates
adjoints_undo_gates g q v x = gate-product (adjoint (matrix g)) (matrix g) q v x ∙ ap (λ m. gate m q v x) ((gates_can_be_undone g).0) ∙ gate-identity_times (scale_of g) q v x

pub gates_keep_rows : GatesKeepRows
gates_keep_rows g q v some = gate_some_row (matrix g) q v (determinant_some g) some

pub gates_inside_make_parts : GatesInsideMakeParts
gates_inside_make_parts g q group inside v u part = gate_part group (matrix g) q (determinant_some g) inside v u part
