-- A gate on two qubits of a group is its own inverse, and keeps the group's size.
--     two_gate_twice     twice is nothing
--     two_gate_squares   the sum of squares stays
--     two_size           the size stays
use Rattle.std.proofs.Common.{◌≡◌, ◌≢◌, ℕ, ◌≤◌, Bool, true, false, not, cond, List, [], ◌∷◌, refl, sym, ap, subst, ◌∙◌}
use mathlib.Core.Path.{fun_ext}
use Rattle.state_model.specs.Coefficient.{Coefficient, zero_coefficient, Weight, weight, weight_sum, negated}
use Rattle.state_model.specs.Row.{is_set, with_bit, turned, is_listed, within, without}
use Rattle.state_model.specs.StateVector.{Vector, IsPart, IsSameState, IsSize, HasSizeAtLeast, squares_over}
use Rattle.state_model.specs.Amplitudes.{AreDistinct}
use Rattle.state_model.specs.Gate.{two_gate, controlled_not, controlled_phase}
use Rattle.state_model.specs.declared.Two.{Two}
use Rattle.state_model.specs.declared.Two.TheVariants as twos
use Rattle.state_model.proofs.Gates.{with_own_bit}
use Rattle.state_model.proofs.Insides.{two_gates_inside_make_parts}
use Rattle.state_model.proofs.Parts.{no_bit_outside}
use Rattle.state_model.proofs.RegisterSums.{weight_on, weight_on-same, weight_sum_comm}
use Rattle.state_model.proofs.RowLaws.{is_set-with_bit_other, is_set-turned_other}
use Rattle.state_model.proofs.Linear.{two_gate-IsHomogeneous}
use Rattle.state_model.proofs.SameStates.{same_after}
use Rattle.state_model.proofs.Sizes.{not_in}
use Rattle.state_model.proofs.TwoGateLists.{turned_twice, turned-with_bit, weight-phased, negated_twice}
use Rattle.cell_laws.proofs.Lengths.{middle, weight_on-member, squares_over-same}

-- ---- twice is nothing
pub two_gate_twice : (k : Two) (p q : ℕ) → p ≢ q → (v : Vector) → two_gate k p q (two_gate k p q v) ≡ v
unfolding two_gate controlled_not controlled_phase
two_gate_twice twos.Cnot p q apart v = fun_ext (λ x. by x (is_set p x) refl)
  where
    by : (x : ℕ) (t : Bool) → is_set p x ≡ t → v (cond (is_set p (cond (is_set p x) (turned q x) x)) (turned q (cond (is_set p x) (turned q x) x)) (cond (is_set p x) (turned q x) x)) ≡ v x
    by x true e =
        ap (λ t. v (cond (is_set p (cond t (turned q x) x)) (turned q (cond t (turned q x) x)) (cond t (turned q x) x))) e
        ∙ ap (λ t. v (cond t (turned q (turned q x)) (turned q x))) (is_set-turned_other p q x apart ∙ e) ∙ ap v (turned_twice q x)
    by x false e =
        ap (λ t. v (cond (is_set p (cond t (turned q x) x)) (turned q (cond t (turned q x) x)) (cond t (turned q x) x))) e
        ∙ ap (λ t. v (cond t (turned q x) x)) e
two_gate_twice twos.Cphase p q apart v = fun_ext (λ x. by (v x) (is_set p x) (is_set q x))
  where
    by : (z : Coefficient) (s t : Bool) → cond s (cond t (negated (cond s (cond t (negated z) z) z)) (cond s (cond t (negated z) z) z)) (cond s (cond t (negated z) z) z) ≡ z
    by z true true = negated_twice z
    by z true false = refl
    by z false t = refl

-- ---- sums over rows
weight_on-sum : (g : List ℕ) (f h : ℕ → Weight) → weight_on g (λ x. weight_sum (f x) (h x)) ≡ weight_sum (weight_on g f) (weight_on g h)
unfolding weight_on
weight_on-sum [] f h = refl
weight_on-sum (q ∷ g) f h =
    ap (λ w. weight_sum w (weight_on g (λ x. weight_sum (f (with_bit q true x)) (h (with_bit q true x))))) (weight_on-sum g f h)
    ∙ ap (weight_sum (weight_sum (weight_on g f) (weight_on g h))) (weight_on-sum g (λ x. f (with_bit q true x)) (λ x. h (with_bit q true x)))
    ∙ middle (weight_on g f) (weight_on g h) (weight_on g (λ x. f (with_bit q true x))) (weight_on g (λ x. h (with_bit q true x)))

-- a sum by the pairs of rows that differ in the bit of a member
by_pairs : (g : List ℕ) (q : ℕ) → AreDistinct g → is_listed g q ≡ true → (f : ℕ → Weight)
    → weight_on g f ≡ weight_on (without g q) (λ x. weight_sum (f (with_bit q false x)) (f (with_bit q true x)))
by_pairs g q apart inside f =
    weight_on-member g q apart inside f ∙ sym (weight_on-sum (without g q) f (λ x. f (with_bit q true x)))
    ∙ weight_on-same (without g q) (λ x. weight_sum (f x) (f (with_bit q true x))) (λ x. weight_sum (f (with_bit q false x)) (f (with_bit q true x)))
    (λ x is. ap (λ n. weight_sum (f n) (f (with_bit q true x))) (sym (cleared x is)))
  where
    cleared : (x : ℕ) → within (without g q) x ≡ x → with_bit q false x ≡ x
    cleared x is = ap (λ b. with_bit q b x) (sym (no_bit_outside (without g q) x q is (not_in g q))) ∙ with_own_bit q x

-- where each such pair has the same weight, so has the whole
same_pairs : (g : List ℕ) (q : ℕ) → AreDistinct g → is_listed g q ≡ true → (f h : ℕ → Weight)
    → ((x : ℕ) → weight_sum (f (with_bit q false x)) (f (with_bit q true x)) ≡ weight_sum (h (with_bit q false x)) (h (with_bit q true x))) → weight_on g f ≡ weight_on g h
same_pairs g q apart inside f h each =
    by_pairs g q apart inside f
    ∙ weight_on-same (without g q) (λ x. weight_sum (f (with_bit q false x)) (f (with_bit q true x))) (λ x. weight_sum (h (with_bit q false x)) (h (with_bit q true x))) (λ x is. each x)
    ∙ sym (by_pairs g q apart inside h)

-- ---- the gates
two_gate_weights : (k : Two) (g : List ℕ) (p q : ℕ) → p ≢ q → AreDistinct g → is_listed g q ≡ true → (u : Vector) → weight_on g (λ x. weight (two_gate k p q u x)) ≡ weight_on g (λ x. weight (u x))
unfolding two_gate controlled_not controlled_phase
two_gate_weights twos.Cnot g p q other apart inside u =
    same_pairs g q apart inside (λ x. weight (u (cond (is_set p x) (turned q x) x))) (λ x. weight (u x)) (λ x.
    ap (λ w. weight_sum w (weight (u (cond (is_set p (with_bit q true x)) (turned q (with_bit q true x)) (with_bit q true x))))) (at false x)
    ∙ ap (weight_sum (weight (u (cond (is_set p x) (with_bit q true x) (with_bit q false x))))) (at true x) ∙ by x (is_set p x))
  where
    at : (b : Bool) (x : ℕ) → weight (u (cond (is_set p (with_bit q b x)) (turned q (with_bit q b x)) (with_bit q b x))) ≡ weight (u (cond (is_set p x) (with_bit q (not b) x) (with_bit q b x)))
    at b x = ap (λ t. weight (u (cond t (turned q (with_bit q b x)) (with_bit q b x)))) (is_set-with_bit_other p q b x other) ∙ ap (λ n. weight (u (cond (is_set p x) n (with_bit q b x)))) (turned-with_bit q b x)

    by : (x : ℕ) (t : Bool) → weight_sum (weight (u (cond t (with_bit q true x) (with_bit q false x)))) (weight (u (cond t (with_bit q false x) (with_bit q true x)))) ≡ weight_sum (weight (u (with_bit q false x))) (weight (u (with_bit q true x)))
    by x true = weight_sum_comm (weight (u (with_bit q true x))) (weight (u (with_bit q false x)))
    by x false = refl
two_gate_weights twos.Cphase g p q other apart inside u = weight_on-same g _ (λ x. weight (u x)) (λ x is. weight-phased (is_set p x) (is_set q x) (u x))

pub two_gate_squares : (k : Two) (g : List ℕ) (p q : ℕ) → p ≢ q → AreDistinct g → is_listed g q ≡ true → (u : Vector) → squares_over g (two_gate k p q u) ≡ squares_over g u
two_gate_squares k g p q other apart inside u = squares_over-same g g (two_gate k p q u) u (two_gate_weights k g p q other apart inside u)

-- the gate respects same states
pub two_same : (k : Two) (p q : ℕ) (v u : Vector) → ¬ ((x : ℕ) → v x ≡ zero_coefficient) → IsSameState v u → IsSameState (two_gate k p q v) (two_gate k p q u)
two_same k p q v u some same = same_after (two_gate k p q) (two_gate-IsHomogeneous k p q) v u some same

-- ---- sizes
module _ (k : Two) (g : List ℕ) (p q : ℕ) (other : p ≢ q) (apart : AreDistinct g) (in_p : is_listed g p ≡ true) (in_q : is_listed g q ≡ true) where
  -- a part after the gate gives one before it
  part_before : (v u : Vector) → IsPart (two_gate k p q v) g u → IsPart v g (two_gate k p q u)
  part_before v u part = subst (λ (w : Vector). IsPart w g (two_gate k p q u)) (two_gate_twice k p q other v) (two_gates_inside_make_parts k p q g other in_p in_q (two_gate k p q v) u part)

  pub two_size : (v : Vector) (n : ℕ) → HasSizeAtLeast v g n → HasSizeAtLeast (two_gate k p q v) g n
  two_size v n large u part = subst (λ m. n ≤ m) (two_gate_squares k g p q other apart in_q u) (large (two_gate k p q u) (part_before v u part))

  pub two_size_before : (v : Vector) (n : ℕ) → HasSizeAtLeast (two_gate k p q v) g n → HasSizeAtLeast v g n
  two_size_before v n large = subst (λ (w : Vector). HasSizeAtLeast w g n) (two_gate_twice k p q other v) (two_size (two_gate k p q v) n large)

  pub two_size_is : (v : Vector) (n : ℕ) → IsSize v g n → IsSize (two_gate k p q v) g n
  two_size_is v n size = record {
    least = two_size v n size.least;
    vector = two_gate k p q size.vector;
    part = two_gates_inside_make_parts k p q g other in_p in_q v size.vector size.part;
    reached = two_gate_squares k g p q other apart in_q size.vector ∙ size.reached;
  }
