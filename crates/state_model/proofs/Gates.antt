-- A gate whose determinant is not zero leaves a row, and inside a group it makes a part of a part.
use Rattle.std.proofs.Common.{◌≡◌, ◌≢◌, ℕ, ◌==◌, Bool, true, false, List, refl, sym, ap, subst, ◌∙◌, arith}
use borrow.Author.Differences.{ints}
use Rattle.state_model.specs.Coefficient.{Coefficient, zero_coefficient, ◌⊕◌, ◌⊗◌, negated}
use Rattle.state_model.specs.Row.{is_set, with_bit, is_listed}
use Rattle.state_model.specs.StateVector.{Vector, IsOver, IsPart}
use Rattle.state_model.specs.Gate.{Matrix, entry, gate}
use Rattle.state_model.proofs.Ring.{same_coordinates, ⊕_comm, ⊗_comm, ⊗_assoc, ⊗-⊕}
use Rattle.state_model.proofs.Domain.{⊗-domain, ⊗-zero_coefficient}
use Rattle.state_model.proofs.SameStates.{stable}
use Rattle.state_model.proofs.Linear.{part_inside, gate-IsHomogeneous, gate-IsInside, negated_times}
use Rattle.state_model.proofs.Booleans.{eq_of, ne_of, clash}
use Rattle.state_model.proofs.Parts.{within_all, no_bit_outside}
use Rattle.state_model.proofs.RowLaws.{same_row, is_set-with_bit_same, is_set-with_bit_other}

-- the determinant of a matrix
unfoldable pub determinant : Matrix → Coefficient
determinant m = m.zero_zero ⊗ m.one_one ⊕ negated (m.zero_one ⊗ m.one_zero)

cancelled : (p q r s : Coefficient) → q ≡ s → (p ⊕ q) ⊕ negated (r ⊕ s) ≡ p ⊕ negated r
cancelled p q r s e = subst (λ t. (p ⊕ q) ⊕ negated (r ⊕ t) ≡ p ⊕ negated r) e (at p q r)
  where
    at : (p q r : Coefficient) → (p ⊕ q) ⊕ negated (r ⊕ q) ≡ p ⊕ negated r
    at p q r = same_coordinates _ _ (omega (arith, ints)) (omega (arith, ints)) (omega (arith, ints)) (omega (arith, ints))

-- the product of the determinant and a coefficient, from a row of the matrix times the other's entries
cramer : (a b c d x y : Coefficient) → (a ⊗ d ⊕ negated (b ⊗ c)) ⊗ x ≡ d ⊗ (a ⊗ x ⊕ b ⊗ y) ⊕ negated (b ⊗ (c ⊗ x ⊕ d ⊗ y))
cramer a b c d x y =
    ⊗_comm (a ⊗ d ⊕ negated (b ⊗ c)) x ∙ ⊗-⊕ x (a ⊗ d) (negated (b ⊗ c))
    ∙ ap (λ t. t ⊕ x ⊗ negated (b ⊗ c)) (⊗_comm x (a ⊗ d) ∙ ap (λ t. t ⊗ x) (⊗_comm a d) ∙ ⊗_assoc d a x)
    ∙ ap (λ t. d ⊗ (a ⊗ x) ⊕ t) (⊗_comm x (negated (b ⊗ c)) ∙ negated_times (b ⊗ c) x ∙ ap negated (⊗_assoc b c x))
    ∙ sym (cancelled (d ⊗ (a ⊗ x)) (d ⊗ (b ⊗ y)) (b ⊗ (c ⊗ x)) (b ⊗ (d ⊗ y)) (sym (⊗_assoc d b y) ∙ ap (λ t. t ⊗ y) (⊗_comm d b) ∙ ⊗_assoc b d y))
    ∙ ap (λ t. t ⊕ negated (b ⊗ (c ⊗ x) ⊕ b ⊗ (d ⊗ y))) (sym (⊗-⊕ d (a ⊗ x) (b ⊗ y)))
    ∙ ap (λ t. d ⊗ (a ⊗ x ⊕ b ⊗ y) ⊕ negated t) (sym (⊗-⊕ b (c ⊗ x) (d ⊗ y)))

zero_difference : zero_coefficient ⊕ negated zero_coefficient ≡ zero_coefficient
zero_difference = refl

-- where both rows of the matrix give zero, both coefficients are zero
both_zero : (m : Matrix) (x y : Coefficient) → determinant m ≢ zero_coefficient → entry m false x y ≡ zero_coefficient → entry m true x y ≡ zero_coefficient → (x ≡ zero_coefficient) × (y ≡ zero_coefficient)
unfolding entry determinant
both_zero m x y some e f = (
  ⊗-domain (determinant m) x some (
      cramer m.zero_zero m.zero_one m.one_zero m.one_one x y ∙ ap (λ t. m.one_one ⊗ t ⊕ negated (m.zero_one ⊗ (m.one_zero ⊗ x ⊕ m.one_one ⊗ y))) e
      ∙ ap (λ t. m.one_one ⊗ zero_coefficient ⊕ negated (m.zero_one ⊗ t)) f ∙ none m.one_one m.zero_one),
  ⊗-domain (determinant m) y some (
      ap (λ t. t ⊗ y) (ap (λ t. t ⊕ negated (m.zero_one ⊗ m.one_zero)) (⊗_comm m.zero_zero m.one_one) ∙ ap (λ t. m.one_one ⊗ m.zero_zero ⊕ negated t) (⊗_comm m.zero_one m.one_zero))
      ∙ cramer m.one_one m.one_zero m.zero_one m.zero_zero y x
      ∙ ap (λ t. m.zero_zero ⊗ t ⊕ negated (m.one_zero ⊗ (m.zero_one ⊗ y ⊕ m.zero_zero ⊗ x))) (⊕_comm (m.one_one ⊗ y) (m.one_zero ⊗ x) ∙ f)
      ∙ ap (λ t. m.zero_zero ⊗ zero_coefficient ⊕ negated (m.one_zero ⊗ t)) (⊕_comm (m.zero_one ⊗ y) (m.zero_zero ⊗ x) ∙ e) ∙ none m.zero_zero m.one_zero),
)
  where
    none : (k l : Coefficient) → k ⊗ zero_coefficient ⊕ negated (l ⊗ zero_coefficient) ≡ zero_coefficient
    none k l = ap (λ t. t ⊕ negated (l ⊗ zero_coefficient)) (⊗-zero_coefficient k) ∙ ap (λ t. zero_coefficient ⊕ negated t) (⊗-zero_coefficient l) ∙ zero_difference

pub with_bit_again : (q : ℕ) (c b : Bool) (x : ℕ) → with_bit q c (with_bit q b x) ≡ with_bit q c x
with_bit_again q c b x = same_row _ _ (λ p. at p (p == q) refl)
  where
    at : (p : ℕ) (t : Bool) → (p == q) ≡ t → is_set p (with_bit q c (with_bit q b x)) ≡ is_set p (with_bit q c x)
    at p true e = ap (λ n. is_set n (with_bit q c (with_bit q b x))) (eq_of p q e) ∙ is_set-with_bit_same q c _ ∙ sym (ap (λ n. is_set n (with_bit q c x)) (eq_of p q e) ∙ is_set-with_bit_same q c x)
    at p false e = is_set-with_bit_other p q c _ (ne_of p q e) ∙ is_set-with_bit_other p q b x (ne_of p q e) ∙ sym (is_set-with_bit_other p q c x (ne_of p q e))

pub with_own_bit : (q x : ℕ) → with_bit q (is_set q x) x ≡ x
with_own_bit q x = same_row _ _ (λ p. at p (p == q) refl)
  where
    at : (p : ℕ) (t : Bool) → (p == q) ≡ t → is_set p (with_bit q (is_set q x) x) ≡ is_set p x
    at p true e = ap (λ n. is_set n (with_bit q (is_set q x) x)) (eq_of p q e) ∙ is_set-with_bit_same q (is_set q x) x ∙ sym (ap (λ n. is_set n x) (eq_of p q e))
    at p false e = is_set-with_bit_other p q (is_set q x) x (ne_of p q e)

-- a gate leaves a row
pub gate_some_row : (m : Matrix) (q : ℕ) (v : Vector) → determinant m ≢ zero_coefficient → ¬ ((x : ℕ) → v x ≡ zero_coefficient) → ¬ ((x : ℕ) → gate m q v x ≡ zero_coefficient)
unfolding gate
gate_some_row m q v det some none = some (λ x. ap v (sym (with_own_bit q x)) ∙ at x (is_set q x))
  where
    row : (x : ℕ) (b : Bool) → entry m b (v (with_bit q false x)) (v (with_bit q true x)) ≡ zero_coefficient
    row x b =
        ap (λ n. entry m b (v n) (v (with_bit q true x))) (sym (with_bit_again q false b x)) ∙ ap (λ n. entry m b (v (with_bit q false (with_bit q b x))) (v n)) (sym (with_bit_again q true b x))
        ∙ ap (λ t. entry m t (v (with_bit q false (with_bit q b x))) (v (with_bit q true (with_bit q b x)))) (sym (is_set-with_bit_same q b x)) ∙ none (with_bit q b x)

    at : (x : ℕ) (b : Bool) → v (with_bit q b x) ≡ zero_coefficient
    at x false = (both_zero m (v (with_bit q false x)) (v (with_bit q true x)) det (row x false) (row x true)).0
    at x true = (both_zero m (v (with_bit q false x)) (v (with_bit q true x)) det (row x false) (row x true)).1

pub entry_absent : (m : Matrix) (b : Bool) (x y : Coefficient) → x ≡ zero_coefficient → y ≡ zero_coefficient → entry m b x y ≡ zero_coefficient
entry_absent m b x y e f = ap (λ t. entry m b t y) e ∙ ap (λ t. entry m b zero_coefficient t) f ∙ none b
  where
    sum : (k l : Coefficient) → k ⊗ zero_coefficient ⊕ l ⊗ zero_coefficient ≡ zero_coefficient
    sum k l = ap (λ t. t ⊕ l ⊗ zero_coefficient) (⊗-zero_coefficient k) ∙ ap (λ t. zero_coefficient ⊕ t) (⊗-zero_coefficient l) ∙ refl

    none : (b : Bool) → entry m b zero_coefficient zero_coefficient ≡ zero_coefficient
    none false = unfold entry in sum m.zero_zero m.zero_one
    none true = unfold entry in sum m.one_zero m.one_one

-- a gate on a qubit of g keeps a vector over g
pub gate_over : (g : List ℕ) (m : Matrix) (q : ℕ) (v : Vector) → is_listed g q ≡ true → IsOver g v → IsOver g (gate m q v)
unfolding gate
gate_over g m q v inside over x row = within_all g x (λ p out. by p out (is_set p x) refl)
  where
    -- a row with a bit outside g has no coefficient, whatever bit q is
    at : (p : ℕ) → is_listed g p ≡ false → is_set p x ≡ true → (b : Bool) → v (with_bit q b x) ≡ zero_coefficient
    at p out e b = stable (v (with_bit q b x)) zero_coefficient (λ here.
        clash (sym e ∙ sym (is_set-with_bit_other p q b x (λ is. clash (sym inside ∙ ap (is_listed g) (sym is) ∙ out))) ∙ no_bit_outside g (with_bit q b x) p (over (with_bit q b x) here) out))

    by : (p : ℕ) → is_listed g p ≡ false → (t : Bool) → is_set p x ≡ t → is_set p x ≡ false
    by p out true e = absurd (row (entry_absent m (is_set q x) _ _ (at p out e false) (at p out e true)))
    by p out false e = e

-- a gate on a qubit of a group makes a part of a part
pub gate_part : (g : List ℕ) (m : Matrix) (q : ℕ) → determinant m ≢ zero_coefficient → is_listed g q ≡ true → (v u : Vector) → IsPart v g u → IsPart (gate m q v) g (gate m q u)
gate_part g m q det inside v u part = record {
  some_row = gate_some_row m q u det part.some_row;
  over = gate_over g m q u inside part.over;
  ratios = part_inside (gate m q) g (gate-IsHomogeneous m q) (gate-IsInside g m q inside) v u part;
}
