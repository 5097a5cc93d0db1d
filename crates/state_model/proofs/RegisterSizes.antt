-- Least sizes of lists are sizes of the vectors that the lists stand for.
use Rattle.std.proofs.Common.{◌≡◌, ◌≢◌, ℕ, ◌≤◌, ℤ, pos, ◌≤ℤ◌, nat_abs, List, length, refl, sym, ap, subst, ◌∙◌, arith}
use mathlib.Core.Path.{fun_ext}
use borrow.Author.Differences.{ints}
use Rattle.state_model.specs.Coefficient.{Coefficient, zero_coefficient, one_coefficient, ◌⊗◌}
use Rattle.state_model.specs.CoefficientList.{at, IsScaled, IsProportional, IsNonzero, IsNormal, IsLeastSize, total_weight}
use Rattle.state_model.specs.Row.{within, AgreeOutside}
use Rattle.state_model.specs.StateVector.{Vector, IsPart, IsSize, squares_over}
use Rattle.state_model.specs.Registers.{register_vector}
use Rattle.state_model.specs.Amplitudes.{Amplitudes, vector_of, HasRows}
use Rattle.state_model.proofs.Domain.{⊗-zero_coefficient}
use Rattle.state_model.proofs.Ring.{⊗_comm, ⊗_assoc}
use Rattle.state_model.proofs.SameStates.{⊗-cancel, same_symmetric}
use Rattle.state_model.proofs.Parts.{whole_part, part_along, no_bit_outside}
use Rattle.state_model.proofs.Euclid.{one-⊗}
use Rattle.state_model.proofs.Least.{least}
use Rattle.state_model.proofs.RegisterSums.{squares_over-register}
use Rattle.state_model.proofs.RegisterLists.{list_of, length-list_of, list_of-vector, vector-over, scaled_same, ratios_proportional, some_row_entry, entry_some_row, reduced_nonzero, one_not_zero}

-- ---- multiples
pub product_nonzero : (p q : Coefficient) → p ≢ zero_coefficient → q ≢ zero_coefficient → p ⊗ q ≢ zero_coefficient
product_nonzero p q h k e = h (⊗-cancel q p zero_coefficient k (e ∙ sym (⊗_comm zero_coefficient q ∙ ⊗-zero_coefficient q)))

pub scaled_self : (vs : List Coefficient) → IsScaled vs vs
scaled_self vs = record { factor = one_coefficient; nonzero = one_not_zero; value = λ i. sym (one-⊗ (at vs i)) }

pub scaled_trans : (us vs ws : List Coefficient) → IsScaled us vs → IsScaled vs ws → IsScaled us ws
scaled_trans us vs ws h k = record {
  factor = k.factor ⊗ h.factor;
  nonzero = product_nonzero k.factor h.factor k.nonzero h.nonzero;
  value = λ i. k.value i ∙ ap (λ t. k.factor ⊗ t) (h.value i) ∙ sym (⊗_assoc k.factor h.factor (at us i));
}

-- ---- least sizes
proportional : (old new us : List Coefficient) → IsScaled new old → IsProportional old us → IsProportional new us
proportional old new us h p i j = ⊗-cancel h.factor (at new i ⊗ at us j) (at us i ⊗ at new j) h.nonzero (
    left (at new i) (at us j) h.factor (at old i) (h.value i) ∙ p i j ∙ right (at us i) (at new j) h.factor (at old j) (h.value j))
  where
    left : (n u f o : Coefficient) → o ≡ f ⊗ n → (n ⊗ u) ⊗ f ≡ o ⊗ u
    left n u f o e = ⊗_comm (n ⊗ u) f ∙ sym (⊗_assoc f n u) ∙ ap (λ t. t ⊗ u) (sym e)

    right : (u n f o : Coefficient) → o ≡ f ⊗ n → u ⊗ o ≡ (u ⊗ n) ⊗ f
    right u n f o e = ap (λ t. u ⊗ t) (e ∙ ⊗_comm f n) ∙ sym (⊗_assoc u n f)

-- the size of a normal list is the least of what it was made of
pub normal_least : (old new : List Coefficient) (n : ℤ) → length new ≡ length old → IsScaled new old → IsNormal new → (total_weight new).x ≡ n → IsLeastSize old n
normal_least old new n l h k e = record {
  least = λ us m p s. subst (λ (t : ℤ). t ≤ℤ (total_weight us).x) e (least new us k.reduced k.balanced (m ∙ sym l) (proportional old new us h p) (s.0) (s.1));
  vector = new;
  rows = l;
  scaled = h;
  reached = e;
}

pos_is : (m n : ℕ) → pos m ≡ pos n → m ≡ n
pos_is m n e = ap nat_abs e

pos_below : (m n : ℕ) → pos m ≤ℤ pos n → m ≤ n
pos_below m n h = omega (arith, ints)

abbrev over_same : Amplitudes → List Coefficient → Amplitudes
over_same a list = record { qubits = a.qubits; list = list }

same_rows : (a : Amplitudes) (list : List Coefficient) → HasRows a → length list ≡ length a.list → HasRows (over_same a list)
same_rows a list rows l = record { rows = l ∙ rows.rows; distinct = rows.distinct }

-- two rows of the qubits agree outside them
agree_over : (g : List ℕ) (x y : ℕ) → within g x ≡ x → within g y ≡ y → AgreeOutside g x y
agree_over g x y in_x in_y q out = no_bit_outside g x q in_x out ∙ sym (no_bit_outside g y q in_y out)

-- the list of a part has at least the least size
part_least : (a : Amplitudes) (n : ℕ) → HasRows a → IsLeastSize a.list (pos n) → (us : List Coefficient) → length us ≡ length a.list → IsPart (vector_of a) a.qubits (register_vector a.qubits us) → n ≤ squares_over a.qubits (register_vector a.qubits us)
part_least a n rows h us l part = pos_below n _ (subst (λ (t : ℤ). pos n ≤ℤ t) (squares_over-register (over_same a us) (same_rows a us rows l)) (h.least us l
    (ratios_proportional a.qubits a.list us rows.distinct rows.rows (l ∙ rows.rows) (λ x y in_x in_y.
    ap (λ r. vector_of a x ⊗ register_vector a.qubits us r) (sym in_y) ∙ part.ratios x y (agree_over a.qubits x y in_x in_y) ∙ ap (λ r. vector_of a y ⊗ register_vector a.qubits us r) in_x))
    (some_row_entry a.qubits us part.some_row)))

-- the least size of a list is the size of its vector
pub least_size : (a : Amplitudes) (n : ℕ) → HasRows a → IsNonzero a.list → IsLeastSize a.list (pos n) → IsSize (vector_of a) a.qubits n
least_size a n rows some h = record {
  least = λ u part.
      let e : u ≡ register_vector a.qubits (list_of a.qubits u) = fun_ext (list_of-vector a.qubits u rows.distinct part.over) in
      subst (λ (w : Vector). n ≤ squares_over a.qubits w) (sym e) (part_least a n rows h (list_of a.qubits u) (length-list_of a.qubits u ∙ sym rows.rows) (subst (λ (w : Vector). IsPart (vector_of a) a.qubits w) e part));
  vector = register_vector a.qubits h.vector;
  part = part_along a.qubits (vector_of a) (vector_of a) (register_vector a.qubits h.vector) (whole_part a.qubits (vector_of a) (entry_some_row a.qubits a.list rows.distinct rows.rows some) (vector-over a.qubits a.list)) (vector-over a.qubits h.vector) (same_symmetric _ _ (scaled_same a.qubits h.vector a.list h.scaled));
  reached = pos_is _ n (sym (squares_over-register (over_same a h.vector) (same_rows a h.vector rows h.rows)) ∙ h.reached);
}

-- the size of a normal list is that of its vector
pub normal_size : (a : Amplitudes) (n : ℕ) → HasRows a → IsNormal a.list → (total_weight a.list).x ≡ pos n → IsSize (vector_of a) a.qubits n
normal_size a n rows normal e = least_size a n rows (reduced_nonzero a.list normal.reduced) (normal_least a.list a.list (pos n) refl (scaled_self a.list) normal e)
