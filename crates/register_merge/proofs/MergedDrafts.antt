-- A draft of the products of two registers, and what is sealed of it.
use Rattle.std.proofs.Common.{◌≡◌, ℕ, ◌*◌, ◌<◌, ◌≤◌, ◌^◌, ℤ, pos, ◌≤ℤ◌, ◌<ℤ◌, nat_abs, List, ◌++◌, length, refl, sym, ap, subst, ◌∙◌, arith}
use mathlib.Core.Path.{fun_ext}
use Rattle.std.proofs.lemmas.Int.{ints}
use Rattle.state_model.specs.Coefficient.{Weight}
use Rattle.state_model.specs.Divisors.{weight_product}
use Rattle.state_model.specs.CoefficientList.{IsNonzero, HasDeltaDivisors, total_weight}
use Rattle.state_model.specs.StateVector.{Vector, IsSameState, IsSize}
use Rattle.state_model.specs.Amplitudes.{vector_of, HasRows}
use Rattle.state_model.proofs.RegisterLists.{reduced_nonzero}
use Rattle.amplitude_register.specs.States.{RegisterState, draft, prepared, next_value, zeros, IsKept, IsSealed, IsRefused}
use Rattle.amplitude_register.proofs.SealedDrafts.{reduced_delta}
use Rattle.register_merge.specs.Merging.{merged, products, CanMerge, IsMerged, IsWritten}
use Rattle.register_merge.proofs.ProductLists.{total_products, reduced_products}
use Rattle.register_merge.proofs.ProductVectors.{product_vector, product_rows}
use Rattle.register_merge.proofs.ProductWeights.{IsReal, kept_weight, product_real}
use Rattle.register_merge.proofs.WrittenRows.{written_none, written_whole}

-- the first register with the draft of the product
abbrev pub product_draft : RegisterState → RegisterState → RegisterState
product_draft one two = record one { next = draft record { qubits = one.value.qubits ++ two.value.qubits; list = products one.value.list two.value.list } }

abbrev pub begun : RegisterState → RegisterState → RegisterState
begun one two = record one { next = draft (zeros (one.value.qubits ++ two.value.qubits)) }

pub begun_open : (one two mid : RegisterState) → mid ≡ begun one two → HasRows one.value → HasRows two.value → IsWritten 0 two.value.list mid mid
begun_open one two mid e in_one in_two = subst (λ (t : RegisterState). IsWritten 0 two.value.list t t) (sym e)
    (written_none two.value.list (begun one two) (one.value.qubits ++ two.value.qubits) refl (product_rows one.value two.value in_one in_two))

pub drafted : (one two mid new : RegisterState) → mid ≡ begun one two → IsWritten (length mid.value.list * length two.value.list) two.value.list mid new → new ≡ product_draft one two
drafted one two mid new e h = written_whole two.value.list mid new h
    ∙ ap (λ (t : RegisterState). record t { next = draft record { qubits = (next_value t.next).qubits; list = products t.value.list two.value.list } }) e

-- ---- what the draft is
pub drafted_nonzero : (one two new : RegisterState) → new ≡ product_draft one two → IsKept one.value → IsKept two.value → IsNonzero (next_value new.next).list
drafted_nonzero one two new e kept_one kept_two = subst (λ (t : RegisterState). IsNonzero (next_value t.next).list) (sym e)
    (reduced_nonzero (products one.value.list two.value.list) (reduced_products one.value.list two.value.list kept_one.normal.reduced kept_two.normal.reduced))

pub drafted_divisors : (one two new : RegisterState) → new ≡ product_draft one two → IsKept one.value → IsKept two.value → HasDeltaDivisors (next_value new.next).list
drafted_divisors one two new e kept_one kept_two = subst (λ (t : RegisterState). HasDeltaDivisors (next_value t.next).list) (sym e)
    (reduced_delta (products one.value.list two.value.list) (reduced_products one.value.list two.value.list kept_one.normal.reduced kept_two.normal.reduced))

pub drafted_small : (one two new : RegisterState) → new ≡ product_draft one two → IsKept one.value → IsKept two.value → (total_weight (next_value new.next).list).x <ℤ pos (2 ^ 122)
drafted_small one two new e kept_one kept_two = subst (λ (t : RegisterState). (total_weight (next_value t.next).list).x <ℤ pos (2 ^ 122)) (sym e) real.small
  where
    real : IsReal (total_weight (products one.value.list two.value.list))
    real = product_real (total_weight one.value.list) (total_weight two.value.list) (total_weight (products one.value.list two.value.list))
        (kept_weight one.value (total_weight one.value.list) kept_one refl) (kept_weight two.value (total_weight two.value.list) kept_two refl) (total_products one.value.list two.value.list)

pub drafted_weight : (one two new : RegisterState) (v w u : Weight) → new ≡ product_draft one two → v ≡ total_weight one.value.list → w ≡ total_weight two.value.list → u ≡ weight_product v w → u ≡ total_weight (next_value new.next).list
drafted_weight one two new v w u e is_one is_two is =
    is ∙ ap (λ (t : Weight). weight_product t w) is_one ∙ ap (weight_product (total_weight one.value.list)) is_two ∙ sym (total_products one.value.list two.value.list)
    ∙ sym (ap (λ (t : RegisterState). total_weight (next_value t.next).list) e)

-- ---- what is sealed
pub sealed_merged : (one two mid new : RegisterState) → mid ≡ product_draft one two → HasRows one.value → IsSealed mid new → IsMerged one two new
sealed_merged one two mid new e in_one s = record {
  after = s.after ∙ ap (λ (t : RegisterState). record t { next = prepared record { qubits = (next_value t.next).qubits; list = (next_value new.next).list } }) e;
  same = subst (IsSameState (vector_of (next_value new.next))) (ap (λ (t : RegisterState). vector_of (next_value t.next)) e ∙ fun_ext (product_vector one.value two.value in_one)) s.same;
  kept = s.kept;
}

two_sizes : (v : Vector) (g : List ℕ) (n m : ℕ) → IsSize v g n → IsSize v g m → n ≤ m
two_sizes v g n m h k = subst (λ (t : ℕ). n ≤ t) k.reached (h.least k.vector k.part)

-- a product that can be merged isn't refused
pub refused_not : (one two mid new : RegisterState) (size : ℤ) → mid ≡ product_draft one two → HasRows one.value → CanMerge one two → IsRefused mid new size → ⊥
refused_not one two mid new size e in_one can refused =
    apart size can.size refused.large can.small (two_sizes (merged one.value two.value) (one.value.qubits ++ two.value.qubits) (nat_abs size) can.size here can.least)
  where
    here : IsSize (merged one.value two.value) (one.value.qubits ++ two.value.qubits) (nat_abs size)
    here = subst (λ (v : Vector). IsSize v (one.value.qubits ++ two.value.qubits) (nat_abs size)) (fun_ext (product_vector one.value two.value in_one))
        (subst (λ (t : RegisterState). IsSize (vector_of (next_value t.next)) (next_value t.next).qubits (nat_abs size)) e refused.size_is)

    apart : (z : ℤ) (n : ℕ) → pos (2 ^ 60) ≤ℤ z → n < 2 ^ 60 → nat_abs z ≤ n → ⊥
    apart z n h k l = omega (arith, ints)
