-- Exchanged and negated rows: the weight and the common divisors stay.
use Rattle.std.proofs.Common.{◌≡◌, ◌≢◌, ℕ, zero, suc, ◌<◌, ◌+ℤ◌, pos, ◌<ℤ◌, ◌^◌, List, [], ◌∷◌, length, slice_set, sym, ap, subst, ◌∙◌, arith, ⊎_elim}
use borrow.Author.Differences.{ints}
use Rattle.std.proofs.lemmas.Bool.{cases_eq}
use Rattle.std.proofs.lemmas.List.{length-set, get_or-set_same, get_or-set_other}
use Rattle.state_model.specs.Coefficient.{Coefficient, zero_coefficient, negated, Weight, weight, weight_sum}
use Rattle.state_model.specs.Divisors.{Divides, IsBalanced}
use Rattle.state_model.specs.CoefficientList.{at, IsReduced, total_weight}
use Rattle.state_model.proofs.Expressions.{same_weight}
use Rattle.state_model.proofs.TwoGateLists.{weight-negated, divides_negated}
use Rattle.amplitude_register.specs.States.{IsKept}
use Rattle.state_model.specs.Amplitudes.{Amplitudes}

-- a row that is written: the sums with the old and the new row's weights exchanged
weight_exchange : (cs : List Coefficient) (i : ℕ) (v : Coefficient) → i < length cs → weight_sum (total_weight (slice_set cs i v)) (weight (at cs i)) ≡ weight_sum (total_weight cs) (weight v)
weight_exchange [] i v h = absurd (omega arith)
weight_exchange (c ∷ cs) zero v h = first (weight v) (total_weight cs) (weight c)
  where
    first : (u w t : Weight) → weight_sum (weight_sum u w) t ≡ weight_sum (weight_sum t w) u
    first u w t = same_weight _ _ (omega (arith, ints)) (omega (arith, ints))
weight_exchange (c ∷ cs) (suc i) v h = later (weight c) (total_weight (slice_set cs i v)) (weight (at cs i)) (total_weight cs) (weight v) (weight_exchange cs i v (omega arith))
  where
    regroup : (u w t : Weight) → weight_sum (weight_sum u w) t ≡ weight_sum u (weight_sum w t)
    regroup u w t = same_weight _ _ (omega (arith, ints)) (omega (arith, ints))

    later : (u w t x y : Weight) → weight_sum w t ≡ weight_sum x y → weight_sum (weight_sum u w) t ≡ weight_sum (weight_sum u x) y
    later u w t x y e = regroup u w t ∙ ap (weight_sum u) e ∙ sym (regroup u x y)

cancel_weight : (u v t : Weight) → weight_sum u t ≡ weight_sum v t → u ≡ v
cancel_weight u v t e =
    let fx : u.x +ℤ t.x ≡ v.x +ℤ t.x = ap (λ (w : Weight). w.x) e in
    let fy : u.y +ℤ t.y ≡ v.y +ℤ t.y = ap (λ (w : Weight). w.y) e in
    same_weight u v (omega (arith, ints)) (omega (arith, ints))

-- ---- one row negated
abbrev pub negated_row : List Coefficient → ℕ → List Coefficient
negated_row cs i = slice_set cs i (negated (at cs i))

pub negated_total : (cs : List Coefficient) (i : ℕ) → i < length cs → total_weight (negated_row cs i) ≡ total_weight cs
negated_total cs i h = cancel_weight _ (total_weight cs) (weight (at cs i)) (weight_exchange cs i (negated (at cs i)) h ∙ ap (weight_sum (total_weight cs)) (weight-negated (at cs i)))

negated_reduced : (cs : List Coefficient) (i : ℕ) → i < length cs → IsReduced cs → IsReduced (negated_row cs i)
negated_reduced cs i h r u d = r u each
  where
    each : (k : ℕ) → Divides u (at cs k)
    each k = ⊎_elim
        (λ (e : k ≡ i). subst (λ (n : ℕ). Divides u (at cs n)) (sym e) (divides_negated u (at cs i) (subst (Divides u) (get_or-set_same cs i (negated (at cs i)) zero_coefficient h) (d i))))
        (λ (e : k ≢ i). subst (Divides u) (get_or-set_other cs i k (negated (at cs i)) zero_coefficient e) (d k))
        (cases_eq k i)

-- ---- two rows exchanged
abbrev pub swapped_rows : List Coefficient → ℕ → ℕ → List Coefficient
swapped_rows cs i j = slice_set (slice_set cs i (at cs j)) j (at cs i)

second_read : (cs : List Coefficient) (i j : ℕ) → i < length cs → at (slice_set cs i (at cs j)) j ≡ at cs j
second_read cs i j h = ⊎_elim
    (λ (e : j ≡ i). ap (at (slice_set cs i (at cs j))) e ∙ get_or-set_same cs i (at cs j) zero_coefficient h)
    (λ (e : j ≢ i). get_or-set_other cs i j (at cs j) zero_coefficient e)
    (cases_eq j i)

pub swapped_total : (cs : List Coefficient) (i j : ℕ) → i < length cs → j < length cs → total_weight (swapped_rows cs i j) ≡ total_weight cs
swapped_total cs i j h k =
    let once = slice_set cs i (at cs j) in
    cancel_weight (total_weight (swapped_rows cs i j)) (total_weight cs) (weight (at cs j))
    (ap (λ z. weight_sum (total_weight (swapped_rows cs i j)) (weight z)) (sym (second_read cs i j h))
    ∙ weight_exchange (slice_set cs i (at cs j)) j (at cs i) (let l = length-set cs i (at cs j) in omega (arith, l))
    ∙ weight_exchange cs i (at cs j) h)

swapped_at : (cs : List Coefficient) (i j : ℕ) → i < length cs → j < length cs → (at (swapped_rows cs i j) i ≡ at cs j) × (at (swapped_rows cs i j) j ≡ at cs i)
swapped_at cs i j h k =
    let last : at (swapped_rows cs i j) j ≡ at cs i = get_or-set_same (slice_set cs i (at cs j)) j (at cs i) zero_coefficient (let l = length-set cs i (at cs j) in omega (arith, l)) in (
      ⊎_elim
          (λ (e : i ≡ j). ap (at (swapped_rows cs i j)) e ∙ last ∙ ap (at cs) e)
          (λ (e : i ≢ j). get_or-set_other (slice_set cs i (at cs j)) j i (at cs i) zero_coefficient e ∙ get_or-set_same cs i (at cs j) zero_coefficient h)
          (cases_eq i j),
      last,
    )

swapped_reduced : (cs : List Coefficient) (i j : ℕ) → i < length cs → j < length cs → IsReduced cs → IsReduced (swapped_rows cs i j)
swapped_reduced cs i j h k r u d = r u each
  where
    each : (n : ℕ) → Divides u (at cs n)
    each n = ⊎_elim
        (λ (e : n ≡ i). subst (Divides u) ((swapped_at cs i j h k).1 ∙ ap (at cs) (sym e)) (d j))
        (λ (e : n ≢ i). ⊎_elim
        (λ (f : n ≡ j). subst (Divides u) ((swapped_at cs i j h k).0 ∙ ap (at cs) (sym f)) (d i))
        (λ (f : n ≢ j). subst (Divides u) (get_or-set_other (slice_set cs i (at cs j)) j n (at cs i) zero_coefficient f ∙ get_or-set_other cs i n (at cs j) zero_coefficient e) (d n))
        (cases_eq n j))
        (cases_eq n i)

-- a list with the same weight and no new divisor is kept as the first
pub same_kept : (a b : Amplitudes) → total_weight b.list ≡ total_weight a.list → (IsReduced a.list → IsReduced b.list) → IsKept a → IsKept b
same_kept a b e reduced k =
    let n = k.normal in
    record { normal = record { reduced = reduced n.reduced; balanced = subst IsBalanced (sym e) n.balanced }; small = subst (λ (t : Weight). t.x <ℤ pos (2 ^ 60)) (sym e) k.small }

pub negated_kept : (qs ps : List ℕ) (cs : List Coefficient) (i : ℕ) → i < length cs → IsKept record { qubits = qs; list = cs } → IsKept record { qubits = ps; list = negated_row cs i }
negated_kept qs ps cs i h k = same_kept record { qubits = qs; list = cs } record { qubits = ps; list = negated_row cs i } (negated_total cs i h) (negated_reduced cs i h) k

pub swapped_kept : (qs ps : List ℕ) (cs : List Coefficient) (i j : ℕ) → i < length cs → j < length cs → IsKept record { qubits = qs; list = cs } → IsKept record { qubits = ps; list = swapped_rows cs i j }
swapped_kept qs ps cs i j h l k = same_kept record { qubits = qs; list = cs } record { qubits = ps; list = swapped_rows cs i j } (swapped_total cs i j h l) (swapped_reduced cs i j h l) k
