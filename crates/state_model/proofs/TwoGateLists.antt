-- Gates of two qubits on lists row by row.
--     turned_is, turned_at, turned-with_bit, turned_twice   a row with a bit turned
--     source_row, source_at, source_again                   the row that CNOT takes a row from
--     weight-negated, two_total                             the weight stays
--     negated_twice, two_reduced                            no common divisor comes in
use Rattle.std.proofs.Common.{◌≡◌, ◌≢◌, ℕ, ◌<◌, ◌^◌, Bool, true, false, not, cond, List, length, refl, sym, ap, subst, ◌∙◌, arith, ⊎_elim}
use Rattle.std.proofs.lemmas.Bool.{cases_eq}
use borrow.Author.Differences.{ints, same_in, sum_is_lem, neg_is}
use Rattle.state_model.specs.Coefficient.{Coefficient, negated, weight, weight_sum}
use Rattle.state_model.specs.CoefficientList.{at, IsReduced, total_weight}
use Rattle.state_model.specs.Divisors.{Divides}
use Rattle.state_model.specs.Row.{is_set, with_bit, turned}
use Rattle.state_model.specs.Amplitudes.{IsTwoGateList}
use Rattle.state_model.specs.declared.Two.{Two}
use Rattle.state_model.specs.declared.Two.TheVariants.{Cnot, Cphase}
use Rattle.state_model.proofs.Draws.{same_weight}
use Rattle.state_model.proofs.GateLists.{once}
use Rattle.state_model.proofs.Gates.{with_bit_again}
use Rattle.state_model.proofs.Integers.{expand}
use Rattle.state_model.proofs.Linear.{negated_times}
use Rattle.state_model.proofs.Ring.{same_coordinates}
use Rattle.state_model.proofs.RegisterSums.{weight_sum_comm, weight_to, weight_to-pairs, weight_to-total}
use Rattle.state_model.proofs.RowLaws.{same_row, is_set-with_bit_same, is_set-with_bit_other, is_set-turned_same, is_set-turned_other}

-- ---- a row with a bit turned
-- turning a bit is setting it to the other value
pub turned_is : (q x : ℕ) → turned q x ≡ with_bit q (not (is_set q x)) x
turned_is q x = same_row _ _ (λ p. ⊎_elim
    (λ (e : p ≡ q). ap (λ n. is_set n (turned q x)) e ∙ is_set-turned_same q x ∙ sym (ap (λ n. is_set n (with_bit q (not (is_set q x)) x)) e ∙ is_set-with_bit_same q (not (is_set q x)) x))
    (λ (e : p ≢ q). is_set-turned_other p q x e ∙ sym (is_set-with_bit_other p q (not (is_set q x)) x e))
    (cases_eq p q))

pub turned_at : (q x : ℕ) (b : Bool) → is_set q x ≡ b → turned q x ≡ with_bit q (not b) x
turned_at q x b e = turned_is q x ∙ ap (λ (t : Bool). with_bit q (not t) x) e

pub turned-with_bit : (q : ℕ) (b : Bool) (x : ℕ) → turned q (with_bit q b x) ≡ with_bit q (not b) x
turned-with_bit q b x = turned_at q (with_bit q b x) b (is_set-with_bit_same q b x) ∙ with_bit_again q (not b) b x

not_not : (b : Bool) → not (not b) ≡ b
not_not true = refl
not_not false = refl

pub turned_twice : (q x : ℕ) → turned q (turned q x) ≡ x
turned_twice q x = same_row _ _ (λ p. ⊎_elim
    (λ (e : p ≡ q). ap (λ n. is_set n (turned q (turned q x))) e ∙ is_set-turned_same q (turned q x) ∙ ap not (is_set-turned_same q x) ∙ not_not (is_set q x) ∙ ap (λ n. is_set n x) (sym e))
    (λ (e : p ≢ q). is_set-turned_other p q (turned q x) e ∙ is_set-turned_other p q x e)
    (cases_eq p q))

-- ---- the row that CNOT takes a row from
abbrev pub source_row : ℕ → ℕ → ℕ → ℕ
source_row control target row = cond (is_set control row) (turned target row) row

pub source_at : (i j r : ℕ) (b : Bool) → is_set i r ≡ b → source_row i j r ≡ cond b (turned j r) r
source_at i j r b e = ap (λ (t : Bool). cond t (turned j r) r) e

-- the source of the source is the row itself
pub source_again : (i j r : ℕ) → i ≢ j → source_row i j (source_row i j r) ≡ r
source_again i j r apart = by (is_set i r) refl
  where
    by : (b : Bool) → is_set i r ≡ b → source_row i j (source_row i j r) ≡ r
    by true e = ap (source_row i j) (source_at i j r true e) ∙ source_at i j (turned j r) true (is_set-turned_other i j r apart ∙ e) ∙ turned_twice j r
    by false e = ap (source_row i j) (source_at i j r false e) ∙ source_at i j r false e

source-with_bit : (i j r : ℕ) (b : Bool) → i ≢ j → source_row i j (with_bit j b r) ≡ with_bit j (cond (is_set i r) (not b) b) r
source-with_bit i j r b apart = by (is_set i r) refl
  where
    by : (t : Bool) → is_set i r ≡ t → source_row i j (with_bit j b r) ≡ with_bit j (cond (is_set i r) (not b) b) r
    by true e = source_at i j (with_bit j b r) true (is_set-with_bit_other i j b r apart ∙ e) ∙ turned-with_bit j b r ∙ ap (λ (t : Bool). with_bit j (cond t (not b) b) r) (sym e)
    by false e = source_at i j (with_bit j b r) false (is_set-with_bit_other i j b r apart ∙ e) ∙ ap (λ (t : Bool). with_bit j (cond t (not b) b) r) (sym e)

-- ---- the weight stays
pub weight-negated : (z : Coefficient) → weight (negated z) ≡ weight z
weight-negated z = same_weight _ _ (simp expand (omega (arith, same_in, sum_is_lem, neg_is))) (simp expand (omega (arith, same_in, sum_is_lem, neg_is)))

abbrev phased : Bool → Bool → Coefficient → Coefficient
phased s t z = cond s (cond t (negated z) z) z

pub weight-phased : (s t : Bool) (z : Coefficient) → weight (phased s t z) ≡ weight z
weight-phased true true z = weight-negated z
weight-phased true false z = refl
weight-phased false t z = refl

-- each pair of rows that differ in the second bit alone has the weight of before
pairs_stay : (k : Two) (i j : ℕ) (xs ys : List Coefficient) → i ≢ j → IsTwoGateList k i j xs ys → (r : ℕ)
    → weight_sum (weight (at ys (with_bit j false r))) (weight (at ys (with_bit j true r))) ≡ weight_sum (weight (at xs (with_bit j false r))) (weight (at xs (with_bit j true r)))
pairs_stay Cnot i j xs ys apart is r =
    ap (λ z. weight_sum (weight z) (weight (at ys (with_bit j true r)))) (row false)
    ∙ ap (λ z. weight_sum (weight (at xs (with_bit j (cond (is_set i r) true false) r))) (weight z)) (row true) ∙ by (is_set i r)
  where
    row : (b : Bool) → at ys (with_bit j b r) ≡ at xs (with_bit j (cond (is_set i r) (not b) b) r)
    row b = is (with_bit j b r) ∙ ap (at xs) (source-with_bit i j r b apart)

    by : (t : Bool) → weight_sum (weight (at xs (with_bit j (cond t true false) r))) (weight (at xs (with_bit j (cond t false true) r))) ≡ weight_sum (weight (at xs (with_bit j false r))) (weight (at xs (with_bit j true r)))
    by true = weight_sum_comm (weight (at xs (with_bit j true r))) (weight (at xs (with_bit j false r)))
    by false = refl
pairs_stay Cphase i j xs ys apart is r = ap (λ w. weight_sum w (weight (at ys (with_bit j true r)))) (row false) ∙ ap (weight_sum (weight (at xs (with_bit j false r)))) (row true)
  where
    row : (b : Bool) → weight (at ys (with_bit j b r)) ≡ weight (at xs (with_bit j b r))
    row b = ap weight (is (with_bit j b r)) ∙ weight-phased (is_set i (with_bit j b r)) (is_set j (with_bit j b r)) (at xs (with_bit j b r))

pub two_total : (k : Two) (i j n : ℕ) (xs ys : List Coefficient) → i ≢ j → j < n → length xs ≡ 2 ^ n → length ys ≡ 2 ^ n → IsTwoGateList k i j xs ys → total_weight ys ≡ total_weight xs
two_total k i j n xs ys apart l e f is =
    sym (weight_to-total ys) ∙ ap (weight_to (λ r. weight (at ys r))) f
    ∙ weight_to-pairs n j l 1 (λ r. weight (at xs r)) (λ r. weight (at ys r)) (λ r. pairs_stay k i j xs ys apart is r ∙ once (weight_sum (weight (at xs (with_bit j false r))) (weight (at xs (with_bit j true r)))))
    ∙ sym (once (weight_to (λ r. weight (at xs r)) (2 ^ n)))
    ∙ ap (weight_to (λ r. weight (at xs r))) (sym e) ∙ weight_to-total xs

-- ---- no common divisor comes in
pub negated_twice : (z : Coefficient) → negated (negated z) ≡ z
negated_twice z = same_coordinates _ _ (omega (arith, ints)) (omega (arith, ints)) (omega (arith, ints)) (omega (arith, ints))

pub divides_negated : (u z : Coefficient) → Divides u (negated z) → Divides u z
divides_negated u z d = (negated (d.0), sym (negated_twice z) ∙ ap negated (d.1) ∙ sym (negated_times (d.0) u))

pub two_reduced : (k : Two) (i j : ℕ) (xs ys : List Coefficient) → i ≢ j → IsTwoGateList k i j xs ys → IsReduced xs → IsReduced ys
two_reduced Cnot i j xs ys apart is reduced u d = reduced u (λ r. subst (Divides u) (is (source_row i j r) ∙ ap (at xs) (source_again i j r apart)) (d (source_row i j r)))
two_reduced Cphase i j xs ys apart is reduced u d = reduced u (λ r. by r (is_set i r) (is_set j r) (subst (Divides u) (is r) (d r)))
  where
    by : (r : ℕ) (s t : Bool) → Divides u (phased s t (at xs r)) → Divides u (at xs r)
    by r true true h = divides_negated u (at xs r) h
    by r true false h = h
    by r false t h = h
