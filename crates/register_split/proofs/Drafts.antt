-- A draft of the rows with a bit, row by row, and what is sealed of it.
use Prim.Native.Nat.{zero, suc}
use Rattle.std.proofs.Common.{◌≡◌, ◌≢◌, ℕ, ◌+◌, ◌*◌, ◌/◌, ◌<◌, ◌≤◌, ◌^◌, Bool, ℤ, pos, ◌≤ℤ◌, ◌<ℤ◌, List, length, slice_set, refl, sym, ap, subst, ◌∙◌, arith, ⊎_elim, get_or-set_other, get_or-set_same}
use mathlib.Core.Path.{fun_ext}
use Rattle.std.proofs.Math.Nat.{pow-succ'}
use Rattle.std.proofs.lemmas.Bool.{cases_lt}
use Rattle.std.proofs.lemmas.List.{length-replicate, length-set}
use Rattle.state_model.specs.Coefficient.{Coefficient, zero_coefficient, weight}
use Rattle.state_model.specs.CoefficientList.{at, IsNonzero, total_weight}
use Rattle.state_model.specs.Row.{inserted, without}
use Rattle.state_model.specs.StateVector.{IsSameState}
use Rattle.state_model.specs.Amplitudes.{Amplitudes, vector_of, qubit_at, HasRows}
use Rattle.state_model.proofs.Inequalities.{order}
use Rattle.state_model.proofs.KeptLists.{kept_list, kept_lighter, without_length}
use Rattle.state_model.proofs.RegisterGates.{at_place}
use Rattle.state_model.proofs.RegisterLists.{some_row_entry}
use Rattle.amplitude_register.specs.States.{RegisterState, Next, draft, prepared, next_value, zeros, with_row, IsKept, IsSealed, IsRefused}
use Rattle.omega_ring.specs.Range.{CoordinatesBelow}
use Rattle.omega_ring.proofs.Rounding.{within_up}
use Rattle.amplitude_register.proofs.Sums.{within_sum}
use Rattle.amplitude_register.proofs.Weighed.{entry_small}
use Rattle.register_split.proofs.Inserted.{inserted_below}
use Rattle.register_split.specs.Removal.{HasRowWith, IsTakenOut, IsDrafted}

abbrev pub rest_of : ℕ → RegisterState → List ℕ
rest_of place old = without old.value.qubits (qubit_at old.value place)

-- the first rows are written
pub record IsCopying (place : ℕ) (bit : Bool) (row : ℕ) (old mid : RegisterState) : Type 0 where
  pub after : mid ≡ record old { next = draft record { qubits = rest_of place old; list = (next_value mid.next).list } }
  pub rows : length old.value.list ≡ 2 * length (next_value mid.next).list
  pub done : (i : ℕ) → i < row → at (next_value mid.next).list i ≡ at old.value.list (inserted place bit i)

half_rows : (place : ℕ) (old : RegisterState) → HasRows old.value → place < length old.value.qubits → length old.value.list ≡ 2 * 2 ^ length (rest_of place old)
half_rows place old rows l =
    let n = without_length old.value.qubits place (qubit_at old.value place) rows.distinct (at_place old.value.qubits place l) in
    rows.rows ∙ ap (λ k. 2 ^ k) (sym n) ∙ pow-succ' 2 (length (rest_of place old))

pub copy_none : (place : ℕ) (bit : Bool) (old : RegisterState) → HasRows old.value → place < length old.value.qubits → old.next ≡ draft (zeros (rest_of place old)) → IsCopying place bit 0 old old
copy_none place bit old rows l e = record {
  after = ap (λ (t : Next). record old { next = t }) (e ∙ sym (ap (λ (t : Next). draft record { qubits = rest_of place old; list = (next_value t).list }) e));
  rows = half_rows place old rows l ∙ ap (λ n. 2 * n) (sym (ap (λ (t : Next). length (next_value t).list) e ∙ length-replicate (2 ^ length (rest_of place old)) zero_coefficient));
  done = λ i h. absurd (omega arith);
}

pub copy_value : (place : ℕ) (bit : Bool) (row : ℕ) (old mid : RegisterState) → IsCopying place bit row old mid → mid.value ≡ old.value
copy_value place bit row old mid h = ap (λ (t : RegisterState). t.value) h.after

pub copy_more : (place : ℕ) (bit : Bool) (row : ℕ) (old mid new : RegisterState) (z : Coefficient) → IsCopying place bit row old mid → row < length (next_value mid.next).list
    → z ≡ at mid.value.list (inserted place bit row) → new ≡ record mid { next = draft (with_row (next_value mid.next) row z) } → IsCopying place bit (row + 1) old new
copy_more place bit row old mid new z h l e f = record { after = after; rows = h.rows ∙ ap (λ n. 2 * n) (sym length_is); done = done }
  where
    list_is : (next_value new.next).list ≡ slice_set (next_value mid.next).list row z
    list_is = ap (λ (t : RegisterState). (next_value t.next).list) f

    length_is : length (next_value new.next).list ≡ length (next_value mid.next).list
    length_is = ap length list_is ∙ length-set (next_value mid.next).list row z

    qubits_is : (next_value mid.next).qubits ≡ rest_of place old
    qubits_is = ap (λ (t : RegisterState). (next_value t.next).qubits) h.after

    after : new ≡ record old { next = draft record { qubits = rest_of place old; list = (next_value new.next).list } }
    after =
        f ∙ ap (λ (t : RegisterState). record t { next = draft (with_row (next_value mid.next) row z) }) h.after
        ∙ ap (λ (t : List ℕ). record old { next = draft record { qubits = t; list = slice_set (next_value mid.next).list row z } }) qubits_is
        ∙ ap (λ (t : List Coefficient). record old { next = draft record { qubits = rest_of place old; list = t } }) (sym list_is)

    written : z ≡ at old.value.list (inserted place bit row)
    written = e ∙ ap (λ (t : Amplitudes). at t.list (inserted place bit row)) (copy_value place bit row old mid h)

    in_list : (xs : List Coefficient) → row < length xs → ((i : ℕ) → i < row → at xs i ≡ at old.value.list (inserted place bit i)) → (i : ℕ) → i < row + 1 → at (slice_set xs row z) i ≡ at old.value.list (inserted place bit i)
    in_list xs l d i m = ⊎_elim
        (λ (p : i < row). let ne : i ≢ row = omega arith in rw get_or-set_other (d i p))
        (λ (p : row ≤ i). let is : i ≡ row = omega arith in rw is (rw get_or-set_same written))
        (cases_lt i row)

    done : (i : ℕ) → i < row + 1 → at (next_value new.next).list i ≡ at old.value.list (inserted place bit i)
    done i m = ap (λ (t : List Coefficient). at t i) list_is ∙ in_list (next_value mid.next).list l h.done i m

pub copy_whole : (place : ℕ) (bit : Bool) (row : ℕ) (old mid : RegisterState) → IsCopying place bit row old mid → length (next_value mid.next).list ≤ row → IsDrafted place bit old mid
copy_whole place bit row old mid h l = record { after = h.after; list = record { rows = h.rows; list = λ i m. h.done i (omega arith) } }

-- ---- the rows that are read
pub smaller : (x : ℤ) → x <ℤ pos (2 ^ 60) → x <ℤ pos (2 ^ 122)
smaller x h = omega (arith, order)

in_rows : (place m : ℕ) (b : Bool) (r : ℕ) → place < m → r < 2 ^ m / 2 → inserted place b r < 2 ^ m
in_rows place zero b r l h = absurd (omega arith)
in_rows place (suc n) b r l h = inserted_below place n b r l (half (2 ^ n) (2 ^ suc n) (pow-succ' 2 n) h)
  where
    half : (p q : ℕ) → q ≡ 2 * p → r < q / 2 → r < p
    half p q e h = omega arith

pub read_inside : (place : ℕ) (bit : Bool) (row k : ℕ) (old mid : RegisterState) → HasRows old.value → place < length old.value.qubits → IsCopying place bit row old mid → row < 2 ^ length old.value.qubits / 2 → k ≡ inserted place bit row → k < length mid.value.list
read_inside place bit row k old mid rows l h m e =
    let f : length mid.value.list ≡ 2 ^ length old.value.qubits = ap (λ (t : Amplitudes). length t.list) (copy_value place bit row old mid h) ∙ rows.rows in
    let g = in_rows place (length old.value.qubits) bit row l m in
    omega (arith, e, f, g)

pub read_range : (place : ℕ) (bit : Bool) (row k : ℕ) (old mid : RegisterState) (z : Coefficient) → IsKept old.value → IsCopying place bit row old mid → z ≡ at mid.value.list k → CoordinatesBelow (2 ^ 62) z
read_range place bit row k old mid z kept h e =
    let s = kept.small in
    subst (CoordinatesBelow (2 ^ 62)) (sym (e ∙ ap (λ (t : Amplitudes). at t.list k) (copy_value place bit row old mid h)))
    (within_up (2 ^ 61) (2 ^ 62) (at old.value.list k) (within_sum old.value.list (smaller (total_weight old.value.list).x s) k) (omega arith))

pub read_small : (place : ℕ) (bit : Bool) (row k : ℕ) (old mid : RegisterState) (z : Coefficient) → IsKept old.value → IsCopying place bit row old mid → z ≡ at mid.value.list k → (weight z).x <ℤ pos (2 ^ 60)
read_small place bit row k old mid z kept h e = entry_small old.value.list k z kept.small (e ∙ ap (λ (t : Amplitudes). at t.list k) (copy_value place bit row old mid h))

-- a draft for the register with another next value
pub drafted_from : (place : ℕ) (bit : Bool) (old begun mid : RegisterState) (x : Next) → begun ≡ record old { next = x } → IsDrafted place bit begun mid → IsDrafted place bit old mid
drafted_from place bit old begun mid x e h =
    let k = subst (λ (t : RegisterState). IsDrafted place bit t mid) e h in
    record { after = k.after; list = k.list }

-- ---- what a draft of the rows with a bit is
pub drafted_nonzero : (place : ℕ) (bit : Bool) (old mid : RegisterState) → HasRows old.value → place < length old.value.qubits → HasRowWith place bit old.value → IsDrafted place bit old mid → IsNonzero (next_value mid.next).list
drafted_nonzero place bit old mid rows l some h = some_row_entry (rest_of place old) (next_value mid.next).list (λ none. some (λ x. sym (kept_list old.value place bit (next_value mid.next).list rows l h.list x) ∙ none x))

pub drafted_small : (place : ℕ) (bit : Bool) (old mid : RegisterState) → HasRows old.value → IsKept old.value → place < length old.value.qubits → IsDrafted place bit old mid → (total_weight (next_value mid.next).list).x <ℤ pos (2 ^ 60)
drafted_small place bit old mid rows kept l h = below _ _ (kept_lighter old.value place bit (next_value mid.next).list rows l h.list) kept.small
  where
    below : (x y : ℤ) → x ≤ℤ y → y <ℤ pos (2 ^ 60) → x <ℤ pos (2 ^ 60)
    below x y h k = omega (arith, order)

-- ---- what is sealed
pub sealed_taken : (place : ℕ) (bit : Bool) (old mid new : RegisterState) → HasRows old.value → place < length old.value.qubits → IsDrafted place bit old mid → IsSealed mid new → IsTakenOut place bit old new
sealed_taken place bit old mid new rows l h s = record {
  after = s.after ∙ ap (λ (t : RegisterState). record t { next = prepared record { qubits = (next_value t.next).qubits; list = (next_value new.next).list } }) h.after;
  same = subst (IsSameState (vector_of (next_value new.next))) (ap (λ (t : RegisterState). vector_of (next_value t.next)) h.after ∙ fun_ext (kept_list old.value place bit (next_value mid.next).list rows l h.list)) s.same;
  kept = s.kept;
}

-- a draft that is small isn't refused
pub refused_not : (mid new : RegisterState) (size : ℤ) → IsNonzero (next_value mid.next).list → (total_weight (next_value mid.next).list).x <ℤ pos (2 ^ 60) → IsRefused mid new size → ⊥
refused_not mid new size some small r = let m = r.least in apart size _ (m.least (next_value mid.next).list refl (λ i j. refl) some) small r.large
  where
    apart : (n x : ℤ) → n ≤ℤ x → x <ℤ pos (2 ^ 60) → pos (2 ^ 60) ≤ℤ n → ⊥
    apart n x h k l = omega (arith, order)
