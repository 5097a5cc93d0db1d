-- The rows of a product are written into a draft one by one.
use Rattle.std.proofs.Common.{◌≡◌, ◌≢◌, ℕ, ◌+◌, ◌*◌, ◌<◌, ◌≤◌, ◌^◌, List, length, slice_set, Fits, refl, sym, ap, subst, ◌∙◌, arith, ⊎_elim, get_or-set_other, get_or-set_same}
use Rattle.std.proofs.lemmas.Bool.{cases_lt}
use Rattle.std.proofs.lemmas.List.{length-replicate, length-set, ext_get_or}
use Rattle.std.proofs.lemmas.Nat.{pow-add, mul-add-lt}
use mir.Syntax.{w16}
use Rattle.state_model.specs.Coefficient.{Coefficient, zero_coefficient, ◌⊗◌}
use Rattle.state_model.specs.CoefficientList.{at}
use Rattle.state_model.specs.Amplitudes.{Amplitudes, HasRows}
use Rattle.omega_ring.specs.Range.{CoordinatesBelow}
use Rattle.amplitude_register.specs.States.{RegisterState, Next, empty, draft, prepared, next_value, zeros, with_row, IsDraft, IsKept}
use Rattle.amplitude_register.proofs.Fields.{power_le}
use Rattle.register_merge.specs.Merging.{products, IsWritten}
use Rattle.register_merge.proofs.Coordinates.{entry_within}
use Rattle.register_merge.proofs.ProductLists.{length_products, at_products}

draft_again : (x : Next) → IsDraft x → x ≡ draft record { qubits = (next_value x).qubits; list = (next_value x).list }
draft_again empty h = absurd h
draft_again (draft a) h = refl
draft_again (prepared a) h = absurd h

pub written_none : (us : List Coefficient) (mid : RegisterState) (qs : List ℕ) → mid.next ≡ draft (zeros qs) → length mid.value.list * length us ≡ 2 ^ length qs → IsWritten 0 us mid mid
written_none us mid qs e rows = record {
  after = ap (λ (t : Next). record mid { next = t }) (draft_again mid.next (subst IsDraft (sym e) tt));
  rows = ap (λ (t : Next). length (next_value t).list) e ∙ length-replicate (2 ^ length qs) zero_coefficient ∙ sym rows;
  done = λ i h. absurd (omega arith);
}

pub written_value : (n : ℕ) (us : List Coefficient) (old mid : RegisterState) → IsWritten n us old mid → mid.value ≡ old.value
written_value n us old mid h = ap (λ (t : RegisterState). t.value) h.after

written_qubits : (n : ℕ) (us : List Coefficient) (old mid : RegisterState) → IsWritten n us old mid → (next_value mid.next).qubits ≡ (next_value old.next).qubits
written_qubits n us old mid h = ap (λ (t : RegisterState). (next_value t.next).qubits) h.after

-- the next row is written
pub written_more : (n : ℕ) (us : List Coefficient) (old mid new : RegisterState) (z : Coefficient) → IsWritten n us old mid → n < length (next_value mid.next).list
    → z ≡ at (products old.value.list us) n → new ≡ record mid { next = draft (with_row (next_value mid.next) n z) } → IsWritten (n + 1) us old new
written_more n us old mid new z h l e f = record { after = after; rows = ap length list_is ∙ length-set (next_value mid.next).list n z ∙ h.rows; done = done }
  where
    list_is : (next_value new.next).list ≡ slice_set (next_value mid.next).list n z
    list_is = ap (λ (t : RegisterState). (next_value t.next).list) f

    after : new ≡ record old { next = draft record { qubits = (next_value old.next).qubits; list = (next_value new.next).list } }
    after =
        f ∙ ap (λ (t : RegisterState). record t { next = draft (with_row (next_value mid.next) n z) }) h.after
        ∙ ap (λ (t : List ℕ). record old { next = draft record { qubits = t; list = slice_set (next_value mid.next).list n z } }) (written_qubits n us old mid h)
        ∙ ap (λ (t : List Coefficient). record old { next = draft record { qubits = (next_value old.next).qubits; list = t } }) (sym list_is)

    in_list : (xs : List Coefficient) → n < length xs → ((i : ℕ) → i < n → at xs i ≡ at (products old.value.list us) i) → (i : ℕ) → i < n + 1 → at (slice_set xs n z) i ≡ at (products old.value.list us) i
    in_list xs l d i m = ⊎_elim
        (λ (p : i < n). let ne : i ≢ n = omega arith in rw get_or-set_other (d i p))
        (λ (p : n ≤ i). let is : i ≡ n = omega arith in rw is (rw get_or-set_same e))
        (cases_lt i n)

    done : (i : ℕ) → i < n + 1 → at (next_value new.next).list i ≡ at (products old.value.list us) i
    done i m = ap (λ (t : List Coefficient). at t i) list_is ∙ in_list (next_value mid.next).list l h.done i m

pub written_same : (n m : ℕ) (us : List Coefficient) (old mid : RegisterState) → n ≡ m → IsWritten n us old mid → IsWritten m us old mid
written_same n m us old mid e h = subst (λ (k : ℕ). IsWritten k us old mid) e h

-- the whole list is that of the products
pub written_whole : (us : List Coefficient) (old mid : RegisterState) → IsWritten (length old.value.list * length us) us old mid
    → mid ≡ record old { next = draft record { qubits = (next_value old.next).qubits; list = products old.value.list us } }
written_whole us old mid h = h.after ∙ ap (λ (t : List Coefficient). record old { next = draft record { qubits = (next_value old.next).qubits; list = t } })
    (ext_get_or zero_coefficient (next_value mid.next).list (products old.value.list us) (h.rows ∙ sym (length_products old.value.list us)) (λ i l. h.done i (subst (λ n. i < n) h.rows l)))

-- ---- rows and coefficients
pub row_below : (a b : Amplitudes) (high low : ℕ) → HasRows a → HasRows b → length a.qubits + length b.qubits ≤ 12 → high < length b.list → low < length a.list
    → length a.list * high + low < length a.list * length b.list × length a.list * length b.list ≤ 2 ^ 12
row_below a b high low in_a in_b few h l =
    (turn (length a.list) (length b.list) (mul-add-lt high (length a.list) low (length b.list) h l), fewer)
  where
    turn : (n m : ℕ) → high * n + low < n * m → n * high + low < n * m
    turn n m k = omega (arith, k)

    fewer : length a.list * length b.list ≤ 2 ^ 12
    fewer =
        let p = power_le (length a.qubits + length b.qubits) 12 few in
        subst (λ n. n ≤ 2 ^ 12) (pow-add 2 (length a.qubits) (length b.qubits) ∙ sym (ap (λ n. n * length b.list) in_a.rows ∙ ap (λ n. 2 ^ length a.qubits * n) in_b.rows)) p

pub row_read : (n : ℕ) (us : List Coefficient) (old mid : RegisterState) (z : Coefficient) (low : ℕ) → IsWritten n us old mid → z ≡ at mid.value.list low → z ≡ at old.value.list low
row_read n us old mid z low h e = e ∙ ap (λ (t : Amplitudes). at t.list low) (written_value n us old mid h)

pub read_within : (n : ℕ) (us : List Coefficient) (old mid : RegisterState) (z : Coefficient) (low : ℕ) → IsWritten n us old mid → IsKept old.value → z ≡ at mid.value.list low → CoordinatesBelow (2 ^ 30) z
read_within n us old mid z low h kept e = subst (CoordinatesBelow (2 ^ 30)) (sym (row_read n us old mid z low h e)) (entry_within old.value.list low kept.small)

pub factor_within : (a : Amplitudes) (z : Coefficient) (i : ℕ) → IsKept a → z ≡ at a.list i → CoordinatesBelow (2 ^ 30) z
factor_within a z i kept e = subst (CoordinatesBelow (2 ^ 30)) (sym e) (entry_within a.list i kept.small)

-- the next row of a block is written
pub block_more : (us : List Coefficient) (old mid new : RegisterState) (z u p : Coefficient) (high low count : ℕ) → IsWritten (length old.value.list * high + low) us old mid → low < length old.value.list → high < length us
    → count ≡ length old.value.list → z ≡ at mid.value.list low → u ≡ at us high → p ≡ z ⊗ u → new ≡ record mid { next = draft (with_row (next_value mid.next) (count * high + low) p) } → IsWritten (length old.value.list * high + (low + 1)) us old new
block_more us old mid new z u p high low count h l m e f g k i =
    written_same (length old.value.list * high + low + 1) (length old.value.list * high + (low + 1)) us old new (next (length old.value.list * high) low)
    (written_more (length old.value.list * high + low) us old mid new p h inside product_is written)
  where
    next : (n r : ℕ) → n + r + 1 ≡ n + (r + 1)
    next n r = omega arith

    turn : (n r : ℕ) → high * n + low < n * r → n * high + low < n * r
    turn n r q = omega (arith, q)

    inside : length old.value.list * high + low < length (next_value mid.next).list
    inside = subst (λ n. length old.value.list * high + low < n) (sym h.rows) (turn (length old.value.list) (length us) (mul-add-lt high (length old.value.list) low (length us) m l))

    product_is : p ≡ at (products old.value.list us) (length old.value.list * high + low)
    product_is =
        k ∙ ap (λ (t : Coefficient). t ⊗ u) (row_read (length old.value.list * high + low) us old mid z low h f) ∙ ap (λ (t : Coefficient). at old.value.list low ⊗ t) g
        ∙ sym (at_products old.value.list us low high l)

    written : new ≡ record mid { next = draft (with_row (next_value mid.next) (length old.value.list * high + low) p) }
    written = i ∙ ap (λ n. record mid { next = draft (with_row (next_value mid.next) (n * high + low) p) }) e

-- the rows' numbers fit 16 bits
pub row_fits : (a b : Amplitudes) (high low count : ℕ) → HasRows a → HasRows b → length a.qubits + length b.qubits ≤ 12 → high < length b.list → low < length a.list → count ≡ length a.list
    → Fits w16 (count * high) × Fits w16 (count * high + low)
row_fits a b high low count in_a in_b few h l e =
    let k = row_below a b high low in_a in_b few h l in
    subst (λ n. Fits w16 (n * high) × Fits w16 (n * high + low)) (sym e) (fits (length a.list * high) low (length a.list * length b.list) (k.0) (k.1))
  where
    fits : (n r m : ℕ) → n + r < m → m ≤ 2 ^ 12 → Fits w16 n × Fits w16 (n + r)
    fits n r m p q = (omega (arith, p, q), omega (arith, p, q))
