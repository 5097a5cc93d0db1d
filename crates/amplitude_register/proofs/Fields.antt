-- A register's fields against what contracts see of it.
use Rattle.std.proofs.Common.{◌≡◌, ◌≢◌, ℕ, zero, suc, ◌<◌, ◌≤◌, ◌^◌, ℤ, pos, ◌≤ℤ◌, ◌<ℤ◌, List, [], ◌∷◌, length, map, take, get_or, slice_set, replicate, min, length-take, length-take-le, Bool, true, false, cond, Some, refl, sym, ap, subst, ◌∙◌, arith, nat_abs, negsuc, ◌||◌}
use Rattle.std.proofs.lemmas.List.{length-map, get_or_read, get_or-take, map-set}
use Rattle.std.proofs.Math.Seq.{take-set-lt}
use native.Mathlib.Nat.{pow-le-pow_right}
use Rattle.amplitude_register.specs.States.{Next, empty, draft, prepared, RegisterState, IsDraft, IsPrepared, IsKept, IsSealed, IsRefused, next_value, prepared_qubits, with_row, zeros, IsPresent, IsGateStep, IsNextKept}
use Rattle.amplitude_register.specs.Held.{IsBlock, IsStage, next_of, amplitudes_of}
use Rattle.amplitude_register.specs.declared.block.Stage.{Stage}
use Rattle.amplitude_register.specs.declared.block.Stage.TheVariants.{Empty, Open, Weighed, Prepared}
use Rattle.amplitude_register.specs.declared.block.Block.{Block}
use Rattle.state_model.specs.Coefficient.{Coefficient, zero_coefficient, one_coefficient, scaled, Weight, weight, weight_sum}
use Rattle.state_model.specs.Divisors.{Divides, IsBalanced}
use Rattle.state_model.specs.CoefficientList.{at, IsReduced, IsScaled, IsNonzero, IsLeastSize, total_weight, IsNormal}
use Rattle.state_model.specs.Row.{is_listed}
use Rattle.state_model.specs.Gate.{Matrix, matrix, entry}
use Rattle.state_model.specs.Amplitudes.{Amplitudes, vector_of, AreDistinct, HasRows, IsGateList}
use Rattle.state_model.specs.StateVector.{IsSameState, IsSize}
use Rattle.omega_ring.specs.Views.{omega_value, weight_value}
use Rattle.omega_ring.specs.declared.coefficients.Omega.{Omega}
use Rattle.state_model.proofs.Inequalities.{order}
use Rattle.omega_ring.proofs.Entries.{zero_omega, at_map}
use Rattle.state_model.proofs.RegisterLists.{scaled_same}
use Rattle.state_model.proofs.RegisterSizes.{least_size, normal_size}
use Rattle.state_model.proofs.Booleans.{eq_false}
use Rattle.state_model.specs.Registers.{register_vector}
use Rattle.amplitude_register.proofs.Sums.{within_sum, small_of, real_sum}
use Rattle.std.proofs.lemmas.Int.{ints}
use Rattle.state_model.proofs.Expressions.{pair, same_weight}
use Rattle.amplitude_register.specs.Multiples.{HasPlace}
use Rattle.state_model.specs.declared.Gate.{Gate}
use Rattle.state_model.proofs.GateLists.{gate_total, gate_reduced}
use Rattle.state_model.specs.Undo.{scale_of}
use Rattle.omega_ring.specs.Range.{CoordinatesBelow, PartsBelow}
use Rattle.state_model.specs.declared.Gate.TheVariants.{X, RotZ}

pub power_le : (i j : ℕ) → i ≤ j → 2 ^ i ≤ 2 ^ j
power_le i j h = pow-le-pow_right {n = 2} (omega arith) h

pub block_room : (limit : ℕ) (b : Block) → IsBlock limit b → b.rows ≤ length b.entries.items
block_room limit b h = let p = power_le b.count limit h.count in rw (h.rows, h.room) p

abbrev pub state : ℕ → Amplitudes → Next → RegisterState
state l v x = record { limit = l; value = v; next = x }

abbrev pub front : List ℕ → List Omega → ℕ → Amplitudes
front qs xs n = record { qubits = qs; list = map omega_value (take n xs) }

-- ---- the stage, by what is seen of it
draft_is : (s : Stage) (a : Amplitudes) → IsDraft (next_of s a) → next_of s a ≡ draft a
draft_is Open a h = refl
draft_is Weighed a h = refl
draft_is Empty a h = absurd h
draft_is Prepared a h = absurd h

prepared_is : (s : Stage) (a : Amplitudes) → IsPrepared (next_of s a) → next_of s a ≡ prepared a
prepared_is Open a h = absurd h
prepared_is Weighed a h = absurd h
prepared_is Empty a h = absurd h
prepared_is Prepared a h = refl

-- where a draft is open, it is the second block
pub open_state : (o : RegisterState) (l : ℕ) (v : Amplitudes) (s : Stage) (a : Amplitudes) → state l v (next_of s a) ≡ o → IsDraft o.next → state l v (draft a) ≡ o
open_state o l v s a e h = ap (state l v) (sym (draft_is s a (subst (λ (t : RegisterState). IsDraft t.next) (sym e) h))) ∙ e

-- where a value is prepared, it is the second block
pub ready_state : (o : RegisterState) (l : ℕ) (v : Amplitudes) (s : Stage) (a : Amplitudes) → state l v (next_of s a) ≡ o → IsPrepared o.next → state l v (prepared a) ≡ o
ready_state o l v s a e h = ap (state l v) (sym (prepared_is s a (subst (λ (t : RegisterState). IsPrepared t.next) (sym e) h))) ∙ e

pub open_value : (o : RegisterState) (l : ℕ) (v : Amplitudes) (s : Stage) (a : Amplitudes) → state l v (next_of s a) ≡ o → IsDraft o.next → next_value o.next ≡ a
open_value o l v s a e h = ap (λ (t : RegisterState). next_value t.next) (sym (open_state o l v s a e h))

pub ready_value : (o : RegisterState) (l : ℕ) (v : Amplitudes) (s : Stage) (a : Amplitudes) → state l v (next_of s a) ≡ o → IsPrepared o.next → next_value o.next ≡ a
ready_value o l v s a e h = ap (λ (t : RegisterState). next_value t.next) (sym (ready_state o l v s a e h))

present_is : (s : Stage) (a : Amplitudes) → IsPresent (next_of s a) → next_value (next_of s a) ≡ a
present_is Open a h = refl
present_is Weighed a h = refl
present_is Prepared a h = refl
present_is Empty a h = absurd h

pub present_value : (o : RegisterState) (l : ℕ) (v : Amplitudes) (s : Stage) (a : Amplitudes) → state l v (next_of s a) ≡ o → IsPresent o.next → next_value o.next ≡ a
present_value o l v s a e h = ap (λ (t : RegisterState). next_value t.next) (sym e) ∙ present_is s a (subst (λ (t : RegisterState). IsPresent t.next) (sym e) h)

-- what a gate on the rows of the second block makes of the register
pub gate_step : (m : Matrix) (place n : ℕ) (o : RegisterState) (l : ℕ) (v : Amplitudes) (s : Stage) (qs : List ℕ) (xs ys : List Coefficient) → state l v (next_of s record { qubits = qs; list = xs }) ≡ o → IsPresent o.next
    → length ys ≡ length xs → IsGateList m place xs ys → total_weight ys ≡ scaled n (total_weight xs) → IsGateStep m place n o (state l v (next_of s record { qubits = qs; list = ys }))
gate_step m place n o l v s qs xs ys e h rows list weight =
    subst (λ (t : RegisterState). IsGateStep m place n t (state l v (next_of s record { qubits = qs; list = ys }))) e
    (by s (subst (λ (t : RegisterState). IsPresent t.next) (sym e) h))
  where
    by : (s : Stage) → IsPresent (next_of s record { qubits = qs; list = xs }) → IsGateStep m place n (state l v (next_of s record { qubits = qs; list = xs })) (state l v (next_of s record { qubits = qs; list = ys }))
    by Open h = record { after = refl; rows = rows; list = list; weight = weight }
    by Weighed h = record { after = refl; rows = rows; list = list; weight = weight }
    by Prepared h = record { after = refl; rows = rows; list = list; weight = weight }
    by Empty h = absurd h

-- ---- seal
pub sealed_ok : (o : RegisterState) (l : ℕ) (v : Amplitudes) (s : Stage) (a n : Amplitudes) → state l v (next_of s a) ≡ o → IsDraft o.next → n.qubits ≡ a.qubits → IsScaled n.list a.list → IsKept n → IsSealed o (state l v (prepared n))
sealed_ok o l v s a n e h q sc k = subst (λ (t : RegisterState). IsSealed t (state l v (prepared n))) (open_state o l v s a e h) record {
  after = ap (λ (t : List ℕ). state l v (prepared record { qubits = t; list = n.list })) q;
  scaled = sc;
  same = subst (λ (t : List ℕ). IsSameState (register_vector t n.list) (vector_of a)) (sym q) (scaled_same a.qubits n.list a.list sc);
  kept = k;
}

pub refused : (o : RegisterState) (l : ℕ) (v : Amplitudes) (s : Stage) (a : Amplitudes) (z : ℤ) → state l v (next_of s a) ≡ o → IsDraft o.next → HasRows a → IsNonzero a.list → IsLeastSize a.list z → pos (2 ^ 60) ≤ℤ z → IsRefused o (state l v empty) z
refused o l v s a z e h rows some m k = subst (λ (t : RegisterState). IsRefused t (state l v empty) z) (open_state o l v s a e h) record {
  after = refl;
  least = m;
  size_is = least_size a (nat_abs z) rows some (subst (IsLeastSize a.list) (positive z k) m);
  large = k;
}
  where
    positive : (z : ℤ) → pos (2 ^ 60) ≤ℤ z → z ≡ pos (nat_abs z)
    positive (pos n) h = refl
    positive (negsuc n) h = absurd (omega (arith, ints))

-- a kept value has its own size
pub kept_size : (a : Amplitudes) (n : ℤ) → HasRows a → IsKept a → (total_weight a.list).x ≡ n → IsSize (vector_of a) a.qubits (nat_abs n)
kept_size a n rows k e = normal_size a (nat_abs n) rows k.normal (e ∙ positive n (subst (λ (t : ℤ). pos 0 ≤ℤ t) e (let r = real_sum a.list in r.positive)))
  where
    positive : (z : ℤ) → pos 0 ≤ℤ z → z ≡ pos (nat_abs z)
    positive (pos n) h = refl
    positive (negsuc n) h = absurd (omega (arith, ints))

-- ---- fronts of buffers
pub same_front : (xs ys : List Omega) (n : ℕ) → length xs ≡ length ys → length (map omega_value (take n xs)) ≡ length (map omega_value (take n ys))
same_front xs ys n e = length-map (take n xs) omega_value ∙ length-take n xs ∙ ap (min n) e ∙ sym (length-take n ys) ∙ sym (length-map (take n ys) omega_value)

pub front_length : (xs : List Omega) (n : ℕ) → n ≤ length xs → length (map omega_value (take n xs)) ≡ n
front_length xs n h = length-map (take n xs) omega_value ∙ length-take-le n xs h

pub below_front : (xs : List Omega) (n row : ℕ) → row < length (map omega_value (take n xs)) → row < n
below_front xs n row h = let e = length-map (take n xs) omega_value ∙ length-take n xs in omega (arith, e)

pub front_row : (xs : List Omega) (n row : ℕ) → row < length (map omega_value (take n xs)) → at (map omega_value (take n xs)) row ≡ omega_value (get_or xs row zero_omega)
front_row xs n row h = at_map (take n xs) row ∙ ap omega_value (get_or-take n xs row zero_omega (below_front xs n row h))

pub front_set : (xs : List Omega) (n row : ℕ) (z : Omega) → row < n → map omega_value (take n (slice_set xs row z)) ≡ slice_set (map omega_value (take n xs)) row (omega_value z)
front_set xs n row z h = ap (map omega_value) (take-set-lt n xs row z h) ∙ map-set omega_value (take n xs) row z

-- ---- coefficient
pub coefficient_is : (o : Amplitudes) (qs : List ℕ) (xs : List Omega) (n row : ℕ) (x : Omega) → record { qubits = qs; list = map omega_value (take n xs) } ≡ o → row < length o.list → n ≤ length xs → x ≡ get_or xs row x → omega_value x ≡ at o.list row
coefficient_is o qs xs n row x e h m g = subst (λ (a : Amplitudes). omega_value x ≡ at a.list row) e (ap omega_value (get_or_read xs row x (omega (arith, below_front xs n row k)) g zero_omega) ∙ sym (front_row xs n row k))
  where
    k : row < length (map omega_value (take n xs))
    k = subst (λ (a : Amplitudes). row < length a.list) (sym e) h

-- ---- put
pub put_is : (o : RegisterState) (l : ℕ) (v : Amplitudes) (s : Stage) (qs : List ℕ) (xs : List Omega) (n row : ℕ) (z : Omega) → state l v (next_of s (front qs xs n)) ≡ o → IsDraft o.next → row < length (next_value o.next).list
    → state l v (draft (front qs (slice_set xs row z) n)) ≡ state o.limit o.value (draft (with_row (next_value o.next) row (omega_value z)))
put_is o l v s qs xs n row z e h r =
    let P : RegisterState → Type 0 = λ t. state l v (draft (front qs (slice_set xs row z) n)) ≡ state t.limit t.value (draft (with_row (next_value t.next) row (omega_value z))) in
    subst P (open_state o l v s (front qs xs n) e h) (ap (λ (t : List Coefficient). state l v (draft record { qubits = qs; list = t })) (front_set xs n row z (below_front xs n row (subst (λ (a : Amplitudes). row < length a.list) (open_value o l v s (front qs xs n) e h) r))))

-- ---- begin
pub begin_is : (o : RegisterState) (l : ℕ) (v : Amplitudes) (x : Next) (qs ps : List ℕ) (xs : List Omega) (n : ℕ) → state l v x ≡ o → qs ≡ ps → n ≡ 2 ^ length ps → take n xs ≡ replicate n zero_omega
    → state l v (draft (front qs xs n)) ≡ state o.limit o.value (draft (zeros ps))
begin_is o l v x qs ps xs n e q m z =
    let P : RegisterState → Type 0 = λ t. state l v (draft (front qs xs n)) ≡ state t.limit t.value (draft (zeros ps)) in
    subst P e
    (ap (λ (t : List ℕ). state l v (draft record { qubits = t; list = map omega_value (take n xs) })) q
    ∙ ap (λ (t : List Coefficient). state l v (draft record { qubits = ps; list = t })) (ap (map omega_value) z ∙ zeros_map n ∙ ap (λ (k : ℕ). replicate k zero_coefficient) m))
  where
    zeros_map : (n : ℕ) → map omega_value (replicate n zero_omega) ≡ replicate n zero_coefficient
    zeros_map zero = refl
    zeros_map (suc n) = ap (λ (t : List Coefficient). zero_coefficient ∷ t) (zeros_map n)

-- ---- the number of qubits
pub count_is : (xs : List ℕ) (n : ℕ) → n ≤ length xs → length (take n xs) ≡ n
count_is xs n h = length-take-le n xs h

pub prepared_some : (o : RegisterState) (l : ℕ) (v : Amplitudes) (s : Stage) (a : Amplitudes) (n : ℕ) → state l v (next_of s a) ≡ o → s ≡ Prepared → length a.qubits ≡ n → Some n ≡ prepared_qubits o.next
prepared_some o l v s a n e p q = subst (λ (t : RegisterState). Some n ≡ prepared_qubits t.next) e (subst (λ (r : Stage). Some n ≡ prepared_qubits (next_of r a)) (sym p) (ap Some (sym q)))

pub block_count : (limit : ℕ) (b : Block) → limit ≤ 12 → IsBlock limit b → length (take b.count b.qubits) ≡ b.count
block_count limit b m h = count_is b.qubits b.count (let k = h.count in let e = h.numbers in omega arith)

pub block_rows : (limit : ℕ) (b : Block) → limit ≤ 12 → IsBlock limit b → HasRows (amplitudes_of b)
block_rows limit b m h = record { rows = front_length b.entries.items b.rows (block_room limit b h) ∙ h.rows ∙ ap (λ (k : ℕ). 2 ^ k) (sym (block_count limit b m h)); distinct = h.distinct }

-- ---- small vectors
reduced_at : (vs : List Coefficient) (i : ℕ) → at vs i ≡ one_coefficient → IsReduced vs
reduced_at vs i e u d = subst (Divides u) e (d i)

pub kept_one : (a : Amplitudes) → a.list ≡ one_coefficient ∷ [] → IsKept a
kept_one a e = record {
  normal = record { reduced = reduced_at a.list 0 (ap (λ (t : List Coefficient). at t 0) e); balanced = subst (λ (t : List Coefficient). IsBalanced (total_weight t)) (sym e) record { high = omega (arith, order); low = omega (arith, order) } };
  small = subst (λ (t : List Coefficient). (total_weight t).x <ℤ pos (2 ^ 60)) (sym e) (omega (arith, order));
}

pub kept_basis : (a : Amplitudes) (bit : Bool) → a.list ≡ cond bit zero_coefficient one_coefficient ∷ cond bit one_coefficient zero_coefficient ∷ [] → IsKept a
kept_basis a true e = record {
  normal = record { reduced = reduced_at a.list 1 (ap (λ (t : List Coefficient). at t 1) e); balanced = subst (λ (t : List Coefficient). IsBalanced (total_weight t)) (sym e) record { high = omega (arith, order); low = omega (arith, order) } };
  small = subst (λ (t : List Coefficient). (total_weight t).x <ℤ pos (2 ^ 60)) (sym e) (omega (arith, order));
}
kept_basis a false e = record {
  normal = record { reduced = reduced_at a.list 0 (ap (λ (t : List Coefficient). at t 0) e); balanced = subst (λ (t : List Coefficient). IsBalanced (total_weight t)) (sym e) record { high = omega (arith, order); low = omega (arith, order) } };
  small = subst (λ (t : List Coefficient). (total_weight t).x <ℤ pos (2 ^ 60)) (sym e) (omega (arith, order));
}

pub distinct_none : AreDistinct []
distinct_none = tt

pub distinct_one : (q : ℕ) → AreDistinct (q ∷ [])
unfolding is_listed
distinct_one q = (refl, tt)

pub distinct_two : (p q : ℕ) → p ≢ q → AreDistinct (p ∷ q ∷ [])
unfolding is_listed
distinct_two p q h = (ap (λ b. b || false) (eq_false q p (λ e. h (sym e))), (refl, tt))

pub set_basis_is : (o : RegisterState) (l : ℕ) (v : Amplitudes) (x : Next) (qs ps : List ℕ) (cs ds : List Coefficient) → state l v x ≡ o → qs ≡ ps → cs ≡ ds → state l record { qubits = qs; list = cs } x ≡ state o.limit record { qubits = ps; list = ds } o.next
set_basis_is o l v x qs ps cs ds e p q =
    let P : RegisterState → Type 0 = λ t. state l record { qubits = qs; list = cs } x ≡ state t.limit record { qubits = ps; list = ds } t.next in
    subst P e (ap (λ (t : List ℕ). state l record { qubits = t; list = cs } x) p ∙ ap (λ (t : List Coefficient). state l record { qubits = ps; list = t } x) q)

pub next_prepared : (o : RegisterState) (l : ℕ) (v : Amplitudes) (x : Next) (qs ps : List ℕ) (cs ds : List Coefficient) → state l v x ≡ o → qs ≡ ps → cs ≡ ds → state l v (prepared record { qubits = qs; list = cs }) ≡ state o.limit o.value (prepared record { qubits = ps; list = ds })
next_prepared o l v x qs ps cs ds e p q =
    let P : RegisterState → Type 0 = λ t. state l v (prepared record { qubits = qs; list = cs }) ≡ state t.limit t.value (prepared record { qubits = ps; list = ds }) in
    subst P e (ap (λ (t : List ℕ). state l v (prepared record { qubits = t; list = cs })) p ∙ ap (λ (t : List Coefficient). state l v (prepared record { qubits = ps; list = t })) q)

pub take_one : (xs : List ℕ) (q : ℕ) → length xs ≡ 12 → take 1 (slice_set xs 0 q) ≡ q ∷ []
take_one [] q h = absurd (omega arith)
take_one (x ∷ xs) q h = refl

pub two_le : (n : ℕ) → 1 ≤ n → 2 ≤ 2 ^ n
two_le n h = power_le 1 n h

-- ---- the next value, by the stage
pub next_kept : (limit : ℕ) (s : Stage) (b : Block) → limit ≤ 12 → IsBlock limit b → IsStage s b → IsNextKept (next_of s (amplitudes_of b))
next_kept limit Empty b m h k = tt
next_kept limit Open b m h k = block_rows limit b m h
next_kept limit Weighed b m h k = block_rows limit b m h
next_kept limit Prepared b m h k = (block_rows limit b m h, k.1)

-- ---- weights of small vectors
pub one_weighed : (vs : List Coefficient) → vs ≡ one_coefficient ∷ [] → record { x = pos 1; y = pos 0 } ≡ total_weight vs
one_weighed vs e = ap total_weight (sym e)

pub basis_weighed : (vs : List Coefficient) (bit : Bool) → vs ≡ cond bit zero_coefficient one_coefficient ∷ cond bit one_coefficient zero_coefficient ∷ [] → record { x = pos 1; y = pos 0 } ≡ total_weight vs
basis_weighed vs true e = ap total_weight (sym e)
basis_weighed vs false e = ap total_weight (sym e)

-- ---- gates on the second block
abbrev pub list_of : Block → List Coefficient
list_of b = map omega_value (take b.rows b.entries.items)

pub list_rows : (limit : ℕ) (b : Block) → IsBlock limit b → length (list_of b) ≡ 2 ^ b.count
list_rows limit b h = front_length b.entries.items b.rows (block_room limit b h) ∙ h.rows

-- the block's list after a gate: its length and its weight
pub record IsStepped (s : ℕ) (xs ys : List Coefficient) : Type 0 where
  pub rows : length ys ≡ length xs
  pub weight : total_weight ys ≡ scaled s (total_weight xs)

pub stepped : (m : Matrix) (s place limit : ℕ) (b : Block) (items : List Omega) → IsBlock limit b → place < b.count → length items ≡ length b.entries.items
    → ((y z : Coefficient) → weight_sum (weight (entry m false y z)) (weight (entry m true y z)) ≡ scaled s (weight_sum (weight y) (weight z)))
    → IsGateList m place (list_of b) (map omega_value (take b.rows items)) → IsStepped s (list_of b) (map omega_value (take b.rows items))
stepped m s place limit b items h l room pair list =
    let e = same_front items b.entries.items b.rows room in
    record { rows = e; weight = gate_total m s place b.count (list_of b) (map omega_value (take b.rows items)) l (list_rows limit b h) (e ∙ list_rows limit b h) pair list }

scaled_once : (w : Weight) → scaled 1 w ≡ w
scaled_once w = same_weight (scaled 1 w) w (omega (arith, ints)) (omega (arith, ints))

-- a gate that moves or turns rows keeps what a stage keeps
pub turned_stage : (g : Gate) (place : ℕ) (s : Stage) (b c : Block) → scale_of g ≡ 1 → c.weight ≡ b.weight → c.qubits ≡ b.qubits → c.count ≡ b.count
    → IsGateList (matrix g) place (list_of b) (list_of c) → IsStepped 1 (list_of b) (list_of c) → IsStage s b → IsStage s c
turned_stage g place Empty b c one w q n list h k = tt
turned_stage g place Open b c one w q n list h k = tt
turned_stage g place Weighed b c one w q n list h k = ap weight_value w ∙ k ∙ sym (h.weight ∙ scaled_once (total_weight (list_of b)))
turned_stage g place Prepared b c one w q n list h k =
    let e : total_weight (list_of c) ≡ total_weight (list_of b) = h.weight ∙ scaled_once (total_weight (list_of b)) in
    let kept = k.1 in let normal = kept.normal in (
      ap weight_value w ∙ k.0 ∙ sym e,
      record {
        normal = record { reduced = gate_reduced g place (list_of b) (list_of c) one list normal.reduced; balanced = subst IsBalanced (sym e) normal.balanced };
        small = subst (λ (t : Weight). t.x <ℤ pos (2 ^ 60)) (sym e) kept.small;
      },
    )

-- a draft that is mixed keeps what a stage keeps
pub mixed_stage : (s : Stage) (b c : Block) → (s ≡ Prepared → ⊥) → (s ≡ Weighed → weight_value c.weight ≡ scaled 2 (weight_value b.weight)) → IsStepped 2 (list_of b) (list_of c) → IsStage s b → IsStage s c
mixed_stage Empty b c out w h k = tt
mixed_stage Open b c out w h k = tt
mixed_stage Weighed b c out w h k = w refl ∙ ap (scaled 2) k ∙ sym h.weight
mixed_stage Prepared b c out w h k = absurd (out refl)

-- an open draft isn't prepared
pub not_prepared : (o : RegisterState) (l : ℕ) (v : Amplitudes) (s : Stage) (a : Amplitudes) → state l v (next_of s a) ≡ o → IsDraft o.next → s ≡ Prepared → ⊥
not_prepared o l v s a e h p = subst (λ (r : Stage). IsDraft (next_of r a)) p (subst (λ (t : RegisterState). IsDraft t.next) (sym e) h)

-- the weight of a weighed draft is its list's
pub weighed_is : (s : Stage) (b : Block) → s ≡ Weighed → IsStage s b → weight_value b.weight ≡ total_weight (list_of b)
weighed_is s b e k = subst (λ (r : Stage). IsStage r b) e k

-- a place of the next value is one of the block
pub place_below : (o : RegisterState) (l : ℕ) (v : Amplitudes) (s : Stage) (b : Block) (place : ℕ) → l ≤ 12 → IsBlock l b → state l v (next_of s (amplitudes_of b)) ≡ o → IsPresent o.next → place < length (next_value o.next).qubits → place < b.count
place_below o l v s b place m h e p k = let q = block_count l b m h in let r = ap (λ (a : Amplitudes). length a.qubits) (present_value o l v s (amplitudes_of b) e p) in omega (arith, q, r)

pub draft_present : (x : Next) → IsDraft x → IsPresent x
draft_present (draft a) h = tt
draft_present empty h = absurd h
draft_present (prepared a) h = absurd h

pub has_place : (limit place : ℕ) (b : Block) → limit ≤ 12 → IsBlock limit b → place < b.count → HasPlace place b.rows
has_place limit place b m h l = record { qubits = b.count; few = (let k = h.count in omega (arith, k, m)); inside = l; count = h.rows }

-- the next value's list is the block's
pub present_weight : (o : RegisterState) (l : ℕ) (v : Amplitudes) (s : Stage) (b : Block) → state l v (next_of s (amplitudes_of b)) ≡ o → IsPresent o.next → total_weight (next_value o.next).list ≡ total_weight (list_of b)
present_weight o l v s b e p = ap (λ (a : Amplitudes). total_weight a.list) (present_value o l v s (amplitudes_of b) e p)

larger : (z : ℤ) → z <ℤ pos (2 ^ 121) → z <ℤ pos (2 ^ 122)
larger z h = omega (arith, order)

-- the coordinates of a next value whose squares sum up to less than 2^122
pub present_range : (o : RegisterState) (l : ℕ) (v : Amplitudes) (s : Stage) (b : Block) → state l v (next_of s (amplitudes_of b)) ≡ o → IsPresent o.next → (total_weight (next_value o.next).list).x <ℤ pos (2 ^ 122) → (i : ℕ) → CoordinatesBelow (2 ^ 61) (at (list_of b) i)
present_range o l v s b e p h = within_sum (list_of b) (subst (λ (t : Weight). t.x <ℤ pos (2 ^ 122)) (present_weight o l v s b e p) h)

pub draft_range : (o : RegisterState) (l : ℕ) (v : Amplitudes) (s : Stage) (b : Block) → state l v (next_of s (amplitudes_of b)) ≡ o → IsDraft o.next → (total_weight (next_value o.next).list).x <ℤ pos (2 ^ 121) → (i : ℕ) → CoordinatesBelow (2 ^ 61) (at (list_of b) i)
draft_range o l v s b e p h = present_range o l v s b e (draft_present o.next p) (larger (total_weight (next_value o.next).list).x h)

-- the weight of a weighed draft fits
pub weighed_small : (o : RegisterState) (l : ℕ) (v : Amplitudes) (s : Stage) (b : Block) → state l v (next_of s (amplitudes_of b)) ≡ o → IsDraft o.next → (total_weight (next_value o.next).list).x <ℤ pos (2 ^ 121) → IsStage s b → s ≡ Weighed
    → PartsBelow (2 ^ 122) (weight_value b.weight)
weighed_small o l v s b e p h k w =
    let q = weighed_is s b w k in
    small_of (list_of b) (weight_value b.weight) q (larger b.weight.x (subst (λ (t : Weight). t.x <ℤ pos (2 ^ 121)) (present_weight o l v s b e (draft_present o.next p) ∙ sym q) h))

pub turned_scale : (k : ℕ) → scale_of (RotZ k) ≡ 1
unfolding scale_of
turned_scale k = refl

pub exchanged_scale : scale_of X ≡ 1
unfolding scale_of
exchanged_scale = refl

pub open_nonzero : (o : RegisterState) (l : ℕ) (v : Amplitudes) (s : Stage) (a : Amplitudes) → state l v (next_of s a) ≡ o → IsDraft o.next → IsNonzero (next_value o.next).list → IsNonzero a.list
open_nonzero o l v s a e p h = subst (λ (t : Amplitudes). IsNonzero t.list) (open_value o l v s a e p) h

pub distinct_pair_weighed : (vs : List Coefficient) → vs ≡ one_coefficient ∷ zero_coefficient ∷ zero_coefficient ∷ one_coefficient ∷ [] → record { x = pos 2; y = pos 0 } ≡ total_weight vs
distinct_pair_weighed vs e = ap total_weight (sym e)

pub kept_pair : (a : Amplitudes) → a.list ≡ one_coefficient ∷ zero_coefficient ∷ zero_coefficient ∷ one_coefficient ∷ [] → IsKept a
kept_pair a e = record {
  normal = record { reduced = reduced_at a.list 0 (ap (λ (t : List Coefficient). at t 0) e); balanced = subst (λ (t : List Coefficient). IsBalanced (total_weight t)) (sym e) record { high = omega (arith, order); low = omega (arith, order) } };
  small = subst (λ (t : List Coefficient). (total_weight t).x <ℤ pos (2 ^ 60)) (sym e) (omega (arith, order));
}

pub take_two : (xs : List ℕ) (p q : ℕ) → length xs ≡ 12 → take 2 (slice_set (slice_set xs 0 p) 1 q) ≡ p ∷ q ∷ []
take_two [] p q h = absurd (omega arith)
take_two (x ∷ []) p q h = absurd (omega arith)
take_two (x ∷ y ∷ xs) p q h = refl

pub four_le : (n : ℕ) → 2 ≤ n → 4 ≤ 2 ^ n
four_le n h = power_le 2 n h

pub take_four : (xs : List Omega) (p q r s : Omega) → 4 ≤ length xs → take 4 (slice_set (slice_set (slice_set (slice_set xs 0 p) 1 q) 2 r) 3 s) ≡ p ∷ q ∷ r ∷ s ∷ []
take_four [] p q r s h = absurd (omega arith)
take_four (a ∷ []) p q r s h = absurd (omega arith)
take_four (a ∷ b ∷ []) p q r s h = absurd (omega arith)
take_four (a ∷ b ∷ c ∷ []) p q r s h = absurd (omega arith)
take_four (a ∷ b ∷ c ∷ d ∷ xs) p q r s h = refl

pub sealed_kept : (a : Amplitudes) (w : Weight) → w ≡ total_weight a.list → IsNormal a.list → w.x <ℤ pos (2 ^ 60) → IsKept a
sealed_kept a w e n s = record { normal = n; small = subst (λ (t : Weight). t.x <ℤ pos (2 ^ 60)) e s }

-- a number that stands at no place isn't listed
pub unlisted : (xs : List ℕ) (q : ℕ) → ((j : ℕ) → j < length xs → get_or xs j 0 ≢ q) → is_listed xs q ≡ false
unfolding is_listed
unlisted [] q h = refl
unlisted (x ∷ xs) q h = ap (λ b. b || is_listed xs q) (eq_false x q (h 0 (omega arith))) ∙ unlisted xs q (λ j l. h (suc j) (omega arith))

-- the coordinates of a prepared value
pub kept_range : (o : RegisterState) (l : ℕ) (v : Amplitudes) (s : Stage) (b : Block) (row : ℕ) → state l v (next_of s (amplitudes_of b)) ≡ o → IsPrepared o.next → IsStage s b → CoordinatesBelow (2 ^ 61) (at (list_of b) row)
kept_range o l v s b row e h k = by s (subst (λ (t : RegisterState). IsPrepared t.next) (sym e) h) k
  where
    further : (z : ℤ) → z <ℤ pos (2 ^ 60) → z <ℤ pos (2 ^ 122)
    further z h = omega (arith, order)

    by : (s : Stage) → IsPrepared (next_of s (amplitudes_of b)) → IsStage s b → CoordinatesBelow (2 ^ 61) (at (list_of b) row)
    by Prepared h k = let m = k.1 in within_sum (list_of b) (further (total_weight (list_of b)).x m.small) row
    by Open h k = absurd h
    by Weighed h k = absurd h
    by Empty h k = absurd h
