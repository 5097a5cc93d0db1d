-- Rows of a prepared value that are exchanged or negated, in the fields and in what contracts see.
use Rattle.std.proofs.Common.{◌≡◌, ◌≢◌, ℕ, ◌<◌, ◌≤◌, arith, List, length, map, take, get_or, slice_set, refl, sym, ap, subst, ◌∙◌}
use Rattle.state_model.specs.Coefficient.{Coefficient, negated}
use Rattle.state_model.specs.CoefficientList.{at, total_weight}
use Rattle.state_model.specs.Amplitudes.{Amplitudes, IsTwoGateList}
use Rattle.state_model.specs.declared.Two.{Two}
use Rattle.omega_ring.specs.Views.{omega_value, weight_value}
use Rattle.omega_ring.specs.declared.coefficients.Omega.{Omega}
use Rattle.amplitude_register.specs.States.{RegisterState, Next, empty, draft, prepared, IsPrepared, IsPresent, IsKept, IsTwoGateStep, next_value, with_row}
use Rattle.amplitude_register.specs.Held.{IsBlock, IsStage, IsRegister, next_of, amplitudes_of, state_of}
use Rattle.amplitude_register.specs.declared.block.Block.{Block}
use Rattle.amplitude_register.specs.declared.block.Stage.{Stage}
use Rattle.amplitude_register.specs.declared.block.Stage.TheVariants.{Empty, Open, Weighed, Prepared}
use Rattle.amplitude_register.specs.declared.register.Register.TheInside.{Inside}
use Rattle.omega_ring.proofs.Entries.{zero_omega}
use Rattle.amplitude_register.proofs.Fields.{place_below, state, front, ready_state, ready_value, front_set, front_row, below_front, list_of, list_rows, same_front}
use Rattle.amplitude_register.proofs.ChangedRows.{negated_row, swapped_rows, negated_total, swapped_total, negated_kept, swapped_kept, same_kept}
use Rattle.amplitude_register.proofs.Placed.{next_placed, same_block}
use Rattle.state_model.proofs.TwoGateLists.{two_total, two_reduced}

pub prepared_stage : (o : RegisterState) (l : ℕ) (v : Amplitudes) (s : Stage) (a : Amplitudes) → state l v (next_of s a) ≡ o → IsPrepared o.next → s ≡ Prepared
prepared_stage o l v s a e h = by s (subst (λ (t : RegisterState). IsPrepared t.next) (sym e) h)
  where
    by : (s : Stage) → IsPrepared (next_of s a) → s ≡ Prepared
    by Prepared h = refl
    by Open h = absurd h
    by Weighed h = absurd h
    by Empty h = absurd h

-- a row of the next value is one of the block's list
pub ready_row : (o : RegisterState) (l : ℕ) (v : Amplitudes) (s : Stage) (qs : List ℕ) (xs : List Omega) (n row : ℕ) → state l v (next_of s (front qs xs n)) ≡ o → IsPrepared o.next → row < length (next_value o.next).list → row < length (map omega_value (take n xs))
ready_row o l v s qs xs n row e p h = subst (λ (a : Amplitudes). row < length a.list) (ready_value o l v s (front qs xs n) e p) h

-- ---- lists
negated_front : (xs : List Omega) (n row : ℕ) (z : Omega) → row < length (map omega_value (take n xs)) → omega_value z ≡ negated (omega_value (get_or xs row zero_omega)) → map omega_value (take n (slice_set xs row z)) ≡ negated_row (map omega_value (take n xs)) row
negated_front xs n row z h e = front_set xs n row z (below_front xs n row h) ∙ ap (slice_set (map omega_value (take n xs)) row) (e ∙ ap negated (sym (front_row xs n row h)))

swapped_front : (xs : List Omega) (n i j : ℕ) (y z : Omega) → i < length (map omega_value (take n xs)) → j < length (map omega_value (take n xs)) → y ≡ get_or xs j zero_omega → z ≡ get_or xs i zero_omega
    → map omega_value (take n (slice_set (slice_set xs i y) j z)) ≡ swapped_rows (map omega_value (take n xs)) i j
swapped_front xs n i j y z h k e f =
    front_set (slice_set xs i y) n j z (below_front xs n j k)
    ∙ ap (λ (t : List Coefficient). slice_set t j (omega_value z)) (front_set xs n i y (below_front xs n i h) ∙ ap (slice_set (map omega_value (take n xs)) i) (ap omega_value e ∙ sym (front_row xs n j k)))
    ∙ ap (slice_set (slice_set (map omega_value (take n xs)) i (at (map omega_value (take n xs)) j)) j) (ap omega_value f ∙ sym (front_row xs n i h))

-- ---- what contracts see
pub negated_is : (o : RegisterState) (l : ℕ) (v : Amplitudes) (s : Stage) (qs : List ℕ) (xs : List Omega) (n row : ℕ) (z : Omega) → state l v (next_of s (front qs xs n)) ≡ o → IsPrepared o.next → row < length (next_value o.next).list → omega_value z ≡ negated (omega_value (get_or xs row zero_omega))
    → state l v (next_of s (front qs (slice_set xs row z) n)) ≡ state o.limit o.value (prepared (with_row (next_value o.next) row (negated (at (next_value o.next).list row))))
negated_is o l v s qs xs n row z e p h f =
    let P : RegisterState → Type 0 = λ t. state l v (prepared (front qs (slice_set xs row z) n)) ≡ state t.limit t.value (prepared (with_row (next_value t.next) row (negated (at (next_value t.next).list row)))) in
    ap (λ (r : Stage). state l v (next_of r (front qs (slice_set xs row z) n))) (prepared_stage o l v s (front qs xs n) e p)
    ∙ subst P (ready_state o l v s (front qs xs n) e p) (ap (λ (t : List Coefficient). state l v (prepared record { qubits = qs; list = t })) (negated_front xs n row z (ready_row o l v s qs xs n row e p h) f))

pub swapped_is : (o : RegisterState) (l : ℕ) (v : Amplitudes) (s : Stage) (qs : List ℕ) (xs : List Omega) (n i j : ℕ) (y z : Omega) → state l v (next_of s (front qs xs n)) ≡ o → IsPrepared o.next → i < length (next_value o.next).list → j < length (next_value o.next).list → y ≡ get_or xs j zero_omega → z ≡ get_or xs i zero_omega
    → state l v (next_of s (front qs (slice_set (slice_set xs i y) j z) n)) ≡ state o.limit o.value (prepared (with_row (with_row (next_value o.next) i (at (next_value o.next).list j)) j (at (next_value o.next).list i)))
swapped_is o l v s qs xs n i j y z e p h k f g =
    let P : RegisterState → Type 0 = λ t. state l v (prepared (front qs (slice_set (slice_set xs i y) j z) n)) ≡ state t.limit t.value (prepared (with_row (with_row (next_value t.next) i (at (next_value t.next).list j)) j (at (next_value t.next).list i))) in
    ap (λ (r : Stage). state l v (next_of r (front qs (slice_set (slice_set xs i y) j z) n))) (prepared_stage o l v s (front qs xs n) e p)
    ∙ subst P (ready_state o l v s (front qs xs n) e p) (ap (λ (t : List Coefficient). state l v (prepared record { qubits = qs; list = t })) (swapped_front xs n i j y z (ready_row o l v s qs xs n i e p h) (ready_row o l v s qs xs n j e p k) f g))

-- ---- what the stage keeps
pub changed_stage : (s : Stage) (b c : Block) → s ≡ Prepared → c.weight ≡ b.weight → total_weight (list_of c) ≡ total_weight (list_of b) → (IsKept (amplitudes_of b) → IsKept (amplitudes_of c)) → IsStage s b → IsStage s c
changed_stage Prepared b c e w t kept k = (ap weight_value w ∙ k.0 ∙ sym t, kept (k.1))
changed_stage Empty b c e w t kept k = tt
changed_stage Open b c e w t kept k = tt
changed_stage Weighed b c e w t kept k = ap weight_value w ∙ k ∙ sym t

pub negated_stage : (s : Stage) (b c : Block) (row : ℕ) (z : Omega) → s ≡ Prepared → c.weight ≡ b.weight → c.rows ≡ b.rows → c.entries.items ≡ slice_set b.entries.items row z → row < length (list_of b) → omega_value z ≡ negated (omega_value (get_or b.entries.items row zero_omega)) → IsStage s b → IsStage s c
negated_stage s b c row z e w r x h f k =
    let q : list_of c ≡ negated_row (list_of b) row = ap (λ (n : ℕ). map omega_value (take n c.entries.items)) r ∙ ap (λ (t : List Omega). map omega_value (take b.rows t)) x ∙ negated_front b.entries.items b.rows row z h f in
    changed_stage s b c e w (ap total_weight q ∙ negated_total (list_of b) row h)
    (λ m. subst (λ (t : List Coefficient). IsKept record { qubits = take c.count c.qubits; list = t }) (sym q) (negated_kept (take b.count b.qubits) (take c.count c.qubits) (list_of b) row h m)) k

pub swapped_stage : (s : Stage) (b c : Block) (i j : ℕ) (y z : Omega) → s ≡ Prepared → c.weight ≡ b.weight → c.rows ≡ b.rows → c.entries.items ≡ slice_set (slice_set b.entries.items i y) j z → i < length (list_of b) → j < length (list_of b) → y ≡ get_or b.entries.items j zero_omega → z ≡ get_or b.entries.items i zero_omega → IsStage s b → IsStage s c
swapped_stage s b c i j y z e w r x h l f g k =
    let q : list_of c ≡ swapped_rows (list_of b) i j = ap (λ (n : ℕ). map omega_value (take n c.entries.items)) r ∙ ap (λ (t : List Omega). map omega_value (take b.rows t)) x ∙ swapped_front b.entries.items b.rows i j y z h l f g in
    changed_stage s b c e w (ap total_weight q ∙ swapped_total (list_of b) i j h l)
    (λ m. subst (λ (t : List Coefficient). IsKept record { qubits = take c.count c.qubits; list = t }) (sym q) (swapped_kept (take b.count b.qubits) (take c.count c.qubits) (list_of b) i j h l m)) k

-- ---- gates of two qubits
pub ready_present : (x : Next) → IsPrepared x → IsPresent x
ready_present (prepared a) h = tt
ready_present empty h = absurd h
ready_present (draft a) h = absurd h

-- a place of the prepared value is one of the block
pub ready_place : (o : RegisterState) (l : ℕ) (v : Amplitudes) (s : Stage) (b : Block) (place : ℕ) → l ≤ 12 → IsBlock l b → state l v (next_of s (amplitudes_of b)) ≡ o → IsPrepared o.next → place < length (next_value o.next).qubits → place < b.count
ready_place o l v s b place m h e p k = place_below o l v s b place m h e (ready_present o.next p) k

pub ready_low : (o : RegisterState) (l : ℕ) (v : Amplitudes) (s : Stage) (b : Block) (place : ℕ) → l ≤ 12 → IsBlock l b → state l v (next_of s (amplitudes_of b)) ≡ o → IsPrepared o.next → place < length (next_value o.next).qubits → place < 12
ready_low o l v s b place m h e p k = let q = ready_place o l v s b place m h e p k in let c = h.count in omega (arith, q, c, m)

-- the block's list after such a gate has the same weight
pub two_stepped : (k : Two) (i j limit : ℕ) (b : Block) (items : List Omega) → i ≢ j → IsBlock limit b → j < b.count → length items ≡ length b.entries.items
    → IsTwoGateList k i j (list_of b) (map omega_value (take b.rows items)) → total_weight (map omega_value (take b.rows items)) ≡ total_weight (list_of b)
two_stepped k i j limit b items apart h l room list =
    let e = list_rows limit b h in
    two_total k i j b.count (list_of b) (map omega_value (take b.rows items)) apart l e (same_front items b.entries.items b.rows room ∙ e) list

-- what a gate of two qubits on the rows of the second block makes of the register
pub two_step : (k : Two) (i j : ℕ) (o : RegisterState) (l : ℕ) (v : Amplitudes) (s : Stage) (qs : List ℕ) (xs ys : List Coefficient) → state l v (next_of s record { qubits = qs; list = xs }) ≡ o → IsPrepared o.next
    → IsTwoGateList k i j xs ys → total_weight ys ≡ total_weight xs → IsTwoGateStep k i j o (state l v (next_of s record { qubits = qs; list = ys }))
two_step k i j o l v s qs xs ys e h list weight =
    subst (λ (t : RegisterState). IsTwoGateStep k i j t (state l v (next_of s record { qubits = qs; list = ys }))) e
    (by s (subst (λ (t : RegisterState). IsPrepared t.next) (sym e) h))
  where
    by : (s : Stage) → IsPrepared (next_of s record { qubits = qs; list = xs }) → IsTwoGateStep k i j (state l v (next_of s record { qubits = qs; list = xs })) (state l v (next_of s record { qubits = qs; list = ys }))
    by Prepared h = record { after = refl; list = list; weight = weight }
    by Open h = absurd h
    by Weighed h = absurd h
    by Empty h = absurd h

pub two_stage : (k : Two) (i j : ℕ) (s : Stage) (b c : Block) → i ≢ j → s ≡ Prepared → c.weight ≡ b.weight → IsTwoGateList k i j (list_of b) (list_of c) → total_weight (list_of c) ≡ total_weight (list_of b) → IsStage s b → IsStage s c
two_stage k i j s b c apart e w list weight h = changed_stage s b c e w weight (same_kept (amplitudes_of b) (amplitudes_of c) weight (two_reduced k i j (list_of b) (list_of c) apart list)) h

-- the register after a gate of two qubits on the rows of its second block
pub two_register : (k : Two) (i j : ℕ) (o : RegisterState) (r : Inside) (c : Block) → state_of r ≡ o → IsRegister r → IsPrepared o.next → i ≢ j → j < length (next_value o.next).qubits → c.rows ≡ r.next.rows → c.count ≡ r.next.count → c.qubits ≡ r.next.qubits → c.weight ≡ r.next.weight → length c.entries.items ≡ length r.next.entries.items
    → IsTwoGateList k i j (list_of r.next) (map omega_value (take r.next.rows c.entries.items)) → IsRegister record { limit = r.limit; value = r.value; next = c; stage = r.stage }
two_register k i j o r c v h p apart l rows count qubits w room list =
    let place = ready_place o r.limit (amplitudes_of r.value) r.stage r.next j h.most h.next v p l in
    let same : list_of c ≡ map omega_value (take r.next.rows c.entries.items) = ap (λ (n : ℕ). map omega_value (take n c.entries.items)) rows in
    next_placed r r.stage c h (same_block r.limit r.next c rows count qubits room h.next)
    (two_stage k i j r.stage r.next c apart (prepared_stage o r.limit (amplitudes_of r.value) r.stage (amplitudes_of r.next) v p) w (subst (IsTwoGateList k i j (list_of r.next)) (sym same) list) (ap total_weight same ∙ two_stepped k i j r.limit r.next c.entries.items apart h.next place room list) h.stage)

pub two_result : (k : Two) (i j : ℕ) (o : RegisterState) (r : Inside) (c : Block) → state_of r ≡ o → IsRegister r → IsPrepared o.next → i ≢ j → j < length (next_value o.next).qubits → length c.entries.items ≡ length r.next.entries.items
    → IsTwoGateList k i j (list_of r.next) (map omega_value (take r.next.rows c.entries.items)) → IsTwoGateStep k i j o (state r.limit (amplitudes_of r.value) (next_of r.stage (front (take r.next.count r.next.qubits) c.entries.items r.next.rows)))
two_result k i j o r c v h p apart l room list =
    let place = ready_place o r.limit (amplitudes_of r.value) r.stage r.next j h.most h.next v p l in
    two_step k i j o r.limit (amplitudes_of r.value) r.stage (take r.next.count r.next.qubits) (list_of r.next) (map omega_value (take r.next.rows c.entries.items)) v p list (two_stepped k i j r.limit r.next c.entries.items apart h.next place room list)
