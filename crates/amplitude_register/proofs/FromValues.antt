-- Next values that are made of the value in one pass.
use Rattle.std.proofs.Common.{◌≡◌, ◌≢◌, ℕ, ◌<◌, ◌≤◌, ◌^◌, ℤ, pos, ◌<ℤ◌, true, false, List, length, map, take, refl, sym, ap, subst, ◌∙◌, arith}
use Rattle.state_model.specs.Coefficient.{Coefficient, Weight, weight, weight_sum, scaled}
use Rattle.state_model.specs.CoefficientList.{at, total_weight}
use Rattle.state_model.specs.Gate.{Matrix, matrix, entry}
use Rattle.state_model.specs.Undo.{scale_of}
use Rattle.state_model.specs.Amplitudes.{Amplitudes, IsGateList, IsTwoGateList}
use Rattle.state_model.specs.declared.Gate.{Gate}
use Rattle.state_model.specs.declared.Gate.TheVariants.{H}
use Rattle.state_model.specs.declared.Two.{Two}
use Rattle.state_model.proofs.GateLists.{mixed_weight}
use Rattle.state_model.proofs.Inequalities.{order}
use Rattle.omega_ring.specs.Views.{omega_value, weight_value}
use Rattle.omega_ring.specs.Range.{CoordinatesBelow, PartsBelow}
use Rattle.amplitude_register.specs.States.{RegisterState, Next, draft, prepared, IsKept, IsPresent, IsGateStep, IsTwoGateStep}
use Rattle.amplitude_register.specs.Held.{IsBlock, IsWeighed, IsStage, IsRegister, amplitudes_of, next_of, state_of}
use Rattle.amplitude_register.specs.declared.block.Block.{Block}
use Rattle.amplitude_register.specs.declared.block.Stage.{Stage}
use Rattle.amplitude_register.specs.declared.block.Stage.TheVariants.{Weighed, Prepared}
use Rattle.amplitude_register.specs.declared.register.Register.TheInside.{Inside}
use Rattle.amplitude_register.proofs.Sums.{within_sum, small_of}
use Rattle.amplitude_register.proofs.Fields.{state, front, block_room, block_count, list_of, IsStepped, stepped, gate_step, turned_stage}
use Rattle.amplitude_register.proofs.PreparedRows.{two_step, two_stage, two_stepped}
use Rattle.amplitude_register.proofs.Placed.{next_placed, same_block}

-- a place of the value is one of its block
pub value_place : (o : RegisterState) (l : ℕ) (b : Block) (x : Next) (place : ℕ) → l ≤ 12 → IsBlock l b → state l (amplitudes_of b) x ≡ o → place < length o.value.qubits → place < b.count
value_place o l b x place m h e k = let q = block_count l b m h in let r = ap (λ (t : RegisterState). length t.value.qubits) e in omega (arith, q, r, k)

pub value_low : (o : RegisterState) (l : ℕ) (b : Block) (x : Next) (place : ℕ) → l ≤ 12 → IsBlock l b → state l (amplitudes_of b) x ≡ o → place < length o.value.qubits → place < 12
value_low o l b x place m h e k = let p = value_place o l b x place m h e k in let c = h.count in omega (arith, p, c, m)

-- one block's rows fit in the other's entries
pub rows_fit : (l : ℕ) (b c : Block) → IsBlock l b → IsBlock l c → b.rows ≤ length c.entries.items
rows_fit l b c h k = let a = block_room l b h in let p = h.room in let q = k.room in omega (arith, a, p, q)

further : (z : ℤ) → z <ℤ pos (2 ^ 60) → z <ℤ pos (2 ^ 122)
further z h = omega (arith, order)

pub value_range : (b : Block) → IsKept (amplitudes_of b) → (i : ℕ) → CoordinatesBelow (2 ^ 61) (at (list_of b) i)
value_range b h i = within_sum (list_of b) (further (total_weight (list_of b)).x h.small) i

pub value_weight : (b : Block) → IsWeighed b → IsKept (amplitudes_of b) → PartsBelow (2 ^ 122) (weight_value b.weight)
value_weight b w h = small_of (list_of b) (weight_value b.weight) w (subst (λ (t : Weight). t.x <ℤ pos (2 ^ 122)) (sym w) (further (total_weight (list_of b)).x h.small))

-- ---- the second block, once it took on the value's head
abbrev pub headed : Block → Block → Block
headed v n = record { qubits = v.qubits; count = v.count; rows = v.rows; weight = v.weight; entries = n.entries }

pub headed_room : (v n h : Block) → h ≡ headed v n → length h.entries.items ≡ length n.entries.items
headed_room v n h e = ap (λ (b : Block). length b.entries.items) e

pub headed_fit : (l : ℕ) (v n h : Block) → IsBlock l v → IsBlock l n → h ≡ headed v n → v.rows ≤ length h.entries.items
headed_fit l v n h is_v is_n e = let r = headed_room v n h e in let f = rows_fit l v n is_v is_n in omega (arith, r, f)

-- that block with another weight and other entries
abbrev pub filled : Block → Block → Block
filled h d = record { qubits = h.qubits; count = h.count; rows = h.rows; weight = d.weight; entries = d.entries }

pub value_room : (r : Inside) (h d : Block) → IsRegister r → h ≡ headed r.value r.next → length d.entries.items ≡ length h.entries.items → length d.entries.items ≡ length r.value.entries.items
value_room r h d i e room = let v = i.value in let n = i.next in room ∙ headed_room r.value r.next h e ∙ n.room ∙ sym v.room

pub headed_register : (r : Inside) (s : Stage) (h d : Block) → IsRegister r → h ≡ headed r.value r.next → length d.entries.items ≡ length h.entries.items → IsStage s (filled r.value d) → IsRegister record { limit = r.limit; value = r.value; next = filled h d; stage = s }
headed_register r s h d i e room k =
    subst (λ (b : Block). IsRegister record { limit = r.limit; value = r.value; next = filled b d; stage = s }) (sym e)
    (next_placed r s (filled r.value d) i (same_block r.limit r.value (filled r.value d) refl refl refl (value_room r h d i e room) i.value) k)

-- ---- what a gate of one qubit makes of the value
abbrev pub filled_list : Inside → Block → List Coefficient
filled_list r d = map omega_value (take r.value.rows d.entries.items)

gate_stepped : (m : Matrix) (n place : ℕ) (r : Inside) (h d : Block) → IsRegister r → h ≡ headed r.value r.next → place < r.value.count → length d.entries.items ≡ length h.entries.items
    → ((y z : Coefficient) → weight_sum (weight (entry m false y z)) (weight (entry m true y z)) ≡ scaled n (weight_sum (weight y) (weight z))) → IsGateList m place (list_of r.value) (filled_list r d) → IsStepped n (list_of r.value) (filled_list r d)
gate_stepped m n place r h d i e l room pair list = stepped m n place r.limit r.value d.entries.items i.value l (value_room r h d i e room) pair list

gate_from_value : (m : Matrix) (n place : ℕ) (s : Stage) (o : RegisterState) (r : Inside) (h d : Block) → state_of r ≡ o → h ≡ headed r.value r.next → ((a : Amplitudes) → IsPresent (next_of s a))
    → IsStepped n (list_of r.value) (filled_list r d) → IsGateList m place (list_of r.value) (filled_list r d)
    → IsGateStep m place n record o { next = next_of s o.value } (state r.limit (amplitudes_of r.value) (next_of s (front (take h.count h.qubits) d.entries.items h.rows)))
gate_from_value m n place s o r h d v e present k list =
    subst (λ (b : Block). IsGateStep m place n record o { next = next_of s o.value } (state r.limit (amplitudes_of r.value) (next_of s (front (take b.count b.qubits) d.entries.items b.rows)))) (sym e)
    (gate_step m place n record o { next = next_of s o.value } r.limit (amplitudes_of r.value) s (take r.value.count r.value.qubits) (list_of r.value) (filled_list r d) (ap (λ (t : RegisterState). state t.limit t.value (next_of s t.value)) v) (present o.value) k.rows list k.weight)

pub turned_register : (g : Gate) (place : ℕ) (r : Inside) (h d : Block) → IsRegister r → h ≡ headed r.value r.next → place < r.value.count → length d.entries.items ≡ length h.entries.items → d.weight ≡ h.weight → scale_of g ≡ 1
    → ((y z : Coefficient) → weight_sum (weight (entry (matrix g) false y z)) (weight (entry (matrix g) true y z)) ≡ scaled 1 (weight_sum (weight y) (weight z))) → IsGateList (matrix g) place (list_of r.value) (filled_list r d)
    → IsRegister record { limit = r.limit; value = r.value; next = filled h d; stage = Prepared }
turned_register g place r h d i e l room w one pair list =
    headed_register r Prepared h d i e room (turned_stage g place Prepared r.value (filled r.value d) one (w ∙ ap (λ (b : Block). b.weight) e) refl refl list (gate_stepped (matrix g) 1 place r h d i e l room pair list) (i.weighed, i.kept))

pub turned_step : (g : Gate) (place : ℕ) (o : RegisterState) (r : Inside) (h d : Block) → state_of r ≡ o → IsRegister r → h ≡ headed r.value r.next → place < r.value.count → length d.entries.items ≡ length h.entries.items
    → ((y z : Coefficient) → weight_sum (weight (entry (matrix g) false y z)) (weight (entry (matrix g) true y z)) ≡ scaled 1 (weight_sum (weight y) (weight z))) → IsGateList (matrix g) place (list_of r.value) (filled_list r d)
    → IsGateStep (matrix g) place 1 record o { next = prepared o.value } (state r.limit (amplitudes_of r.value) (prepared (front (take h.count h.qubits) d.entries.items h.rows)))
turned_step g place o r h d v i e l room pair list = gate_from_value (matrix g) 1 place Prepared o r h d v e (λ a. tt) (gate_stepped (matrix g) 1 place r h d i e l room pair list) list

pub mixed_register : (place : ℕ) (r : Inside) (h d : Block) → IsRegister r → h ≡ headed r.value r.next → place < r.value.count → length d.entries.items ≡ length h.entries.items → weight_value d.weight ≡ scaled 2 (weight_value r.value.weight)
    → IsGateList (matrix H) place (list_of r.value) (filled_list r d) → IsRegister record { limit = r.limit; value = r.value; next = filled h d; stage = Weighed }
mixed_register place r h d i e l room w list =
    let k = gate_stepped (matrix H) 2 place r h d i e l room mixed_weight list in
    headed_register r Weighed h d i e room (w ∙ ap (scaled 2) i.weighed ∙ sym k.weight)

pub mixed_step : (place : ℕ) (o : RegisterState) (r : Inside) (h d : Block) → state_of r ≡ o → IsRegister r → h ≡ headed r.value r.next → place < r.value.count → length d.entries.items ≡ length h.entries.items
    → IsGateList (matrix H) place (list_of r.value) (filled_list r d) → IsGateStep (matrix H) place 2 record o { next = draft o.value } (state r.limit (amplitudes_of r.value) (draft (front (take h.count h.qubits) d.entries.items h.rows)))
mixed_step place o r h d v i e l room list = gate_from_value (matrix H) 2 place Weighed o r h d v e (λ a. tt) (gate_stepped (matrix H) 2 place r h d i e l room mixed_weight list) list

-- ---- what a gate of two qubits makes of the value
both_stepped : (k : Two) (p q : ℕ) (r : Inside) (h d : Block) → IsRegister r → h ≡ headed r.value r.next → p ≢ q → q < r.value.count → length d.entries.items ≡ length h.entries.items → IsTwoGateList k p q (list_of r.value) (filled_list r d) → total_weight (filled_list r d) ≡ total_weight (list_of r.value)
both_stepped k p q r h d i e apart l room list = two_stepped k p q r.limit r.value d.entries.items apart i.value l (value_room r h d i e room) list

pub both_register : (k : Two) (p q : ℕ) (r : Inside) (h d : Block) → IsRegister r → h ≡ headed r.value r.next → p ≢ q → q < r.value.count → length d.entries.items ≡ length h.entries.items → d.weight ≡ h.weight → IsTwoGateList k p q (list_of r.value) (filled_list r d)
    → IsRegister record { limit = r.limit; value = r.value; next = filled h d; stage = Prepared }
both_register k p q r h d i e apart l room w list =
    headed_register r Prepared h d i e room (two_stage k p q Prepared r.value (filled r.value d) apart refl (w ∙ ap (λ (b : Block). b.weight) e) list (both_stepped k p q r h d i e apart l room list) (i.weighed, i.kept))

pub both_step : (k : Two) (p q : ℕ) (o : RegisterState) (r : Inside) (h d : Block) → state_of r ≡ o → IsRegister r → h ≡ headed r.value r.next → p ≢ q → q < r.value.count → length d.entries.items ≡ length h.entries.items → IsTwoGateList k p q (list_of r.value) (filled_list r d)
    → IsTwoGateStep k p q record o { next = prepared o.value } (state r.limit (amplitudes_of r.value) (prepared (front (take h.count h.qubits) d.entries.items h.rows)))
both_step k p q o r h d v i e apart l room list =
    subst (λ (b : Block). IsTwoGateStep k p q record o { next = prepared o.value } (state r.limit (amplitudes_of r.value) (prepared (front (take b.count b.qubits) d.entries.items b.rows)))) (sym e)
    (two_step k p q record o { next = prepared o.value } r.limit (amplitudes_of r.value) Prepared (take r.value.count r.value.qubits) (list_of r.value) (filled_list r d) (ap (λ (t : RegisterState). state t.limit t.value (prepared t.value)) v) tt list (both_stepped k p q r h d i e apart l room list))
