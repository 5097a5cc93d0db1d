-- What H makes of a register's value, reduced and balanced, as the draft of the sums and differences that was sealed.
use Rattle.std.proofs.Common.{◌≡◌, ℕ, ◌<◌, ◌^◌, ℤ, pos, ◌≤ℤ◌, ◌<ℤ◌, List, length, map, take, refl, sym, ap, subst, ◌∙◌}
use Rattle.state_model.specs.Coefficient.{Coefficient, Weight}
use Rattle.state_model.specs.CoefficientList.{IsNonzero, total_weight}
use Rattle.state_model.specs.Gate.{matrix}
use Rattle.state_model.specs.Amplitudes.{Amplitudes, HasRows}
use Rattle.state_model.specs.declared.Gate.TheVariants.{H}
use Rattle.state_model.proofs.GateLists.{gate_total, gate_nonzero, mixed_weight}
use Rattle.state_model.proofs.RegisterSizes.{normal_least}
use Rattle.omega_ring.specs.Views.{omega_value, weight_value}
use Rattle.amplitude_register.specs.Mixed.{IsMixedNormal}
use Rattle.amplitude_register.specs.States.{RegisterState, draft, prepared, empty, next_value, IsKept, IsGateStep, IsGateSealed, IsSealed, IsRefused}
use Rattle.amplitude_register.specs.Held.{IsRegister, IsBlock, amplitudes_of, state_of}
use Rattle.amplitude_register.specs.declared.block.Block.{Block}
use Rattle.amplitude_register.specs.declared.block.Stage.TheVariants.{Weighed, Prepared}
use Rattle.amplitude_register.specs.declared.register.Register.TheInside.{Inside}
use Rattle.amplitude_register.proofs.Fields.{state, front, list_of, list_rows, block_rows, same_front, sealed_ok, sealed_kept, refused}
use Rattle.amplitude_register.proofs.FromValues.{headed, filled, filled_list, value_room, headed_register}

-- the register with the sums and differences as a draft
abbrev drafted : Inside → List Coefficient → RegisterState
drafted r list = state r.limit (amplitudes_of r.value) (draft record { qubits = take r.value.count r.value.qubits; list = list })

step_to : (place : ℕ) (r : Inside) (us : List Coefficient) → IsRegister r → place < r.value.count → (m : IsMixedNormal place (list_of r.value) us)
    → IsGateStep (matrix H) place 2 (state r.limit (amplitudes_of r.value) (draft (amplitudes_of r.value))) (drafted r m.mixed)
step_to place r us i l m =
    let e = list_rows r.limit r.value i.value in
    record { after = refl; rows = m.rows; list = m.list; weight = gate_total (matrix H) 2 place r.value.count (list_of r.value) m.mixed l e (m.rows ∙ e) mixed_weight m.list }

abbrev new_value : Inside → List Coefficient → Amplitudes
new_value r us = record { qubits = take r.value.count r.value.qubits; list = us }

-- the new list is the value of a kept register
pub mixed_kept : (place : ℕ) (r : Inside) (us : List Coefficient) (w : Weight) → IsMixedNormal place (list_of r.value) us → w ≡ total_weight us → w.x <ℤ pos (2 ^ 60) → IsKept (new_value r us)
mixed_kept place r us w m e s = sealed_kept (new_value r us) w e m.normal s

pub mixed_placed : (place : ℕ) (r : Inside) (h d : Block) → IsRegister r → h ≡ headed r.value r.next → length d.entries.items ≡ length h.entries.items → IsMixedNormal place (list_of r.value) (filled_list r d) → weight_value d.weight ≡ total_weight (filled_list r d) → d.weight.x <ℤ pos (2 ^ 60)
    → IsRegister record { limit = r.limit; value = r.value; next = filled h d; stage = Prepared }
mixed_placed place r h d i e room m w s = headed_register r Prepared h d i e room (w, mixed_kept place r (filled_list r d) (weight_value d.weight) m w s)

pub mixed_sealed : (place : ℕ) (o : RegisterState) (r : Inside) (h d : Block) → state_of r ≡ o → IsRegister r → h ≡ headed r.value r.next → place < r.value.count → IsMixedNormal place (list_of r.value) (filled_list r d) → weight_value d.weight ≡ total_weight (filled_list r d) → d.weight.x <ℤ pos (2 ^ 60)
    → IsGateSealed (matrix H) place 2 o (λ middle. IsSealed middle (state r.limit (amplitudes_of r.value) (prepared (front (take h.count h.qubits) d.entries.items h.rows))))
mixed_sealed place o r h d v i e l m w s =
    subst (λ (b : Block). IsGateSealed (matrix H) place 2 o (λ middle. IsSealed middle (state r.limit (amplitudes_of r.value) (prepared (front (take b.count b.qubits) d.entries.items b.rows))))) (sym e)
    (subst (λ (t : RegisterState). IsGateSealed (matrix H) place 2 t (λ middle. IsSealed middle (state r.limit (amplitudes_of r.value) (prepared (new_value r (filled_list r d)))))) v record {
      middle = drafted r m.mixed;
      step = step_to place r (filled_list r d) i l m;
      ended = sealed_ok (drafted r m.mixed) r.limit (amplitudes_of r.value) Weighed (new_value r m.mixed) (new_value r (filled_list r d)) refl tt refl m.scaled (mixed_kept place r (filled_list r d) (weight_value d.weight) m w s);
    })

pub mixed_refused : (place : ℕ) (o : RegisterState) (r : Inside) (h d : Block) (size : ℤ) → state_of r ≡ o → IsRegister r → h ≡ headed r.value r.next → place < r.value.count → length d.entries.items ≡ length h.entries.items → IsMixedNormal place (list_of r.value) (filled_list r d)
    → (total_weight (filled_list r d)).x ≡ size → pos (2 ^ 60) ≤ℤ size → IsGateSealed (matrix H) place 2 o (λ middle. IsRefused middle (state r.limit (amplitudes_of r.value) empty) size)
mixed_refused place o r h d size v i e l room m x large =
    subst (λ (t : RegisterState). IsGateSealed (matrix H) place 2 t (λ middle. IsRefused middle (state r.limit (amplitudes_of r.value) empty) size)) v record {
      middle = drafted r m.mixed;
      step = step_to place r (filled_list r d) i l m;
      ended = refused (drafted r m.mixed) r.limit (amplitudes_of r.value) Weighed (new_value r m.mixed) size refl tt has_rows some (normal_least m.mixed (filled_list r d) size rows m.scaled m.normal x) large;
    }
  where
    rows : length (filled_list r d) ≡ length m.mixed
    rows = same_front d.entries.items r.value.entries.items r.value.rows (value_room r h d i e room) ∙ sym m.rows

    has_rows : HasRows (new_value r m.mixed)
    has_rows = let b = block_rows r.limit r.value i.most i.value in record { rows = m.rows ∙ b.rows; distinct = b.distinct }

    some : IsNonzero m.mixed
    some = let k = i.kept in let n = k.normal in gate_nonzero H place (list_of r.value) m.mixed m.list n.reduced
