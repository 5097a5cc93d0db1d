-- Steps over the registers of two slots: what they leave of the board.
use Rattle.std.proofs.Common.{ℕ, ◌≡◌, ◌≢◌, Some, IsSome, sym, ap, subst, ◌∙◌}
use Rattle.state_model.specs.Amplitudes.{Amplitudes, HasRows}
use Rattle.amplitude_register.specs.States.{RegisterState, Next, prepared, next_value, IsNextKept, IsKept}
use Rattle.core_cells.specs.Cells.{Cells, put_slot}
use Rattle.core_cells.specs.declared.cells.SlotCell.{SlotCell}
use Rattle.core_cells.proofs.CellLemmas.{put_slot_same, slot_beside}
use Rattle.register_merge.specs.Merging.{IsVerdict}
use Rattle.register_merge.specs.declared.verdicts.Merge.{Merge}
use Rattle.factored_core.specs.Slots.{HasPrepared}
use Rattle.factored_core.specs.Pairs.{IsJoined}
use Rattle.factored_core.proofs.Changed.{prepares, there_is}

-- a cell is its register
cell_by : (v x : SlotCell) → v.register ≡ x.register → v ≡ x
cell_by v x e = ap (λ (r : RegisterState). record { register = r }) e

module _ (old new : Cells) (one two : ℕ) (apart : one ≢ two) where
  -- the second is put back as it was
  one_put : (v w y : SlotCell) → old.slot two ≡ Some y → w.register ≡ y.register → new ≡ put_slot (put_slot old one v) two w → new ≡ put_slot old one v
  one_put v w y there same put =
      put ∙ ap (put_slot (put_slot old one v) two) (cell_by w y same) ∙ put_slot_same (put_slot old one v) two y (slot_beside old one two v (λ e. apart (sym e)) ∙ there)

  pub judged_same : IsSome (old.slot one) → IsSome (old.slot two) → (answer : Merge)
      → ((x y : SlotCell) → old.slot one ≡ Some x → old.slot two ≡ Some y → (v : SlotCell) × (w : SlotCell) × ((v.register ≡ x.register) × (w.register ≡ y.register) × IsVerdict answer x.register y.register) × (new ≡ put_slot (put_slot old one v) two w))
      → new ≡ old
  judged_same has_one has_two answer ran =
      let x = there_is (old.slot one) has_one in
      let y = there_is (old.slot two) has_two in
      let k = ran (x.0) (y.0) (x.1) (y.1) in
      one_put (k.0) (k.1) (y.0) (y.1) (k.2.1) (k.3) ∙ ap (put_slot old one) (cell_by (k.0) (x.0) (k.2.0)) ∙ put_slot_same old one (x.0) (x.1)

  pub joined_prepares : IsSome (old.slot one) → (y : SlotCell) → old.slot two ≡ Some y
      → ((x y : SlotCell) → old.slot one ≡ Some x → old.slot two ≡ Some y → (v : SlotCell) × (w : SlotCell) × (IsJoined y.register x.register v.register × (w.register ≡ y.register)) × (new ≡ put_slot (put_slot old one v) two w))
      → HasPrepared old new one (IsJoined y.register)
  joined_prepares has_one y there ran =
      let x = there_is (old.slot one) has_one in
      let k = ran (x.0) y (x.1) there in
      prepares old new one (x.0) (k.0) (IsJoined y.register) (x.1) (one_put (k.0) (k.1) y there (k.2.1) (k.3)) _ (((k.2.0).merged).after) (k.2.0)

-- a prepared value has its rows
pub kept_rows : (x y : RegisterState) (a : Amplitudes) → y ≡ record x { next = prepared a } → IsNextKept y.next → HasRows (next_value y.next)
kept_rows x y a e kept =
    let next : y.next ≡ prepared a = ap (λ (r : RegisterState). r.next) e in
    let both : HasRows a × IsKept a = subst (λ (n : Next). IsNextKept n) next kept in
    subst (λ (n : Next). HasRows (next_value n)) (sym next) (both.0)
