-- Soundness through gates, measurements and sends.
use Rattle.std.proofs.Common.{◌≡◌, ℕ, ◌+◌, ◌^◌, ◌<◌, ◌≤◌, ◌==◌, nat_lt, Bool, true, false, not, ◌&&◌, ◌||◌, List, [], ◌∷◌, ◌++◌, length, None, is_none, count_by, refl, sym, ap, subst, ◌∙◌, arith}
use Rattle.state_model.specs.Coefficient.{zero_coefficient}
use Rattle.state_model.specs.Row.{is_listed}
use Rattle.state_model.specs.StateVector.{Vector, HasSizeAtLeast}
use Rattle.state_model.specs.Gate.{matrix, gate, two_gate}
use Rattle.state_model.specs.Measurement.{keep}
use Rattle.network_model.specs.Network.{Network, Shape, Held, Waiting, members, load, line_eq, IsSound}
use Rattle.network_model.specs.Step.{operand, own_number, other_number, remote_node, united_group, outcome_of, taken_out, left_as, quiet, after_gate, after_two, joined, unheld}
use Rattle.state_model.specs.Row.{without}
use Rattle.network_model.specs.declared.Line.TheVariants as line
use Rattle.cqc_model.specs.declared.Remote.{Remote}
use Rattle.state_model.specs.declared.Gate.{Gate}
use Rattle.state_model.specs.declared.Two.{Two}
use Rattle.network_model.specs.declared.Call.{Call}
use Rattle.state_model.proofs.Booleans.{eq_of, and_true_left, eq_flip}
use Rattle.state_model.proofs.Numbers.{is_listed-snoc, is_listed-without}
use Rattle.network_model.proofs.Held.{operand_live}
use Rattle.state_model.proofs.Kept.{kept_some_row}
use Rattle.state_model.proofs.Determinants.{determinant_some}
use Rattle.network_model.proofs.GroupSteps.{AreGroups, groups_gate, groups_two, groups_taken, groups_left}
use Rattle.network_model.proofs.Places.{ArePlaces, places_along, places_waiting, places_unheld, count-unheld}
use Rattle.network_model.proofs.Accepted.{not_less_of, handle_of, operands_apart, remote_within}
use Rattle.network_model.proofs.SoundParts.{sound_groups, sound_places, sound_from}
use Rattle.state_model.proofs.Sizes.{not_in}

-- a number that leaves and comes again is live as before
pub again_listed : (live : List ℕ) (q : ℕ) → is_listed live q ≡ true → (x : ℕ) → is_listed live x ≡ is_listed (without live q ++ q ∷ []) x
again_listed live q inside x = sym (is_listed-snoc (without live q) (q ∷ []) x ∙ ap (λ b. b || is_listed (q ∷ []) x) (is_listed-without live q x) ∙ unfold is_listed in by (x == q) refl)
  where
    gone : (b : Bool) → ((b && false) || (true || false)) ≡ true
    gone true = refl
    gone false = refl

    stays : (b : Bool) → ((b && true) || (false || false)) ≡ b
    stays true = refl
    stays false = refl

    by : (t : Bool) → (x == q) ≡ t → ((is_listed live x && not (x == q)) || ((q == x) || false)) ≡ is_listed live x
    by true e = ap (λ b. (is_listed live x && not b) || ((q == x) || false)) e ∙ ap (λ b. (is_listed live x && false) || (b || false)) (eq_flip q x ∙ e) ∙ gone (is_listed live x) ∙ sym (ap (is_listed live) (eq_of x q e) ∙ inside)
    by false e = ap (λ b. (is_listed live x && not b) || ((q == x) || false)) e ∙ ap (λ b. (is_listed live x && true) || (b || false)) (eq_flip q x ∙ e) ∙ stays (is_listed live x)

module _ (shape : Shape) (s : Network) (c : Call) (limited : 1 ≤ shape.limit) (sound : IsSound shape s) (node : c.node < length shape.places) where
  groups : AreGroups shape.limit s.vector s.live s.label
  groups = sound_groups shape s sound

  places : ArePlaces shape s.live s.held s.waiting
  places = sound_places shape s sound

  -- another vector alone
  sound_vector : (v : Vector) → AreGroups shape.limit v s.live s.label → IsSound shape (record s { vector = v })
  sound_vector v g = sound_from shape _ g places sound.live_numbers

  pub sound_gate : (g : Gate) → is_none (operand s c c.command.qubit) ≡ false → ¬ HasSizeAtLeast (gate (matrix g) (own_number s c) s.vector) (members s.live s.label (s.label (own_number s c))) (2 ^ 60) → IsSound shape ((after_gate s c g).state)
  unfolding after_gate quiet own_number
  sound_gate g held small = sound_vector _ (groups_gate shape.limit s.vector s.live s.label groups (matrix g) _ (determinant_some g) (operand_live shape s sound c c.command.qubit held) small)

  pub sound_two : (k : Two) (id : ℕ) → is_none (operand s c c.command.qubit) ≡ false → is_none (operand s c id) ≡ false → (id == c.command.qubit) ≡ false
      → nat_lt shape.limit (length (united_group s (own_number s c) (other_number s c id))) ≡ false
      → ¬ HasSizeAtLeast (two_gate k (own_number s c) (other_number s c id) s.vector) (members s.live (joined s.label (own_number s c) (other_number s c id)) (joined s.label (own_number s c) (other_number s c id) (own_number s c))) (2 ^ 60)
      → IsSound shape ((after_two s c k id).state)
  unfolding after_two quiet own_number other_number united_group
  sound_two k id own other distinct few small = sound_from shape _
      (groups_two shape.limit s.vector s.live s.label groups k _ _ (operands_apart shape s c id sound own other distinct) (operand_live shape s sound c c.command.qubit own) (operand_live shape s sound c id other) (not_less_of _ _ few) small)
      places sound.live_numbers

  kept_row : (word : ℕ) → word < 2 ^ 64 → ¬ ((x : ℕ) → keep (own_number s c) (outcome_of s c word) s.vector x ≡ zero_coefficient)
  unfolding outcome_of
  kept_row word small = kept_some_row s.live s.vector (own_number s c) word small sound.over_live sound.some_row

  own_live' : is_none (operand s c c.command.qubit) ≡ false → is_listed s.live (own_number s c) ≡ true
  unfolding own_number
  own_live' held = operand_live shape s sound c c.command.qubit held

  unheld_places : is_none (operand s c c.command.qubit) ≡ false → ArePlaces shape (without s.live (own_number s c)) (unheld s.held c.node c.app c.command.qubit) s.waiting
  unfolding own_number
  unheld_places held =
      let e = handle_of s c c.command.qubit held in
      subst (λ q. ArePlaces shape (without s.live q) (unheld s.held c.node c.app c.command.qubit) s.waiting) (e.2)
      (places_unheld shape s.live s.held s.waiting places c.node c.app c.command.qubit (e.0) (e.1) (ap (is_listed s.live) (e.2) ∙ operand_live shape s sound c c.command.qubit held))

  pub sound_taken : (word : ℕ) → word < 2 ^ 64 → is_none (operand s c c.command.qubit) ≡ false → IsSound shape (taken_out s c word)
  unfolding taken_out
  sound_taken word small held = sound_from shape _
      (groups_taken shape.limit s.vector s.live s.label groups (own_number s c) (outcome_of s c word) (own_live' held) (kept_row word small))
      (unheld_places held)
      (λ q i. sound.live_numbers q (and_true_left _ _ (sym (is_listed-without s.live (own_number s c) q) ∙ i)))

  pub sound_left : (word : ℕ) (value : Bool) → word < 2 ^ 64 → is_none (operand s c c.command.qubit) ≡ false → IsSound shape (left_as s c word value)
  unfolding left_as
  sound_left word value small held = sound_from shape _
      (groups_left shape.limit s.vector s.live s.label groups (own_number s c) (outcome_of s c word) value (own_live' held) (kept_row word small))
      places sound.live_numbers

  -- ---- a qubit is sent
  pub sound_sent : (r : Remote) → is_none (operand s c c.command.qubit) ≡ false → load s (remote_node shape c r) < shape.room
      → IsSound shape (record s { held = unheld s.held c.node c.app c.command.qubit; waiting = s.waiting ++ record { node = remote_node shape c r; app = r.app; line = line.Sent; number = own_number s c; info = None } ∷ [] })
  unfolding load line_eq
  sound_sent r held room = sound_from shape _ groups
      (places_along shape _ _ _
      (places_waiting shape _ _ _ (unheld_places held) _ (not_in s.live (own_number s c)) (remote_within shape c r node) refl less)
      s.live (again_listed s.live (own_number s c) (own_live' held)))
      sound.live_numbers
    where
      still : (a b w m : ℕ) → a ≤ b → b + w < m → a + w < m
      still a b w m h k = omega arith

      less : count_by (λ e. Held.node e == remote_node shape c r) (unheld s.held c.node c.app c.command.qubit) + count_by (λ e. Waiting.node e == remote_node shape c r) s.waiting < shape.room
      less = still _ _ _ _ (count-unheld (λ e. Held.node e == remote_node shape c r) s.held c.node c.app c.command.qubit) room
