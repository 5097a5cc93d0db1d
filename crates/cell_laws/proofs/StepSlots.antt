-- The slots that a call touches, after its effect; and when its size is too large.
--     gate_step, gate_too_large                    a gate on one qubit
--     two_step, two_is_small                       a gate on two qubits of one slot
--     joined_step, emptied_step, joined_too_large  of two slots
--     outcome_is, kept_has_row                     a measurement
--     taken_step, left_step, moved_step, alone_step
--     new_step, pair_step                          new qubits
use Rattle.std.proofs.Common.{◌≡◌, ◌≢◌, ℕ, ◌^◌, ◌<◌, ◌≤◌, Bool, true, false, List, [], ◌∷◌, ◌++◌, length, refl, sym, ap, subst, ◌∙◌}
use Rattle.state_model.specs.Coefficient.{Coefficient, zero_coefficient}
use Rattle.state_model.specs.Row.{is_listed, without}
use Rattle.state_model.specs.StateVector.{IsSameState, IsSize, HasSizeAtLeast}
use Rattle.state_model.specs.Measurement.{draw, keep}
use Rattle.state_model.specs.Registers.{Register, register_vector, product_over}
use Rattle.state_model.specs.Amplitudes.{AreDistinct}
use Rattle.state_model.specs.Gate.{matrix, gate, two_gate}
use Rattle.state_model.specs.declared.Gate.{Gate}
use Rattle.state_model.specs.declared.Two.{Two}
use Rattle.network_model.specs.Network.{Network, Shape, group_of}
use Rattle.network_model.specs.Kinds.{kind_of, is_gate}
use Rattle.network_model.specs.Step.{own_number, other_number, outcome_of, effect, effect_of, after_gate, after_two, measured, taken_out, left_as, quiet, least_free, IsTooLarge}
use Rattle.network_model.specs.Factored.{FitsSlot, used_slots, parted, homes_by, parted_in_slot, effect_touches_slot}
use Rattle.network_model.specs.declared.Call.{Call}
use Rattle.cqc_model.specs.declared.Remote.{Remote}
use Rattle.network_model.specs.declared.After.TheVariants.{TakenOut, Left, Cleared}
use Rattle.network_model.specs.declared.Kind.{Kind}
use Rattle.network_model.specs.declared.Kind.TheVariants.{Gate as OneGate, Two as TwoGate, Measure, Make, Pair}
use Rattle.cell_laws.specs.Standing.{IsStanding}
use Rattle.cell_laws.proofs.Draws.{drawn_by_slot}
use Rattle.cell_laws.proofs.GateSlots.{gate_fits, gate_size}
use Rattle.cell_laws.proofs.JoinedSlots.{both_parts, joined_fits_by, emptied_fits, joined_size}
use Rattle.cell_laws.proofs.MeasuredSlots.{basis_list, kept_row, taken_out_fits, left_behind_fits, moved_out_fits, alone_fits}
use Rattle.cell_laws.proofs.NewSlots.{pair_list, new_fits, pair_fits}
use Rattle.cell_laws.proofs.TwoSlots.{two_fits, two_small}

-- a register fits a slot after the call's effect
abbrev pub FitsAfter : Shape → Network → (ℕ → ℕ) → Call → ℕ → ℕ → Register → Type 0
FitsAfter shape s home c w slot r = FitsSlot shape ((effect shape s c w).state) (homes_by s home c (kind_of c.command.instr)) slot r

-- by the call's kind
fits_by : (shape : Shape) (s : Network) (home : ℕ → ℕ) (c : Call) (w slot : ℕ) (r : Register) (k : Kind) → kind_of c.command.instr ≡ k
    → FitsSlot shape ((effect_of shape s c w k).state) (homes_by s home c k) slot r → FitsAfter shape s home c w slot r
unfolding effect
fits_by shape s home c w slot r k is fits = subst (λ j. FitsSlot shape ((effect_of shape s c w j).state) (homes_by s home c j) slot r) (sym is) fits

-- whether the size of a gate's result is too large, by the next state's
large_by : (shape : Shape) (s : Network) (c : Call) (k : Kind) → kind_of c.command.instr ≡ k → is_gate k ≡ true
    → let next = (effect_of shape s c 0 k).state in
    (HasSizeAtLeast next.vector (group_of next (own_number s c)) (2 ^ 60) → IsTooLarge shape s c) × (IsTooLarge shape s c → HasSizeAtLeast next.vector (group_of next (own_number s c)) (2 ^ 60))
unfolding effect IsTooLarge
large_by shape s c k is gate =
    let P : Kind → Type 0 = λ j. HasSizeAtLeast ((effect_of shape s c 0 j).state.vector) (group_of ((effect_of shape s c 0 j).state) (own_number s c)) (2 ^ 60) in (
      λ large. (ap is_gate is ∙ gate, subst P (sym is) large),
      λ large. subst P is (large.1),
    )

-- a call of this kind leaves its measured qubit with a value
pub record Leaves (s : Network) (home : ℕ → ℕ) (c : Call) (w : ℕ) (k : Kind) (v : Bool) : Type 0 where
  pub state_is : (shape : Shape) → (effect_of shape s c w k).state ≡ left_as s c w v
  pub homes_are : homes_by s home c k ≡ parted s home (own_number s c)
  pub touches : (t : ℕ) → effect_touches_slot s home c t k ≡ parted_in_slot s home (own_number s c) t

pub left_leaves : (s : Network) (home : ℕ → ℕ) (c : Call) (w : ℕ) (told v : Bool) → outcome_of s c w ≡ v → Leaves s home c w (Measure Left told) v
unfolding effect_of measured homes_by effect_touches_slot
left_leaves s home c w told v e = record { state_is = λ shape. ap (left_as s c w) e; homes_are = refl; touches = λ t. refl }

pub cleared_leaves : (s : Network) (home : ℕ → ℕ) (c : Call) (w : ℕ) (told : Bool) → Leaves s home c w (Measure Cleared told) false
unfolding effect_of measured homes_by effect_touches_slot
cleared_leaves s home c w told = record { state_is = λ shape. refl; homes_are = refl; touches = λ t. refl }

module _ (shape : Shape) (s : Network) (home : ℕ → ℕ) (c : Call) (standing : IsStanding shape s home) (live : is_listed s.live (own_number s c) ≡ true) where
  -- ---- a gate on one qubit
  module _ (r : Register) (fits : FitsSlot shape s home (home (own_number s c)) r) (g : Gate) (is : kind_of c.command.instr ≡ OneGate g) where
    pub gate_step : (w : ℕ) (list : List Coefficient) → IsSameState (register_vector r.qubits list) (gate (matrix g) (own_number s c) (register_vector r.qubits r.list))
        → FitsAfter shape s home c w (home (own_number s c)) (record r { list = list })
    unfolding effect_of homes_by after_gate quiet
    gate_step w list same =
        fits_by shape s home c w (home (own_number s c)) (record r { list = list }) (OneGate g) is (gate_fits shape s home (own_number s c) r standing live fits g list same)

    pub gate_too_large : AreDistinct r.qubits → (n : ℕ) → IsSize (gate (matrix g) (own_number s c) (register_vector r.qubits r.list)) r.qubits n
        → (2 ^ 60 ≤ n → IsTooLarge shape s c) × (n < 2 ^ 60 → ¬ IsTooLarge shape s c)
    unfolding is_gate effect_of after_gate quiet group_of
    gate_too_large apart n size =
        let large = large_by shape s c (OneGate g) is refl in
        let known = gate_size shape s home (own_number s c) r standing live fits g apart n size in (
          λ h. (large.0) ((known.0) h),
          λ h l. (known.1) h ((large.1) l),
        )

  -- ---- a gate on two qubits
  module _ (k : Two) (id : ℕ) (is : kind_of c.command.instr ≡ TwoGate k id) (other_live : is_listed s.live (other_number s c id) ≡ true) where
    -- of one slot
    pub two_step : own_number s c ≢ other_number s c id → home (own_number s c) ≡ home (other_number s c id) → (r : Register) → FitsSlot shape s home (home (own_number s c)) r
        → (w : ℕ) (list : List Coefficient) → IsSameState (register_vector r.qubits list) (two_gate k (own_number s c) (other_number s c id) (register_vector r.qubits r.list))
        → FitsAfter shape s home c w (home (own_number s c)) (record r { list = list })
    unfolding effect_of homes_by after_two quiet
    two_step apart same_home r fits w list same =
        fits_by shape s home c w (home (own_number s c)) (record r { list = list }) (TwoGate k id) is
        (two_fits shape s home (own_number s c) (other_number s c id) standing live other_live apart same_home r k list fits same)

    pub two_is_small : own_number s c ≢ other_number s c id → home (own_number s c) ≡ home (other_number s c id) → ¬ IsTooLarge shape s c
    unfolding is_gate effect_of after_two quiet
    two_is_small apart same_home large =
        two_small shape s home (own_number s c) (other_number s c id) standing live other_live apart same_home k ((large_by shape s c (TwoGate k id) is refl).1 large)

    -- of two slots
    module _ (r1 r2 : Register) (homes_apart : home (own_number s c) ≢ home (other_number s c id))
        (fits_own : FitsSlot shape s home (home (own_number s c)) r1) (fits_other : FitsSlot shape s home (home (other_number s c id)) r2) where
      pub joined_step : (w : ℕ) (merged list : List Coefficient) → IsSameState (register_vector (r1.qubits ++ r2.qubits) merged) (product_over (both_parts r1 r2))
          → IsSameState (register_vector (r1.qubits ++ r2.qubits) list) (two_gate k (own_number s c) (other_number s c id) (register_vector (r1.qubits ++ r2.qubits) merged))
          → FitsAfter shape s home c w (home (own_number s c)) (record { limit = shape.limit; qubits = r1.qubits ++ r2.qubits; list = list })
      unfolding effect_of homes_by after_two quiet
      joined_step w merged list first then =
          fits_by shape s home c w (home (own_number s c)) _ (TwoGate k id) is
          (joined_fits_by shape s home (own_number s c) (other_number s c id) r1 r2 standing live other_live homes_apart fits_own fits_other k merged list first then)

      pub emptied_step : (w : ℕ) (list : List Coefficient) → FitsAfter shape s home c w (home (other_number s c id)) (record { limit = shape.limit; qubits = []; list = list })
      unfolding effect_of homes_by after_two quiet
      emptied_step w list =
          fits_by shape s home c w (home (other_number s c id)) _ (TwoGate k id) is
          (emptied_fits shape s home (own_number s c) (other_number s c id) r1 r2 standing live other_live homes_apart fits_own fits_other k list)

      pub joined_too_large : AreDistinct r1.qubits → AreDistinct r2.qubits → (n : ℕ) → IsSize (product_over (both_parts r1 r2)) (r1.qubits ++ r2.qubits) n
          → (2 ^ 60 ≤ n → IsTooLarge shape s c) × (n < 2 ^ 60 → ¬ IsTooLarge shape s c)
      unfolding is_gate effect_of after_two quiet
      joined_too_large one two n size =
          let large = large_by shape s c (TwoGate k id) is refl in
          let known = joined_size shape s home (own_number s c) (other_number s c id) r1 r2 standing live other_live homes_apart fits_own fits_other k n one two size in (
            λ h. (large.0) ((known.0) h),
            λ h l. (known.1) h ((large.1) l),
          )

  -- ---- a measurement
  module _ (r : Register) (fits : FitsSlot shape s home (home (own_number s c)) r) (apart : AreDistinct r.qubits)
      (w : ℕ) (small : w < 2 ^ 64) (b : Bool) (out : b ≡ draw r.qubits (register_vector r.qubits r.list) (own_number s c) w) where
    -- the outcome of the register is that of the network
    drawn : b ≡ draw s.live s.vector (own_number s c) w
    drawn = out ∙ sym (drawn_by_slot shape s home (own_number s c) w r standing live fits apart)

    pub outcome_is : outcome_of s c w ≡ b
    unfolding outcome_of
    outcome_is = sym drawn

    pub kept_has_row : ¬ ((x : ℕ) → keep (own_number s c) b (register_vector r.qubits r.list) x ≡ zero_coefficient)
    kept_has_row = kept_row shape s home (own_number s c) r standing live fits w small b drawn

    pub taken_step : (told : Bool) → kind_of c.command.instr ≡ Measure TakenOut told → (list : List Coefficient)
        → IsSameState (register_vector (without r.qubits (own_number s c)) list) (keep (own_number s c) b (register_vector r.qubits r.list))
        → FitsAfter shape s home c w (home (own_number s c)) (record { limit = shape.limit; qubits = without r.qubits (own_number s c); list = list })
    unfolding effect_of homes_by measured taken_out
    taken_step told is list same =
        fits_by shape s home c w (home (own_number s c)) _ (Measure TakenOut told) is
        (subst (λ (d : Bool). FitsSlot shape (record (taken_out s c w) { vector = keep (own_number s c) d s.vector }) home (home (own_number s c)) (record { limit = shape.limit; qubits = without r.qubits (own_number s c); list = list })) (sym outcome_is)
        (taken_out_fits shape s home (own_number s c) r standing live fits w small b drawn _ list same))

    module _ (k : Kind) (v : Bool) (is : kind_of c.command.instr ≡ k) (does : Leaves s home c w k v) where
      by_value : (slot : ℕ) (r : Register) → FitsSlot shape (left_as s c w v) (parted s home (own_number s c)) slot r → FitsAfter shape s home c w slot r
      by_value slot r fits =
          fits_by shape s home c w slot r k is
          (subst (λ (t : Network). FitsSlot shape t (homes_by s home c k) slot r) (sym (does.state_is shape))
          (subst (λ (h : ℕ → ℕ). FitsSlot shape (left_as s c w v) h slot r) (sym does.homes_are) fits))

      pub left_step : length (group_of s (own_number s c)) ≢ 1 → (list : List Coefficient)
          → IsSameState (register_vector (without r.qubits (own_number s c)) list) (keep (own_number s c) b (register_vector r.qubits r.list))
          → FitsAfter shape s home c w (home (own_number s c)) (record { limit = shape.limit; qubits = without r.qubits (own_number s c); list = list })
      unfolding left_as outcome_of
      left_step more list same =
          by_value (home (own_number s c)) _
          (left_behind_fits shape s home (own_number s c) r standing live fits w small (outcome_of s c w) refl v list more
          (subst (λ (d : Bool). IsSameState (register_vector (without r.qubits (own_number s c)) list) (keep (own_number s c) d (register_vector r.qubits r.list))) (sym outcome_is) same))

      pub moved_step : length (group_of s (own_number s c)) ≢ 1 → (list : List Coefficient)
          → IsSameState (register_vector (own_number s c ∷ []) list) (register_vector (own_number s c ∷ []) (basis_list v))
          → FitsAfter shape s home c w (least_free (used_slots s.live home)) (record { limit = shape.limit; qubits = own_number s c ∷ []; list = list })
      unfolding left_as outcome_of
      moved_step more list same =
          by_value (least_free (used_slots s.live home)) _
          (moved_out_fits shape s home (own_number s c) r standing live fits w small (outcome_of s c w) refl v list more same)

      pub alone_step : length (group_of s (own_number s c)) ≡ 1 → (list : List Coefficient)
          → IsSameState (register_vector (own_number s c ∷ []) list) (register_vector (own_number s c ∷ []) (basis_list v))
          → FitsAfter shape s home c w (home (own_number s c)) (record { limit = shape.limit; qubits = own_number s c ∷ []; list = list })
      unfolding left_as outcome_of
      alone_step one list same =
          by_value (home (own_number s c)) _
          (alone_fits shape s home (own_number s c) r standing live fits w small (outcome_of s c w) refl v list one same)

-- ---- new qubits
module _ (shape : Shape) (s : Network) (home : ℕ → ℕ) (c : Call) (standing : IsStanding shape s home) (w : ℕ) where
  pub new_step : kind_of c.command.instr ≡ Make → (list : List Coefficient) → IsSameState (register_vector (least_free s.live ∷ []) list) (register_vector (least_free s.live ∷ []) (basis_list false))
      → FitsAfter shape s home c w (least_free (used_slots s.live home)) (record { limit = shape.limit; qubits = least_free s.live ∷ []; list = list })
  unfolding effect_of homes_by
  new_step is list same = fits_by shape s home c w (least_free (used_slots s.live home)) _ Make is (new_fits shape s home standing _ list same)

  pub pair_step : (remote : Remote) → kind_of c.command.instr ≡ Pair remote → (list : List Coefficient)
      → IsSameState (register_vector (least_free s.live ∷ least_free (least_free s.live ∷ s.live) ∷ []) list) (register_vector (least_free s.live ∷ least_free (least_free s.live ∷ s.live) ∷ []) pair_list)
      → FitsAfter shape s home c w (least_free (used_slots s.live home)) (record { limit = shape.limit; qubits = least_free s.live ∷ least_free (least_free s.live ∷ s.live) ∷ []; list = list })
  unfolding effect_of homes_by
  pair_step remote is list same = fits_by shape s home c w (least_free (used_slots s.live home)) _ (Pair remote) is (pair_fits shape s home standing _ _ _ list same)
