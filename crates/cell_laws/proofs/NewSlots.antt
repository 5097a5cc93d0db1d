-- A new qubit and a new pair, at a free slot.
--     new_fits     a register of the new qubit alone fits there
--     pair_fits    a register of the pair fits there
use Rattle.std.proofs.Common.{◌≡◌, ◌≢◌, ℕ, ◌≤◌, ◌==◌, Bool, true, false, cond, ◌&&◌, ◌||◌, List, [], ◌∷◌, ◌++◌, refl, sym, ap, subst, ◌∙◌, arith}
use Rattle.state_model.specs.Coefficient.{Coefficient, zero_coefficient, one_coefficient}
use Rattle.state_model.specs.Row.{is_listed}
use Rattle.state_model.specs.StateVector.{IsSameState}
use Rattle.state_model.specs.Measurement.{paired}
use Rattle.state_model.specs.Registers.{register_vector}
use Rattle.network_model.specs.Network.{Network, Shape, Held, Waiting, group_of}
use Rattle.network_model.specs.Step.{least_free, with_label}
use Rattle.network_model.specs.Factored.{FitsSlot, used_slots, moved}
use Rattle.cell_laws.specs.Standing.{IsStanding}
use Rattle.state_model.proofs.Booleans.{eq_true, eq_false, eq_of, ne_of, and_false, clash, or_false, or_false_left, or_false_right, or_true}
use Rattle.state_model.proofs.Numbers.{is_listed-snoc, one_listed}
use Rattle.state_model.proofs.Operations.{no_row}
use Rattle.state_model.proofs.Small.{certain_qubits_have_registers, new_pairs_have_registers}
use Rattle.network_model.proofs.Added.{least_free_low, members-added_self}
use Rattle.network_model.proofs.Homes.{at_moved, moved_other, with_label-moved, each_of_two}
use Rattle.network_model.proofs.Least.{least_free_new}
use Rattle.network_model.proofs.SoundParts.{sound_labels}
use Rattle.cell_laws.proofs.Lengths.{first_listed}
use Rattle.cell_laws.proofs.MeasuredSlots.{basis_list, not_free}
use Rattle.cell_laws.proofs.Members.{part_list}

-- the list of a new pair
abbrev pub pair_list : List Coefficient
pair_list = one_coefficient ∷ zero_coefficient ∷ zero_coefficient ∷ one_coefficient ∷ []

-- the state with a new qubit
abbrev pub with_new : Network → ℕ → List Held → Network
with_new s n held = record s { live = s.live ++ n ∷ []; label = with_label s.label n n; held = held }

-- the state with a new pair
abbrev pub with_pair : Network → ℕ → ℕ → List Held → List Waiting → ℕ → Network
with_pair s p q held waiting pairs = record { vector = paired p q s.vector; live = s.live ++ p ∷ q ∷ []; label = with_label (with_label s.label p p) q p; held = held; waiting = waiting; pairs = pairs }

-- ---- values that are given
at_label : (f : ℕ → ℕ) (q l : ℕ) → with_label f q l q ≡ l
at_label f q l = ap (λ (g : ℕ → ℕ). g q) (with_label-moved f q l) ∙ at_moved f q l

label_other : (f : ℕ → ℕ) (q l x : ℕ) → x ≢ q → with_label f q l x ≡ f x
label_other f q l x e = ap (λ (g : ℕ → ℕ). g x) (with_label-moved f q l) ∙ moved_other f q l x e

no_less : (m n : ℕ) → m ≡ n → m ≤ n
no_less m n e = omega arith

-- numbers that come to a slot where no live number has its home are all that have theirs there
here : (live ns : List ℕ) (home home' : ℕ → ℕ) (slot : ℕ)
    → ((x : ℕ) → is_listed ns x ≡ true → home' x ≡ slot) → ((x : ℕ) → is_listed live x ≡ true → home' x ≡ home x) → ((x : ℕ) → is_listed live x ≡ true → home x ≢ slot)
    → (x : ℕ) → is_listed ns x ≡ (is_listed (live ++ ns) x && (home' x == slot))
here live ns home home' slot given kept free x = sym (ap (λ b. b && (home' x == slot)) (is_listed-snoc live ns x) ∙ by (is_listed ns x) refl (is_listed live x) refl)
  where
    by : (t : Bool) → is_listed ns x ≡ t → (i : Bool) → is_listed live x ≡ i → ((is_listed live x || is_listed ns x) && (home' x == slot)) ≡ is_listed ns x
    by true e i f = ap (λ b. (is_listed live x || b) && (home' x == slot)) e ∙ ap (λ b. b && (home' x == slot)) (or_true (is_listed live x)) ∙ eq_true _ _ (given x e) ∙ sym e
    by false e true f = ap (λ b. (is_listed live x || is_listed ns x) && b) (eq_false _ _ (λ g. free x f (sym (kept x f) ∙ g))) ∙ and_false (is_listed live x || is_listed ns x) ∙ sym e
    by false e false f = ap (λ b. (b || is_listed ns x) && (home' x == slot)) f ∙ ap (λ b. b && (home' x == slot)) e ∙ sym e

module _ (shape : Shape) (s : Network) (home : ℕ → ℕ) (standing : IsStanding shape s home) where
  -- ---- a new qubit
  fresh : (p x : ℕ) → is_listed s.live p ≡ false → is_listed s.live x ≡ true → x ≢ p
  fresh p x new i e = clash (sym i ∙ ap (is_listed s.live) e ∙ new)

  pub new_fits : (held : List Held) (list : List Coefficient) → IsSameState (register_vector (least_free s.live ∷ []) list) (register_vector (least_free s.live ∷ []) (basis_list false))
      → FitsSlot shape (with_new s (least_free s.live) held) (moved home (least_free s.live) (least_free (used_slots s.live home))) (least_free (used_slots s.live home))
      (record { limit = shape.limit; qubits = least_free s.live ∷ []; list = list })
  unfolding group_of
  new_fits held list same = record {
    limit = refl;
    homes = here s.live (m ∷ []) home (moved home m free) free (λ x i. ap (moved home m free) (sym (one_listed m x i)) ∙ at_moved home m free) (λ x i. moved_other home m free x (fresh m x new i)) (not_free s.live home);
    group = λ x y h. ap (λ g. is_listed g y)
        (members-added_self s.live s.label (with_label s.label m m) (sound_labels shape s standing.sound) (m ∷ []) m
        (λ x i. label_other s.label m m x (fresh m x new i)) (λ x i. ap (with_label s.label m m) (sym (one_listed m x i)) ∙ at_label s.label m m)
        (λ x i. ap (is_listed s.live) (sym (one_listed m x i)) ∙ new) (first_listed m []) (λ x i. no_less m x (one_listed m x i)) x h);
    part = λ x h. part_list s.vector (register_vector (m ∷ []) (basis_list false)) (m ∷ []) list
        (certain_qubits_have_registers m false s.vector (λ x e. no_row s.live s.vector standing.sound.over_live m x new e)) same;
  }
    where
      m : ℕ
      m = least_free s.live

      free : ℕ
      free = least_free (used_slots s.live home)

      new : is_listed s.live (least_free s.live) ≡ false
      new = least_free_new s.live

  -- ---- a new pair
  pub pair_fits : (held : List Held) (waiting : List Waiting) (pairs : ℕ) (list : List Coefficient)
      → IsSameState (register_vector (least_free s.live ∷ least_free (least_free s.live ∷ s.live) ∷ []) list) (register_vector (least_free s.live ∷ least_free (least_free s.live ∷ s.live) ∷ []) pair_list)
      → FitsSlot shape (with_pair s (least_free s.live) (least_free (least_free s.live ∷ s.live)) held waiting pairs)
      (moved (moved home (least_free s.live) (least_free (used_slots s.live home))) (least_free (least_free s.live ∷ s.live)) (least_free (used_slots s.live home))) (least_free (used_slots s.live home))
      (record { limit = shape.limit; qubits = least_free s.live ∷ least_free (least_free s.live ∷ s.live) ∷ []; list = list })
  unfolding group_of is_listed
  pair_fits held waiting pairs list same = record {
    limit = refl;
    homes = here s.live (p ∷ q ∷ []) home home' free
        (each_of_two (λ x. home' x ≡ free) p q (moved_other (moved home p free) q free p apart ∙ at_moved home p free) (at_moved (moved home p free) q free))
        (λ x i. moved_other (moved home p free) q free x (fresh q x new_q i) ∙ moved_other home p free x (fresh p x new_p i)) (not_free s.live home);
    group = λ x y h. ap (λ g. is_listed g y)
        (members-added_self s.live s.label label' (sound_labels shape s standing.sound) (p ∷ q ∷ []) p
        (λ x i. label_other (with_label s.label p p) q p x (fresh q x new_q i) ∙ label_other s.label p p x (fresh p x new_p i))
        (each_of_two (λ x. label' x ≡ p) p q (label_other (with_label s.label p p) q p p apart ∙ at_label s.label p p) (at_label (with_label s.label p p) q p))
        (each_of_two (λ x. is_listed s.live x ≡ false) p q new_p new_q) (first_listed p (q ∷ []))
        (each_of_two (λ x. p ≤ x) p q (no_less p p refl) (least_free_low s.live q new_q)) x h);
    part = λ x h. part_list (paired p q s.vector) (register_vector (p ∷ q ∷ []) pair_list) (p ∷ q ∷ []) list (new_pairs_have_registers p q s.vector) same;
  }
    where
      p : ℕ
      p = least_free s.live

      q : ℕ
      q = least_free (least_free s.live ∷ s.live)

      free : ℕ
      free = least_free (used_slots s.live home)

      home' : ℕ → ℕ
      home' = moved (moved home (least_free s.live) (least_free (used_slots s.live home))) (least_free (least_free s.live ∷ s.live)) (least_free (used_slots s.live home))

      label' : ℕ → ℕ
      label' = with_label (with_label s.label (least_free s.live) (least_free s.live)) (least_free (least_free s.live ∷ s.live)) (least_free s.live)

      new_p : is_listed s.live (least_free s.live) ≡ false
      new_p = least_free_new s.live

      new_q : is_listed s.live (least_free (least_free s.live ∷ s.live)) ≡ false
      new_q = or_false_right (least_free s.live == least_free (least_free s.live ∷ s.live)) _ (least_free_new (least_free s.live ∷ s.live))

      apart : least_free s.live ≢ least_free (least_free s.live ∷ s.live)
      apart = ne_of _ _ (or_false_left _ (is_listed s.live (least_free (least_free s.live ∷ s.live))) (least_free_new (least_free s.live ∷ s.live)))
