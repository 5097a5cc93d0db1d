-- A measurement of a qubit, at the slot of its home and at the slot that it moves to.
--     kept_row            what the register keeps of the drawn outcome has a row
--     taken_out_fits      the register without the qubit fits after the qubit is taken out
--     left_behind_fits    it fits too where the qubit is left with a value, in another slot
--     moved_out_fits      a register of the qubit alone fits there
--     alone_fits          a register of the qubit alone fits at its home where it had no others
use Rattle.std.proofs.Common.{◌≡◌, ◌≢◌, ℕ, ◌^◌, ◌<◌, ◌==◌, Bool, true, false, not, cond, ◌&&◌, List, [], ◌∷◌, map, length, refl, sym, ap, subst, ◌∙◌, arith}
use Rattle.state_model.specs.Coefficient.{Coefficient, zero_coefficient, one_coefficient}
use Rattle.state_model.specs.Row.{is_set, is_listed, without}
use Rattle.state_model.specs.StateVector.{Vector, IsPart, IsSameState}
use Rattle.state_model.specs.Measurement.{draw, keep, raised}
use Rattle.state_model.specs.Registers.{Register, register_vector}
use Rattle.network_model.specs.Network.{Network, Shape, Held, members, group_of}
use Rattle.network_model.specs.Step.{left, alone, least_free}
use Rattle.network_model.specs.Factored.{FitsSlot, used_slots, moved, parted}
use Rattle.cell_laws.specs.Standing.{IsStanding}
use Rattle.state_model.proofs.Booleans.{eq_true, eq_false, eq_of, ne_of, both_true, and_false, and_true, clash, or_false}
use Rattle.state_model.proofs.Kept.{is_listed-map, kept_some_row}
use Rattle.state_model.proofs.Linear.{part_elsewhere, raised-IsHomogeneous, raised-IsElsewhere}
use Rattle.state_model.proofs.Numbers.{is_listed-without, one_listed, other_unlisted}
use Rattle.state_model.proofs.Operations.{keep_clear, raised_set}
use Rattle.state_model.proofs.Sizes.{kept_part, not_in}
use Rattle.state_model.proofs.Small.{certain_qubits_have_registers}
use Rattle.network_model.proofs.Groups.{AreLabels, members-left, members-alone_self, members-alone_other}
use Rattle.network_model.proofs.Least.{least_free_new}
use Rattle.network_model.proofs.SoundParts.{sound_labels}
use Rattle.cell_laws.proofs.Lengths.{first_listed}
use Rattle.cell_laws.proofs.Members.{listed_home, at_home, group_members, part_list}

-- the list of a qubit with a value
abbrev pub basis_list : Bool → List Coefficient
basis_list value = cond value zero_coefficient one_coefficient ∷ cond value one_coefficient zero_coefficient ∷ []

-- the vector of a measured qubit that is left with a value
abbrev pub left_vector : Vector → ℕ → Bool → Bool → Vector
left_vector v q b value = cond value (raised q (keep q b v)) (keep q b v)

-- the state after a measurement that takes the qubit out
abbrev pub taken : Network → ℕ → Bool → List Held → Network
taken s q b held = record s { vector = keep q b s.vector; live = without s.live q; label = left s.live s.label q; held = held }

-- the state after a measurement that leaves the qubit with a value
abbrev pub left_with : Network → ℕ → Bool → Bool → Network
left_with s q b value = record s { vector = left_vector s.vector q b value; label = alone s.live s.label q }

-- no live number has its home in a free slot
pub not_free : (live : List ℕ) (home : ℕ → ℕ) (x : ℕ) → is_listed live x ≡ true → home x ≢ least_free (used_slots live home)
unfolding used_slots
not_free live home x i e = clash (sym (is_listed-map home live x i) ∙ ap (is_listed (map home live)) e ∙ least_free_new (map home live))

-- a list of one number
single : (xs : List ℕ) (a b : ℕ) → length xs ≡ 1 → is_listed xs a ≡ true → is_listed xs b ≡ true → a ≡ b
unfolding is_listed
single [] a b e h k = cc
single (z ∷ []) a b e h k = sym (eq_of z a (sym (or_false (z == a)) ∙ h)) ∙ eq_of z b (sym (or_false (z == b)) ∙ k)
single (z ∷ y ∷ xs) a b e h k = absurd (omega arith)

-- a measured qubit's bit is certain
sure : (q : ℕ) (b value : Bool) (v : Vector) (x : ℕ) → is_set q x ≡ not value → left_vector v q b value x ≡ zero_coefficient
sure q b true v x e = raised_set q (keep q b v) x e
sure q b false v x e = keep_clear q b v x e

module _ (shape : Shape) (s : Network) (home : ℕ → ℕ) (q : ℕ) (r : Register) (standing : IsStanding shape s home) (live : is_listed s.live q ≡ true) (fits : FitsSlot shape s home (home q) r)
    (word : ℕ) (small : word < 2 ^ 64) (b : Bool) (drawn : b ≡ draw s.live s.vector q word) where
  own : is_listed r.qubits q ≡ true
  own = listed_home shape s home q r live fits

  labels : AreLabels s.live s.label
  labels = sound_labels shape s standing.sound

  some_kept : ¬ ((x : ℕ) → keep q b s.vector x ≡ zero_coefficient)
  some_kept = subst (λ d. ¬ ((x : ℕ) → keep q d s.vector x ≡ zero_coefficient)) (sym drawn) (kept_some_row s.live s.vector q word small standing.sound.over_live standing.sound.some_row)

  -- what is kept of the register is a part of what is kept
  part_kept : IsPart (keep q b s.vector) (without r.qubits q) (keep q b (register_vector r.qubits r.list))
  part_kept = kept_part r.qubits q b s.vector (register_vector r.qubits r.list) own some_kept (fits.part q own)

  pub kept_row : ¬ ((x : ℕ) → keep q b (register_vector r.qubits r.list) x ≡ zero_coefficient)
  kept_row = part_kept.some_row

  -- the others of the group
  left_numbers : (x : ℕ) → is_listed (without r.qubits q) x ≡ ((is_listed s.live x && not (x == q)) && (home x == home q))
  left_numbers x = is_listed-without r.qubits q x ∙ ap (λ c. c && not (x == q)) (fits.homes x) ∙ swap (is_listed s.live x) (home x == home q) (not (x == q))
    where
      swap : (a c d : Bool) → ((a && c) && d) ≡ ((a && d) && c)
      swap true true d = sym (and_true d)
      swap true false d = sym (and_false d)
      swap false c d = refl

  stayed : (x : ℕ) → is_listed (without r.qubits q) x ≡ true → (is_listed r.qubits x ≡ true) × ((not (x == q)) ≡ true)
  stayed x h = both_true (is_listed r.qubits x) (not (x == q)) (sym (is_listed-without r.qubits q x) ∙ h)

  not_own : (x : ℕ) → not (x == q) ≡ true → x ≢ q
  not_own x h e = clash (sym h ∙ ap not (eq_true x q e))

  left_group : (x y : ℕ) → is_listed (without r.qubits q) x ≡ true → is_listed (without (group_of s x) q) y ≡ is_listed (without r.qubits q) y
  left_group x y h = is_listed-without (group_of s x) q y ∙ ap (λ c. c && not (y == q)) (fits.group x y ((stayed x h).0)) ∙ sym (is_listed-without r.qubits q y)

  -- ---- the qubit taken out
  pub taken_out_fits : (held : List Held) (list : List Coefficient) → IsSameState (register_vector (without r.qubits q) list) (keep q b (register_vector r.qubits r.list))
      → FitsSlot shape (taken s q b held) home (home q) (record { limit = shape.limit; qubits = without r.qubits q; list = list })
  taken_out_fits held list same = record {
    limit = refl;
    homes = λ x. left_numbers x ∙ ap (λ c. c && (home x == home q)) (sym (is_listed-without s.live q x));
    group = λ x y h. ap (λ g. is_listed g y) (group_is x h) ∙ left_group x y h;
    part = λ x h. part_list (keep q b s.vector) (keep q b (register_vector r.qubits r.list)) (without r.qubits q) list part_kept same;
  }
    where
      group_is : (x : ℕ) → is_listed (without r.qubits q) x ≡ true → group_of (taken s q b held) x ≡ without (group_of s x) q
      group_is x h = unfold group_of in members-left s.live s.label labels q live x
          (is_listed-without s.live q x ∙ ap (λ c. c && not (x == q)) ((at_home shape s home (home q) x r fits ((stayed x h).0)).0) ∙ (stayed x h).1)

  -- ---- the qubit left with a value
  left_part : (value : Bool) → IsPart (left_vector s.vector q b value) (without r.qubits q) (keep q b (register_vector r.qubits r.list))
  left_part true = part_elsewhere (raised q) (without r.qubits q) (raised-IsHomogeneous q) (raised-IsElsewhere (without r.qubits q) q (not_in r.qubits q)) (keep q b s.vector) (keep q b (register_vector r.qubits r.list)) part_kept
  left_part false = part_kept

  parted_is : length (group_of s q) ≢ 1 → (x : ℕ) → parted s home q x ≡ cond (x == q) (least_free (used_slots s.live home)) (home x)
  unfolding parted moved
  parted_is more x = ap (λ t. cond t (home x) (cond (x == q) (least_free (used_slots s.live home)) (home x))) (eq_false _ _ more)

  pub left_behind_fits : (value : Bool) (list : List Coefficient) → length (group_of s q) ≢ 1 → IsSameState (register_vector (without r.qubits q) list) (keep q b (register_vector r.qubits r.list))
      → FitsSlot shape (left_with s q b value) (parted s home q) (home q) (record { limit = shape.limit; qubits = without r.qubits q; list = list })
  left_behind_fits value list more same = record {
    limit = refl;
    homes = λ x. left_numbers x ∙ by x (x == q) refl ∙ sym (ap (λ n. is_listed s.live x && (n == home q)) (parted_is more x));
    group = λ x y h. ap (λ g. is_listed g y) (group_is x h) ∙ left_group x y h;
    part = λ x h. part_list (left_vector s.vector q b value) (keep q b (register_vector r.qubits r.list)) (without r.qubits q) list (left_part value) same;
  }
    where
      by : (x : ℕ) (t : Bool) → (x == q) ≡ t → ((is_listed s.live x && not (x == q)) && (home x == home q)) ≡ (is_listed s.live x && (cond (x == q) (least_free (used_slots s.live home)) (home x) == home q))
      by x true e =
          ap (λ t. (is_listed s.live x && not t) && (home x == home q)) e ∙ ap (λ c. c && (home x == home q)) (and_false (is_listed s.live x))
          ∙ sym (ap (λ t. is_listed s.live x && (cond t (least_free (used_slots s.live home)) (home x) == home q)) e
          ∙ ap (λ c. is_listed s.live x && c) (eq_false _ _ (λ f. not_free s.live home q live (sym f))) ∙ and_false (is_listed s.live x))
      by x false e =
          ap (λ t. (is_listed s.live x && not t) && (home x == home q)) e ∙ ap (λ c. c && (home x == home q)) (and_true (is_listed s.live x))
          ∙ sym (ap (λ t. is_listed s.live x && (cond t (least_free (used_slots s.live home)) (home x) == home q)) e)

      group_is : (x : ℕ) → is_listed (without r.qubits q) x ≡ true → group_of (left_with s q b value) x ≡ without (group_of s x) q
      group_is x h = unfold group_of in members-alone_other s.live s.label labels q live x ((at_home shape s home (home q) x r fits ((stayed x h).0)).0) (not_own x ((stayed x h).1))

  -- the qubit's group, and its part
  alone_group : (value : Bool) (x y : ℕ) → is_listed (q ∷ []) x ≡ true → is_listed (group_of (left_with s q b value) x) y ≡ is_listed (q ∷ []) y
  unfolding group_of
  alone_group value x y h =
      ap (λ n. is_listed (members s.live (alone s.live s.label q) (alone s.live s.label q n)) y) (sym (one_listed q x h))
      ∙ ap (λ g. is_listed g y) (members-alone_self s.live s.label labels q live (standing.sound.live_once q))

  alone_part : (value : Bool) (list : List Coefficient) → IsSameState (register_vector (q ∷ []) list) (register_vector (q ∷ []) (basis_list value))
      → IsPart (left_vector s.vector q b value) (q ∷ []) (register_vector (q ∷ []) list)
  alone_part value list same =
      part_list (left_vector s.vector q b value) (register_vector (q ∷ []) (basis_list value)) (q ∷ []) list
      (certain_qubits_have_registers q value (left_vector s.vector q b value) (sure q b value s.vector)) same

  one_is : (x : ℕ) → (x == q) ≡ false → is_listed (q ∷ []) x ≡ false
  one_is x e = other_unlisted q x (λ f. ne_of x q e (sym f))

  pub moved_out_fits : (value : Bool) (list : List Coefficient) → length (group_of s q) ≢ 1 → IsSameState (register_vector (q ∷ []) list) (register_vector (q ∷ []) (basis_list value))
      → FitsSlot shape (left_with s q b value) (parted s home q) (least_free (used_slots s.live home)) (record { limit = shape.limit; qubits = q ∷ []; list = list })
  moved_out_fits value list more same = record {
    limit = refl;
    homes = λ x. by x (x == q) refl (is_listed s.live x) refl ∙ sym (ap (λ n. is_listed s.live x && (n == least_free (used_slots s.live home))) (parted_is more x));
    group = alone_group value;
    part = λ x h. alone_part value list same;
  }
    where
      by : (x : ℕ) (t : Bool) → (x == q) ≡ t → (i : Bool) → is_listed s.live x ≡ i
          → is_listed (q ∷ []) x ≡ (is_listed s.live x && (cond (x == q) (least_free (used_slots s.live home)) (home x) == least_free (used_slots s.live home)))
      by x true e i f =
          let is = eq_of x q e in
          ap (is_listed (q ∷ [])) is ∙ first_listed q []
          ∙ sym (ap (λ c. c && (cond (x == q) (least_free (used_slots s.live home)) (home x) == least_free (used_slots s.live home))) (ap (is_listed s.live) is ∙ live)
          ∙ ap (λ t. cond t (least_free (used_slots s.live home)) (home x) == least_free (used_slots s.live home)) e ∙ eq_true _ _ refl)
      by x false e true f =
          one_is x e
          ∙ sym (ap (λ t. is_listed s.live x && (cond t (least_free (used_slots s.live home)) (home x) == least_free (used_slots s.live home))) e
          ∙ ap (λ c. is_listed s.live x && c) (eq_false _ _ (not_free s.live home x f)) ∙ and_false (is_listed s.live x))
      by x false e false f = one_is x e ∙ sym (ap (λ c. c && (cond (x == q) (least_free (used_slots s.live home)) (home x) == least_free (used_slots s.live home))) f)

  pub alone_fits : (value : Bool) (list : List Coefficient) → length (group_of s q) ≡ 1 → IsSameState (register_vector (q ∷ []) list) (register_vector (q ∷ []) (basis_list value))
      → FitsSlot shape (left_with s q b value) (parted s home q) (home q) (record { limit = shape.limit; qubits = q ∷ []; list = list })
  unfolding parted
  alone_fits value list one same = record {
    limit = refl;
    homes = λ x. by x (x == q) refl (is_listed r.qubits x) refl ∙ fits.homes x
        ∙ sym (ap (λ t. is_listed s.live x && (cond t (home x) (moved home q (least_free (used_slots s.live home)) x) == home q)) (eq_true _ _ one));
    group = alone_group value;
    part = λ x h. alone_part value list same;
  }
    where
      in_group : (x : ℕ) → is_listed r.qubits x ≡ true → is_listed (group_of s q) x ≡ true
      in_group x h = sym (group_members shape s home q r live fits x) ∙ h

      by : (x : ℕ) (t : Bool) → (x == q) ≡ t → (i : Bool) → is_listed r.qubits x ≡ i → is_listed (q ∷ []) x ≡ is_listed r.qubits x
      by x true e i f = let is = eq_of x q e in ap (is_listed (q ∷ [])) is ∙ first_listed q [] ∙ sym (ap (is_listed r.qubits) is ∙ own)
      by x false e true f = absurd (ne_of x q e (single (group_of s q) x q one (in_group x f) (in_group q own)))
      by x false e false f = one_is x e ∙ sym f
