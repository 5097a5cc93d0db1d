-- A gate on qubits of two slots, whose registers become one.
--     united_length    the united group has as many qubits as both registers
--     joined_fits      a register of both with the gate's list fits at the own slot after it
--     emptied_fits     a register without qubits fits at the other slot after it
--     joined_size      whether the united group is too large after it, by the registers' product
use Rattle.std.proofs.Common.{◌≡◌, ◌≢◌, ℕ, ◌+◌, ◌^◌, ◌<◌, ◌≤◌, ◌==◌, Bool, true, false, cond, ◌&&◌, ◌||◌, List, [], ◌∷◌, ◌++◌, append-nil, length, refl, sym, ap, subst, ◌∙◌}
use Rattle.std.proofs.lemmas.List.{length-append}
use Rattle.state_model.specs.Coefficient.{Coefficient, zero_coefficient}
use Rattle.state_model.specs.Row.{is_listed}
use Rattle.state_model.specs.StateVector.{Vector, IsPart, IsSameState, IsSize, HasSizeAtLeast}
use Rattle.state_model.specs.Registers.{Register, register_vector, union_of, product_over, AreParts, AreDisjoint}
use Rattle.state_model.specs.Amplitudes.{AreDistinct}
use Rattle.state_model.specs.Gate.{two_gate}
use Rattle.state_model.specs.declared.Two.{Two}
use Rattle.network_model.specs.Network.{Network, Shape, group_of}
use Rattle.network_model.specs.Step.{united_group}
use Rattle.network_model.specs.Factored.{FitsSlot, gathered}
use Rattle.cell_laws.specs.Standing.{IsStanding}
use Rattle.state_model.proofs.Booleans.{eq_true, eq_false, both_true, and_false, clash, or_true, or_false}
use Rattle.state_model.proofs.Insides.{two_gates_inside_make_parts, parts_make_one}
use Rattle.state_model.proofs.Numbers.{is_listed-filter, is_listed-snoc}
use Rattle.state_model.proofs.Operations.{two_gate-some_row}
use Rattle.state_model.proofs.SameStates.{same_transitive}
use Rattle.network_model.proofs.Groups.{AreLabels, is_joined, members-joined_in}
use Rattle.network_model.proofs.SoundParts.{sound_labels}
use Rattle.cell_laws.proofs.Lengths.{HaveSameMembers, distinct_append, same_length}
use Rattle.cell_laws.proofs.Members.{listed_home, at_home, live_distinct, distinct_filter, size_by, part_list}
use Rattle.cell_laws.proofs.TwoSizes.{two_size_is, two_same}
use Rattle.cell_laws.proofs.TwoSlots.{gated}

-- two registers as one
abbrev pub both_parts : Register → Register → List (List ℕ × Vector)
both_parts r1 r2 = (r1.qubits, register_vector r1.qubits r1.list) ∷ (r2.qubits, register_vector r2.qubits r2.list) ∷ []

module _ (shape : Shape) (s : Network) (home : ℕ → ℕ) (p q : ℕ) (r1 r2 : Register)
    (standing : IsStanding shape s home) (live_p : is_listed s.live p ≡ true) (live_q : is_listed s.live q ≡ true) (homes_apart : home p ≢ home q)
    (fits_p : FitsSlot shape s home (home p) r1) (fits_q : FitsSlot shape s home (home q) r2) where
  own : is_listed r1.qubits p ≡ true
  own = listed_home shape s home p r1 live_p fits_p

  its : is_listed r2.qubits q ≡ true
  its = listed_home shape s home q r2 live_q fits_q

  numbers_apart : p ≢ q
  numbers_apart e = homes_apart (ap home e)

  -- no number is in both registers
  pub apart_in : (x : ℕ) → is_listed r1.qubits x ≡ true → is_listed r2.qubits x ≡ false
  apart_in x h =
      fits_q.homes x ∙ ap (λ b. is_listed s.live x && b) (eq_false _ _ (λ e. homes_apart (sym ((at_home shape s home (home p) x r1 fits_p h).1) ∙ e))) ∙ and_false (is_listed s.live x)

  own_both : is_listed (r1.qubits ++ r2.qubits) p ≡ true
  own_both = is_listed-snoc r1.qubits r2.qubits p ∙ ap (λ b. b || is_listed r2.qubits p) own

  its_both : is_listed (r1.qubits ++ r2.qubits) q ≡ true
  its_both = is_listed-snoc r1.qubits r2.qubits q ∙ ap (λ b. is_listed r1.qubits q || b) its ∙ or_true (is_listed r1.qubits q)

  -- ---- the united group
  -- a register has the live numbers with its number's label
  by_label : (x n : ℕ) (r : Register) → is_listed s.live n ≡ true → FitsSlot shape s home (home n) r → (is_listed s.live x && (s.label x == s.label n)) ≡ is_listed r.qubits x
  by_label x n r live fits = by (is_listed s.live x) refl ∙ sym (fits.homes x)
    where
      by : (t : Bool) → is_listed s.live x ≡ t → (is_listed s.live x && (s.label x == s.label n)) ≡ (is_listed s.live x && (home x == home n))
      by true e = ap (λ b. is_listed s.live x && b) (sym (standing.housed x n e live))
      by false e = ap (λ b. b && (s.label x == s.label n)) e ∙ sym (ap (λ b. b && (home x == home n)) e)

  and_or : (a b c : Bool) → (a && (b || c)) ≡ ((a && b) || (a && c))
  and_or true b c = refl
  and_or false b c = refl

  united_members : HaveSameMembers (united_group s p q) (r1.qubits ++ r2.qubits)
  unfolding united_group
  united_members x =
      is_listed-filter (λ r. (s.label r == s.label p) || (s.label r == s.label q)) s.live x ∙ and_or (is_listed s.live x) (s.label x == s.label p) (s.label x == s.label q)
      ∙ ap (λ b. b || (is_listed s.live x && (s.label x == s.label q))) (by_label x p r1 live_p fits_p) ∙ ap (λ b. is_listed r1.qubits x || b) (by_label x q r2 live_q fits_q) ∙ sym (is_listed-snoc r1.qubits r2.qubits x)

  united_distinct : AreDistinct (united_group s p q)
  unfolding united_group
  united_distinct = distinct_filter (λ r. (s.label r == s.label p) || (s.label r == s.label q)) s.live (live_distinct shape s standing.sound)

  pub both_distinct : AreDistinct r1.qubits → AreDistinct r2.qubits → AreDistinct (r1.qubits ++ r2.qubits)
  both_distinct one two = distinct_append r1.qubits r2.qubits one two apart_in

  pub united_length : AreDistinct r1.qubits → AreDistinct r2.qubits → length (united_group s p q) ≡ length r1.qubits + length r2.qubits
  united_length one two = same_length (united_group s p q) (r1.qubits ++ r2.qubits) united_distinct (both_distinct one two) united_members ∙ length-append r1.qubits r2.qubits

  labels : AreLabels s.live s.label
  labels = sound_labels shape s standing.sound

  -- a number of either register is in the united group after the gate
  united_after : (k : Two) (x : ℕ) → is_listed (r1.qubits ++ r2.qubits) x ≡ true → group_of (gated s k p q) x ≡ united_group s p q
  unfolding group_of united_group
  united_after k x h = members-joined_in s.live s.label labels p q x (both.0) (unfold is_joined in (both.1))
    where
      both : (is_listed s.live x ≡ true) × (((s.label x == s.label p) || (s.label x == s.label q)) ≡ true)
      both = both_true _ _ (sym (is_listed-filter (λ r. (s.label r == s.label p) || (s.label r == s.label q)) s.live x) ∙ united_members x ∙ h)

  -- ---- the product of the registers
  parts : AreParts s.vector (both_parts r1 r2)
  parts = (fits_p.part p own, (fits_q.part q its, tt))

  disjoint : AreDisjoint (both_parts r1 r2)
  unfolding union_of
  disjoint = (λ x h. is_listed-snoc r2.qubits [] x ∙ ap (λ b. b || is_listed [] x) (apart_in x h) ∙ none x, (λ x h. none x, tt))
    where
      none : (x : ℕ) → is_listed [] x ≡ false
      none x = unfold is_listed in refl

  product_part : IsPart s.vector (r1.qubits ++ r2.qubits) (product_over (both_parts r1 r2))
  product_part = subst (λ g. IsPart s.vector g (product_over (both_parts r1 r2))) union_is (parts_make_one s.vector (both_parts r1 r2) parts disjoint)
    where
      union_is : union_of (both_parts r1 r2) ≡ r1.qubits ++ r2.qubits
      union_is = unfold union_of in ap (λ l. r1.qubits ++ l) (append-nil r2.qubits)

  gated_part : (k : Two) → IsPart (two_gate k p q s.vector) (r1.qubits ++ r2.qubits) (two_gate k p q (product_over (both_parts r1 r2)))
  gated_part k = two_gates_inside_make_parts k p q (r1.qubits ++ r2.qubits) numbers_apart own_both its_both s.vector (product_over (both_parts r1 r2)) product_part

  -- ---- the slots after the gate
  -- the numbers of both have their home in the own slot
  gathered_here : (x : ℕ) → is_listed (r1.qubits ++ r2.qubits) x ≡ (is_listed s.live x && (gathered home p q x == home p))
  unfolding gathered
  gathered_here x =
      is_listed-snoc r1.qubits r2.qubits x ∙ ap (λ b. b || is_listed r2.qubits x) (fits_p.homes x) ∙ ap (λ b. (is_listed s.live x && (home x == home p)) || b) (fits_q.homes x)
      ∙ sym (and_or (is_listed s.live x) (home x == home p) (home x == home q)) ∙ ap (λ b. is_listed s.live x && b) (by (home x == home q) refl)
    where
      by : (t : Bool) → (home x == home q) ≡ t → ((home x == home p) || (home x == home q)) ≡ (cond (home x == home q) (home p) (home x) == home p)
      by true e = ap (λ t. (home x == home p) || t) e ∙ or_true (home x == home p) ∙ sym (ap (λ t. cond t (home p) (home x) == home p) e ∙ eq_true (home p) (home p) refl)
      by false e = ap (λ t. (home x == home p) || t) e ∙ or_false (home x == home p) ∙ sym (ap (λ t. cond t (home p) (home x) == home p) e)

  -- none has it in the other slot
  gathered_there : (x : ℕ) → (gathered home p q x == home q) ≡ false
  unfolding gathered
  gathered_there x = by (home x == home q) refl
    where
      by : (t : Bool) → (home x == home q) ≡ t → (cond (home x == home q) (home p) (home x) == home q) ≡ false
      by true e = ap (λ t. cond t (home p) (home x) == home q) e ∙ eq_false _ _ homes_apart
      by false e = ap (λ t. cond t (home p) (home x) == home q) e ∙ e

  pub joined_fits : (k : Two) (list : List Coefficient) → IsSameState (register_vector (r1.qubits ++ r2.qubits) list) (two_gate k p q (product_over (both_parts r1 r2)))
      → FitsSlot shape (gated s k p q) (gathered home p q) (home p) (record { limit = shape.limit; qubits = r1.qubits ++ r2.qubits; list = list })
  joined_fits k list same = record {
    limit = refl;
    homes = gathered_here;
    group = λ x y h. ap (λ g. is_listed g y) (united_after k x h) ∙ united_members y;
    part = λ x h. part_list (two_gate k p q s.vector) (two_gate k p q (product_over (both_parts r1 r2))) (r1.qubits ++ r2.qubits) list (gated_part k) same;
  }

  -- the same by way of a list for the product
  pub joined_fits_by : (k : Two) (merged list : List Coefficient) → IsSameState (register_vector (r1.qubits ++ r2.qubits) merged) (product_over (both_parts r1 r2))
      → IsSameState (register_vector (r1.qubits ++ r2.qubits) list) (two_gate k p q (register_vector (r1.qubits ++ r2.qubits) merged))
      → FitsSlot shape (gated s k p q) (gathered home p q) (home p) (record { limit = shape.limit; qubits = r1.qubits ++ r2.qubits; list = list })
  joined_fits_by k merged list first then =
      let g = r1.qubits ++ r2.qubits in
      let some : ¬ ((x : ℕ) → register_vector g merged x ≡ zero_coefficient) = λ none. product_part.some_row (λ x. (first.rows x).0 (none x)) in
      joined_fits k list (same_transitive (register_vector g list) (two_gate k p q (register_vector g merged)) (two_gate k p q (product_over (both_parts r1 r2)))
      (two_gate-some_row k p q (register_vector g merged) numbers_apart some) then (two_same k p q (register_vector g merged) (product_over (both_parts r1 r2)) some first))

  pub emptied_fits : (k : Two) (list : List Coefficient) → FitsSlot shape (gated s k p q) (gathered home p q) (home q) (record { limit = shape.limit; qubits = []; list = list })
  unfolding is_listed
  emptied_fits k list = record {
    limit = refl;
    homes = λ x. sym (ap (λ b. is_listed s.live x && b) (gathered_there x) ∙ and_false (is_listed s.live x));
    group = λ x y h. absurd (clash (sym h));
    part = λ x h. absurd (clash (sym h));
  }

  pub joined_size : (k : Two) (n : ℕ) → AreDistinct r1.qubits → AreDistinct r2.qubits → IsSize (product_over (both_parts r1 r2)) (r1.qubits ++ r2.qubits) n
      → (2 ^ 60 ≤ n → HasSizeAtLeast (two_gate k p q s.vector) (group_of (gated s k p q) p) (2 ^ 60)) × (n < 2 ^ 60 → ¬ HasSizeAtLeast (two_gate k p q s.vector) (group_of (gated s k p q) p) (2 ^ 60))
  joined_size k n one two size =
      let g = r1.qubits ++ r2.qubits in
      let apart = both_distinct one two in
      subst (λ h. (2 ^ 60 ≤ n → HasSizeAtLeast (two_gate k p q s.vector) h (2 ^ 60)) × (n < 2 ^ 60 → ¬ HasSizeAtLeast (two_gate k p q s.vector) h (2 ^ 60))) (sym (united_after k p own_both))
      (size_by (two_gate k p q s.vector) (two_gate k p q (product_over (both_parts r1 r2))) g (united_group s p q) n (2 ^ 60)
      (two_gate-some_row k p q s.vector numbers_apart standing.sound.some_row) (gated_part k) apart united_distinct (λ x. sym (united_members x))
      (two_size_is k g p q numbers_apart apart own_both its_both (product_over (both_parts r1 r2)) n size))
