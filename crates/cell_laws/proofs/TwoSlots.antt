-- A gate on two qubits of one slot.
--     two_fits     the register with the gate's list fits after it
--     two_small    the group is not too large after it
--     two_few      the group is within the limit
use Rattle.std.proofs.Common.{◌≡◌, ◌≢◌, ℕ, ◌^◌, ◌≤◌, ◌==◌, min, Bool, true, false, cond, ◌&&◌, ◌||◌, List, length, refl, sym, ap, subst, ◌∙◌, arith}
use mathlib.Core.Path.{fun_ext}
use Rattle.state_model.specs.Coefficient.{Coefficient}
use Rattle.state_model.specs.Row.{is_listed}
use Rattle.state_model.specs.StateVector.{IsPart, IsSameState, HasSizeAtLeast}
use Rattle.state_model.specs.Registers.{Register, register_vector}
use Rattle.state_model.specs.Gate.{two_gate}
use Rattle.state_model.specs.declared.Two.{Two}
use Rattle.network_model.specs.Network.{Network, Shape, members, group_of}
use Rattle.network_model.specs.Step.{joined, united_group}
use Rattle.network_model.specs.Factored.{FitsSlot, gathered}
use Rattle.cell_laws.specs.Standing.{IsStanding}
use Rattle.state_model.proofs.Booleans.{eq_true, eq_of}
use Rattle.state_model.proofs.Insides.{two_gates_inside_make_parts}
use Rattle.network_model.proofs.Filters.{filter_same}
use Rattle.network_model.proofs.Slots.{is_listed-members}
use Rattle.cell_laws.proofs.Members.{listed_home, group_distinct, part_list, refits}
use Rattle.cell_laws.proofs.TwoSizes.{two_size_before}

min_same : (n : ℕ) → min n n ≡ n
min_same n = grind arith

-- the labels and the homes stay
joined_same : (label : ℕ → ℕ) (p q : ℕ) → label p ≡ label q → joined label p q ≡ label
unfolding joined
joined_same label p q e = fun_ext (λ r. ap (λ n. cond ((label r == label p) || (label r == n)) (min (label p) n) (label r)) (sym e) ∙ by r (label r == label p) refl)
  where
    by : (r : ℕ) (t : Bool) → (label r == label p) ≡ t → cond ((label r == label p) || (label r == label p)) (min (label p) (label p)) (label r) ≡ label r
    by r true f = ap (λ t. cond (t || t) (min (label p) (label p)) (label r)) f ∙ min_same (label p) ∙ sym (eq_of _ _ f)
    by r false f = ap (λ t. cond (t || t) (min (label p) (label p)) (label r)) f

gathered_same : (home : ℕ → ℕ) (p q : ℕ) → home p ≡ home q → gathered home p q ≡ home
unfolding gathered
gathered_same home p q e = fun_ext (λ r. by r (home r == home q) refl)
  where
    by : (r : ℕ) (t : Bool) → (home r == home q) ≡ t → cond (home r == home q) (home p) (home r) ≡ home r
    by r true f = ap (λ t. cond t (home p) (home r)) f ∙ e ∙ sym (eq_of _ _ f)
    by r false f = ap (λ t. cond t (home p) (home r)) f

-- the state after a gate on two qubits
abbrev pub gated : Network → Two → ℕ → ℕ → Network
gated s k p q = record s { vector = two_gate k p q s.vector; label = joined s.label p q }

module _ (shape : Shape) (s : Network) (home : ℕ → ℕ) (p q : ℕ) (standing : IsStanding shape s home) (live_p : is_listed s.live p ≡ true) (live_q : is_listed s.live q ≡ true) (other : p ≢ q) (same_home : home p ≡ home q) where
  same_label : s.label p ≡ s.label q
  same_label = eq_of _ _ (sym (standing.housed p q live_p live_q) ∙ eq_true _ _ same_home)

  in_group : (x : ℕ) → is_listed s.live x ≡ true → s.label x ≡ s.label p → is_listed (group_of s p) x ≡ true
  unfolding group_of
  in_group x live e = is_listed-members s.live s.label (s.label p) x ∙ ap (λ b. b && (s.label x == s.label p)) live ∙ eq_true _ _ e

  pub two_fits : (r : Register) (k : Two) (list : List Coefficient) → FitsSlot shape s home (home p) r
      → IsSameState (register_vector r.qubits list) (two_gate k p q (register_vector r.qubits r.list))
      → FitsSlot shape (gated s k p q) (gathered home p q) (home p) (record r { list = list })
  two_fits r k list fits same =
      let u = register_vector r.qubits r.list in
      let own = listed_home shape s home p r live_p fits in
      let its = listed_home shape s home q r live_q (subst (λ t. FitsSlot shape s home t r) same_home fits) in
      let part : IsPart (two_gate k p q s.vector) r.qubits (two_gate k p q u) = two_gates_inside_make_parts k p q r.qubits other own its s.vector u (fits.part p own) in
      subst (λ (h : ℕ → ℕ). FitsSlot shape (gated s k p q) h (home p) (record r { list = list })) (sym (gathered_same home p q same_home))
      (refits shape s home (home p) r (gated s k p q) list fits refl (joined_same s.label p q same_label)
      (λ x h. part_list (two_gate k p q s.vector) (two_gate k p q u) r.qubits list part same))

  pub two_small : (k : Two) → ¬ HasSizeAtLeast (two_gate k p q s.vector) (group_of (gated s k p q) p) (2 ^ 60)
  two_small k large = standing.sound.sizes p live_p
      (two_size_before k (group_of s p) p q other (group_distinct shape s standing.sound p) (in_group p live_p refl) (in_group q live_q (sym same_label)) s.vector (2 ^ 60)
      (subst (λ g. HasSizeAtLeast (two_gate k p q s.vector) g (2 ^ 60)) same_group large))
    where
      same_group : group_of (gated s k p q) p ≡ group_of s p
      same_group = unfold group_of in ap (λ (l : ℕ → ℕ). members s.live l (l p)) (joined_same s.label p q same_label)

  united_same : united_group s p q ≡ group_of s p
  unfolding united_group group_of members
  united_same = filter_same _ (λ r. s.label r == s.label p) s.live (λ r i. ap (λ n. (s.label r == s.label p) || (s.label r == n)) (sym same_label) ∙ twice (s.label r == s.label p))
    where
      twice : (b : Bool) → (b || b) ≡ b
      twice true = refl
      twice false = refl

  pub two_few : length (united_group s p q) ≤ shape.limit
  two_few = subst (λ g. length g ≤ shape.limit) (sym united_same) (standing.sound.limit p live_p)
