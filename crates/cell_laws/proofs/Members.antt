-- A slot's register and the group that it holds: the same members, as long, and the same sizes.
--     listed_home, at_home     a live number is in the register at its home, and there alone
--     group_members            a number's group has the members of its register
--     group_size, size_by      sizes of a number's group by those of its register
use Rattle.std.proofs.Common.{◌≡◌, ◌↔◌, ℕ, ◌+◌, ◌<◌, ◌≤◌, ◌==◌, Bool, true, false, cond, ◌&&◌, List, [], ◌∷◌, length, filter, count_by, le_trans, refl, sym, ap, subst, ◌∙◌, arith}
use mathlib.Core.Path.{fun_ext}
use Rattle.state_model.specs.Coefficient.{Coefficient, zero_coefficient}
use Rattle.state_model.specs.Row.{is_listed}
use Rattle.state_model.specs.StateVector.{Vector, IsPart, IsSameState, IsSize, HasSizeAtLeast}
use Rattle.state_model.specs.Registers.{Register, register_vector}
use Rattle.state_model.specs.Amplitudes.{AreDistinct}
use Rattle.network_model.specs.Network.{Network, Shape, members, group_of, IsSound}
use Rattle.network_model.specs.Factored.{FitsSlot}
use Rattle.state_model.proofs.Booleans.{eq_true, eq_of, both_true}
use Rattle.state_model.proofs.Numbers.{is_listed-filter}
use Rattle.state_model.proofs.Parts.{part_along, size_by_part, whole_part}
use Rattle.state_model.proofs.RegisterLists.{vector-over}
use Rattle.state_model.proofs.SameStates.{same_symmetric, same_reflexive}
use Rattle.network_model.proofs.GroupSteps.{distinct_once}
use Rattle.cell_laws.proofs.Lengths.{HaveSameMembers, same_length, same_members_size}

-- ---- distinct numbers
pub distinct_filter : (test : ℕ → Bool) (g : List ℕ) → AreDistinct g → AreDistinct (filter test g)
distinct_filter test [] apart = tt
distinct_filter test (q ∷ g) apart = by (test q) (distinct_filter test g (apart.1))
  where
    by : (t : Bool) → AreDistinct (filter test g) → AreDistinct (cond t (q ∷ filter test g) (filter test g))
    by true rest = (is_listed-filter test g q ∙ ap (λ b. b && test q) (apart.0), rest)
    by false rest = rest

pub live_distinct : (shape : Shape) (s : Network) → IsSound shape s → AreDistinct s.live
live_distinct shape s sound = distinct_once s.live sound.live_once

pub group_distinct : (shape : Shape) (s : Network) → IsSound shape s → (q : ℕ) → AreDistinct (group_of s q)
unfolding group_of members
group_distinct shape s sound q = distinct_filter (λ p. s.label p == s.label q) s.live (live_distinct shape s sound)

-- ---- homes
-- a live number is in the register at its home
pub listed_home : (shape : Shape) (s : Network) (home : ℕ → ℕ) (q : ℕ) (r : Register) → is_listed s.live q ≡ true → FitsSlot shape s home (home q) r → is_listed r.qubits q ≡ true
listed_home shape s home q r live fits = fits.homes q ∙ ap (λ b. b && (home q == home q)) live ∙ eq_true _ _ refl

-- a number in a register is live and has its home there
pub at_home : (shape : Shape) (s : Network) (home : ℕ → ℕ) (slot q : ℕ) (r : Register) → FitsSlot shape s home slot r → is_listed r.qubits q ≡ true → (is_listed s.live q ≡ true) × (home q ≡ slot)
at_home shape s home slot q r fits h =
    let both = both_true (is_listed s.live q) (home q == slot) (sym (fits.homes q) ∙ h) in
    (both.0, eq_of _ _ (both.1))

-- ---- groups
pub group_members : (shape : Shape) (s : Network) (home : ℕ → ℕ) (q : ℕ) (r : Register) → is_listed s.live q ≡ true → FitsSlot shape s home (home q) r → HaveSameMembers r.qubits (group_of s q)
group_members shape s home q r live fits x = sym (fits.group q x (listed_home shape s home q r live fits))

pub group_length : (shape : Shape) (s : Network) (home : ℕ → ℕ) (q : ℕ) (r : Register) → IsSound shape s → is_listed s.live q ≡ true → FitsSlot shape s home (home q) r → AreDistinct r.qubits
    → length r.qubits ≡ length (group_of s q)
group_length shape s home q r sound live fits apart = same_length r.qubits (group_of s q) apart (group_distinct shape s sound q) (group_members shape s home q r live fits)

-- ---- sizes
-- the size of a part's group is that of the part
pub part_size : (g : List ℕ) (v u : Vector) (n : ℕ) → ¬ ((x : ℕ) → v x ≡ zero_coefficient) → IsPart v g u → HasSizeAtLeast v g n ↔ HasSizeAtLeast u g n
part_size g v u n some part =
    let one = size_by_part g v u n some part in
    let two = size_by_part g u u n part.some_row (whole_part g u part.some_row part.over) in
    (λ large. (two.1) ((one.0) large), λ large. (one.1) ((two.0) large))

-- a size at least a bound is at least a lesser one
pub size_less : (v : Vector) (g : List ℕ) (m n : ℕ) → m ≤ n → HasSizeAtLeast v g n → HasSizeAtLeast v g m
size_less v g m n h large u part = le_trans h (large u part)

-- whether a size is at least a bound, by what it is
pub size_at_least : (v : Vector) (g : List ℕ) (n bound : ℕ) → IsSize v g n → (bound ≤ n → HasSizeAtLeast v g bound) × (n < bound → ¬ HasSizeAtLeast v g bound)
size_at_least v g n bound size = (
  λ h. size_less v g bound n h size.least,
  λ h large. absurd (over _ _ (size.reached) h (large size.vector size.part)),
)
  where
    over : (m n : ℕ) → m ≡ n → n < bound → bound ≤ m → ⊥
    over m n e h k = omega arith

-- the size of a group by that of a part on a list with the same members
pub size_by : (v u : Vector) (a b : List ℕ) (n bound : ℕ) → ¬ ((x : ℕ) → v x ≡ zero_coefficient) → IsPart v a u → AreDistinct a → AreDistinct b → HaveSameMembers a b → IsSize u a n
    → (bound ≤ n → HasSizeAtLeast v b bound) × (n < bound → ¬ HasSizeAtLeast v b bound)
size_by v u a b n bound some part apart other same size =
    let known = size_at_least u a n bound size in
    let along = part_size a v u bound some part in (
      λ h. same_members_size a b v bound apart other same ((along.1) ((known.0) h)),
      λ h large. (known.1) h ((along.0) (same_members_size b a v bound other apart (λ q. sym (same q)) large)),
    )

-- ---- a register with another list
-- a list that is the same as a part is a part
pub part_list : (v u : Vector) (g : List ℕ) (list : List Coefficient) → IsPart v g u → IsSameState (register_vector g list) u → IsPart v g (register_vector g list)
part_list v u g list part same = part_along g v u (register_vector g list) part (vector-over g list) (same_symmetric _ _ same)

-- vectors with equal coefficients are the same
pub same_pointwise : (v u : Vector) → ((x : ℕ) → v x ≡ u x) → IsSameState v u
same_pointwise v u each = subst (λ (w : Vector). IsSameState v w) (fun_ext each) (same_reflexive v)

-- the same numbers, labels and homes, and a part of another vector
pub refits : (shape : Shape) (s : Network) (home : ℕ → ℕ) (slot : ℕ) (r : Register) (t : Network) (list : List Coefficient) → FitsSlot shape s home slot r → t.live ≡ s.live → t.label ≡ s.label
    → ((p : ℕ) → is_listed r.qubits p ≡ true → IsPart t.vector r.qubits (register_vector r.qubits list)) → FitsSlot shape t home slot (record r { list = list })
unfolding group_of
refits shape s home slot r t list fits e f part = record {
  limit = fits.limit;
  homes = λ q. fits.homes q ∙ ap (λ l. is_listed l q && (home q == slot)) (sym e);
  group = λ p q h. ap (λ l. is_listed (members l t.label (t.label p)) q) e ∙ ap (λ l. is_listed (members s.live l (l p)) q) f ∙ fits.group p q h;
  part = part;
}
