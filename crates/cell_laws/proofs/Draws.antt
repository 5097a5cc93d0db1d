-- The outcome that a word draws is that of a part on a group that has the qubit.
--     drawn_by_part    the outcome is the part's
--     drawn_by_slot    the outcome is the register's at the qubit's home
use Rattle.std.proofs.Common.{◌≡◌, ◌≢◌, ℕ, ◌^◌, Bool, true, false, not, cond, ◌&&◌, ◌||◌, List, [], ◌∷◌, ◌++◌, filter, refl, sym, ap, subst, ◌∙◌}
use Rattle.state_model.specs.Coefficient.{zero_coefficient, ◌⊗◌, Weight, weight, no_weight, weight_sum, scaled}
use Rattle.state_model.specs.Row.{is_set, is_listed, within, AgreeOutside, rows_of}
use Rattle.state_model.specs.StateVector.{Vector, IsPart, IsOver}
use Rattle.state_model.specs.Measurement.{weight_of, whole_weight, one_weight, draw}
use Rattle.state_model.specs.Registers.{Register, register_vector}
use Rattle.state_model.specs.Amplitudes.{AreDistinct}
use Rattle.network_model.specs.Network.{Network, Shape}
use Rattle.network_model.specs.Factored.{FitsSlot}
use Rattle.cell_laws.specs.Standing.{IsStanding}
use Rattle.state_model.proofs.Booleans.{and_true, and_false, clash, or_true, or_false}
use Rattle.state_model.proofs.Domain.{⊗-domain, zero_coefficient-⊗}
use Rattle.state_model.proofs.Draws.{weight_above, times, weight-⊗}
use Rattle.state_model.proofs.Kept.{rows_complete, within_twice}
use Rattle.state_model.proofs.Numbers.{is_listed-filter, is_listed-snoc}
use Rattle.state_model.proofs.Order.{IsAbove}
use Rattle.state_model.proofs.Parts.{no_bit_outside}
use Rattle.state_model.proofs.Products.{blend, blend_inside, blend_outside, within_same}
use Rattle.state_model.proofs.RegisterSums.{weight_on, weight_on-same, weight_of-rows, weight_sum-none}
use Rattle.state_model.proofs.Ring.{⊗_comm}
use Rattle.state_model.proofs.RowLaws.{same_row, is_set-within, is_set-within_inside, within-with_bit_outside}
use Rattle.state_model.proofs.SameStates.{stable}
use Rattle.cell_laws.proofs.Lengths.{HaveSameMembers, distinct_append, weight_on-members}
use Rattle.cell_laws.proofs.Members.{distinct_filter, live_distinct, listed_home, at_home}
use Rattle.cell_laws.proofs.Weights.{weights_above, times-scaled, times-none, less_along, split_sum}

bool_stable : (a b : Bool) → ¬ (a ≢ b) → a ≡ b
bool_stable true true h = refl
bool_stable true false h = absurd (h (λ e. cc))
bool_stable false true h = absurd (h (λ e. cc))
bool_stable false false h = refl

-- the weight of the rows that pass a test
unfoldable passing : (ℕ → Bool) → Vector → ℕ → Weight
passing test v x = cond (test x) (weight (v x)) no_weight

-- no row alone
unfoldable passed : (ℕ → Bool) → Vector → Vector
passed test v x = cond (test x) (v x) zero_coefficient

weightless : (w : Weight) → weight_sum (weight zero_coefficient) w ≡ w
weightless w = ap (λ u. weight_sum u w) none ∙ weight_sum-none w
  where
    none : weight zero_coefficient ≡ no_weight
    none = refl

filtered : (v : Vector) (test : ℕ → Bool) (xs : List ℕ) → weight_of v (filter test xs) ≡ weight_of (passed test v) xs
unfolding weight_of passed
filtered v test [] = refl
filtered v test (x ∷ xs) = by (test x) (filtered v test xs)
  where
    by : (t : Bool) → weight_of v (filter test xs) ≡ weight_of (λ y. cond (test y) (v y) zero_coefficient) xs
        → weight_of v (cond t (x ∷ filter test xs) (filter test xs)) ≡ weight_sum (weight (cond t (v x) zero_coefficient)) (weight_of (λ y. cond (test y) (v y) zero_coefficient) xs)
    by true again = ap (weight_sum (weight (v x))) again
    by false again = again ∙ sym (weightless (weight_of (λ y. cond (test y) (v y) zero_coefficient) xs))

passed_weight : (v : Vector) (test : ℕ → Bool) (x : ℕ) → weight (passed test v x) ≡ passing test v x
unfolding passed passing
passed_weight v test x = by (test x)
  where
    by : (t : Bool) → weight (cond t (v x) zero_coefficient) ≡ cond t (weight (v x)) no_weight
    by true = refl
    by false = refl

whole_is : (g : List ℕ) (v : Vector) → whole_weight g v ≡ weight_on g (λ x. weight (v x))
unfolding whole_weight
whole_is g v = weight_of-rows g v

one_is : (g : List ℕ) (v : Vector) (q : ℕ) → one_weight g v q ≡ weight_on g (passing (is_set q) v)
unfolding one_weight
one_is g v q = filtered v (is_set q) (rows_of g) ∙ weight_of-rows g (passed (is_set q) v) ∙ weight_on-same g (λ x. weight (passed (is_set q) v x)) (passing (is_set q) v) (λ x is. passed_weight v (is_set q) x)

-- ---- a list of numbers as the others and a group
others : List ℕ → List ℕ → List ℕ
others live g = filter (λ p. not (is_listed g p)) live

others_listed : (live g : List ℕ) (p : ℕ) → is_listed (others live g) p ≡ (is_listed live p && not (is_listed g p))
unfolding others
others_listed live g p = is_listed-filter (λ p. not (is_listed g p)) live p

others_members : (live g : List ℕ) → ((p : ℕ) → is_listed g p ≡ true → is_listed live p ≡ true) → HaveSameMembers live (others live g ++ g)
others_members live g inside p = sym (is_listed-snoc (others live g) g p ∙ ap (λ b. b || is_listed g p) (others_listed live g p) ∙ by (is_listed g p) refl)
  where
    by : (t : Bool) → is_listed g p ≡ t → ((is_listed live p && not (is_listed g p)) || is_listed g p) ≡ is_listed live p
    by true e = ap (λ b. (is_listed live p && not b) || b) e ∙ or_true (is_listed live p && false) ∙ sym (inside p e)
    by false e = ap (λ b. (is_listed live p && not b) || b) e ∙ or_false (is_listed live p && true) ∙ and_true (is_listed live p)

others_distinct : (live g : List ℕ) → AreDistinct live → AreDistinct g → AreDistinct (others live g ++ g)
others_distinct live g apart other = distinct_append (others live g) g (unfold others in distinct_filter (λ p. not (is_listed g p)) live apart) other
    (λ p h. by p h (is_listed g p) refl)
  where
    by : (p : ℕ) → is_listed (others live g) p ≡ true → (t : Bool) → is_listed g p ≡ t → is_listed g p ≡ false
    by p h true e = absurd (clash (sym h ∙ others_listed live g p ∙ ap (λ b. is_listed live p && not b) e ∙ and_false (is_listed live p)))
    by p h false e = e

-- ---- the weights of a vector by those of a part
module _ (live g : List ℕ) (v u : Vector) (live_apart : AreDistinct live) (apart : AreDistinct g) (inside : (p : ℕ) → is_listed g p ≡ true → is_listed live p ≡ true) (part : IsPart v g u) where
  -- the weights of the rows with the group's bits of y
  along : ℕ → ℕ → Weight
  along y x = weight (v (blend g x y))

  -- each weight is that of such a row times the part's
  each : (y : ℕ) → within g y ≡ y → (x : ℕ) → times (weight (v x)) (weight (u y)) ≡ times (weight (u (within g x))) (along y x)
  unfolding along
  each y is x =
      let z = blend g x y in
      let at : within g z ≡ y = within_same g z y (λ p h. blend_inside g p x y h) ∙ is in
      sym (weight-⊗ (v x) (u y))
      ∙ ap weight (ap (λ n. v x ⊗ u n) (sym at) ∙ part.ratios x z (λ p out. sym (blend_outside g p x y out)) ∙ ⊗_comm (v z) (u (within g x)))
      ∙ weight-⊗ (u (within g x)) (v z)

  blind : (y x z : ℕ) → AgreeOutside g x z → along y x ≡ along y z
  unfolding along
  blind y x z near = ap (λ n. weight (v n)) (same_row _ _ (λ p. by p (is_listed g p) refl))
    where
      by : (p : ℕ) (t : Bool) → is_listed g p ≡ t → is_set p (blend g x y) ≡ is_set p (blend g z y)
      by p true e = blend_inside g p x y e ∙ sym (blend_inside g p z y e)
      by p false e = blend_outside g p x y e ∙ near p e ∙ sym (blend_outside g p z y e)

  other_out : (p : ℕ) → is_listed (others live g) p ≡ true → is_listed g p ≡ false
  other_out p h = by (is_listed g p) refl
    where
      by : (t : Bool) → is_listed g p ≡ t → is_listed g p ≡ false
      by true e = absurd (clash (sym h ∙ others_listed live g p ∙ ap (λ b. is_listed live p && not b) e ∙ and_false (is_listed live p)))
      by false e = e

  -- all rows, and those with a bit of the group set
  whole_along : (y : ℕ) → within g y ≡ y → times (whole_weight live v) (weight (u y)) ≡ times (whole_weight g u) (weight_on (others live g) (along y))
  whole_along y is =
      ap (λ w. times w (weight (u y))) (whole_is live v ∙ weight_on-members live (others live g ++ g) live_apart (others_distinct live g live_apart apart) (others_members live g inside) (λ x. weight (v x)))
      ∙ split_sum (others live g) g (weight (u y)) (λ x. weight (v x)) (along y) (λ x. weight (u (within g x))) (each y is) (blind y)
      (λ p h x. ap (λ n. weight (u n)) (within-with_bit_outside g p true x (other_out p h)))
      ∙ ap (λ w. times w (weight_on (others live g) (along y)))
      (weight_on-same g (λ x. weight (u (within g x))) (λ x. weight (u x)) (λ x e. ap (λ n. weight (u n)) e) ∙ sym (whole_is g u))

  one_along : (q : ℕ) → is_listed g q ≡ true → (y : ℕ) → within g y ≡ y → times (one_weight live v q) (weight (u y)) ≡ times (one_weight g u q) (weight_on (others live g) (along y))
  unfolding passing
  one_along q own y is =
      ap (λ w. times w (weight (u y))) (one_is live v q ∙ weight_on-members live (others live g ++ g) live_apart (others_distinct live g live_apart apart) (others_members live g inside) (passing (is_set q) v))
      ∙ split_sum (others live g) g (weight (u y)) (passing (is_set q) v) (along y) (λ x. passing (is_set q) u (within g x)) each_passing (blind y)
      (λ p h x. ap (passing (is_set q) u) (within-with_bit_outside g p true x (other_out p h)))
      ∙ ap (λ w. times w (weight_on (others live g) (along y)))
      (weight_on-same g (λ x. passing (is_set q) u (within g x)) (passing (is_set q) u) (λ x e. ap (passing (is_set q) u) e) ∙ sym (one_is g u q))
    where
      each_passing : (x : ℕ) → times (passing (is_set q) v x) (weight (u y)) ≡ times (passing (is_set q) u (within g x)) (along y x)
      each_passing x =
          by (is_set q x) ∙ ap (λ b. times (cond b (weight (u (within g x))) no_weight) (along y x)) (sym (is_set-within_inside g q x own))
        where
          by : (t : Bool) → times (cond t (weight (v x)) no_weight) (weight (u y)) ≡ times (cond t (weight (u (within g x))) no_weight) (along y x)
          by true = each y is x
          by false = times-none (weight (u y)) ∙ sym (times-none (along y x))

  -- the sum over the others is above 0
  along_above : (y x : ℕ) → within g y ≡ y → u y ≢ zero_coefficient → IsOver live v → v x ≢ zero_coefficient → IsAbove ((weight_on (others live g) (along y)).x) ((weight_on (others live g) (along y)).y)
  unfolding along
  along_above y x is row_u over row_v =
      subst (λ (w : Weight). IsAbove w.x w.y) (weight_of-rows (others live g) (λ x. v (blend g x y)))
      (weights_above (λ x. v (blend g x y)) (rows_of (others live g)) r (rows_complete (others live g) r (within_twice (others live g) x)) (λ e. row_blend (sym same ∙ e)))
    where
      r : ℕ
      r = within (others live g) x

      row_blend : v (blend g x y) ≢ zero_coefficient
      row_blend e =
          let z = blend g x y in
          let at : within g z ≡ y = within_same g z y (λ p h. blend_inside g p x y h) ∙ is in
          row_v (⊗-domain (u y) (v x) row_u (⊗_comm (u y) (v x) ∙ ap (λ n. v x ⊗ u n) (sym at) ∙ part.ratios x z (λ p out. sym (blend_outside g p x y out))
          ∙ ap (λ k. k ⊗ u (within g x)) e ∙ zero_coefficient-⊗ (u (within g x))))

      same : v (blend g r y) ≡ v (blend g x y)
      same = ap v (same_row _ _ (λ p. by p (is_listed g p) refl))
        where
          outer : (p : ℕ) (t : Bool) → is_listed live p ≡ t → is_listed g p ≡ false → is_set p (within (others live g) x) ≡ is_set p x
          outer p true h e = is_set-within (others live g) p x ∙ ap (λ b. is_set p x && b) (others_listed live g p ∙ ap (λ b. b && not (is_listed g p)) h ∙ ap not e) ∙ and_true (is_set p x)
          outer p false h e =
              is_set-within (others live g) p x ∙ ap (λ b. is_set p x && b) (others_listed live g p ∙ ap (λ b. b && not (is_listed g p)) h) ∙ and_false (is_set p x)
              ∙ sym (no_bit_outside live x p (over x row_v) h)

          by : (p : ℕ) (t : Bool) → is_listed g p ≡ t → is_set p (blend g (within (others live g) x) y) ≡ is_set p (blend g x y)
          by p true e = blend_inside g p _ y e ∙ sym (blend_inside g p x y e)
          by p false e = blend_outside g p _ y e ∙ outer p (is_listed live p) refl e ∙ sym (blend_outside g p x y e)

  -- the outcome is the part's
  pub drawn_by_part : (q word : ℕ) → is_listed g q ≡ true → IsOver live v → ¬ ((x : ℕ) → v x ≡ zero_coefficient) → draw live v q word ≡ draw g u q word
  unfolding draw
  drawn_by_part q word own over some = bool_stable _ _ (λ n. some (λ x. stable (v x) zero_coefficient (λ row_v.
      part.some_row (λ y. stable (u y) zero_coefficient (λ row_u. n (by y x (part.over y row_u) row_u row_v))))))
    where
      by : (y x : ℕ) → within g y ≡ y → u y ≢ zero_coefficient → v x ≢ zero_coefficient → draw live v q word ≡ draw g u q word
      by y x is row_u row_v =
          let a = weight (u y) in
          let b = weight_on (others live g) (along y) in
          less_along (scaled word (whole_weight live v)) (scaled (2 ^ 64) (one_weight live v q)) (scaled word (whole_weight g u)) (scaled (2 ^ 64) (one_weight g u q)) a b
          (weight_above (u y) row_u) (along_above y x is row_u over row_v)
          (times-scaled word (whole_weight live v) a ∙ ap (scaled word) (whole_along y is) ∙ sym (times-scaled word (whole_weight g u) b))
          (times-scaled (2 ^ 64) (one_weight live v q) a ∙ ap (scaled (2 ^ 64)) (one_along q own y is) ∙ sym (times-scaled (2 ^ 64) (one_weight g u q) b))

-- the outcome is that of the register at the qubit's home
pub drawn_by_slot : (shape : Shape) (s : Network) (home : ℕ → ℕ) (q word : ℕ) (r : Register) → IsStanding shape s home → is_listed s.live q ≡ true → FitsSlot shape s home (home q) r → AreDistinct r.qubits
    → draw s.live s.vector q word ≡ draw r.qubits (register_vector r.qubits r.list) q word
drawn_by_slot shape s home q word r standing live fits apart =
    let own = listed_home shape s home q r live fits in
    drawn_by_part s.live r.qubits s.vector (register_vector r.qubits r.list) (live_distinct shape s standing.sound) apart
    (λ p h. (at_home shape s home (home q) p r fits h).0) (fits.part q own) q word own standing.sound.over_live standing.sound.some_row
