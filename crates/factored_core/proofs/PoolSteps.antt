-- The pool fits after each step that touches it, from what was taken and given back, by the instruction. The least listed number and
-- slot are the model's least free ones, and are there where the nodes that get a qubit have room.
use Prim.Native.Nat.{suc}
use Rattle.std.proofs.Common.{◌≡◌, ◌≢◌, ℕ, ◌+◌, ◌*◌, ◌%◌, ◌^◌, ◌<◌, ◌≤◌, ◌==◌, nat_lt, Bool, true, false, not, cond, ◌&&◌, ◌||◌, List, [], ◌∷◌, ◌++◌, append_assoc, length, refl, sym, ap, subst, ◌∙◌, arith}
use Rattle.state_model.specs.Row.{is_listed, without}
use Rattle.state_model.specs.declared.Two.{Two}
use Rattle.std.proofs.Math.Bool.{or_comm}
use Rattle.state_model.proofs.Booleans.{clash, both_true, eq_true, eq_of, ne_of, or_false, or_false_left, or_false_right, eq_flip}
use Rattle.state_model.proofs.Numbers.{is_listed-without, was_listed}
use Rattle.network_model.specs.declared.Kind.{Kind}
use Rattle.cqc_model.specs.declared.Remote.{Remote}
use Rattle.network_model.specs.Network.{Network, Shape, members, group_of, load, IsSound}
use Rattle.network_model.specs.Kinds.{kind_of}
use Rattle.network_model.specs.Step.{effect, effect_of, quiet, after_two, measured, taken_out, left_as, own_number, other_number, least_free}
use Rattle.cell_laws.proofs.StepSlots.{Leaves}
use Rattle.network_model.specs.Factored.{FitsPool, IsHoused, homes_by, used_slots, moved, gathered, parted}
use Rattle.network_model.specs.declared.After.TheVariants.{TakenOut}
use Rattle.network_model.specs.declared.Call.{Call}
use Rattle.network_model.specs.declared.Kind.TheVariants.{Two as TwoGate, Measure, Make, Pair}
use Rattle.network_model.proofs.Counting.{count-filter}
use Rattle.network_model.proofs.Least.{least_free_new}
use Rattle.network_model.proofs.Added.{least_free_high}
use Rattle.network_model.proofs.Slots.{is_listed-members}
use Rattle.factored_core.proofs.FreeLists.{AreFree, listed_with, least_is_least_free, least_free_is_listed, one_taken, one_freed}
use Rattle.cell_laws.proofs.FreePlaces.{few_live}
use Rattle.cell_laws.proofs.LiveCounts.{fewer_live, two_fewer}
use Rattle.factored_core.proofs.UsedSlots.{length_used, one_less, map_same, used_with, used_without_alone, used_without_beside, used_moved_beside, slot_beside, used_gathered}

-- a number that is not listed behind another is not listed in front of it
new_beside : (n : ℕ) (xs : List ℕ) (q : ℕ) → is_listed (n ∷ xs) q ≡ false → is_listed (xs ++ n ∷ []) q ≡ false
unfolding is_listed
new_beside n xs q h =
    listed_with xs n q ∙ ap (λ b. b || (q == n)) (or_false_right (n == q) (is_listed xs q) h) ∙ eq_flip q n ∙ or_false_left (n == q) (is_listed xs q) h

-- ---- groups of one and of more
single : (xs : List ℕ) (a b : ℕ) → length xs ≡ 1 → is_listed xs a ≡ true → is_listed xs b ≡ true → a ≡ b
unfolding is_listed
single [] a b e h k = cc
single (z ∷ []) a b e h k = sym (eq_of z a (sym (or_false (z == a)) ∙ h)) ∙ eq_of z b (sym (or_false (z == b)) ∙ k)
single (z ∷ y ∷ xs) a b e h k = absurd (omega arith)

some_listed : (xs : List ℕ) → (length xs ≡ 0 → ⊥) → (x : ℕ) × (is_listed xs x ≡ true)
unfolding is_listed
some_listed [] h = absurd (h refl)
some_listed (x ∷ xs) h = (x, ap (λ b. b || is_listed xs x) (eq_true x x refl))

module _ (shape : Shape) (s : Network) (home : ℕ → ℕ) (sound : IsSound shape s) (housed : IsHoused s home) (q : ℕ) (live_q : is_listed s.live q ≡ true) where
  in_group : (x : ℕ) → is_listed s.live x ≡ true → s.label x ≡ s.label q → is_listed (group_of s q) x ≡ true
  unfolding group_of
  in_group x i e = is_listed-members s.live s.label (s.label q) x ∙ ap (λ b. b && (s.label x == s.label q)) i ∙ eq_true (s.label x) (s.label q) e

  -- a group of one has its slot for itself
  pub alone_at_home : (length (group_of s q) == 1) ≡ true → (x : ℕ) → is_listed s.live x ≡ true → home x ≡ home q → x ≡ q
  alone_at_home one x i e = single (group_of s q) x q (eq_of (length (group_of s q)) 1 one) (in_group x i (eq_of (s.label x) (s.label q) (sym (housed x q i live_q) ∙ eq_true (home x) (home q) e))) (in_group q live_q refl)

  -- a group of more has another number in its slot
  pub beside_at_home : (length (group_of s q) == 1) ≡ false → (r : ℕ) × (is_listed s.live r ≡ true) × (r ≢ q) × (home r ≡ home q)
  unfolding group_of members
  beside_at_home more =
      let less = one_less (group_of s q) q (few (count-filter (λ p. p == q) (λ p. s.label p == s.label q) s.live) (sound.live_once q)) (in_group q live_q refl) in
      let found = some_listed (without (group_of s q) q) (λ none. ne_of (length (group_of s q)) 1 more (one _ _ less none)) in
      at (found.0) (found.1)
    where
      few : {a b : ℕ} → a ≤ b → b ≤ 1 → a ≤ 1
      few h k = omega arith

      one : (a b : ℕ) → a + 1 ≡ b → a ≡ 0 → b ≡ 1
      one a b h k = omega arith

      at : (r : ℕ) → is_listed (without (group_of s q) q) r ≡ true → (r : ℕ) × (is_listed s.live r ≡ true) × (r ≢ q) × (home r ≡ home q)
      at r i =
          let here = was_listed (group_of s q) q r i in
          let both = both_true (is_listed s.live r) (s.label r == s.label q) (sym (is_listed-members s.live s.label (s.label q) r) ∙ here) in (
            r,
            both.0,
            λ e. clash (sym ((both_true (is_listed (group_of s q) r) (not (r == q)) (sym (is_listed-without (group_of s q) q r) ∙ i)).1) ∙ ap not (eq_true r q e)),
            eq_of (home r) (home q) (housed r q (both.0) live_q ∙ both.1),
          )

-- ---- what is free
module _ (shape : Shape) (s : Network) (home : ℕ → ℕ) (numbers slots : List ℕ) (pairs : ℕ) (sound : IsSound shape s) (fits : FitsPool shape s home numbers slots pairs) where
  -- the least listed number, and the least listed slot
  pub least_number_is : (n : ℕ) → is_listed numbers n ≡ true → ((m : ℕ) → m < n → is_listed numbers m ≡ false) → n ≡ least_free s.live
  least_number_is n listed least = least_is_least_free (length shape.places * shape.room) s.live numbers fits.numbers_free n listed least

  pub least_free_slot_is : (n : ℕ) → is_listed slots n ≡ true → ((m : ℕ) → m < n → is_listed slots m ≡ false) → n ≡ least_free (used_slots s.live home)
  least_free_slot_is n listed least = least_is_least_free (length shape.places * shape.room) (used_slots s.live home) slots fits.slots_free n listed least

  -- the numbers beside the first that was taken
  beside_first : (n : ℕ) (mid : List ℕ) → ((q : ℕ) → is_listed mid q ≡ (is_listed numbers q && not (q == n))) → AreFree (length shape.places * shape.room) (n ∷ s.live) mid
  unfolding is_listed
  beside_first n mid less = one_taken (length shape.places * shape.room) s.live numbers fits.numbers_free n (n ∷ s.live) mid less (λ q. or_comm (n == q) (is_listed s.live q) ∙ ap (λ b. is_listed s.live q || b) (eq_flip n q))

  -- the least number beside the first
  pub second_number_is : (n : ℕ) (mid : List ℕ) → ((q : ℕ) → is_listed mid q ≡ (is_listed numbers q && not (q == n)))
      → (k : ℕ) → is_listed mid k ≡ true → ((m : ℕ) → m < k → is_listed mid m ≡ false) → k ≡ least_free (n ∷ s.live)
  second_number_is n mid less k listed least = least_is_least_free (length shape.places * shape.room) (n ∷ s.live) mid (beside_first n mid less) k listed least

  below : (a b c : ℕ) → a ≤ b → b < c → a < c
  below a b c h k = omega arith

  -- a number and a slot are free where a node has room
  module _ (m : ℕ) (within : m < length shape.places) (room : load s m < shape.room) where
    pub number_left : is_listed numbers (least_free s.live) ≡ true
    number_left = least_free_is_listed (length shape.places * shape.room) s.live numbers fits.numbers_free (below _ _ _ (least_free_high s.live) (fewer_live shape s sound m within room))

    pub slot_left : is_listed slots (least_free (used_slots s.live home)) ≡ true
    slot_left = least_free_is_listed (length shape.places * shape.room) (used_slots s.live home) slots fits.slots_free
        (below _ _ _ (subst (λ n. least_free (used_slots s.live home) ≤ n) (length_used s.live home) (least_free_high (used_slots s.live home))) (fewer_live shape s sound m within room))

    -- two numbers where two nodes have room
    pub second_left : (k : ℕ) → k < length shape.places → m ≢ k → load s k < shape.room → (n : ℕ) (mid : List ℕ) → ((q : ℕ) → is_listed mid q ≡ (is_listed numbers q && not (q == n))) → is_listed mid (least_free (n ∷ s.live)) ≡ true
    second_left k within_k apart room_k n mid less = least_free_is_listed (length shape.places * shape.room) (n ∷ s.live) mid (beside_first n mid less)
        (low _ _ _ (least_free_high (n ∷ s.live)) (two_fewer shape s sound m k within within_k apart room room_k))
      where
        low : (a b c : ℕ) → a ≤ suc b → b + 1 < c → a < c
        low a b c h k = omega arith

  -- a slot is free where a number is not alone in its own
  pub slot_left_beside : IsHoused s home → (q : ℕ) → is_listed s.live q ≡ true → (length (group_of s q) == 1) ≡ false → is_listed slots (least_free (used_slots s.live home)) ≡ true
  slot_left_beside housed q live_q more =
      let r = beside_at_home shape s home sound housed q live_q more in
      least_free_is_listed (length shape.places * shape.room) (used_slots s.live home) slots fits.slots_free
      (less _ _ _ (slot_beside s.live home q (r.0) (r.1) (r.2) (r.3) sound.live_once live_q) (few_live s.live (length shape.places * shape.room) sound.live_once sound.live_numbers))
    where
      less : (a b c : ℕ) → a < b → b ≤ c → a < c
      less a b c h k = omega arith

-- ---- steps
module _ (shape : Shape) (s : Network) (home : ℕ → ℕ) (c : Call) (word : ℕ) (numbers slots : List ℕ) (pairs : ℕ)
    (sound : IsSound shape s) (housed : IsHoused s home) (fits : FitsPool shape s home numbers slots pairs) where
  abbrev bound : ℕ
  bound = length shape.places * shape.room

  -- the pool fits the state after the call's effect
  abbrev pub Fits : List ℕ → List ℕ → ℕ → Type 0
  Fits numbers' slots' pairs' = FitsPool shape ((effect shape s c word).state) (homes_by s home c (kind_of c.command.instr)) numbers' slots' pairs'

  along : (k : Kind) → kind_of c.command.instr ≡ k → (numbers' slots' : List ℕ) (pairs' : ℕ) → FitsPool shape ((effect_of shape s c word k).state) (homes_by s home c k) numbers' slots' pairs' → Fits numbers' slots' pairs'
  unfolding effect
  along k is numbers' slots' pairs' h = subst (λ j. FitsPool shape ((effect_of shape s c word j).state) (homes_by s home c j) numbers' slots' pairs') (sym is) h

  -- a new qubit takes a number and a slot
  pub pool_new : kind_of c.command.instr ≡ Make → (numbers' slots' : List ℕ)
      → ((q : ℕ) → is_listed numbers' q ≡ (is_listed numbers q && not (q == least_free s.live)))
      → ((t : ℕ) → is_listed slots' t ≡ (is_listed slots t && not (t == least_free (used_slots s.live home))))
      → Fits numbers' slots' pairs
  pool_new is numbers' slots' less_numbers less_slots = along Make is numbers' slots' pairs made_new
    where
      made_new : FitsPool shape ((effect_of shape s c word Make).state) (homes_by s home c Make) numbers' slots' pairs
      made_new = unfold effect_of homes_by in (record {
        numbers_free = one_taken bound s.live numbers fits.numbers_free (least_free s.live) (s.live ++ least_free s.live ∷ []) numbers' less_numbers (listed_with s.live (least_free s.live));
        slots_free = one_taken bound (used_slots s.live home) slots fits.slots_free (least_free (used_slots s.live home)) _ slots' less_slots
            (used_with s.live home (least_free s.live) (least_free (used_slots s.live home)) (least_free_new s.live));
        made = fits.made;
      })

  -- a pair takes two numbers and a slot
  pub pool_pair : (r : Remote) → kind_of c.command.instr ≡ Pair r → (mid numbers' slots' : List ℕ)
      → ((q : ℕ) → is_listed mid q ≡ (is_listed numbers q && not (q == least_free s.live)))
      → ((q : ℕ) → is_listed numbers' q ≡ (is_listed mid q && not (q == least_free (least_free s.live ∷ s.live))))
      → ((t : ℕ) → is_listed slots' t ≡ (is_listed slots t && not (t == least_free (used_slots s.live home))))
      → Fits numbers' slots' ((pairs + 1) % 2 ^ 32)
  pool_pair r is mid numbers' slots' less_first less_second less_slots = along (Pair r) is numbers' slots' ((pairs + 1) % 2 ^ 32) made_pair
    where
      second_new : is_listed (s.live ++ least_free s.live ∷ []) (least_free (least_free s.live ∷ s.live)) ≡ false
      second_new = new_beside (least_free s.live) s.live (least_free (least_free s.live ∷ s.live)) (least_free_new (least_free s.live ∷ s.live))

      once_or : (a b : Bool) → ((a || b) || b) ≡ (a || b)
      once_or true b = refl
      once_or false true = refl
      once_or false false = refl

      -- the two numbers at the one slot
      used_pair : (home' : ℕ → ℕ) → home' ≡ moved (moved home (least_free s.live) (least_free (used_slots s.live home))) (least_free (least_free s.live ∷ s.live)) (least_free (used_slots s.live home))
          → (t : ℕ) → is_listed (used_slots (s.live ++ least_free s.live ∷ least_free (least_free s.live ∷ s.live) ∷ []) home') t ≡ (is_listed (used_slots s.live home) t || (t == least_free (used_slots s.live home)))
      used_pair home' e t =
          ap (λ l. is_listed (used_slots l home') t) (sym (append_assoc s.live (least_free s.live ∷ []) (least_free (least_free s.live ∷ s.live) ∷ [])))
          ∙ ap (λ h. is_listed (used_slots ((s.live ++ least_free s.live ∷ []) ++ least_free (least_free s.live ∷ s.live) ∷ []) h) t) e
          ∙ used_with (s.live ++ least_free s.live ∷ []) (moved home (least_free s.live) (least_free (used_slots s.live home))) (least_free (least_free s.live ∷ s.live)) (least_free (used_slots s.live home)) second_new t
          ∙ ap (λ b. b || (t == least_free (used_slots s.live home))) (used_with s.live home (least_free s.live) (least_free (used_slots s.live home)) (least_free_new s.live) t)
          ∙ once_or (is_listed (used_slots s.live home) t) (t == least_free (used_slots s.live home))

      live_pair : (q : ℕ) → is_listed (s.live ++ least_free s.live ∷ least_free (least_free s.live ∷ s.live) ∷ []) q ≡ (is_listed (s.live ++ least_free s.live ∷ []) q || (q == least_free (least_free s.live ∷ s.live)))
      live_pair q =
          ap (λ l. is_listed l q) (sym (append_assoc s.live (least_free s.live ∷ []) (least_free (least_free s.live ∷ s.live) ∷ [])))
          ∙ listed_with (s.live ++ least_free s.live ∷ []) (least_free (least_free s.live ∷ s.live)) q

      made_pair : FitsPool shape ((effect_of shape s c word (Pair r)).state) (homes_by s home c (Pair r)) numbers' slots' ((pairs + 1) % 2 ^ 32)
      made_pair = unfold effect_of homes_by in (record {
        numbers_free = one_taken bound (s.live ++ least_free s.live ∷ []) mid
            (one_taken bound s.live numbers fits.numbers_free (least_free s.live) (s.live ++ least_free s.live ∷ []) mid less_first (listed_with s.live (least_free s.live)))
            (least_free (least_free s.live ∷ s.live)) _ numbers' less_second live_pair;
        slots_free = one_taken bound (used_slots s.live home) slots fits.slots_free (least_free (used_slots s.live home)) _ slots' less_slots (used_pair _ refl);
        made = ap (λ n. (n + 1) % 2 ^ 32) fits.made;
      })

  -- ---- a qubit that leaves
  module _ (live_q : is_listed s.live (own_number s c) ≡ true) (told : Bool) (is : kind_of c.command.instr ≡ Measure TakenOut told) where
    removed : (numbers' slots' : List ℕ) → FitsPool shape (taken_out s c word) home numbers' slots' pairs → Fits numbers' slots' pairs
    unfolding effect_of homes_by measured
    removed numbers' slots' h = along (Measure TakenOut told) is numbers' slots' pairs h

    numbers_back : (numbers' : List ℕ) → ((q : ℕ) → is_listed numbers' q ≡ (is_listed numbers q || (q == own_number s c))) → AreFree bound (without s.live (own_number s c)) numbers'
    numbers_back numbers' more = one_freed bound s.live numbers fits.numbers_free (own_number s c) (sound.live_numbers (own_number s c) live_q) (without s.live (own_number s c)) numbers' more (is_listed-without s.live (own_number s c))

    -- from a group of its own, and its slot is free again
    pub pool_removed_alone : (length (group_of s (own_number s c)) == 1) ≡ true → home (own_number s c) < bound → (numbers' slots' : List ℕ)
        → ((q : ℕ) → is_listed numbers' q ≡ (is_listed numbers q || (q == own_number s c)))
        → ((t : ℕ) → is_listed slots' t ≡ (is_listed slots t || (t == home (own_number s c))))
        → Fits numbers' slots' pairs
    pool_removed_alone one within numbers' slots' more_numbers more_slots = removed numbers' slots' at
      where
        at : FitsPool shape (taken_out s c word) home numbers' slots' pairs
        at = unfold taken_out in (record {
          numbers_free = numbers_back numbers' more_numbers;
          slots_free = one_freed bound (used_slots s.live home) slots fits.slots_free (home (own_number s c)) within (used_slots (without s.live (own_number s c)) home) slots' more_slots
              (used_without_alone s.live home (own_number s c) (alone_at_home shape s home sound housed (own_number s c) live_q one));
          made = fits.made;
        })

    -- from a group with others
    pub pool_removed_beside : (length (group_of s (own_number s c)) == 1) ≡ false → (numbers' : List ℕ)
        → ((q : ℕ) → is_listed numbers' q ≡ (is_listed numbers q || (q == own_number s c)))
        → Fits numbers' slots pairs
    pool_removed_beside more numbers' more_numbers = removed numbers' slots at
      where
        at : FitsPool shape (taken_out s c word) home numbers' slots pairs
        at = let r = beside_at_home shape s home sound housed (own_number s c) live_q more in unfold taken_out in (record {
          numbers_free = numbers_back numbers' more_numbers;
          slots_free = λ t. fits.slots_free t ∙ ap (λ b. nat_lt t bound && not b) (sym (used_without_beside s.live home (own_number s c) (r.0) (r.1) (r.2) (r.3) t));
          made = fits.made;
        })

  -- ---- a qubit that gets a value of its own
  module _ (live_q : is_listed s.live (own_number s c) ≡ true) (k : Kind) (v : Bool) (is : kind_of c.command.instr ≡ k) (does : Leaves s home c word k v) where
    refreshed : (slots' : List ℕ) → FitsPool shape (left_as s c word v) (parted s home (own_number s c)) numbers slots' pairs → Fits numbers slots' pairs
    refreshed slots' h =
        along k is numbers slots' pairs
        (subst (λ (t : Network). FitsPool shape t (homes_by s home c k) numbers slots' pairs) (sym (does.state_is shape))
        (subst (λ (f : ℕ → ℕ). FitsPool shape (left_as s c word v) f numbers slots' pairs) (sym does.homes_are) h))

    -- in a group of its own, and nothing is taken
    pub pool_refreshed_alone : (length (group_of s (own_number s c)) == 1) ≡ true → Fits numbers slots pairs
    pool_refreshed_alone one = refreshed slots at
      where
        stays : (x : ℕ) → parted s home (own_number s c) x ≡ home x
        stays x = unfold parted in ap (λ t. cond t (home x) (moved home (own_number s c) (least_free (used_slots s.live home)) x)) one

        same : used_slots s.live (parted s home (own_number s c)) ≡ used_slots s.live home
        same = unfold used_slots in map_same (parted s home (own_number s c)) home s.live (λ x i. stays x)

        at : FitsPool shape (left_as s c word v) (parted s home (own_number s c)) numbers slots pairs
        at = unfold left_as in (record {
          numbers_free = fits.numbers_free;
          slots_free = λ t. fits.slots_free t ∙ ap (λ l. nat_lt t bound && not (is_listed l t)) (sym same);
          made = fits.made;
        })

    -- out of a group with others, into a free slot
    pub pool_refreshed_beside : (length (group_of s (own_number s c)) == 1) ≡ false → (slots' : List ℕ)
        → ((t : ℕ) → is_listed slots' t ≡ (is_listed slots t && not (t == least_free (used_slots s.live home))))
        → Fits numbers slots' pairs
    pool_refreshed_beside more slots' less = refreshed slots' at
      where
        moves : (x : ℕ) → parted s home (own_number s c) x ≡ moved home (own_number s c) (least_free (used_slots s.live home)) x
        moves x = unfold parted in ap (λ t. cond t (home x) (moved home (own_number s c) (least_free (used_slots s.live home)) x)) more

        same : used_slots s.live (parted s home (own_number s c)) ≡ used_slots s.live (moved home (own_number s c) (least_free (used_slots s.live home)))
        same = unfold used_slots in map_same (parted s home (own_number s c)) (moved home (own_number s c) (least_free (used_slots s.live home))) s.live (λ x i. moves x)

        at : FitsPool shape (left_as s c word v) (parted s home (own_number s c)) numbers slots' pairs
        at = let r = beside_at_home shape s home sound housed (own_number s c) live_q more in unfold left_as in (record {
          numbers_free = fits.numbers_free;
          slots_free = one_taken bound (used_slots s.live home) slots fits.slots_free (least_free (used_slots s.live home)) (used_slots s.live (parted s home (own_number s c))) slots' less
              (λ t. ap (λ l. is_listed l t) same ∙ used_moved_beside s.live home (own_number s c) (r.0) (r.1) (r.2) (r.3) (least_free (used_slots s.live home)) live_q t);
          made = fits.made;
        })

  -- ---- two groups that become one: the other's slot is free again
  pub pool_united : (g : Two) (id : ℕ) → kind_of c.command.instr ≡ TwoGate g id
      → is_listed s.live (own_number s c) ≡ true → is_listed s.live (other_number s c id) ≡ true
      → (s.label (own_number s c) == s.label (other_number s c id)) ≡ false → home (other_number s c id) < bound → (slots' : List ℕ)
      → ((t : ℕ) → is_listed slots' t ≡ (is_listed slots t || (t == home (other_number s c id))))
      → Fits numbers slots' pairs
  pool_united g id is live_p live_q apart within slots' more = along (TwoGate g id) is numbers slots' pairs (unfold effect_of homes_by in at)
    where
      at : FitsPool shape ((after_two s c g id).state) (gathered home (own_number s c) (other_number s c id)) numbers slots' pairs
      at = unfold after_two quiet in (record {
        numbers_free = fits.numbers_free;
        slots_free = one_freed bound (used_slots s.live home) slots fits.slots_free (home (other_number s c id)) within _ slots' more
            (used_gathered s.live home (own_number s c) (other_number s c id) live_p live_q (ne_of _ _ (housed (own_number s c) (other_number s c id) live_p live_q ∙ apart)));
        made = fits.made;
      })
