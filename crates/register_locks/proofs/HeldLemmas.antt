-- Slots by their numbers.
use Rattle.std.proofs.Common.{◌≡◌, ℕ, zero, suc, ◌+◌, ◌<◌, ◌≤◌, List, [], ◌∷◌, ◌++◌, length, set, get_or, Some, None, slice_get, refl, ap, sym, ◌∙◌, arith, eq-eqb, ne_eqb, subst, length-set, get_or-set_same, get_or-set_other, lt_of_not-le}
use Rattle.std.proofs.lemmas.Bool.{false≢true}
use Rattle.std.specs.Prelude.{is_some, IsTrue, nat_lt, Bool, true, false}
use Rattle.std.proofs.lemmas.Bool.Decides.{nat_tests}
use mathlib.Core.Logic.{dite}
use native.Mathlib.Decide.{dec_le, ℕ_discrete}
use Rattle.std.specs.Prelude.{if◌then◌else◌, IsSome, All}
use Rattle.std.specs.Box.{with_value}
use Rattle.register_locks.specs.declared.slot.Slot.{Slot}
use Rattle.register_locks.specs.Slots.{place_with, slot_number, slot_value, slot_with, numbers, held, held_with, RisesTo}

module _ {T : Type 0} where
  -- no slot before the place has the number
  abbrev pub Before : List (Slot T) → ℕ → ℕ → Type 0
  Before ss n place = (k : ℕ) (u : Slot T) → k < place → slice_get ss k ≡ Some u → slot_number u ≡ n → ⊥

  before_rest : (x : Slot T) (ss : List (Slot T)) (n place : ℕ) → Before (x ∷ ss) n (suc place) → Before ss n place
  before_rest x ss n place b k u lt at = b (suc k) u (omega arith) at

  first_other : (x : Slot T) (ss : List (Slot T)) (n place : ℕ) → Before (x ∷ ss) n (suc place) → slot_number x ≡ n → ⊥
  first_other x ss n place b = b zero x (omega arith) refl

  pub held_at : (ss : List (Slot T)) (n place : ℕ) (s : Slot T) → Before ss n place → slice_get ss place ≡ Some s → slot_number s ≡ n → held ss n ≡ slot_value s
  held_at [] n place s b at is = absurd (cc (at))
  held_at (x ∷ ss) n zero s b at is =
      let same : x ≡ s = cc (at) in
      ap (λ t. if t then slot_value x else held ss n) (eq-eqb x.number n (ap slot_number same ∙ is)) ∙ ap slot_value same
  held_at (x ∷ ss) n (suc place) s b at is =
      ap (λ t. if t then slot_value x else held ss n) (ne_eqb x.number n (first_other x ss n place b)) ∙ held_at ss n place s (before_rest x ss n place b) at is

  pub held_none : (ss : List (Slot T)) (n : ℕ) → Before ss n (length ss) → held ss n ≡ None
  held_none [] n b = refl
  held_none (x ∷ ss) n b =
      ap (λ t. if t then slot_value x else held ss n) (ne_eqb x.number n (b zero x (omega arith) refl)) ∙ held_none ss n (λ k u lt at. b (suc k) u (omega arith) at)

  -- the value of a number is replaced at the place of its slot
  pub held_with_at : (ss : List (Slot T)) (n place : ℕ) (s : Slot T) (w : T) → Before ss n place → slice_get ss place ≡ Some s → slot_number s ≡ n
      → place_with ss place w ≡ held_with ss n w
  held_with_at [] n place s w b at is = absurd (cc (at))
  held_with_at (x ∷ ss) n zero s w b at is =
      let same : x ≡ s = cc (at) in
      sym (ap (λ t. if t then slot_with x w ∷ ss else (x ∷ held_with ss n w)) (eq-eqb x.number n (ap slot_number same ∙ is)))
  held_with_at (x ∷ ss) n (suc place) s w b at is =
      ap (λ l. x ∷ l) (held_with_at ss n place s w (before_rest x ss n place b) at is)
      ∙ sym (ap (λ t. if t then slot_with x w ∷ ss else (x ∷ held_with ss n w)) (ne_eqb x.number n (first_other x ss n place b)))

  pub numbers-set : (ss : List (Slot T)) (place : ℕ) (s u : Slot T) → slice_get ss place ≡ Some s → slot_number u ≡ slot_number s → numbers (set ss place u) ≡ numbers ss
  numbers-set [] place s u at is = refl
  numbers-set (x ∷ ss) zero s u at is =
      let same : x ≡ s = cc (at) in ap (λ (m : ℕ). m ∷ numbers ss) (is ∙ ap slot_number (sym same))
  numbers-set (x ∷ ss) (suc place) s u at is = ap (λ l. slot_number x ∷ l) (numbers-set ss place s u at is)

-- a fact of all, and of one more
pub all_more : {A : Type 0} (P : A → Type 0) (xs : List A) (x : A) → All P xs → P x → All P (xs ++ x ∷ [])
all_more P [] x all here zero d h = here
all_more P [] x all here (suc k) d h = absurd (omega arith)
all_more P (y ∷ xs) x all here zero d h = all zero d (omega arith)
all_more P (y ∷ xs) x all here (suc k) d h = all_more P xs x (λ j e l. all (suc j) e (omega arith)) here k d (omega arith)

module _ {T : Type 0} where
  pub some_with : (s : Slot T) (w : T) → IsSome (slot_value s) → slot_value (slot_with s w) ≡ Some w
  some_with s w = elim s.value as (λ o. is_some (elim o [ Some b ↦ Some b.value | None ↦ None ]) ≡ true → slot_value (record { number = s.number; value = elim o [ Some b ↦ Some (with_value b w) | None ↦ None ] }) ≡ Some w) [
    | Some b ↦ λ h. refl
    | None ↦ λ h. absurd (false≢true h)
  ]

  -- every slot has its value
  abbrev pub Full : List (Slot T) → Type 0
  Full ss = All (λ s. IsSome (slot_value s)) ss

  pub full_set : (ss : List (Slot T)) (i : ℕ) (u : Slot T) → Full ss → IsSome (slot_value u) → Full (set ss i u)
  full_set ss i u full some k d h = dite (ℕ_discrete k i)
      (λ is. subst (λ (x : Slot T). IsSome (slot_value x)) (sym (ap (λ (m : ℕ). get_or (set ss i u) m d) is ∙ get_or-set_same ss i u d (omega (arith, length-set ss i u, is)))) some)
      (λ apart. subst (λ (x : Slot T). IsSome (slot_value x)) (sym (get_or-set_other ss i k u d apart)) (full k d (omega (arith, length-set ss i u))))

  pub get_at : (ss : List (Slot T)) (i : ℕ) (s : Slot T) → i < length ss → s ≡ get_or ss i s → slice_get ss i ≡ Some s
  get_at [] i s h is = absurd (omega arith)
  get_at (x ∷ ss) zero s h is = ap Some (sym is)
  get_at (x ∷ ss) (suc i) s h is = get_at ss i s (omega arith) is

  pub some_there : (ss : List (Slot T)) (i : ℕ) → i < length ss → (s : Slot T) × (slice_get ss i ≡ Some s)
  some_there [] i h = absurd (omega arith)
  some_there (x ∷ ss) zero h = (x, refl)
  some_there (x ∷ ss) (suc i) h = some_there ss i (omega arith)

  pub full_at : (ss : List (Slot T)) (i : ℕ) (s : Slot T) → Full ss → slice_get ss i ≡ Some s → IsSome (slot_value s)
  full_at [] i s full at = absurd (cc (at))
  full_at (x ∷ ss) zero s full at = let same : x ≡ s = cc (at) in subst (λ (u : Slot T). IsSome (slot_value u)) same (full zero x (omega arith))
  full_at (x ∷ ss) (suc i) s full at = full_at ss i s (λ j e l. full (suc j) e (omega arith)) at

  pub none_past : (ss : List (Slot T)) (n place : ℕ) → length ss ≡ place → Before ss n place → held ss n ≡ None
  none_past ss n place is before = held_none ss n (subst (λ (k : ℕ). Before ss n k) (sym is) before)

  pub place_within : (ss : List (Slot T)) (n place : ℕ) → place ≤ length ss → Before ss n place → IsSome (held ss n) → place < length ss
  place_within ss n place within before some = dite (dec_le (length ss) place)
      (λ le. absurd (false≢true (sym (ap is_some (none_past ss n place (omega arith) before)) ∙ some)))
      (λ not. lt_of_not-le not)

  -- the place that was found for a number that is held, in a slice of the slots
  pub found_within : (sliced ss : List (Slot T)) (n place : ℕ) → sliced ≡ ss → place ≤ length sliced → Before sliced n place → IsSome (held ss n) → place < length ss
  found_within sliced ss n place same within before some = place_within ss n place (omega (arith, ap length same)) (subst (λ (l : List (Slot T)). Before l n place) same before) some

  has_cases : (b : Bool) (ss : List (Slot T)) (n place : ℕ) → nat_lt place (length ss) ≡ b → place ≤ length ss → Before ss n place → ((s : Slot T) → slice_get ss place ≡ Some s → slot_number s ≡ n) → Full ss
      → (IsTrue b → IsSome (held ss n)) × (IsSome (held ss n) → IsTrue b)
  has_cases true ss n place is within before there full = (
    (λ _. let at = some_there ss place (grind (arith, nat_tests)) in
        ap is_some (held_at ss n place at.0 before at.1 (there at.0 at.1)) ∙ full_at ss place at.0 full at.1),
    (λ _. refl),
  )
  has_cases false ss n place is within before there full = (
    (λ h. absurd (false≢true h)),
    (λ some. let past : length ss ≤ place = grind (arith, nat_tests) in
        absurd (false≢true (sym (ap is_some (none_past ss n place (omega arith) before)) ∙ some))),
  )

  pub has_is : (ss : List (Slot T)) (n place : ℕ) → place ≤ length ss → Before ss n place → ((s : Slot T) → slice_get ss place ≡ Some s → slot_number s ≡ n) → Full ss
      → (IsTrue (nat_lt place (length ss)) → IsSome (held ss n)) × (IsSome (held ss n) → IsTrue (nat_lt place (length ss)))
  has_is ss n place within before there full = has_cases (nat_lt place (length ss)) ss n place refl within before there full

  pub numbers-snoc : (ss : List (Slot T)) (u : Slot T) → numbers (ss ++ u ∷ []) ≡ numbers ss ++ slot_number u ∷ []
  numbers-snoc [] u = refl
  numbers-snoc (x ∷ ss) u = ap (λ l. slot_number x ∷ l) (numbers-snoc ss u)

module _ {T : Type 0} where
  pub place_with_at : (ss : List (Slot T)) (k : ℕ) (s : Slot T) (w : T) → slice_get ss k ≡ Some s → place_with ss k w ≡ set ss k (slot_with s w)
  place_with_at [] k s w at = absurd (cc (at))
  place_with_at (x ∷ ss) zero s w at = let same : x ≡ s = cc (at) in ap (λ (u : Slot T). slot_with u w ∷ ss) same
  place_with_at (x ∷ ss) (suc k) s w at = ap (λ l. x ∷ l) (place_with_at ss k s w at)

pub rises_more : (a : ℕ) (ns : List ℕ) (b n : ℕ) → RisesTo a ns b → All (λ m. m < n) ns → a ≤ n → n < b → RisesTo a (ns ++ n ∷ []) b
rises_more a [] b n r all le lt = (le, omega arith)
rises_more a (m ∷ ns) b n r all le lt = (r.0, rises_more (m + 1) ns b n r.1 (λ k d h. all (suc k) d (omega arith)) (let first = all zero zero (omega arith) in omega arith) lt)
