-- Locks that are taken in rising order.
use Rattle.std.proofs.Common.{ℕ, zero, suc, ◌≡◌, ◌⊎◌, inl, inr, ⊎_elim, ◌+◌, ◌<◌, ◌≤◌, List, [], ◌∷◌, ◌++◌, Some, slice_get, refl, sym, ap, subst, ◌∙◌, arith}
use Rattle.std.specs.Prelude.{All}
use Rattle.register_locks.specs.declared.slot.Slot.{Slot as Place}
use Rattle.register_locks.specs.Slots.{slot_number, slot_value, numbers, RisesTo}
use Rattle.register_locks.proofs.HeldLemmas.{numbers-snoc}
use Rattle.commit_journal.specs.Views.{Stamp}
use Rattle.hub_cells.specs.declared.cell.Cell.{Cell}
use Rattle.quantum_hub.specs.Tries.{AreTaken, AreApart}

same_some : {A : Type 0} (a b : A) → Some a ≡ Some b → a ≡ b
same_some a b e = cc (e)

-- ---- one more
all_more : (ns : List ℕ) (m n : ℕ) → All (λ x. x < m) ns → m ≤ n → All (λ x. x < n + 1) (ns ++ n ∷ [])
all_more [] m n all le zero d h = omega arith
all_more [] m n all le (suc k) d h = absurd (omega arith)
all_more (x ∷ ns) m n all le zero d h = let first = all zero d (omega arith) in omega arith
all_more (x ∷ ns) m n all le (suc k) d h = all_more ns m n (λ j e l. all (suc j) e (omega arith)) le k d (omega arith)

get_snoc : {T : Type 0} (xs : List T) (e u : T) (i : ℕ) → slice_get (xs ++ e ∷ []) i ≡ Some u → (slice_get xs i ≡ Some u) ⊎ (e ≡ u)
get_snoc [] e u zero at = inr (cc (at))
get_snoc [] e u (suc i) at = absurd (cc (at))
get_snoc (x ∷ xs) e u zero at = inl at
get_snoc (x ∷ xs) e u (suc i) at = get_snoc xs e u i at

pub taken_more : (old new : List (Place (Stamp Cell))) (next number : ℕ) → AreTaken old next → next ≤ number
    → (s : Place (Stamp Cell)) × (v : Stamp Cell) × (new ≡ old ++ s ∷ []) × (slot_number s ≡ number) × (slot_value s ≡ Some v) × (v.number ≡ number) → AreTaken new (number + 1)
taken_more old new next number taken le t = subst (λ (ss : List (Place (Stamp Cell))). AreTaken ss (number + 1)) (sym t.2) (record {
  below = subst (λ (ns : List ℕ). All (λ n. n < number + 1) ns) (sym (numbers-snoc old t.0 ∙ ap (λ n. numbers old ++ n ∷ []) t.3)) (all_more (numbers old) next number taken.below le);
  numbered = λ i s c at is. ⊎_elim (λ there. taken.numbered i s c there is)
      (λ here. let e : t.1 ≡ c = same_some t.1 c (sym t.4 ∙ ap slot_value here ∙ is) in sym (ap (λ (w : Stamp Cell). w.number) e) ∙ t.5 ∙ sym t.3 ∙ ap slot_number here)
      (get_snoc old t.0 s i at);
})

pub taken_none : (ss : List (Place (Stamp Cell))) → ss ≡ [] → AreTaken ss 0
taken_none ss none = subst (λ (l : List (Place (Stamp Cell))). AreTaken l 0) (sym none) (record {
  below = λ k d h. absurd (omega arith);
  numbered = λ i s c at is. absurd (cc (at));
})

-- ---- numbers that rise stand at one place each
rises_above : (ns : List ℕ) (a b i x : ℕ) → RisesTo a ns b → slice_get ns i ≡ Some x → a ≤ x
rises_above [] a b i x rises at = absurd (cc (at))
rises_above (n ∷ ns) a b zero x rises at = let e : n ≡ x = same_some n x at in let le = rises.0 in omega arith
rises_above (n ∷ ns) a b (suc i) x rises at = let le = rises.0 in let r = rises_above ns (n + 1) b i x rises.1 at in omega arith

one_place : (ns : List ℕ) (a b i j x : ℕ) → RisesTo a ns b → slice_get ns i ≡ Some x → slice_get ns j ≡ Some x → i ≡ j
one_place [] a b i j x rises at_i at_j = absurd (cc (at_i))
one_place (n ∷ ns) a b zero zero x rises at_i at_j = refl
one_place (n ∷ ns) a b zero (suc j) x rises at_i at_j = let e : n ≡ x = same_some n x at_i in let r = rises_above ns (n + 1) b j x rises.1 at_j in absurd (omega arith)
one_place (n ∷ ns) a b (suc i) zero x rises at_i at_j = let e : n ≡ x = same_some n x at_j in let r = rises_above ns (n + 1) b i x rises.1 at_i in absurd (omega arith)
one_place (n ∷ ns) a b (suc i) (suc j) x rises at_i at_j = ap suc (one_place ns (n + 1) b i j x rises.1 at_i at_j)

number_there : {T : Type 0} (ss : List (Place T)) (i : ℕ) (s : Place T) → slice_get ss i ≡ Some s → slice_get (numbers ss) i ≡ Some (slot_number s)
number_there [] i s at = absurd (cc (at))
number_there (x ∷ ss) zero s at = ap (λ u. Some (slot_number u)) (same_some x s at)
number_there (x ∷ ss) (suc i) s at = number_there ss i s at

pub are_apart : (ss : List (Place (Stamp Cell))) (next count : ℕ) → RisesTo 0 (numbers ss) count → AreTaken ss next → AreApart ss
are_apart ss next count rises taken c d held_c held_d same =
    let number_c : c.number ≡ slot_number held_c.1 = taken.numbered held_c.0 held_c.1 c held_c.2 held_c.3 in
    let number_d : d.number ≡ slot_number held_d.1 = taken.numbered held_d.0 held_d.1 d held_d.2 held_d.3 in
    let place : held_c.0 ≡ held_d.0 = one_place (numbers ss) 0 count held_c.0 held_d.0 (slot_number held_c.1) rises (number_there ss held_c.0 held_c.1 held_c.2)
    (number_there ss held_d.0 held_d.1 held_d.2 ∙ ap Some (sym number_d ∙ sym same ∙ number_c)) in
    let slot : held_c.1 ≡ held_d.1 = same_some held_c.1 held_d.1 (sym held_c.2 ∙ ap (slice_get ss) place ∙ held_d.2) in
    same_some c d (sym held_c.3 ∙ ap slot_value slot ∙ held_d.3)
