-- Turns that add nothing, and turns that add one entry.
use Rattle.std.proofs.Common.{◌≡◌, ℕ, zero, suc, ◌+◌, ◌<◌, ◌≤◌, Bool, true, false, ◌&&◌, List, [], ◌∷◌, ◌++◌, length, Option, None, Some, refl, sym, ap, subst, ◌∙◌, arith, length-append}
use Rattle.std.specs.Prelude.{replicate, if◌then◌else◌, nat_lt, nat_le}
use Rattle.std.proofs.lemmas.Bool.Decides.{nat_tests}
use Rattle.network_model.specs.Network.{Shape}
use Rattle.network_model.specs.declared.Call.{Call}
use Rattle.network_model.specs.declared.Entry.{Entry}
use Rattle.session_model.specs.Walk.{Said}
use Rattle.session_model.specs.Turns.{Actor, said_by, fits_room, IsTurn, IsTurnOf, IsTurnEntry, AreTurns, turn_call}

-- the call of a turn, by its parts
abbrev call_by : Bool → Bool → Option Call → Option Call
call_by room fits due = if room && fits then due else None

-- nothing is due
pub idle_by_due : (capacity : ℕ) (m : Actor) (h : List Entry) → (said_by m h).due ≡ None → turn_call capacity m h ≡ None
idle_by_due capacity m h none = ap (call_by (nat_lt (length h) capacity) (fits_room m.room (said_by m h).text)) none ∙ either (nat_lt (length h) capacity) (fits_room m.room (said_by m h).text)
  where
    either : (a b : Bool) → call_by a b None ≡ None
    either true true = refl
    either true false = refl
    either false b = refl

-- what was said doesn't fit the sink
pub idle_by_room : (capacity : ℕ) (m : Actor) (h : List Entry) (room : ℕ) → m.room ≡ Some room → room < length (said_by m h).text → turn_call capacity m h ≡ None
idle_by_room capacity m h room is long =
    let short : fits_room m.room (said_by m h).text ≡ false =
    ap (λ (o : Option ℕ). fits_room o (said_by m h).text) is ∙ less (length (said_by m h).text) room long in
    ap (λ (b : Bool). call_by (nat_lt (length h) capacity) b (said_by m h).due) short ∙ either (nat_lt (length h) capacity)
  where
    less : (n r : ℕ) → r < n → nat_le n r ≡ false
    less n r lt = grind (arith, nat_tests)

    either : (a : Bool) → call_by a false (said_by m h).due ≡ None
    either true = refl
    either false = refl

-- a call is due, there is room for its entry, and what was said fits the sink
pub adds_by : (shape : Shape) (capacity : ℕ) (m : Actor) (h : List Entry) (e : Entry) (said : Said) → said_by m h ≡ said → length h < capacity
    → fits_room m.room said.text ≡ true → said.due ≡ Some e.call → IsTurnEntry shape m h e.call e → IsTurn shape capacity m h (h ++ e ∷ [])
adds_by shape capacity m h e said is room fits due entry =
    let call : turn_call capacity m h ≡ Some e.call =
    ap (λ (s : Said). call_by (nat_lt (length h) capacity) (fits_room m.room s.text) s.due) is
    ∙ ap (λ (b : Bool). call_by b (fits_room m.room said.text) said.due) (less (length h) capacity room)
    ∙ ap (λ (b : Bool). call_by true b said.due) fits
    ∙ due in
    subst (IsTurnOf shape m h (h ++ e ∷ [])) (sym call) (e, entry, refl)
  where
    less : (n r : ℕ) → n < r → nat_lt n r ≡ true
    less n r lt = grind (arith, nat_tests)

-- a turn of an actor whose turn adds nothing
pub idle_turn : (shape : Shape) (capacity : ℕ) (m : Actor) (h : List Entry) → turn_call capacity m h ≡ None → IsTurn shape capacity m h h
idle_turn shape capacity m h none = subst (IsTurnOf shape m h h) (sym none) refl

idle_turns : (shape : Shape) (capacity : ℕ) (m : Actor) (n : ℕ) (h : List Entry) → turn_call capacity m h ≡ None → AreTurns shape capacity (replicate n m) h h
idle_turns shape capacity m zero h none = refl
idle_turns shape capacity m (suc n) h none = (h, idle_turn shape capacity m h none, idle_turns shape capacity m n h none)

turn_grows : (shape : Shape) (m : Actor) (h next : List Entry) (c : Option Call) → IsTurnOf shape m h next c → length h ≤ length next
turn_grows shape m h next None f = subst (λ (k : List Entry). length h ≤ length k) (sym f) (omega arith)
turn_grows shape m h next (Some c) f = subst (λ (k : List Entry). length h ≤ length k) (sym f.2) (omega (arith, length-append h (f.0 ∷ [])))

turns_grow : (shape : Shape) (capacity : ℕ) (takers : List Actor) (h last : List Entry) → AreTurns shape capacity takers h last → length h ≤ length last
turns_grow shape capacity [] h last f = subst (λ (k : List Entry). length h ≤ length k) (sym f) (omega arith)
turns_grow shape capacity (m ∷ takers) h last f =
    omega (arith, turn_grows shape m h f.0 (turn_call capacity m h) f.1, turns_grow shape capacity takers f.0 last f.2)

-- turns up to one that adds nothing are as many turns as there may be entries more
module _ (shape : Shape) (capacity : ℕ) (m : Actor) (last : List Entry) (none : turn_call capacity m last ≡ None) where
  -- of the turns behind the first, as many as there may be entries more than behind it
  abbrev Enough : List Entry → Type 0
  Enough h = (n : ℕ) → length last ≤ length h + n → AreTurns shape capacity (replicate n m) h last

  turns_more : (h next : List Entry) (c : Option Call) → turn_call capacity m h ≡ c → IsTurn shape capacity m h next → length next ≤ length last → Enough next → Enough h
  turns_more h next None idle turn long rest n few =
      let stays : next ≡ h = subst (IsTurnOf shape m h next) idle turn in
      subst (λ (k : List Entry). AreTurns shape capacity (replicate n m) k last) stays (rest n (omega (arith, few, ap length stays)))
  turns_more h next (Some c) some turn long rest zero few =
      let grown = subst (IsTurnOf shape m h next) some turn in
      absurd (omega (arith, few, long, ap length grown.2, length-append h (grown.0 ∷ [])))
  turns_more h next (Some c) some turn long rest (suc n) few =
      let grown = subst (IsTurnOf shape m h next) some turn in
      (next, turn, rest n (omega (arith, few, ap length grown.2, length-append h (grown.0 ∷ []))))

  pub turns_to_end : (t : ℕ) (h : List Entry) → AreTurns shape capacity (replicate t m) h last → Enough h
  turns_to_end zero h f n few = subst (λ (k : List Entry). AreTurns shape capacity (replicate n m) k last) f (idle_turns shape capacity m n last none)
  turns_to_end (suc t) h f n few =
      turns_more h f.0 (turn_call capacity m h) refl f.1 (turns_grow shape capacity (replicate t m) f.0 last f.2) (turns_to_end t f.0 f.2) n few

-- turns one after the other
pub turns_on : (shape : Shape) (capacity : ℕ) (one two : List Actor) (h mid last : List Entry) → AreTurns shape capacity one h mid → AreTurns shape capacity two mid last
    → AreTurns shape capacity (one ++ two) h last
turns_on shape capacity [] two h mid last f g = subst (λ (k : List Entry). AreTurns shape capacity two k last) f g
turns_on shape capacity (m ∷ one) two h mid last f g = (f.0, f.1, turns_on shape capacity one two f.0 mid last f.2 g)
