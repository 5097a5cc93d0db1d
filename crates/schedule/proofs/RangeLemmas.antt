-- The numbers of a schedule that a text says are in their ranges, since each line keeps them so.
use Rattle.std.proofs.Common.{◌≡◌, ℕ, ◌+◌, ◌<◌, ◌≤◌, List, [], ◌∷◌, ◌++◌, map, length, codes, Option, Some, None, Ok, Err, cond, option_and_then, subst, inl, inr, arith, length-append, nat_lt, nat_le, replicate}
use Rattle.std.specs.List.{All}
use Rattle.std.specs.Str.{bytes_eq}
use Rattle.std.proofs.lemmas.Bool.{cases_Bool, ltb-true, leb-true}
use Rattle.std.proofs.lemmas.List.Elements.{All-nil, All-push, All-append, All-replicate, All-weaker, All-cons, All-head, All-tail}
use Rattle.std.proofs.lemmas.List.{length-map, length-replicate}
use Rattle.text_lines.specs.Lines.{lines, content}
use Rattle.text_lines.specs.Words.{words, number_up_to}
use Rattle.text_lines.specs.Reading.{is_passed_over}
use Rattle.text_lines.proofs.ReadingLemmas.{found, passed, read_lines-keeps}
use Rattle.text_lines.proofs.NumberLemmas.{number_up_to-Some}
use Rattle.schedule.specs.declared.plans.Schedule.{Schedule}
use Rattle.schedule.specs.declared.plans.Why.TheVariants.{Word, Number, Count, Hex, Many}
use Rattle.schedule.specs.Plans.{Plan, Plans, no_plans, with_plan, with_turns}
use Rattle.schedule.specs.Schedule.{below, turns_in, input_of, connection_line, turns_line, line_of, take_line, schedule_of}
use Rattle.schedule.specs.Views.{plan, plans}
use Rattle.schedule.specs.Ranges.{IsInRange}

-- the ranges, of a schedule as the definition says it
pub record AreInRange (nodes : ℕ) (s : Plans) : Type 0 where
  pub few : length s.plans ≤ 64
  pub places : All (λ p. p.node < nodes) s.plans
  pub rooms : All (λ p. p.room ≤ 1_048_576) s.plans
  pub turns : length s.order ≤ 1_048_576
  pub order : All (λ k. k < length s.plans) s.order

-- ---- what a line found
below-Some : (end n : ℕ) (o : Option ℕ) → option_and_then (λ m. cond (nat_lt m end) (Some m) None) o ≡ Some n → n < end
below-Some end n None e = let none : None ≡ Some n = e in absurd cc
below-Some end n (Some m) e =
    elim (cases_Bool (nat_lt m end)) [
      | inl inside ↦ let some : Some m ≡ Some n = rw inside at e in let same : m ≡ n = cc in omega (arith, ltb-true m end inside)
      | inr beyond ↦ let none : None ≡ Some n = rw beyond at e in absurd cc
    ]

-- ---- what lines keep
-- one more connection
keeps-plan : (nodes : ℕ) (s : Plans) (p : Plan) → length s.plans < 64 → p.node < nodes → p.room ≤ 1_048_576 → AreInRange nodes s → AreInRange nodes (with_plan s p)
keeps-plan nodes s p few node room within =
    let more : length (s.plans ++ p ∷ []) ≡ length s.plans + 1 = length-append s.plans (p ∷ []) in record {
      few = omega arith;
      places = All-push (λ q. q.node < nodes) s.plans p within.places node;
      rooms = All-push (λ q. q.room ≤ 1_048_576) s.plans p within.rooms room;
      turns = within.turns;
      order = All-weaker (λ k. k < length s.plans) (λ k. k < length (s.plans ++ p ∷ [])) (λ k known. omega (arith, known)) s.order within.order;
    }

-- turns more
keeps-turns : (nodes : ℕ) (s : Plans) (k n : ℕ) → k < length s.plans → length s.order + n ≤ 1_048_576 → AreInRange nodes s → AreInRange nodes (with_turns s k n)
keeps-turns nodes s k n known few within =
    let Known : ℕ → Type 0 = λ j. j < length s.plans in record {
      few = within.few;
      places = within.places;
      rooms = within.rooms;
      turns = rw (length-append s.order (replicate n k), length-replicate n k) few;
      order = All-append Known s.order (replicate n k) within.order (All-replicate Known n k known);
    }

keeps-connection_line : (nodes : ℕ) (s next : Plans) (operands : List (List ℕ)) → connection_line nodes s operands ≡ Ok next → AreInRange nodes s → AreInRange nodes next
unfolding connection_line
keeps-connection_line nodes s next (node ∷ room ∷ input ∷ []) e within =
    let (n, is_node, e₁) = found (below nodes node) Number _ next e in
    let (r, is_room, e₂) = found (number_up_to 1_048_576 room) Number _ next e₁ in
    let (bytes, _, e₃) = found (input_of input) Hex _ next e₂ in
    let (few, same) = passed (nat_lt (length s.plans) 64) Many _ next e₃ in
    subst (AreInRange nodes) same
    (keeps-plan nodes s _ (ltb-true _ _ few) (below-Some nodes n (number_up_to 255 node) is_node) (number_up_to-Some _ room r is_room).1 within)
keeps-connection_line nodes s next [] e within = let none : Err Count ≡ Ok next = e in absurd cc
keeps-connection_line nodes s next (node ∷ []) e within = let none : Err Count ≡ Ok next = e in absurd cc
keeps-connection_line nodes s next (node ∷ room ∷ []) e within = let none : Err Count ≡ Ok next = e in absurd cc
keeps-connection_line nodes s next (node ∷ room ∷ input ∷ more ∷ operands) e within = let none : Err Count ≡ Ok next = e in absurd cc

keeps-turns_line : (nodes : ℕ) (s next : Plans) (operands : List (List ℕ)) → turns_line s operands ≡ Ok next → AreInRange nodes s → AreInRange nodes next
unfolding turns_line
keeps-turns_line nodes s next (connection ∷ count ∷ []) e within =
    let (k, is_known, e₁) = found (below (length s.plans) connection) Number _ next e in
    let (n, _, e₂) = found (turns_in count) Number _ next e₁ in
    let (few, same) = passed (nat_le (length s.order + n) 1_048_576) Many _ next e₂ in
    subst (AreInRange nodes) same
    (keeps-turns nodes s k n (below-Some _ k (number_up_to 255 connection) is_known) (leb-true _ _ few) within)
keeps-turns_line nodes s next [] e within = let none : Err Count ≡ Ok next = e in absurd cc
keeps-turns_line nodes s next (connection ∷ []) e within = let none : Err Count ≡ Ok next = e in absurd cc
keeps-turns_line nodes s next (connection ∷ count ∷ more ∷ operands) e within = let none : Err Count ≡ Ok next = e in absurd cc

keeps-line_of : (nodes : ℕ) (s next : Plans) (words : List (List ℕ)) → line_of nodes s words ≡ Ok next → AreInRange nodes s → AreInRange nodes next
keeps-line_of nodes s next [] e within = let none : Err Word ≡ Ok next = e in absurd cc
keeps-line_of nodes s next (word ∷ operands) e within =
    elim (cases_Bool (bytes_eq word (codes "c"))) [
      | inl c ↦ keeps-connection_line nodes s next operands (rw c at e) within
      | inr other ↦
          elim (cases_Bool (bytes_eq word (codes "s"))) [
            | inl s ↦ keeps-turns_line nodes _ next operands (rw (other, s) at e) within
            | inr none ↦ let refused : Err Word ≡ Ok next = rw (other, none) at e in absurd cc
          ]
    ]

keeps-take_line : (nodes : ℕ) (s next : Plans) (line : List ℕ) → take_line nodes s line ≡ Ok next → AreInRange nodes s → AreInRange nodes next
keeps-take_line nodes s next line e within =
    elim (cases_Bool (is_passed_over (content line))) [
      | inl over ↦ let same : Ok s ≡ Ok next = rw over at e in let is : s ≡ next = cc in subst (AreInRange nodes) is within
      | inr read ↦ keeps-line_of nodes s next (words (content line)) (rw read at e) within
    ]

-- ---- of the code's schedule
All-of_map : {X Y : Type 0} (P : X → Type 0) (f : Y → X) (ys : List Y) → All P (map f ys) → All (λ y. P (f y)) ys
All-of_map P f [] all = All-nil (λ y. P (f y))
All-of_map P f (y ∷ ys) all = All-cons (λ z. P (f z)) y ys (All-head P (f y) (map f ys) all) (All-of_map P f ys (All-tail P (f y) (map f ys) all))

pub schedule_of-ranges : (nodes : ℕ) (text : List ℕ) (s : Schedule) → schedule_of nodes text ≡ Ok (plans s) → IsInRange nodes s
schedule_of-ranges nodes text s e =
    let none : AreInRange nodes no_plans = record { few = omega arith; places = All-nil _; rooms = All-nil _; turns = omega arith; order = All-nil _ } in
    let within = read_lines-keeps (AreInRange nodes) (take_line nodes) (keeps-take_line nodes) 1 no_plans (plans s) (lines text) e none in
    let same : length (map plan s.plans.items) ≡ length s.plans.items = length-map s.plans.items plan in record {
      few = rw (← same) within.few;
      places = All-of_map (λ p. p.node < nodes) plan s.plans.items within.places;
      rooms = All-of_map (λ p. p.room ≤ 1_048_576) plan s.plans.items within.rooms;
      turns = within.turns;
      order = rw (← same) within.order;
    }
