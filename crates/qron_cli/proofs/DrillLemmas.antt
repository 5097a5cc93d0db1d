-- The drill: its order names its two connections, and a line of words has its rounds in their range.
use Rattle.std.proofs.Common.{◌≡◌, ℕ, zero, suc, lit<, ◌*◌, ◌<◌, ◌≤◌, List, [], ◌∷◌, length, map, get_or, Option, None, Some, Bool, true, false, refl, sym, ap, subst, ◌∙◌, inl, inr, arith}
use Rattle.std.specs.Prelude.{◌⊎◌, All, if◌then◌else◌, nat_le, option_map, option_and_then, slice_get}
use Rattle.std.specs.List.{list_any}
use Rattle.std.specs.Str.{bytes_eq}
use Rattle.std.specs.Prelude.{codes}
use Rattle.std.proofs.lemmas.Bool.{leb-true}
use Rattle.std.proofs.lemmas.List.Elements.{All-nil, All-cons, All-append}
use Rattle.text_lines.specs.Words.{number_up_to, number_between, address_of}
use Rattle.text_lines.proofs.NumberLemmas.{number_up_to-Some}
use Rattle.cqc_client.specs.Drill.{turns, in_rounds}
use Rattle.word_lines.specs.Lines.{talk, drill, is_dashed, pipe_line, replay_line, serve_line, talk_line, drill_line, line_behind, line_of}
use Rattle.cqc_client.specs.Drill.{first_list, second_list, IsDrill}
use Rattle.cqc_client.specs.Tally.{lines_of}
use Rattle.cqc_client.specs.declared.plan.DrillPlan.{DrillPlan}
use Rattle.session_model.specs.Turns.{Finish}
use Rattle.node_table.specs.declared.settings.Settings.{Settings}
use Rattle.schedule.specs.Plans.{Plan, Plans}
use Rattle.schedule.specs.Views.{plan, plans}
use Rattle.schedule.specs.declared.plans.Planned.{Planned}
use Rattle.schedule.specs.declared.plans.Schedule.{Schedule}
use Rattle.qron_cli.specs.Drill.{drill_settings, drill_plan, drill_plans, summary_of, Drilled}
use Rattle.qron_cli.specs.House.{Facts}
use Rattle.qron_cli.specs.Pipe.{AllWords}
use Rattle.qron_cli.specs.Program.{IsLine}
use Rattle.qron_cli.specs.Replay.{PlansPlayed}
use Rattle.qron_cli.specs.Seats.{CanPlay}
use Rattle.cqc_server.specs.Watch.{LinkSeen}
use Rattle.qron_cli.specs.declared.status.Status.{Status}

abbrev pub plan_with : ℕ → ℕ → List ℕ → Plan
plan_with node room bytes = record { node = node; room = room; bytes = bytes }

abbrev pub plans_with : List Plan → List ℕ → Plans
plans_with connections order = record { plans = connections; order = order }

-- each turn of a round is one of the two connections'
turns_of_two : (round : ℕ) → All (λ k. k < 2) (turns round)
turns_of_two round zero d h = lit< tt
turns_of_two round (suc zero) d h = lit< tt
turns_of_two round (suc (suc zero)) d h = lit< tt
turns_of_two round (suc (suc (suc zero))) d h = lit< tt
turns_of_two round (suc (suc (suc (suc zero)))) d h = lit< tt
turns_of_two round (suc (suc (suc (suc (suc zero))))) d h = lit< tt
turns_of_two round (suc (suc (suc (suc (suc (suc zero)))))) d h = lit< tt
turns_of_two round (suc (suc (suc (suc (suc (suc (suc k))))))) d h = absurd (omega (arith, h))

-- and so is each of all rounds
pub order_of_two : (rounds : ℕ) → All (λ k. k < 2) (in_rounds turns rounds)
order_of_two zero = All-nil (λ k. k < 2)
order_of_two (suc n) = All-append (λ k. k < 2) (in_rounds turns n) (turns n) (order_of_two n) (turns_of_two n)

-- ---- the schedule
pub first_plan : (d : DrillPlan) (rounds : ℕ) → IsDrill d rounds → plan_with 0 (59 * rounds) d.first.items ≡ drill_plan 0 first_list rounds
first_plan d rounds h = ap (plan_with 0 (59 * rounds)) h.first

pub second_plan : (d : DrillPlan) (rounds : ℕ) → IsDrill d rounds → plan_with 1 (59 * rounds) d.second.items ≡ drill_plan 1 second_list rounds
second_plan d rounds h = ap (plan_with 1 (59 * rounds)) h.second

-- two connections and the order of their turns are the drill's
pub plans_are : (rounds : ℕ) (s : Schedule) (one two : Planned) → s.plans.items ≡ one ∷ two ∷ [] → plan one ≡ drill_plan 0 first_list rounds → plan two ≡ drill_plan 1 second_list rounds
    → s.order.items ≡ in_rounds turns rounds → plans s ≡ drill_plans rounds
plans_are rounds s one two items first second order =
    ap (λ (xs : List Planned). plans_with (map plan xs) s.order.items) items
    ∙ ap (λ (p : Plan). plans_with (p ∷ plan two ∷ []) s.order.items) first
    ∙ ap (λ (p : Plan). plans_with (drill_plan 0 first_list rounds ∷ p ∷ []) s.order.items) second
    ∙ ap (plans_with (drill_plan 0 first_list rounds ∷ drill_plan 1 second_list rounds ∷ [])) order

-- and can be played by two nodes
pub can_play : (rounds : ℕ) (s : Schedule) (one two : Planned) → s.plans.items ≡ one ∷ two ∷ [] → one.node ≡ 0 → two.node ≡ 1
    → s.order.items ≡ in_rounds turns rounds → CanPlay 2 s
can_play rounds s one two items first second order = record {
  few = omega (arith, ap length items);
  places = subst (All (λ (p : Planned). p.node < 2)) (sym items)
      (All-cons (λ (p : Planned). p.node < 2) one (two ∷ []) (omega (arith, first)) (All-cons (λ (p : Planned). p.node < 2) two [] (omega (arith, second)) (All-nil (λ (p : Planned). p.node < 2))));
  order = subst (All (λ k. k < length s.plans.items)) (sym order) (subst (λ n. All (λ k. k < n) (in_rounds turns rounds)) (sym (ap length items)) (order_of_two rounds));
}

-- what was played of a schedule that is the drill's
pub drilled_by : (word : AllWords) (rounds : ℕ) (facts : Facts) (s : Settings) (p : Plans) (old new : LinkSeen) (status : Status) → s ≡ drill_settings rounds → p ≡ drill_plans rounds
    → PlansPlayed word facts s p (λ entries ends. lines_of (summary_of rounds entries ends)) old new status → Drilled word rounds facts old new status
drilled_by word rounds facts s p old new status by_settings by_plans h =
    subst (λ (x : Settings). PlansPlayed word facts x (drill_plans rounds) (λ entries ends. lines_of (summary_of rounds entries ends)) old new status) by_settings
    (subst (λ (x : Plans). PlansPlayed word facts s x (λ entries ends. lines_of (summary_of rounds entries ends)) old new status) by_plans h)

-- how the connection of a seat ended, where there is one, and where there is none
pub shown_at : {A S : Type 0} (end : S → Option Finish) (seen : A → S) (xs : List A) (k : ℕ) (a : A) → k < length xs → a ≡ get_or xs k a
    → slice_get (map end (map seen xs)) k ≡ Some (end (seen a))
shown_at end seen [] k a h e = absurd (omega (arith, h))
shown_at end seen (x ∷ xs) zero a h e = ap (λ y. Some (end (seen y))) (sym e)
shown_at end seen (x ∷ xs) (suc k) a h e = shown_at end seen xs k a (omega (arith, h)) e

pub shown_past : {A S : Type 0} (end : S → Option Finish) (seen : A → S) (xs : List A) (k : ℕ) → length xs ≤ k → slice_get (map end (map seen xs)) k ≡ None
shown_past end seen [] k h = refl
shown_past end seen (x ∷ xs) zero h = absurd (omega (arith, h))
shown_past end seen (x ∷ xs) (suc k) h = shown_past end seen xs k (omega (arith, h))

-- a number that is found in a range lies in it
kept : (least m n : ℕ) (b : Bool) → nat_le least m ≡ b → (if b then Some m else None) ≡ Some n → (least ≤ m) × (m ≡ n)
kept least m n true above e = (leb-true least m above, cc)
kept least m n false above e = cc

found : (least most : ℕ) (word : List ℕ) (n : ℕ) (o : Option ℕ) → number_up_to most word ≡ o
    → option_and_then (λ m. if nat_le least m then Some m else None) o ≡ Some n → (least ≤ n) × (n ≤ most)
found least most word n None up e = cc
found least most word n (Some m) up e =
    let (above, same) = kept least m n (nat_le least m) refl e in
    let below : m ≤ most = (number_up_to-Some most word m up).1 in
    (subst (λ k. least ≤ k) same above, subst (λ k. k ≤ most) same below)

-- ---- lines of words that ask for the drill
drilled : (n : ℕ) (o : Option ℕ) → option_map drill o ≡ Some (drill n) → o ≡ Some n
drilled n None e = cc
drilled n (Some m) e = cc

talked : (n : ℕ) (o p : Option ℕ) (script : List ℕ)
    → option_and_then (λ a. option_and_then (λ q. Some (talk (record { address = a; port = q }) script)) p) o ≡ Some (drill n) → ⊥
talked n None p script e = cc
talked n (Some a) None script e = cc
talked n (Some a) (Some q) script e = cc

by_pipe : (n : ℕ) (later : List (List ℕ)) → pipe_line later ≡ Some (drill n) → ⊥
by_pipe n [] e = cc
by_pipe n (a ∷ []) e = cc
by_pipe n (a ∷ b ∷ later) e = cc

by_replay : (n : ℕ) (later : List (List ℕ)) → replay_line later ≡ Some (drill n) → ⊥
by_replay n [] e = cc
by_replay n (a ∷ []) e = cc
by_replay n (a ∷ b ∷ []) e = cc
by_replay n (a ∷ b ∷ c ∷ later) e = cc

by_serve : (n : ℕ) (later : List (List ℕ)) → serve_line later ≡ Some (drill n) → ⊥
by_serve n [] e = cc
by_serve n (a ∷ []) e = cc
by_serve n (a ∷ b ∷ later) e = cc

by_talk : (n : ℕ) (later : List (List ℕ)) → talk_line later ≡ Some (drill n) → ⊥
by_talk n [] e = cc
by_talk n (a ∷ []) e = cc
by_talk n (a ∷ b ∷ []) e = cc
by_talk n (a ∷ b ∷ c ∷ []) e = talked n (address_of a) (number_between 1 65_535 b) c e
by_talk n (a ∷ b ∷ c ∷ d ∷ later) e = cc

by_drill : (n : ℕ) (later : List (List ℕ)) → drill_line later ≡ Some (drill n) → (1 ≤ n) × (n ≤ 100_000)
by_drill n [] e = cc
by_drill n (word ∷ []) e = found 1 100_000 word n (number_up_to 100_000 word) refl (drilled n (number_between 1 100_000 word) e)
by_drill n (a ∷ b ∷ later) e = cc

chosen : {A : Type 0} (b : Bool) (x y : A) (a : A) → (if b then x else y) ≡ a → (x ≡ a) ⊎ (y ≡ a)
chosen true x y a e = inl e
chosen false x y a e = inr e

by_first : (n : ℕ) (first : List ℕ) (later : List (List ℕ)) → line_behind first later ≡ Some (drill n) → (1 ≤ n) × (n ≤ 100_000)
by_first n first later e =
    elim (chosen (bytes_eq first (codes "pipe")) (pipe_line later) _ (Some (drill n)) e) [
      | inl p ↦ absurd (by_pipe n later p)
      | inr o ↦ elim (chosen (bytes_eq first (codes "replay")) (replay_line later) _ (Some (drill n)) o) [
        | inl p ↦ absurd (by_replay n later p)
        | inr o ↦ elim (chosen (bytes_eq first (codes "serve")) (serve_line later) _ (Some (drill n)) o) [
          | inl p ↦ absurd (by_serve n later p)
          | inr o ↦ elim (chosen (bytes_eq first (codes "talk")) (talk_line later) _ (Some (drill n)) o) [
            | inl p ↦ absurd (by_talk n later p)
            | inr o ↦ elim (chosen (bytes_eq first (codes "drill")) (drill_line later) None (Some (drill n)) o) [
              | inl p ↦ by_drill n later p
              | inr o ↦ cc
            ]
          ]
        ]
      ]
    ]

of_words : (n : ℕ) (words : List (List ℕ)) → line_of words ≡ Some (drill n) → (1 ≤ n) × (n ≤ 100_000)
of_words n [] e = cc
of_words n (first ∷ later) e =
    elim (chosen (list_any is_dashed later) None (line_behind first later) (Some (drill n)) e) [ inl p ↦ cc | inr p ↦ by_first n first later p ]

-- a drill that words ask for has 1 to 100,000 rounds
pub rounds_in_range : (n : ℕ) → IsLine (drill n) → (1 ≤ n) × (n ≤ 100_000)
rounds_in_range n (words, e) = of_words n words e
