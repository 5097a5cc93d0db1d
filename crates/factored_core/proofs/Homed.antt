-- Live numbers have their homes in slots of the network: each legal entry keeps it. So a state that cells can stand for leads to one,
-- and the opening is one.
use Rattle.std.proofs.Common.{◌≡◌, ◌≢◌, ℕ, ◌*◌, ◌<◌, ◌≤◌, ◌==◌, nat_lt, Bool, true, false, not, cond, ◌&&◌, ◌||◌, List, [], ◌∷◌, ◌++◌, length, fold, None, unwrap_or, refl, sym, ap, subst, ◌∙◌}
use Rattle.state_model.specs.Row.{is_listed}
use Rattle.state_model.proofs.Booleans.{eq_of, ne_of, or_false}
use Rattle.state_model.proofs.Numbers.{is_listed-snoc, was_listed}
use Rattle.network_model.specs.declared.Kind.{Kind}
use Rattle.network_model.specs.Network.{Network, Shape, Waiting, opening, group_of, load}
use Rattle.network_model.specs.Kinds.{kind_of, takes_qubit, is_making}
use Rattle.network_model.specs.Step.{effect, effect_of, refusal, refusal_of, measured, taken_out, left_as, received, received_first, quiet, after_gate, after_two, least_free, own_number}
use Rattle.network_model.specs.History.{is_error, advance, after, IsLegal, IsLegalFrom, IsLegalEntry}
use Rattle.network_model.specs.Factored.{homes_by, homes_step, homes_from, homes_after, used_slots, moved, gathered, parted}
use Rattle.network_model.specs.declared.After.TheVariants.{TakenOut, Left, Cleared}
use Rattle.network_model.specs.declared.Call.{Call}
use Rattle.network_model.specs.declared.Kind.TheVariants.{Idle, Gate as OneGate, Inexact, Two as TwoGate, Measure, Make, Pair, Send, Receive, Unrolled}
use Rattle.network_model.specs.declared.Entry.{Entry}
use Rattle.network_model.specs.declared.Line.{Line}
use Rattle.network_model.proofs.Accepted.{accepted_lines, less_of}
use Rattle.network_model.proofs.Homes.{legal_entries_keep_homes}
use Rattle.network_model.proofs.SlotLaws.{accepted, own_live}
use Rattle.network_model.proofs.Soundness.{opening_sound, legal_entries_keep_soundness}
use Rattle.cell_laws.specs.Standing.{IsStanding}
use Rattle.cell_laws.proofs.FreePlaces.{free_slot, shared_group_slot}
use Rattle.cell_laws.proofs.LiveCounts.{fewer_live}

-- the numbers of a list have homes below a bound
abbrev AreHomed : ℕ → List ℕ → (ℕ → ℕ) → Type 0
AreHomed bound live home = (q : ℕ) → is_listed live q ≡ true → home q < bound

-- what is listed behind others and is not the last is one of them
listed_before : (xs : List ℕ) (n x : ℕ) → is_listed (xs ++ n ∷ []) x ≡ true → x ≢ n → is_listed xs x ≡ true
unfolding is_listed
listed_before xs n x i other = by (is_listed xs x) refl
  where
    by : (t : Bool) → is_listed xs x ≡ t → is_listed xs x ≡ true
    by true e = e
    by false e = absurd (other (sym (eq_of n x (sym (or_false (n == x)) ∙ sym (ap (λ b. b || ((n == x) || false)) e) ∙ sym (is_listed-snoc xs (n ∷ []) x) ∙ i))))

listed_before_two : (xs : List ℕ) (p q x : ℕ) → is_listed (xs ++ p ∷ q ∷ []) x ≡ true → x ≢ q → x ≢ p → is_listed xs x ≡ true
unfolding is_listed
listed_before_two xs p q x i not_q not_p = by (is_listed xs x) refl (p == x) refl
  where
    by : (s : Bool) → is_listed xs x ≡ s → (t : Bool) → (p == x) ≡ t → is_listed xs x ≡ true
    by true e t f = e
    by false e true f = absurd (not_p (sym (eq_of p x f)))
    by false e false f = absurd (not_q (sym (eq_of q x (sym (or_false (q == x)) ∙ sym (ap (λ b. b || ((q == x) || false)) f) ∙ sym (ap (λ b. b || ((p == x) || ((q == x) || false))) e) ∙ sym (is_listed-snoc xs (p ∷ q ∷ []) x) ∙ i))))

-- one number at a slot
moved_homed : (bound : ℕ) (home : ℕ → ℕ) (q slot x : ℕ) → slot < bound → (x ≢ q → home x < bound) → moved home q slot x < bound
unfolding moved
moved_homed bound home q slot x low others = by (x == q) refl
  where
    by : (t : Bool) → (x == q) ≡ t → cond (x == q) slot (home x) < bound
    by true e = subst (λ t. cond t slot (home x) < bound) (sym e) low
    by false e = subst (λ t. cond t slot (home x) < bound) (sym e) (others (ne_of x q e))

-- one slot's numbers at another's
gathered_homed : (bound : ℕ) (home : ℕ → ℕ) (a b x : ℕ) → home a < bound → home x < bound → gathered home a b x < bound
unfolding gathered
gathered_homed bound home a b x low here = by (home x == home b)
  where
    by : (t : Bool) → cond t (home a) (home x) < bound
    by true = low
    by false = here

module _ (shape : Shape) (s : Network) (home : ℕ → ℕ) (c : Call) (standing : IsStanding shape s home) (node : c.node < length shape.places) where
  abbrev bound : ℕ
  bound = length shape.places * shape.room

  slot_is_low : load s c.node < shape.room → least_free (used_slots s.live home) < bound
  slot_is_low room = free_slot s.live home bound (fewer_live shape s standing.sound c.node node room)

  own_room : (k : Kind) → is_making k ≡ true → refusal_of shape s c k ≡ None → load s c.node < shape.room
  own_room k making e = less_of (load s c.node) shape.room (sym (ap (λ b. b && not (nat_lt (load s c.node) shape.room)) making) ∙ (accepted_lines shape s c k e).own_room)

  parted_homed : (q : ℕ) → is_listed s.live q ≡ true → AreHomed bound s.live (parted s home q)
  unfolding parted
  parted_homed q inside x i = by (length (group_of s q) == 1) refl
    where
      by : (t : Bool) → (length (group_of s q) == 1) ≡ t → cond (length (group_of s q) == 1) (home x) (moved home q (least_free (used_slots s.live home)) x) < bound
      by true e = subst (λ t. cond t (home x) (moved home q (least_free (used_slots s.live home)) x) < bound) (sym e) (standing.homed x i)
      by false e = subst (λ t. cond t (home x) (moved home q (least_free (used_slots s.live home)) x) < bound) (sym e)
          (moved_homed bound home q (least_free (used_slots s.live home)) x (shared_group_slot shape s home q standing inside (ne_of _ _ e)) (λ other. standing.homed x i))

  received_homed : (l : Line) (es : List Waiting) → AreHomed bound ((received_first s c l es).state).live home
  unfolding received_first
  received_homed l [] = standing.homed
  received_homed l (e ∷ es) = standing.homed

  own_at : (k : Kind) → takes_qubit k ≡ true → refusal_of shape s c k ≡ None → is_listed s.live (own_number s c) ≡ true
  own_at k takes e = own_live shape s c k standing.sound e takes

  homed_by : (word : ℕ) (k : Kind) → refusal_of shape s c k ≡ None → AreHomed bound ((effect_of shape s c word k).state).live (homes_by s home c k)
  unfolding effect_of quiet after_gate after_two measured taken_out left_as received homes_by takes_qubit is_making
  homed_by word Idle e = standing.homed
  homed_by word (OneGate g) e = standing.homed
  homed_by word Inexact e = standing.homed
  homed_by word (TwoGate g id) e = λ x i. gathered_homed bound home _ _ x (standing.homed (own_number s c) (own_at (TwoGate g id) refl e)) (standing.homed x i)
  homed_by word (Measure TakenOut told) e = λ x i. standing.homed x (was_listed s.live _ x i)
  homed_by word (Measure Left told) e = parted_homed (own_number s c) (own_at (Measure Left told) refl e)
  homed_by word (Measure Cleared told) e = parted_homed (own_number s c) (own_at (Measure Cleared told) refl e)
  homed_by word Make e = λ x i. moved_homed bound home _ _ x (slot_is_low (own_room Make refl e)) (λ other. standing.homed x (listed_before s.live _ x i other))
  homed_by word (Pair r) e = λ x i. let low = slot_is_low (own_room (Pair r) refl e) in
      moved_homed bound _ _ _ x low (λ not_q. moved_homed bound home _ _ x low (λ not_p. standing.homed x (listed_before_two s.live _ _ x i not_q not_p)))
  homed_by word (Send r) e = standing.homed
  homed_by word (Receive l) e = received_homed l _
  homed_by word Unrolled e = standing.homed

legal_entries_keep_homed : (shape : Shape) (s : Network) (home : ℕ → ℕ) (e : Entry) → IsStanding shape s home → IsLegalEntry shape s e
    → AreHomed (length shape.places * shape.room) (advance shape s e).live (homes_step s home e)
unfolding advance homes_step effect refusal
legal_entries_keep_homed shape s home e standing legal = by (is_error e.reply) refl
  where
    next : Network
    next = (effect_of shape s e.call (unwrap_or e.word 0) (kind_of e.call.command.instr)).state

    later : ℕ → ℕ
    later = homes_by s home e.call (kind_of e.call.command.instr)

    by : (t : Bool) → is_error e.reply ≡ t → AreHomed (length shape.places * shape.room) (cond (is_error e.reply) s next).live (cond (is_error e.reply) home later)
    by true f = subst (λ t. AreHomed (length shape.places * shape.room) (cond t s next).live (cond t home later)) (sym f) standing.homed
    by false f = subst (λ t. AreHomed (length shape.places * shape.room) (cond t s next).live (cond t home later)) (sym f)
        (homed_by shape s home e.call standing legal.node (unwrap_or e.word 0) (kind_of e.call.command.instr) (accepted shape s e.call (unwrap_or e.word 0) e.reply legal.reply f))

-- each legal entry leads from a state that cells can stand for to another
pub standing_step : (shape : Shape) (s : Network) (home : ℕ → ℕ) (e : Entry) → IsStanding shape s home → IsLegalEntry shape s e → IsStanding shape (advance shape s e) (homes_step s home e)
standing_step shape s home e standing legal = record {
  limit = standing.limit;
  sound = legal_entries_keep_soundness shape s e standing.limit standing.sound legal;
  housed = legal_entries_keep_homes shape s home e standing.sound legal standing.housed;
  homed = legal_entries_keep_homed shape s home e standing legal;
}

-- cells can stand for the opening
pub opening_stands : (shape : Shape) → 1 ≤ shape.limit → IsStanding shape opening (λ q. 0)
unfolding opening is_listed
opening_stands shape limit = record { limit = limit; sound = opening_sound shape; housed = λ p q i j. cc; homed = λ q i. cc }

-- and for the state after a legal history
standing_from : (shape : Shape) (s : Network) (home : ℕ → ℕ) (h : List Entry) → IsStanding shape s home → IsLegalFrom shape s h → IsStanding shape (fold (advance shape) s h) (homes_from shape s home h)
unfolding homes_from
standing_from shape s home [] standing legal = standing
standing_from shape s home (e ∷ h) standing legal = standing_from shape (advance shape s e) (homes_step s home e) h (standing_step shape s home e standing (legal.0)) (legal.1)

pub legal_histories_stand : (shape : Shape) (h : List Entry) → 1 ≤ shape.limit → IsLegal shape h → IsStanding shape (after shape h) (homes_after shape h)
unfolding after homes_after
legal_histories_stand shape h limit legal = standing_from shape opening (λ q. 0) h (opening_stands shape limit) legal
