-- Each legal entry keeps soundness, by its instruction; so every legal history ends in a sound state.
use Rattle.std.proofs.Common.{◌≡◌, ℕ, ◌^◌, ◌<◌, ◌≤◌, ◌==◌, Bool, true, false, cond, List, [], ◌∷◌, length, Option, Some, None, is_some, unwrap_or, fold, refl, sym, ap, subst, ◌∙◌, arith}
use Rattle.std.proofs.lemmas.List.Elements.{All-nil}
use Rattle.state_model.specs.Coefficient.{zero_coefficient, one_coefficient}
use Rattle.state_model.specs.Row.{is_set, is_listed}
use Rattle.state_model.specs.StateVector.{HasSizeAtLeast}
use Rattle.network_model.specs.Network.{Network, Shape, Held, Waiting, line_eq, opening, members, group_of, load, places_of, IsSound}
use Rattle.network_model.specs.Kinds.{kind_of, takes_qubit, second_of, remote_of, is_gate, is_making, is_pair}
use Rattle.network_model.specs.Step.{effect, effect_of, refusal, own_number, outcome_of, measured, received, quiet, after_gate, after_two, IsTooLarge}
use Rattle.network_model.specs.History.{is_error, advance, after, IsLegalFrom, IsLegalEntry}
use Rattle.network_model.specs.Laws.{LegalEntriesKeepSoundness, LegalHistoriesAreSound}
use Rattle.network_model.specs.declared.Kind.{Kind}
use Rattle.network_model.specs.declared.Kind.TheVariants.{Idle, Gate as OneGate, Inexact, Two as TwoGate, Measure, Make, Pair, Send, Receive, Unrolled}
use Rattle.network_model.specs.declared.After.TheVariants.{TakenOut, Left, Cleared}
use Rattle.network_model.specs.declared.Line.TheVariants as line
use Rattle.network_model.specs.declared.Call.{Call}
use Rattle.network_model.specs.declared.Entry.{Entry}
use Rattle.cqc_model.specs.declared.Fault.TheVariants.{General}
use Rattle.state_model.proofs.Booleans.{clash}
use Rattle.state_model.proofs.Products.{one_some}
use Rattle.network_model.proofs.SlotLaws.{accepted, is_error-Error}
use Rattle.network_model.proofs.Accepted.{IsAccepted, accepted_lines, less_of, not_less_of}
use Rattle.state_model.proofs.Operations.{over_by}
use Rattle.state_model.proofs.RowLaws.{zero_clear}
use Rattle.network_model.proofs.SoundSteps.{sound_gate, sound_two, sound_taken, sound_left, sound_sent}
use Rattle.network_model.proofs.SoundArrivals.{sound_new, sound_pair, sound_received}

module _ (shape : Shape) (s : Network) (c : Call) (limited : 1 ≤ shape.limit) (sound : IsSound shape s) (node : c.node < length shape.places) where
  -- a gate's result is not too large
  IsSmall : Kind → Type 0
  IsSmall k = is_gate k ≡ true → ¬ HasSizeAtLeast ((effect_of shape s c 0 k).state.vector) (group_of ((effect_of shape s c 0 k).state) (own_number s c)) (2 ^ 60)

  sound_by : (word : ℕ) → word < 2 ^ 64 → (k : Kind) → IsSmall k → IsAccepted shape s c k → IsSound shape ((effect_of shape s c word k).state)
  unfolding IsSmall effect_of quiet group_of after_gate after_two measured is_gate second_of takes_qubit is_making is_pair remote_of received
  sound_by word w Idle small a = sound
  sound_by word w (OneGate g) small a = sound_gate shape s c limited sound node g a.own (small refl)
  sound_by word w Inexact small a = sound
  sound_by word w (TwoGate g id) small a = sound_two shape s c limited sound node g id a.own a.other a.distinct a.united (small refl)
  sound_by word w (Measure TakenOut told) small a = sound_taken shape s c limited sound node word w a.own
  sound_by word w (Measure Left told) small a = sound_left shape s c limited sound node word (outcome_of s c word) w a.own
  sound_by word w (Measure Cleared told) small a = sound_left shape s c limited sound node word false w a.own
  sound_by word w Make small a = sound_new shape s c limited sound node (less_of _ _ a.own_room)
  sound_by word w (Pair r) small a = sound_pair shape s c limited sound node r (not_less_of _ _ a.paired) a.away (less_of _ _ a.own_room) (less_of _ _ a.remote_room)
  sound_by word w (Send r) small a = sound_sent shape s c limited sound node r a.own (less_of _ _ a.remote_room)
  sound_by word w (Receive l) small a = sound_received shape s c limited sound node l _ refl
  sound_by word w Unrolled small a = sound

-- a legal entry's word, or 0 where it has none
word_small : (shape : Shape) (s : Network) (e : Entry) → IsLegalEntry shape s e → unwrap_or e.word 0 < 2 ^ 64
word_small shape s e legal = by e.word refl
  where
    by : (o : Option ℕ) → e.word ≡ o → unwrap_or e.word 0 < 2 ^ 64
    by None f = subst (λ o. unwrap_or o 0 < 2 ^ 64) (sym f) (omega arith)
    by (Some w) f = subst (λ o. unwrap_or o 0 < 2 ^ 64) (sym f) (legal.word w f)

pub legal_entries_keep_soundness : LegalEntriesKeepSoundness
unfolding advance effect refusal IsTooLarge IsSmall
legal_entries_keep_soundness shape s e limited sound legal = by (is_error e.reply) refl
  where
    next : Network
    next = (effect_of shape s e.call (unwrap_or e.word 0) (kind_of e.call.command.instr)).state

    by : (t : Bool) → is_error e.reply ≡ t → IsSound shape (cond (is_error e.reply) s next)
    by true f = subst (λ t. IsSound shape (cond t s next)) (sym f) sound
    by false f =
        let none = accepted shape s e.call (unwrap_or e.word 0) e.reply legal.reply f in
        subst (λ t. IsSound shape (cond t s next)) (sym f)
        (sound_by shape s e.call limited sound legal.node (unwrap_or e.word 0) (word_small shape s e legal) (kind_of e.call.command.instr)
        (λ gate large. clash (sym (is_error-Error General) ∙ ap is_error (sym (legal.reply.too_large none (gate, large))) ∙ f)) (accepted_lines shape s e.call (kind_of e.call.command.instr) none))

-- the opening is sound
pub opening_sound : (shape : Shape) → IsSound shape opening
unfolding opening group_of members load places_of is_listed
opening_sound shape = record {
  some_row = λ none. one_some (none 0);
  over_live = over_by [] _ (λ r x out e. one_row r x e (x == 0) refl);
  live_numbers = λ q i. cc;
  live_once = λ q. omega arith;
  held_nodes = All-nil (λ e. Held.node e < length shape.places);
  waiting_nodes = All-nil (λ e. Waiting.node e < length shape.places);
  informed = All-nil (λ e. is_some (Waiting.info e) ≡ line_eq (Waiting.line e) line.Pair);
  one_place = λ q. refl;
  one_handle = λ node app id. omega arith;
  room = λ node. omega arith;
  limit = λ q i. cc;
  labels = λ q i. cc;
  least_labels = λ p q i. cc;
  sizes = λ q i. cc;
}
  where
    one_row : (r x : ℕ) → is_set r x ≡ true → (t : Bool) → (x == 0) ≡ t → cond (x == 0) one_coefficient zero_coefficient ≡ zero_coefficient
    one_row r x e true f = absurd (let is : x ≡ 0 = grind arith in clash (sym e ∙ ap (is_set r) is ∙ zero_clear r))
    one_row r x e false f = ap (λ t. cond t one_coefficient zero_coefficient) f

-- soundness from a sound state on
sound_from_on : (shape : Shape) → 1 ≤ shape.limit → (s : Network) (h : List Entry) → IsSound shape s → IsLegalFrom shape s h → IsSound shape (fold (advance shape) s h)
sound_from_on shape limited s [] sound legal = sound
sound_from_on shape limited s (e ∷ h) sound legal = sound_from_on shape limited (advance shape s e) h (legal_entries_keep_soundness shape s e limited sound (legal.0)) (legal.1)

pub legal_histories_are_sound : LegalHistoriesAreSound
unfolding after
legal_histories_are_sound shape h limited legal = sound_from_on shape limited opening h (opening_sound shape) legal
