-- A call that a network of one node always refuses: a pair with the own node. It touches that node's cell alone.
use Rattle.std.proofs.Common.{◌≡◌, ℕ, zero, suc, ◌<◌, ◌^◌, List, [], ◌∷◌, ◌++◌, Bool, true, false, None, Some, slice_get, refl, ap, sym, ◌∙◌, arith, eq-eqb}
use Rattle.std.specs.Prelude.{Option, if◌then◌else◌}
use Rattle.std.proofs.lemmas.Option.{same_Some}
use Rattle.std.specs.Box.{with_value}
use Rattle.state_model.proofs.Booleans.{clash}
use Rattle.cqc_model.specs.Ranges.{is_in_range, is_remote_in_range}
use Rattle.cqc_model.specs.declared.Instr.TheVariants as instr
use Rattle.cqc_model.specs.declared.Fault.TheVariants.{General}
use Rattle.network_model.specs.Network.{Network, Shape, opening}
use Rattle.network_model.specs.Kinds.{kind_of, takes_qubit, second_of, remote_of, line_of, is_inexact, is_making, is_pair, is_measurement}
use Rattle.network_model.specs.Step.{refusal, refusal_of, first_fault, remote_node, node_at, draws}
use Rattle.network_model.specs.History.{IsLegalFrom, IsLegalEntry, advance}
use Rattle.network_model.specs.Factored.{touches_node}
use Rattle.network_model.specs.declared.Call.{Call}
use Rattle.network_model.specs.declared.Entry.{Entry}
use Rattle.network_model.specs.declared.CoreReply.{CoreReply}
use Rattle.network_model.specs.declared.CoreReply.TheVariants.{Error}
use Rattle.register_locks.specs.declared.slot.Slot.{Slot}
use Rattle.register_locks.specs.Slots.{slot_value, slot_number, slot_with, held, held_with}
use Rattle.commit_journal.specs.Touching.{touches}
use Rattle.commit_journal.specs.Views.{Stamp}
use Rattle.commit_journal.specs.Holding.{IsHeld, HasEntry}

abbrev pub one_node : Shape
one_node = record { places = record { address = 1; port = 1 } ∷ []; room = 1; limit = 1 }

abbrev pub pair_with_itself : ℕ → Entry
pair_with_itself seat = record {
  call = record { seat = seat; serial = 0; node = 0; app = 0; command = record { qubit = 0; instr = instr.Epr (record { app = 0; port = 1; node = 1 }); notify = false; block = false } };
  word = None;
  reply = Error General;
}

is_refused : (s : Network) (seat : ℕ) → refusal one_node s (pair_with_itself seat).call ≡ Some General
unfolding refusal refusal_of first_fault kind_of takes_qubit second_of remote_of line_of is_inexact is_making is_pair remote_node node_at
is_refused s seat = refl

draws_none : (s : Network) (seat : ℕ) → draws s (pair_with_itself seat).call ≡ false
unfolding draws kind_of is_measurement
draws_none s seat = refl

in_range : (seat : ℕ) → is_in_range (pair_with_itself seat).call.command.instr ≡ true
unfolding is_in_range is_remote_in_range
in_range seat = refl

is_legal : (s : Network) (seat : ℕ) → seat < 2 ^ 16 → IsLegalEntry one_node s (pair_with_itself seat)
is_legal s seat few = record {
  seat = few;
  serial = omega arith;
  app = omega arith;
  qubit = omega arith;
  instr = in_range seat;
  node = omega arith;
  allowed = λ e. absurd (cc (e));
  word = λ w e. absurd (cc (e));
  drawn = sym (draws_none s seat);
  reply = record {
    refused = λ f is. cc (is_refused s seat, is);
    too_large = λ none. absurd (cc (is_refused s seat, none));
    done = λ none. absurd (cc (is_refused s seat, none));
  };
}

legal_from : (s : Network) (h : List Entry) (seat : ℕ) → seat < 2 ^ 16 → IsLegalFrom one_node s h → IsLegalFrom one_node s (h ++ pair_with_itself seat ∷ [])
legal_from s [] seat few legal = (is_legal s seat few, tt)
legal_from s (e ∷ h) seat few legal = (legal.0, legal_from (advance one_node s e) h seat few legal.1)

touched : (h : List Entry) (seat : ℕ) → touches one_node h (pair_with_itself seat) 0 ≡ true
unfolding touches touches_node
touched h seat = refl

-- ---- a hold of that node's cell, which was prepared
module _ {C : Type 0} (slots new : List (Slot (Stamp C))) (s : Slot (Stamp C)) (v w : Stamp C) (x : C) (taken : slots ≡ [] ++ s ∷ []) (place : slot_number s ≡ 0) (value : slot_value s ≡ Some v) (number : v.number ≡ 0)
    (before : held slots 0 ≡ Some w) (is : new ≡ held_with slots 0 (record w { cell = Some x })) where
  slot_laid : (u : Stamp C) → slot_value (slot_with s u) ≡ Some u
  slot_laid u = elim s.value as (λ o. ◌≡◌ {A = Option (Stamp C)} (elim o [ Some b ↦ Some b.value | None ↦ None ]) (Some v) → ◌≡◌ {A = Option (Stamp C)} (slot_value (record { number = s.number; value = elim o [ Some b ↦ Some (with_value b u) | None ↦ None ] })) (Some u)) [
    | Some b ↦ λ h. refl
    | None ↦ λ h. absurd (cc)
  ] value

  number_laid : w.number ≡ 0
  number_laid =
      let there : held slots 0 ≡ slot_value s = ap (λ (l : List (Slot (Stamp C))). held l 0) taken ∙ ap (λ b. if b then slot_value s else held [] 0) (eq-eqb s.number 0 place) in
      ap (λ (u : Stamp C). u.number) (same_Some w v (sym before ∙ there ∙ value)) ∙ number

  new_is : new ≡ slot_with s (record w { cell = Some x }) ∷ []
  new_is = is ∙ ap (λ (l : List (Slot (Stamp C))). held_with l 0 (record w { cell = Some x })) taken
      ∙ ap (λ b. if b then slot_with s (record w { cell = Some x }) ∷ [] else (s ∷ held_with [] 0 (record w { cell = Some x }))) (eq-eqb s.number 0 place)

  there_laid : IsHeld new (record w { cell = Some x })
  there_laid = (0, slot_with s (record w { cell = Some x }), ap (λ (l : List (Slot (Stamp C))). slice_get l 0) new_is, slot_laid (record w { cell = Some x }))

  only_laid : (c : Stamp C) → IsHeld new c → c ≡ record w { cell = Some x }
  only_laid c h = by (h.0) (ap (λ (l : List (Slot (Stamp C))). slice_get l (h.0)) (sym new_is) ∙ h.2)
    where
      by : (i : ℕ) → slice_get (slot_with s (record w { cell = Some x }) ∷ []) i ≡ Some (h.1) → c ≡ record w { cell = Some x }
      by zero at = same_Some c (record w { cell = Some x }) (sym (h.3) ∙ ap slot_value (sym (same_Some (slot_with s (record w { cell = Some x })) (h.1) at)) ∙ slot_laid (record w { cell = Some x }))
      by (suc i) at = absurd (cc (at))

  pub one_has_entry : (fits : Shape → ℕ → C → List Entry → Type 0) (has_next : C → Bool) (settled : C → C) (seat : ℕ) → seat < 2 ^ 16 → has_next x ≡ true → ((n : ℕ) (c : C) (h : List Entry) → fits one_node n c h)
      → HasEntry fits has_next settled one_node 1 new (pair_with_itself seat)
  one_has_entry fits has_next settled seat few ready free h legal all = record {
    legal = legal_from opening h seat few legal;
    held = λ n lt t. (record w { cell = Some x }, there_laid, number_laid ∙ omega arith);
    next = λ c there t. (x, ap (λ (u : Stamp C). u.cell) (only_laid c there), ready, free c.number (settled x) (h ++ pair_with_itself seat ∷ []));
    others = λ c y there missed at.
        let zero_is : c.number ≡ 0 = ap (λ (u : Stamp C). u.number) (only_laid c there) ∙ number_laid in
        absurd (clash (sym (ap (touches one_node h (pair_with_itself seat)) zero_is ∙ touched h seat) ∙ missed));
  }

pub entry_is : (e : Entry) (seat : ℕ) → e.call ≡ (pair_with_itself seat).call → e.word ≡ None → e.reply ≡ Error General → e ≡ pair_with_itself seat
entry_is e seat call word reply =
    ap (λ (k : Call). record { call = k; word = e.word; reply = e.reply }) call ∙ ap (λ (o : Option ℕ). record { call = (pair_with_itself seat).call; word = o; reply = e.reply }) word
    ∙ ap (λ (r : CoreReply). record { call = (pair_with_itself seat).call; word = None; reply = r }) reply
