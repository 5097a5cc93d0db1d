-- A call that is due has an entry with which the history is legal.
use Rattle.std.proofs.Common.{◌≡◌, ℕ, ◌<◌, ◌^◌, Bool, true, false, [], ◌∷◌, ◌++◌, Option, None, Some, unwrap_or, refl, sym, ap, subst, ◌∙◌}
use Rattle.std.specs.Prelude.{is_some, if◌then◌else◌}
use Rattle.network_model.specs.Network.{Network, Shape}
use Rattle.network_model.specs.Step.{draws, effect, refusal, IsReply, IsTooLarge}
use Rattle.network_model.specs.History.{IsLegalEntry, after}
use Rattle.network_model.specs.declared.Call.{Call}
use Rattle.network_model.specs.declared.CoreReply.{CoreReply}
use Rattle.network_model.specs.declared.CoreReply.TheVariants as reply
use Rattle.network_model.specs.declared.Entry.{Entry}
use Rattle.cqc_model.specs.declared.Fault.{Fault}
use Rattle.cqc_model.specs.declared.Fault.TheVariants.{General}
use Rattle.session_model.specs.Turns.{IsTurnOf, IsTurnEntry, next_word}
use Rattle.session_model.specs.Laws.{NextHistoriesExist}

-- a step has a reply: whether a size is too large can't be decided, but no third can be
reply_exists : (shape : Shape) (s : Network) (c : Call) (word : ℕ) → ¬ ¬ ((r : CoreReply) × IsReply shape s c word r)
reply_exists shape s c word none = by (refusal shape s c) refl
  where
    by : (o : Option Fault) → refusal shape s c ≡ o → ⊥
    by (Some f) e = none (
      reply.Error f,
      record {
        refused = λ g h. ap reply.Error (same (sym e ∙ h));
        too_large = λ h. absurd (never (sym e ∙ h));
        done = λ h. absurd (never (sym e ∙ h));
      },
    )
      where
        same : {g : Fault} → Some f ≡ Some g → f ≡ g
        same h = cc

        never : Some f ≡ None → ⊥
        never h = cc
    by None e =
        let small : ¬ IsTooLarge shape s c = λ large.
        none (reply.Error General, record { refused = λ g h. absurd (never g (sym e ∙ h)); too_large = λ h l. refl; done = λ h l. absurd (l large) }) in
        none ((effect shape s c word).reply, record { refused = λ g h. absurd (never g (sym e ∙ h)); too_large = λ h l. absurd (small l); done = λ h l. refl })
      where
        never : (g : Fault) → None ≡ Some g → ⊥
        never g h = cc

-- a word, where one is drawn
abbrev drawn : Bool → ℕ → Option ℕ
drawn b word = if b then Some word else None

drawn_few : (b : Bool) (word w : ℕ) → word < 2 ^ 64 → drawn b word ≡ Some w → w < 2 ^ 64
drawn_few true word w few e = subst (λ (n : ℕ). n < 2 ^ 64) (same e) few
  where
    same : Some word ≡ Some w → word ≡ w
    same h = cc
drawn_few false word w few e = absurd (never e)
  where
    never : None ≡ Some w → ⊥
    never h = cc

drawn_some : (b : Bool) (word : ℕ) → is_some (drawn b word) ≡ b
drawn_some true word = refl
drawn_some false word = refl

pub next_histories_exist : NextHistoriesExist
next_histories_exist shape capacity a history c due possible words none =
    let s = after shape history in
    let word = drawn (draws s c) (next_word a history) in
    reply_exists shape s c (unwrap_or word 0) (λ found.
    let r = found.0 in
    let is = found.1 in
    let e : Entry = record { call = c; word = word; reply = r } in
    let legal : IsLegalEntry shape s e = record {
      seat = possible.seat;
      serial = possible.serial;
      app = possible.app;
      qubit = possible.qubit;
      instr = possible.instr;
      node = possible.node;
      allowed = possible.allowed;
      word = λ w same. drawn_few (draws s c) (next_word a history) w (words _) same;
      drawn = drawn_some (draws s c) (next_word a history);
      reply = is;
    } in
    let entry : IsTurnEntry shape a history c e = record { call = refl; word = refl; legal = legal } in
    none (history ++ e ∷ [], subst (IsTurnOf shape a history (history ++ e ∷ [])) (sym due) (e, entry, refl)))
