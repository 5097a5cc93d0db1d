-- Entries of the core are legal: `legal_entry` from a call's ranges, its word and its reply; `reply_refused`, `reply_too_large`
-- and `reply_done` for the three kinds of replies; and when a call draws a word.
use Rattle.std.proofs.Common.{◌≡◌, ◌≢◌, ℕ, ◌<◌, ◌^◌, Bool, true, false, cond, ◌&&◌, length, Option, None, Some, IsSome, is_some, is_none, unwrap_or, refl, sym, ap, ◌∙◌}
use Rattle.state_model.proofs.Booleans.{clash}
use Rattle.cqc_model.specs.declared.Fault.{Fault}
use Rattle.cqc_model.specs.declared.Fault.TheVariants.{General, Unknown}
use Rattle.network_model.specs.declared.Kind.{Kind}
use Rattle.network_model.specs.Network.{Network, Shape}
use Rattle.network_model.specs.Kinds.{kind_of, takes_qubit, second_of, remote_of, line_of, is_gate, is_inexact, is_measurement, is_making, is_pair}
use Rattle.network_model.specs.Step.{refusal, refusal_of, first_fault, operand, effect, draws, IsTooLarge, IsReply}
use Rattle.network_model.specs.History.{IsLegalEntry, is_error, advance}
use Rattle.cqc_model.specs.declared.Instr.TheVariants as instr
use Rattle.network_model.specs.declared.Call.{Call}
use Rattle.network_model.specs.declared.Kind.TheVariants.{Measure}
use Rattle.network_model.specs.declared.CoreReply.{CoreReply}
use Rattle.network_model.specs.declared.CoreReply.TheVariants as reply
use Rattle.factored_core.specs.Ranges.{IsCallInRange}
use Rattle.factored_core.specs.Ready.{IsAllowedCall}

-- ---- replies
module _ (shape : Shape) (s : Network) (c : Call) (word : ℕ) where
  no_none : (f : Fault) → None ≡ Some f → ⊥
  no_none f e = cc

  no_some : (f : Fault) → Some f ≡ None → ⊥
  no_some f e = cc

  same_fault : (f g : Fault) → Some f ≡ Some g → f ≡ g
  same_fault f g e = cc

  -- a refused call is answered by its fault
  pub reply_refused : (f : Fault) → refusal shape s c ≡ Some f → IsReply shape s c word (reply.Error f)
  reply_refused f e = record {
    refused = λ g i. ap reply.Error (same_fault f g (sym e ∙ i));
    too_large = λ none large. absurd (no_some f (sym e ∙ none));
    done = λ none small. absurd (no_some f (sym e ∙ none));
  }

  -- a gate after which a size is too large is refused
  pub reply_too_large : refusal shape s c ≡ None → IsTooLarge shape s c → IsReply shape s c word (reply.Error General)
  reply_too_large none large = record {
    refused = λ f e. absurd (no_none f (sym none ∙ e));
    too_large = λ e l. refl;
    done = λ e small. absurd (small large);
  }

  -- any other call is answered by its effect
  pub reply_done : (r : CoreReply) → refusal shape s c ≡ None → ¬ IsTooLarge shape s c → r ≡ (effect shape s c word).reply → IsReply shape s c word r
  reply_done r none small is = record {
    refused = λ f e. absurd (no_none f (sym none ∙ e));
    too_large = λ e large. absurd (small large);
    done = λ e l. is;
  }

-- what is no gate makes no size too large
pub no_gate_is_small : (shape : Shape) (s : Network) (c : Call) → is_gate (kind_of c.command.instr) ≡ false → ¬ IsTooLarge shape s c
unfolding IsTooLarge
no_gate_is_small shape s c none large = clash (sym (large.0) ∙ none)

-- ---- words
-- a measurement is refused only where its qubit is not held
measurement_refusal : (shape : Shape) (s : Network) (c : Call) (k : Kind) → is_measurement k ≡ true → is_none (operand s c c.command.qubit) ≡ false → refusal_of shape s c k ≡ None
unfolding is_measurement refusal_of first_fault takes_qubit second_of remote_of line_of is_inexact is_making is_pair
measurement_refusal shape s c (Measure after told) e held = ap (λ b. cond b (Some Unknown) None) held
measurement_refusal shape s c k e held = absurd (clash (sym e))

-- a refused call draws no word
pub refused_draws_none : (shape : Shape) (s : Network) (c : Call) (f : Fault) → refusal shape s c ≡ Some f → draws s c ≡ false
unfolding draws refusal
refused_draws_none shape s c f e = by (is_measurement (kind_of c.command.instr)) (operand s c c.command.qubit) refl refl
  where
    never : None ≡ Some f → ⊥
    never g = cc

    by : (m : Bool) (o : Option ℕ) → is_measurement (kind_of c.command.instr) ≡ m → operand s c c.command.qubit ≡ o → (m && is_some o) ≡ false
    by false o i j = refl
    by true None i j = refl
    by true (Some q) i j = absurd (never (sym (measurement_refusal shape s c (kind_of c.command.instr) i (ap is_none j)) ∙ e))

-- what measures no qubit draws none
pub other_draws_none : (s : Network) (c : Call) → is_measurement (kind_of c.command.instr) ≡ false → draws s c ≡ false
unfolding draws
other_draws_none s c e = ap (λ b. b && is_some (operand s c c.command.qubit)) e

-- a measurement of a qubit that is held draws one
pub measurement_draws : (s : Network) (c : Call) → is_measurement (kind_of c.command.instr) ≡ true → IsSome (operand s c c.command.qubit) → draws s c ≡ true
unfolding draws
measurement_draws s c e held = ap (λ b. b && is_some (operand s c c.command.qubit)) e ∙ held

-- ---- entries
pub legal_entry : (shape : Shape) (s : Network) (c : Call) (w : Option ℕ) (r : CoreReply) → IsCallInRange c → c.node < length shape.places → c.command.instr ≢ instr.Allocate
    → ((n : ℕ) → w ≡ Some n → n < 2 ^ 64) → is_some w ≡ draws s c → IsReply shape s c (unwrap_or w 0) r
    → IsLegalEntry shape s (record { call = c; word = w; reply = r })
legal_entry shape s c w r range node allowed word drawn is = record {
  seat = range.seat;
  serial = range.serial;
  app = range.app;
  qubit = range.qubit;
  instr = range.instr;
  node = node;
  allowed = allowed;
  word = word;
  drawn = drawn;
  reply = is;
}

-- an entry without a word, of a call that is no gate and no measurement
pub done_legal : (shape : Shape) (s : Network) (c : Call) (k : Kind) → kind_of c.command.instr ≡ k → is_gate k ≡ false → is_measurement k ≡ false → IsCallInRange c → IsAllowedCall shape c
    → refusal shape s c ≡ None → (r : CoreReply) → r ≡ (effect shape s c 0).reply → IsLegalEntry shape s (record { call = c; word = None; reply = r })
done_legal shape s c k is gate word range allowed none r e =
    legal_entry shape s c None r range allowed.node allowed.instr (λ n f. absurd (never n f)) (sym (other_draws_none s c (ap is_measurement is ∙ word)))
    (reply_done shape s c 0 r none (no_gate_is_small shape s c (ap is_gate is ∙ gate)) e)
  where
    never : (n : ℕ) → None ≡ Some n → ⊥
    never n f = cc

-- any other goes to its effect
pub advance_done : (shape : Shape) (s : Network) (c : Call) (w : Option ℕ) (r : CoreReply) → is_error r ≡ false → advance shape s (record { call = c; word = w; reply = r }) ≡ (effect shape s c (unwrap_or w 0)).state
unfolding advance
advance_done shape s c w r e = ap (λ b. cond b s ((effect shape s c (unwrap_or w 0)).state)) e
