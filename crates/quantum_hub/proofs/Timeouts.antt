-- TIMEOUT comes only where a call receives and its queue is empty. The main result is `finds_nothing`.
use Rattle.std.proofs.Common.{ℕ, ◌≡◌, ◌==◌, Bool, true, false, List, [], ◌∷◌, length, Option, None, Some, refl, sym, ap, ◌∙◌, arith}
use Rattle.state_model.proofs.Booleans.{eq_of}
use Rattle.network_model.specs.Network.{Network, Shape, queue, Waiting}
use Rattle.network_model.specs.Kinds.{kind_of, line_of}
use Rattle.network_model.specs.Step.{holds_of, first_fault, refusal, refusal_of, IsReply, IsTooLarge, effect, effect_of, received, received_first, receipt_reply, quiet, measured_reply, after_gate, after_two}
use Rattle.network_model.specs.declared.Call.{Call}
use Rattle.network_model.specs.declared.Kind.{Kind}
use Rattle.network_model.specs.declared.Kind.TheVariants.{Idle, Gate as OneGate, Inexact, Two as TwoGate, Measure, Make, Pair, Send, Receive, Unrolled}
use Rattle.network_model.specs.declared.Line.{Line}
use Rattle.network_model.specs.declared.Line.TheVariants as line
use Rattle.network_model.specs.declared.CoreReply.{CoreReply}
use Rattle.network_model.specs.declared.CoreReply.TheVariants as reply
use Rattle.cqc_model.specs.declared.Fault.{Fault}
use Rattle.cqc_model.specs.declared.Fault.TheVariants.{General, NoQubit, Unsupported, Timeout, Unknown}
use Rattle.cqc_model.specs.declared.PairInfo.{PairInfo}
use Rattle.quantum_hub.specs.Waiting.{FindsNothing}

-- ---- a refusal by TIMEOUT
-- a line with another fault isn't the one
passed : (b : Bool) (f : Fault) (rest : List (Bool × Fault)) → ¬ (f ≡ Timeout) → first_fault ((b, f) ∷ rest) ≡ Some Timeout → first_fault rest ≡ Some Timeout
unfolding first_fault
passed true f rest other is = absurd (other (cc (is)))
passed false f rest other is = is

last_holds : (b : Bool) → first_fault ((b, Timeout) ∷ []) ≡ Some Timeout → b ≡ true
unfolding first_fault
last_holds true is = refl
last_holds false is = absurd (cc (is))

no_length : {A : Type 0} (xs : List A) → (length xs == 0) ≡ true → xs ≡ []
no_length [] is = refl
no_length (x ∷ xs) is = absurd (some_length (eq_of (length (x ∷ xs)) 0 is))
  where
    some_length : ¬ (length (x ∷ xs) ≡ 0)
    some_length e = omega (arith, e)

nothing_held : (s : Network) (c : Call) (o : Option Line) → line_of (kind_of c.command.instr) ≡ o → holds_of o (λ l. length (queue s c.node c.app l) == 0) ≡ true → FindsNothing s c
nothing_held s c None at is = absurd (cc (is))
nothing_held s c (Some l) at is = record { line = l; receives = at; empty = no_length (queue s c.node c.app l) is }

refused_empty : (shape : Shape) (s : Network) (c : Call) → refusal shape s c ≡ Some Timeout → FindsNothing s c
unfolding refusal refusal_of
refused_empty shape s c is =
    nothing_held s c (line_of (kind_of c.command.instr)) refl
    (last_holds _
    (passed _ General _ (λ e. cc (e))
    (passed _ General _ (λ e. cc (e))
    (passed _ NoQubit _ (λ e. cc (e))
    (passed _ NoQubit _ (λ e. cc (e))
    (passed _ General _ (λ e. cc (e))
    (passed _ Unsupported _ (λ e. cc (e))
    (passed _ Unsupported _ (λ e. cc (e))
    (passed _ Unknown _ (λ e. cc (e))
    (passed _ Unknown _ (λ e. cc (e)) is))))))))))

-- ---- an effect that answers TIMEOUT
outcome_not : (told b : Bool) (f : Fault) → ¬ (reply.Error f ≡ measured_reply told b)
unfolding measured_reply
outcome_not true b f is = cc (is)
outcome_not false b f is = cc (is)

receipt_not : (l : Line) (id : ℕ) (info : Option PairInfo) (f : Fault) → ¬ (reply.Error f ≡ receipt_reply l id info)
unfolding receipt_reply
receipt_not line.Sent id info f is = cc (is)
receipt_not line.Pair id None f is = cc (is)
receipt_not line.Pair id (Some i) f is = cc (is)

first_not : (s : Network) (c : Call) (l : Line) (ws : List Waiting) (f : Fault) → reply.Error f ≡ (received_first s c l ws).reply → ws ≡ []
unfolding received_first
first_not s c l [] f is = refl
first_not s c l (w ∷ ws) f is = absurd (receipt_not l _ w.info f is)

effect_empty : (shape : Shape) (s : Network) (c : Call) (w : ℕ) (k : Kind) (f : Fault) → kind_of c.command.instr ≡ k → reply.Error f ≡ (effect_of shape s c w k).reply → FindsNothing s c
unfolding effect_of received quiet after_gate after_two line_of
effect_empty shape s c w Idle f at is = absurd (cc (is))
effect_empty shape s c w (OneGate g) f at is = absurd (cc (is))
effect_empty shape s c w Inexact f at is = absurd (cc (is))
effect_empty shape s c w (TwoGate g id) f at is = absurd (cc (is))
effect_empty shape s c w (Measure after told) f at is = absurd (outcome_not told _ f is)
effect_empty shape s c w Make f at is = absurd (cc (is))
effect_empty shape s c w (Pair r) f at is = absurd (cc (is))
effect_empty shape s c w (Send r) f at is = absurd (cc (is))
effect_empty shape s c w (Receive l) f at is = record { line = l; receives = ap line_of at; empty = first_not s c l (queue s c.node c.app l) f is }
effect_empty shape s c w Unrolled f at is = absurd (cc (is))

-- ---- a reply of TIMEOUT
pub finds_nothing : (shape : Shape) (s : Network) (c : Call) (w : ℕ) (r : CoreReply) → r ≡ reply.Error Timeout → IsReply shape s c w r → FindsNothing s c
unfolding effect
finds_nothing shape s c w r timeout is = by (refusal shape s c) refl
  where
    error_is : (f : Fault) → r ≡ reply.Error f → f ≡ Timeout
    error_is f at = cc (at, timeout)

    by : (o : Option Fault) → refusal shape s c ≡ o → FindsNothing s c
    by (Some f) at = refused_empty shape s c (at ∙ ap Some (error_is f (is.refused f at)))
    by None at =
        let fits : ¬ IsTooLarge shape s c = λ large. cc (is.too_large at large, timeout) in
        effect_empty shape s c w (kind_of c.command.instr) Timeout refl (sym timeout ∙ is.done at fits)
