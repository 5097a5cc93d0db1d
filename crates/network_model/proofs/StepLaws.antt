-- The step respects equality up to scale and phase.
use Rattle.std.proofs.Common.{◌≡◌, ℕ, ◌^◌, Bool, true, false, cond, List, [], ◌∷◌, refl, sym, ap, subst, ◌∙◌}
use Rattle.state_model.specs.Coefficient.{zero_coefficient}
use Rattle.state_model.specs.StateVector.{Vector, IsSameState, HasSizeAtLeast}
use Rattle.state_model.specs.Gate.{matrix, gate, two_gate}
use Rattle.state_model.specs.Measurement.{keep, raised, paired}
use Rattle.network_model.specs.Network.{Network, Shape, Waiting, members, group_of, held_number, queue, load}
use Rattle.network_model.specs.Kinds.{kind_of}
use Rattle.network_model.specs.Step.{Stepped, effect, effect_of, refusal, refusal_of, operand, own_number, other_number, united_group, remote_node, outcome_of, measured, measured_reply, taken_out, left_as, received, received_first, quiet, after_gate, after_two, least_id, pair_info, IsTooLarge, IsReply}
use Rattle.network_model.specs.Laws.{DiffersInVector, StepRespectsSameStates}
use Rattle.network_model.specs.declared.Kind.{Kind}
use Rattle.network_model.specs.declared.Kind.TheVariants.{Idle, Gate as OneGate, Inexact, Two as TwoGate, Measure, Make, Pair, Send, Receive, Unrolled}
use Rattle.network_model.specs.declared.After.TheVariants.{TakenOut, Left, Cleared}
use Rattle.network_model.specs.declared.After.{After}
use Rattle.network_model.specs.declared.Line.{Line}
use Rattle.state_model.specs.declared.Gate.{Gate}
use Rattle.state_model.specs.declared.Two.{Two}
use Rattle.network_model.specs.declared.Call.{Call}
use Rattle.network_model.specs.declared.CoreReply.{CoreReply}
use Rattle.state_model.proofs.SameStates.{same_after, same_symmetric}
use Rattle.state_model.proofs.Linear.{gate-IsHomogeneous, keep-IsHomogeneous, paired-IsHomogeneous, two_gate-IsHomogeneous, raised_keep-IsHomogeneous}
use Rattle.state_model.proofs.Draws.{same_draw}
use Rattle.state_model.proofs.Parts.{same_size}

-- s with another vector
over : Network → Vector → Network
over s u = record s { vector = u }

-- the two steps differ only in vectors that are the same
record SameStepped (a b : Stepped) : Type 0 where
  state : DiffersInVector a.state b.state
  reply : a.reply ≡ b.reply

module _ (shape : Shape) (s : Network) (u : Vector) (c : Call) (some : ¬ ((x : ℕ) → s.vector x ≡ zero_coefficient)) (same : IsSameState s.vector u) where
  t : Network
  t = over s u

  outcome_same : (word : ℕ) → outcome_of s c word ≡ outcome_of t c word
  unfolding t over outcome_of own_number operand held_number
  outcome_same word = same_draw s.live s.vector u (own_number s c) word some same

  refusal_same : refusal shape t c ≡ refusal shape s c
  unfolding t over refusal refusal_of operand own_number held_number load other_number united_group queue remote_node
  refusal_same = refl

  kept : (q : ℕ) (a b : Bool) → a ≡ b → IsSameState (keep q a s.vector) (keep q b u)
  kept q a b e = subst (λ d. IsSameState (keep q a s.vector) (keep q d u)) e (same_after (keep q a) (keep-IsHomogeneous q a) s.vector u some same)

  gate_same : (g : Gate) → SameStepped (after_gate s c g) (after_gate t c g)
  unfolding t over after_gate quiet own_number operand held_number
  gate_same g = record {
    state = record { vector = same_after (gate (matrix g) (own_number s c)) (gate-IsHomogeneous (matrix g) (own_number s c)) s.vector u some same; rest = refl };
    reply = refl;
  }

  two_same : (g : Two) (id : ℕ) → SameStepped (after_two s c g id) (after_two t c g id)
  unfolding t over after_two quiet own_number other_number operand held_number
  two_same g id = record {
    state = record { vector = same_after (two_gate g (own_number s c) (other_number s c id)) (two_gate-IsHomogeneous g (own_number s c) (other_number s c id)) s.vector u some same; rest = refl };
    reply = refl;
  }

  taken_same : (word : ℕ) → DiffersInVector (taken_out s c word) (taken_out t c word)
  unfolding t over taken_out own_number operand held_number
  taken_same word = record { vector = kept (own_number s c) _ _ (outcome_same word); rest = refl }

  left_same : (word : ℕ) (a b : Bool) → a ≡ b → DiffersInVector (left_as s c word a) (left_as t c word b)
  unfolding t over left_as own_number operand held_number
  left_same word a b e = record { vector = subst (λ d. IsSameState (cond a (raised q (keep q (outcome_of s c word) s.vector)) (keep q (outcome_of s c word) s.vector)) (cond d (raised q (keep q (outcome_of t c word) u)) (keep q (outcome_of t c word) u))) e (by a); rest = refl }
    where
      q : ℕ
      q = own_number s c

      by : (a : Bool) → IsSameState (cond a (raised q (keep q (outcome_of s c word) s.vector)) (keep q (outcome_of s c word) s.vector)) (cond a (raised q (keep q (outcome_of t c word) u)) (keep q (outcome_of t c word) u))
      by true = subst (λ d. IsSameState (raised q (keep q (outcome_of s c word) s.vector)) (raised q (keep q d u))) (outcome_same word)
          (same_after (λ v. raised q (keep q (outcome_of s c word) v)) (raised_keep-IsHomogeneous q (outcome_of s c word)) s.vector u some same)
      by false = kept q _ _ (outcome_same word)

  received_first_same : (l : Line) (es : List Waiting) → SameStepped (received_first s c l es) (received_first t c l es)
  unfolding t over received_first least_id
  received_first_same l [] = record { state = record { vector = same; rest = refl }; reply = refl }
  received_first_same l (e ∷ es) = record { state = record { vector = same; rest = refl }; reply = refl }

  received_same : (l : Line) → SameStepped (received s c l) (received t c l)
  unfolding t over received queue
  received_same l = received_first_same l (queue s c.node c.app l)

  still : DiffersInVector s t
  unfolding t over
  still = record { vector = same; rest = refl }

  measured_same : (word : ℕ) (after : After) → DiffersInVector (measured s c word after) (measured t c word after)
  unfolding measured
  measured_same word TakenOut = taken_same word
  measured_same word Left = left_same word _ _ (outcome_same word)
  measured_same word Cleared = left_same word false false refl

  effect_same : (word : ℕ) (k : Kind) → SameStepped (effect_of shape s c word k) (effect_of shape t c word k)
  unfolding t over effect_of quiet own_number operand held_number least_id pair_info
  effect_same word Idle = record { state = still; reply = refl }
  effect_same word (OneGate g) = gate_same g
  effect_same word Inexact = record { state = still; reply = refl }
  effect_same word (TwoGate g id) = two_same g id
  effect_same word (Measure after told) = record { state = measured_same word after; reply = ap (measured_reply told) (outcome_same word) }
  effect_same word Make = record { state = record { vector = same; rest = refl }; reply = refl }
  effect_same word (Pair r) = record { state = record { vector = same_after (paired _ _) (paired-IsHomogeneous _ _) s.vector u some same; rest = refl }; reply = refl }
  effect_same word (Send r) = record { state = record { vector = same; rest = refl }; reply = refl }
  effect_same word (Receive l) = received_same l
  effect_same word Unrolled = record { state = still; reply = refl }

-- groups do not depend on the vector
same_group : (s t : Network) (q : ℕ) → t ≡ record s { vector = t.vector } → group_of t q ≡ group_of s q
unfolding group_of members
same_group s t q e = ap (λ n. group_of n q) e

large_along : (a b : Network) (q n : ℕ) → DiffersInVector a b → HasSizeAtLeast a.vector (group_of a q) n → HasSizeAtLeast b.vector (group_of b q) n
large_along a b q n d large = subst (λ g. HasSizeAtLeast b.vector g n) (sym (same_group a b q d.rest)) (same_size a.vector b.vector (group_of a q) n d.vector large)

large_back : (a b : Network) (q n : ℕ) → DiffersInVector a b → HasSizeAtLeast b.vector (group_of b q) n → HasSizeAtLeast a.vector (group_of a q) n
large_back a b q n d large = same_size b.vector a.vector (group_of a q) n (same_symmetric a.vector b.vector d.vector) (subst (λ g. HasSizeAtLeast b.vector g n) (same_group a b q d.rest) large)

too_large_along : (shape : Shape) (s : Network) (u : Vector) (c : Call) → ¬ ((x : ℕ) → s.vector x ≡ zero_coefficient) → IsSameState s.vector u → IsTooLarge shape s c → IsTooLarge shape (over s u) c
unfolding IsTooLarge effect t over own_number operand held_number
too_large_along shape s u c some same large = (large.0, large_along _ _ (own_number s c) (2 ^ 60) ((effect_same shape s u c some same 0 (kind_of c.command.instr)).state) (large.1))

too_large_back : (shape : Shape) (s : Network) (u : Vector) (c : Call) → ¬ ((x : ℕ) → s.vector x ≡ zero_coefficient) → IsSameState s.vector u → IsTooLarge shape (over s u) c → IsTooLarge shape s c
unfolding IsTooLarge effect t over own_number operand held_number
too_large_back shape s u c some same large = (large.0, large_back _ _ (own_number s c) (2 ^ 60) ((effect_same shape s u c some same 0 (kind_of c.command.instr)).state) (large.1))

-- the law of the step
pub step_respects_same_states : StepRespectsSameStates
unfolding t over effect
step_respects_same_states shape s t c word some d =
    let P : Network → Type 0 = λ t. ((r : CoreReply) → IsReply shape s c word r → IsReply shape t c word r) × DiffersInVector ((effect shape s c word).state) ((effect shape t c word).state) in
    subst P (sym d.rest) (main (t.vector) d.vector)
  where
    main : (u : Vector) → IsSameState s.vector u → ((r : CoreReply) → IsReply shape s c word r → IsReply shape (over s u) c word r) × DiffersInVector ((effect shape s c word).state) ((effect shape (over s u) c word).state)
    main u same =
        let step = effect_same shape s u c some same word (kind_of c.command.instr) in
        let e = refusal_same shape s u c some same in (
          λ r h. record {
            refused = λ f g. h.refused f (sym e ∙ g);
            too_large = λ g large. h.too_large (sym e ∙ g) (too_large_back shape s u c some same large);
            done = λ g small. h.done (sym e ∙ g) (λ large. small (too_large_along shape s u c some same large)) ∙ step.reply;
          },
          step.state,
        )
