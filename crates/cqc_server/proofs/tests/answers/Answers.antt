-- Two sessions have begun, and an empty journal has no entries of them.
use Rattle.std.proofs.Common.{◌≡◌, ℕ, zero, suc, ◌<◌, List, [], ◌∷◌, Option, None, refl, sym, subst, ap, ◌∙◌, arith}
use Rattle.std.specs.Prelude.{IfSome, slice_get}
use Rattle.network_model.specs.History.{own_entries}
use Rattle.network_model.specs.declared.Entry.{Entry}
use Rattle.session_model.specs.declared.Ending.{Ending}
use Rattle.cqc_session.specs.State.{State, begun}
use Rattle.cqc_server.specs.Replay.{HasBegun}
use Rattle.cqc_server.proofs.tests.answers.Goals as goal

-- a session that begun at the node of its seat has begun, in a network of two nodes
has_begun : (seat n cap : ℕ) (s : State) → n ≡ 2 → seat < 2 → s ≡ begun (record { seat = seat; serial = 0; node = seat }) cap → HasBegun seat n s
has_begun seat n cap s two few is = record {
  connection = record { seat = seat; serial = 0; node = seat };
  seat_is = refl;
  serial_is = refl;
  node = subst (λ (m : ℕ). seat < m) (sym two) few;
  is = is ∙ ap (begun (record { seat = seat; serial = 0; node = seat })) (sym (ap (λ (x : State). x.cap) is));
}

-- both have begun, and none has ended
both_begun : {A : Type 0} (session : A → State) (ending : A → Option Ending) (a b : A) (n cap : ℕ) → n ≡ 2
    → session a ≡ begun (record { seat = 0; serial = 0; node = 0 }) cap → ending a ≡ None
    → session b ≡ begun (record { seat = 1; serial = 0; node = 1 }) cap → ending b ≡ None
    → (k : ℕ) → IfSome (slice_get (a ∷ b ∷ []) k) (λ x. HasBegun k n (session x) × (ending x ≡ None))
both_begun session ending a b n cap two p q r t zero = (has_begun 0 n cap (session a) two (omega arith) p, q)
both_begun session ending a b n cap two p q r t (suc zero) = (has_begun 1 n cap (session b) two (omega arith) r, t)
both_begun session ending a b n cap two p q r t (suc (suc k)) = tt

-- an empty history has no entries of anyone
none_of : (k : ℕ) (h : List Entry) → h ≡ [] → own_entries k 0 h ≡ []
unfolding own_entries
none_of k h e = subst (λ (x : List Entry). own_entries k 0 x ≡ []) (sym e) refl

pub replay-requires-clause-begun : goal.replay-requires-clause-begun
replay-requires-clause-begun c =
    both_begun (λ a. a.session) (λ a. a.ending) _ _ _ _ c.requires.nodes
    c.in_ok-seated.ensures.session c.in_ok-seated.ensures.ending c.in_ok-seated-2.ensures.session c.in_ok-seated-2.ensures.ending

pub replay-requires-clause-unused : goal.replay-requires-clause-unused
replay-requires-clause-unused c k few = none_of k _ c.requires.empty
