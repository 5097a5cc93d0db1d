-- A walk over the body that stands in a session's room.
use Rattle.std.proofs.Common.{◌≡◌, ℕ, List, take, Option, Some, sym, ap, subst, ◌∙◌}
use Rattle.cqc_program.specs.declared.walk.Walk.{Walk}
use Rattle.cqc_program.specs.Walks.{IsOver, left_of, notify_of}
use Rattle.cqc_session.specs.Body.{left_over, notify_over, WalksOver}

module _ (items lent : List ℕ) (size : ℕ) (walk : Option Walk) (w : Walk) (same : lent ≡ items) (is : walk ≡ Some w) where
  -- a lent room is the room
  body_is : take size lent ≡ take size items
  body_is = ap (λ (x : List ℕ). take size x) same

  pub over_in : WalksOver (take size items) walk → IsOver (take size lent) w
  over_in over = subst (λ (x : List ℕ). IsOver x w) (sym body_is) (subst (λ (o : Option Walk). WalksOver (take size items) o) is over)

  pub over_out : IsOver (take size lent) w → WalksOver (take size items) (Some w)
  over_out over = subst (λ (x : List ℕ). IsOver x w) body_is over

  pub left_is : left_of (take size lent) w ≡ left_over (take size items) walk
  left_is = ap (λ (x : List ℕ). left_of x w) body_is ∙ sym (ap (left_over (take size items)) is)

  pub notify_is : notify_of (take size lent) w ≡ notify_over (take size items) walk
  notify_is = ap (λ (x : List ℕ). notify_of x w) body_is ∙ sym (ap (notify_over (take size items)) is)
