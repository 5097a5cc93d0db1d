use Rattle.std.proofs.Common.{not, List, is_some, sym, ap, subst, ◌∙◌}
use Rattle.core_cells.specs.Nodes.{NodeValues}
use Rattle.core_cells.specs.declared.cells.SlotCell.{SlotCell}
use Rattle.held_board.specs.declared.seat.Seat.{Seat}
use Rattle.held_board.specs.Held.{Held}
use Rattle.held_board.specs.Seats.{AreVacant}
use Rattle.held_board.proofs.SeatLemmas.{vacant_by, vacant_none, occupied}
use Rattle.held_board.proofs.board.HeldBoard.is_empty.Goals as goal
use Rattle.held_board.proofs.board.HeldBoard.is_empty.Goals.{then-is_empty, else-is_empty}

pub returns-then-is_none-clause-vacant : goal.returns-then-is_none-clause-vacant
returns-then-is_none-clause-vacant c = (
  (λ empty. elim c.if-is_empty.branch [
    | then-is_empty w ↦ vacant_by c.args.self.now c.self.inside.nodes c.self.inside.pool.cell c.self.inside.slots c.self.view_is
        (c.is_empty.ensures.0 w.if-is_empty.true) (w.is_none.ensures ∙ ap not (sym w.value-is ∙ c.if-is_none.true)) (c.is_empty-then-is_none.ensures.0 empty)
    | else-is_empty w ↦ absurd (occupied (sym w.if-is_empty.false ∙ sym w.value-is ∙ c.if-is_none.true))
  ]),
  λ v. c.is_empty-then-is_none.ensures.1 (subst (λ (ss : List (Seat SlotCell)). AreVacant ss) (sym (ap (λ (h : Held). h.slots) c.self.view_is)) v.slots),
)

pub returns-then-is_none-clause-none : goal.returns-then-is_none-clause-none
returns-then-is_none-clause-none c empty = vacant_none c.args.self.now ((returns-then-is_none-clause-vacant c).0 empty)

pub returns-else-is_none-clause-vacant : goal.returns-else-is_none-clause-vacant
returns-else-is_none-clause-vacant c = (
  (λ empty. absurd (occupied (sym c.if-is_none.false ∙ empty))),
  λ v. elim c.if-is_empty.branch [
    | then-is_empty w ↦ absurd (occupied (sym v.pool ∙ ap (λ (h : Held). is_some h.pool) (sym c.self.view_is) ∙ w.is_none.ensures ∙ ap not (sym w.value-is ∙ c.if-is_none.false)))
    | else-is_empty w ↦ absurd (occupied (sym w.if-is_empty.false ∙ c.is_empty.ensures.1 (subst (λ (ss : List (Seat NodeValues)). AreVacant ss) (sym (ap (λ (h : Held). h.nodes) c.self.view_is)) v.nodes)))
  ],
)
