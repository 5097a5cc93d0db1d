use Rattle.std.proofs.Common.{◌≡◌, ◌≤◌, ℕ, List, length, None, Some, slice_get, slice_set, sym, ap, subst, ◌∙◌}
use Rattle.held_board.specs.declared.seat.Seat.{Seat}
use Rattle.held_board.specs.Seats.{place}
use Rattle.held_board.proofs.SeatLemmas.{set_at, none_past}
use Rattle.held_board.proofs.seats.Seats.take.Goals as goal

pub returns-then-place-len-clause-rest : goal.returns-then-place-len-clause-rest
returns-then-place-len-clause-rest g c =
    let ss : List (Seat g.row.T.Denot) = c.args.self.now in
    let is : c.place_of-place.result ≡ place ss c.args.number = c.place_of-place.ensures ∙ ap (λ l. place l c.args.number) (c.as_slice.ensures.value ∙ c.self.view_is) in
    let at : slice_get ss (place ss c.args.number) ≡ Some c.seat.result.now = ap (slice_get ss) (sym is) ∙ c.seat.ensures.value in
    ap (λ k. slice_set ss k (record c.seat.result.now { cell = c.take.new.self })) is
    ∙ ap (λ o. slice_set ss (place ss c.args.number) (record c.seat.result.now { cell = o })) c.take.ensures.after ∙ set_at ss c.args.number c.seat.result.now None at

pub returns-else-place-len-clause-cell : goal.returns-else-place-len-clause-cell
returns-else-place-len-clause-cell g c =
    let ss : List (Seat g.row.T.Denot) = c.args.self.now in
    let is : c.place_of-place.result ≡ place ss c.args.number = c.place_of-place.ensures ∙ ap (λ l. place l c.args.number) (c.as_slice.ensures.value ∙ c.self.view_is) in
    let past : length ss ≤ place ss c.args.number = subst (λ (k : ℕ). k ≤ place ss c.args.number) (c.len.ensures.value ∙ ap length c.self.view_is) (subst (λ (k : ℕ). c.len.result ≤ k) is c.if-place-len.false) in
    sym (none_past ss c.args.number past)
