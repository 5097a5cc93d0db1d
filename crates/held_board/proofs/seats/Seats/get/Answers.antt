use Rattle.std.proofs.Common.{◌≡◌, ◌<◌, ℕ, List, length, Some, slice_get, slice_set, refl, sym, ap, subst, ◌∙◌, arith}
use Rattle.held_board.specs.declared.seat.Seat.{Seat}
use Rattle.held_board.specs.SeatLends.{seat_with}
use Rattle.held_board.specs.Seats.{place}
use Rattle.held_board.proofs.SeatLemmas.{place_within, seat_has, cell_at, set_at}
use Rattle.held_board.proofs.seats.Seats.get.Goals as goal

pub seat-requires : goal.seat-requires
seat-requires g c =
    let ss : List (Seat g.row.T.Denot) = c.args.self.now in
    let is : c.place_of-place.result ≡ place ss c.args.number = c.place_of-place.ensures ∙ ap (λ l. place l c.args.number) (c.as_slice.ensures.value ∙ c.self.view_is) in
    (omega arith, subst (λ (k : ℕ). k < length ss) (sym is) (place_within ss c.args.number c.requires))

pub cell-requires : goal.cell-requires
cell-requires g c =
    let ss : List (Seat g.row.T.Denot) = c.args.self.now in
    let is : c.place_of-place.result ≡ place ss c.args.number = c.place_of-place.ensures ∙ ap (λ l. place l c.args.number) (c.as_slice.ensures.value ∙ c.self.view_is) in
    seat_has ss c.args.number c.seat.result.now c.requires (ap (slice_get ss) (sym is) ∙ c.seat.ensures.value)

pub returns : goal.returns
returns g c =
    let ss : List (Seat g.row.T.Denot) = c.args.self.now in
    let is : c.place_of-place.result ≡ place ss c.args.number = c.place_of-place.ensures ∙ ap (λ l. place l c.args.number) (c.as_slice.ensures.value ∙ c.self.view_is) in
    let at : slice_get ss (place ss c.args.number) ≡ Some c.seat.result.now = ap (slice_get ss) (sym is) ∙ c.seat.ensures.value in (
      (refl, λ w. ap (λ k. slice_set ss k (seat_with c.seat.result.now w)) is ∙ set_at ss c.args.number c.seat.result.now (Some w) at),
      record { writes_back = tt; value = cell_at ss c.args.number c.seat.result.now at ∙ c.cell.ensures.value },
    )
