use Rattle.std.proofs.Common.{ℕ, List, ◌<◌, length, sym, subst, ◌∙◌}
use Rattle.core_cells.specs.declared.cells.SlotCell.{SlotCell}
use Rattle.held_board.specs.declared.seat.Seat.{Seat}
use Rattle.held_board.proofs.SeatLemmas.{place_within, places_apart}
use Rattle.held_board.proofs.board.two_seats.Goals as goal

pub two_of-requires : goal.two_of-requires
two_of-requires c =
    let ss : List (Seat SlotCell) = c.args.seats.now in (
      (λ same. places_apart ss c.args.one c.args.two c.requires.0 c.requires.1 (sym c.place_of-j.ensures ∙ sym same ∙ c.place_of-i.ensures)),
      subst (λ (k : ℕ). k < length ss) (sym c.place_of-i.ensures) (place_within ss c.args.one c.requires.1),
      subst (λ (k : ℕ). k < length ss) (sym c.place_of-j.ensures) (place_within ss c.args.two c.requires.2),
    )
