use Rattle.std.proofs.Common.{◌<◌, List, length, IsSome, slice_set, subst, MutBor}
use Rattle.std.specs.Option.{ghost_name_of}
use borrow.Follows.Closed.{read_of}
use Rattle.held_board.specs.declared.seat.Seat.{Seat}
use Rattle.held_board.proofs.SeatLemmas.{if_read}
use Rattle.held_board.proofs.seats.Seats.seat_if.Goals as goal

pub returns : goal.returns
returns g c =
    let there = subst (λ (l : List (Seat g.row.T.Denot)). (IsSome c.get_mut.result → c.args.place < length l) × (c.args.place < length l → IsSome c.get_mut.result)) c.self.view_is c.get_mut.ensures.variant in (
      (λ i. read_of (ghost_name_of c.get_mut.result) (slice_set (c.self.view_is i) c.args.place) (c.self.view_is i)),
      record {
        writes_back = tt;
        there = there;
        value = if_read (λ (s : MutBor (Seat g.row.T.Denot)). s.now) c.self.inside.seats.items c.args.self.now c.args.place c.get_mut.result c.self.view_is there.0 c.get_mut.ensures.value;
      },
    )
