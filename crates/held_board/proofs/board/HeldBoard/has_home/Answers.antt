use Rattle.std.proofs.Common.{subst}
use Rattle.held_board.specs.Held.{Held}
use Rattle.held_board.specs.Seats.{IsHomeIn}
use Rattle.held_board.proofs.SeatLemmas.{home_is}
use Rattle.held_board.proofs.board.HeldBoard.has_home.Goals as goal

pub returns : goal.returns
returns c = home_is c.args.self.now.slots c.args.number c.home.result c.is_some.result (subst (λ (h : Held). IsHomeIn h.slots c.args.number c.home.result) c.self.view_is c.home.ensures) c.is_some.ensures
