use Rattle.std.proofs.Common.{ap, ◌∙◌}
use Rattle.factored_core.proofs.slots.spot_of.Goals as goal

pub returns-clause-spot : goal.returns-clause-spot
returns-clause-spot g c =
    let w = c.home-slot.ensures.home in
    let at = c.place_in-place.ensures.place (w.0) (ap (λ b. (g.B.Board.cells b).slot c.home-slot.result) c.home-slot.ensures.same ∙ w.1) in
    record { cell = w.0; there = w.1; within = at.0; number = at.1; rows = at.2; few = at.3 }
