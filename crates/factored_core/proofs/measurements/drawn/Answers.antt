use Rattle.factored_core.proofs.Outcomes.{measured_by}
use Rattle.factored_core.proofs.measurements.drawn.Goals as goal

pub returns-clause-measured : goal.returns-clause-measured
returns-clause-measured g c =
    measured_by _ _ _ _ _ c.spot_of-spot.ensures.spot _ _ _ _ _ c.spot_of-spot.ensures.same c.count-alone.ensures.same c.ranges.word.fits c.count-alone.ensures.count c.weights-split.ensures.split c.outcome.ensures
