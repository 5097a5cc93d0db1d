use Rattle.omega_ring.proofs.LaneSizes.{total_small}
use Rattle.omega_ring.proofs.tests.weighs_alike.Goals as goal

pub weigh_lanes-found-requires-clause-small : goal.weigh_lanes-found-requires-clause-small
weigh_lanes-found-requires-clause-small c =
    total_small c.args.n c.numbers-a.result c.numbers-b.result c.numbers-c.result c.numbers-d.result c.requires
    c.numbers-a.ensures.small c.numbers-b.ensures.small c.numbers-c.ensures.small c.numbers-d.ensures.small
