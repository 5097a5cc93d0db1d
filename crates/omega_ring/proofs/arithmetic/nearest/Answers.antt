use Rattle.std.proofs.Common.{arith}
use Rattle.std.proofs.lemmas.Int.{ints}
use Rattle.omega_ring.proofs.Rounding.{half_down, half_here, half_up, stored_parts}
use Rattle.omega_ring.proofs.arithmetic.nearest.Goals as goal

pub returns-then-n-parts-clause-half : goal.returns-then-n-parts-clause-half
returns-then-n-parts-clause-half c =
    let p = stored_parts c.args.t c.args.n c.divided-parts.result.quotient c.divided-parts.result.rest c.ranges.t c.ranges.n c.divided-parts.ensures.value c.divided-parts.ensures.rest in
    half_up c.args.t _ _ c.args.n _ c.requires.positive p.0 p.1 (omega (arith, ints, p.1, c.requires.small)) (omega (arith, ints, c.divided-parts.ensures.small))

pub returns-then-parts-n-clause-half : goal.returns-then-parts-n-clause-half
returns-then-parts-n-clause-half c =
    let p = stored_parts c.args.t c.args.n c.divided-parts.result.quotient c.divided-parts.result.rest c.ranges.t c.ranges.n c.divided-parts.ensures.value c.divided-parts.ensures.rest in
    half_down c.args.t _ _ c.args.n _ c.requires.positive p.0 p.1 (omega (arith, ints, p.1, c.requires.small)) (omega (arith, ints, c.divided-parts.ensures.small))

pub returns-else-parts-n-clause-half : goal.returns-else-parts-n-clause-half
returns-else-parts-n-clause-half c =
    let p = stored_parts c.args.t c.args.n c.divided-parts.result.quotient c.divided-parts.result.rest c.ranges.t c.ranges.n c.divided-parts.ensures.value c.divided-parts.ensures.rest in
    half_here c.args.t _ _ c.args.n _ p.0 (omega (arith, ints, p.1, c.requires.small)) (omega (arith, ints, p.1, c.requires.small)) (omega (arith, ints, c.divided-parts.ensures.small))
