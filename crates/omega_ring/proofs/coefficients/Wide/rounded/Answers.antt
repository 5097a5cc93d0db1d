use Rattle.std.proofs.Common.{rules, FitsSigned}
use mir.Syntax.{w128}
use Rattle.omega_ring.proofs.Rounding.{half_stored}
use Rattle.omega_ring.proofs.coefficients.Wide.rounded.Goals as goal

pub returns-clause-nearest : goal.returns-clause-nearest
returns-clause-nearest c =
    let ta : FitsSigned w128 c.args.self.a = search rules in
    let qa : FitsSigned w128 c.nearest.result = search rules in
    let tb : FitsSigned w128 c.args.self.b = search rules in
    let qb : FitsSigned w128 c.nearest-2.result = search rules in
    let tc : FitsSigned w128 c.args.self.c = search rules in
    let qc : FitsSigned w128 c.nearest-3.result = search rules in
    let td : FitsSigned w128 c.args.self.d = search rules in
    let qd : FitsSigned w128 c.nearest-4.result = search rules in
    record {
      a = half_stored c.args.n c.args.self.a c.nearest.result c.ranges.n ta qa c.nearest.ensures.half;
      b = half_stored c.args.n c.args.self.b c.nearest-2.result c.ranges.n tb qb c.nearest-2.ensures.half;
      c = half_stored c.args.n c.args.self.c c.nearest-3.result c.ranges.n tc qc c.nearest-3.ensures.half;
      d = half_stored c.args.n c.args.self.d c.nearest-4.result c.ranges.n td qd c.nearest-4.ensures.half;
    }
