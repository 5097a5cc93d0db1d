use Rattle.omega_ring.proofs.Rounding.{far_size}
use Rattle.omega_ring.proofs.coefficients.Wide.dot.Goals as goal

pub total_far-requires-clause-first : goal.total_far-requires-clause-first
total_far-requires-clause-first c = far_size c.args.self.a c.args.q.a c.exact.result c.requires.left.a c.requires.right.a c.exact.ensures.size

pub total_far-requires-clause-second : goal.total_far-requires-clause-second
total_far-requires-clause-second c = far_size c.args.self.b c.args.q.b c.exact-2.result c.requires.left.b c.requires.right.b c.exact-2.ensures.size

pub total_far-requires-clause-third : goal.total_far-requires-clause-third
total_far-requires-clause-third c = far_size c.args.self.c c.args.q.c c.exact-3.result c.requires.left.c c.requires.right.c c.exact-3.ensures.size

pub total_far-requires-clause-fourth : goal.total_far-requires-clause-fourth
total_far-requires-clause-fourth c = far_size c.args.self.d c.args.q.d c.exact-4.result c.requires.left.d c.requires.right.d c.exact-4.ensures.size
