use Rattle.std.proofs.Common.{rules, FitsSigned}
use mir.Syntax.{w64}
use Rattle.amplitude_register.proofs.MixedParities.{even_by, odd_by}
use Rattle.amplitude_register.proofs.mixing.Parities.divisor.Goals as goal

pub returns-then-weight-gt0-2 : goal.returns-then-weight-gt0-2
returns-then-weight-gt0-2 c =
    let turns : FitsSigned w64 c.args.self.turns = search rules in
    let steps : FitsSigned w64 c.args.self.steps = search rules in
    let first : FitsSigned w64 c.args.self.first = search rules in
    ((even_by c.args.self.turns c.is_even-else-not-is_even.result turns c.is_even-else-not-is_even.ensures c.if-not-is_even-2.false, even_by c.args.self.steps c.is_even-else-not-is_even-2.result steps c.is_even-else-not-is_even-2.ensures c.if-not-is_even-3.false), odd_by c.args.self.first c.is_even-else-not-is_even-3.result first c.is_even-else-not-is_even-3.ensures c.if-not-is_even-4.true)

pub returns-else-weight-gt0-2 : goal.returns-else-weight-gt0-2
returns-else-weight-gt0-2 c =
    let turns : FitsSigned w64 c.args.self.turns = search rules in
    let steps : FitsSigned w64 c.args.self.steps = search rules in
    let first : FitsSigned w64 c.args.self.first = search rules in
    ((even_by c.args.self.turns c.is_even-else-not-is_even.result turns c.is_even-else-not-is_even.ensures c.if-not-is_even-2.false, even_by c.args.self.steps c.is_even-else-not-is_even-2.result steps c.is_even-else-not-is_even-2.ensures c.if-not-is_even-3.false), odd_by c.args.self.first c.is_even-else-not-is_even-3.result first c.is_even-else-not-is_even-3.ensures c.if-not-is_even-4.true)

pub returns-else-not-is_even-4 : goal.returns-else-not-is_even-4
returns-else-not-is_even-4 c =
    let turns : FitsSigned w64 c.args.self.turns = search rules in
    let steps : FitsSigned w64 c.args.self.steps = search rules in
    let first : FitsSigned w64 c.args.self.first = search rules in
    ((even_by c.args.self.turns c.is_even-else-not-is_even.result turns c.is_even-else-not-is_even.ensures c.if-not-is_even-2.false, even_by c.args.self.steps c.is_even-else-not-is_even-2.result steps c.is_even-else-not-is_even-2.ensures c.if-not-is_even-3.false), even_by c.args.self.first c.is_even-else-not-is_even-3.result first c.is_even-else-not-is_even-3.ensures c.if-not-is_even-4.false)
