use Rattle.std.proofs.Common.{◌<◌, List, length, subst, sym, arith}
use Rattle.cqc_model.specs.declared.Command.{Command}
use Rattle.cqc_program.specs.Rounds.{FrontAs}
use Rattle.cqc_program.specs.Walks.{walk_limit}
use Rattle.cqc_program.proofs.Walks.{over_first, opens, front_fits}
use Rattle.cqc_program.proofs.Sizes.{rounds_few}
use Rattle.cqc_program.proofs.walk.Walk.open.Goals as goal

pub returns : goal.returns
returns c =
    let body = c.args.body.now in
    let front = c.in_ok-front.front in
    let is = subst (λ r. FrontAs c.args.factory body r) c.in_ok-front.was c.front_of.ensures in
    record {
      over = over_first body front c.first_of.result c.requires (front_fits c.args.factory body front is) c.first_of.ensures;
      plan = opens c.args.factory body front c.first_of.result is c.first_of.ensures;
      few = subst (λ (x : List Command). length x < walk_limit) (sym c.first_of.ensures.asks)
          (rounds_few front.repeats body front.start (λ i. omega (arith, c.type_inv.body i)) c.requires (omega arith));
    }
