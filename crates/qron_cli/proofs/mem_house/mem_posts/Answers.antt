use Rattle.std.proofs.Common.{◌≡◌, length, refl, ap, arith}
use Rattle.qron_cli.proofs.PostLemmas.{where_ok}
use Rattle.qron_cli.proofs.mem_house.mem_posts.Goals as goal

pub push_post-requires-clause-few : goal.push_post-requires-clause-few
push_post-requires-clause-few g c = omega (arith, c.loop-door.invariant.room, ap length c.in-Some.ensures.steps.0)

pub loop-door-preserved : goal.loop-door-preserved
loop-door-preserved g c =
    let goes : c.in-Ok-new.patience.times ≡ c.args.settings.now.patience = rw (c.in-Ok-new.ensures) refl in
    record {
      room = omega (arith, where_ok c.push_post.result _ c.if-is_err.ensures.value c.push_post.ensures.more, c.loop-door.invariant.room, ap length c.in-Some.ensures.steps.0);
      first = where_ok c.push_post.result _ c.if-is_err.ensures.value c.push_post.ensures.first _ c.in-Ok.ensures goes c.loop-door.invariant.first;
    }
