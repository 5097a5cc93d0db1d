use Rattle.std.proofs.Common.{◌≡◌, ◌*◌, length, refl, ap, ◌∙◌, arith}
use Rattle.qron_cli.proofs.PostLemmas.{where_ok, node_below, all_given}
use Rattle.qron_cli.proofs.real.posts_at.Goals as goal

pub bounds-doors-seat : goal.bounds-doors-seat
bounds-doors-seat g c =
    node_below (length c.args.doors.now) c.from-workers.result c.loop-seat.seat
    (omega (arith, c.from-workers.ensures, c.requires.range.some_workers)) (omega (arith, c.loop-seat-test.true, c.loop-seat.auto.seat-end))

pub offset_bounds-doors-seat : goal.offset_bounds-doors-seat
offset_bounds-doors-seat g c =
    let below = node_below (length c.args.doors.now) c.from-workers.result c.loop-seat.seat
    (omega (arith, c.from-workers.ensures, c.requires.range.some_workers)) (omega (arith, c.loop-seat-test.true, c.loop-seat.auto.seat-end)) in
    omega (arith, below, c.nodes-nodes.ensures.nodes, c.nodes-nodes.ensures.most, c.requires.doors)

pub loop-seat-preserved : goal.loop-seat-preserved
loop-seat-preserved g c =
    let same : c.new-dice.result.key ≡ c.args.settings.now.seed = rw (c.new-dice.ensures) refl in
    record {
      many = omega (arith, where_ok c.push_post.result _ c.if-is_err.ensures.value c.push_post.ensures.more, c.loop-seat.invariant.many);
      first = where_ok c.push_post.result _ c.if-is_err.ensures.value c.push_post.ensures.first _ same c.new-patience.ensures.times c.loop-seat.invariant.first;
    }

pub returns : goal.returns
returns g c =
    let all : length c.args.doors.now * c.from-workers.result ≡ length c.args.settings.now.shape.places * c.args.settings.now.workers =
    ap (λ n. n * c.from-workers.result) c.requires.doors ∙ ap (λ w. length c.args.settings.now.shape.places * w) c.from-workers.ensures in
    all_given _ c.args.settings.now.seed c.args.settings.now c.loop-seat.posts.items
    (omega (arith, c.loop-seat.invariant.many, c.loop-seat-test.false, c.loop-seat.auto.seat-end, all)) c.loop-seat.invariant.first
