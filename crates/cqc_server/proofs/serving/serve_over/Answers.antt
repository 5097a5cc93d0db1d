use Rattle.std.proofs.Common.{◌≡◌, ◌≤◌, ◌*◌, ℕ, [], length, sym, ap, arith}
use Rattle.std.specs.Prelude.{vec_len}
use Rattle.std.proofs.lemmas.List.{length-map}
use Rattle.std.proofs.lemmas.List.Elements.{All-weaker, All-same}
use Rattle.commit_journal.specs.Keeping.{own_count}
use Rattle.cqc_server.specs.Shared.{own}
use Rattle.cqc_server.proofs.Servings.{few_posts, some_post, node_there, whole, put_map, put_flat, all_ready, all_few, in_order, record_made}
use Rattle.cqc_server.proofs.serving.serve_over.Goals as goal

pub open-requires-clause-few : goal.open-requires-clause-few
open-requires-clause-few g c =
    few_posts c.len-count.result (length c.args.settings.shape.places) c.args.settings.workers (omega (arith, c.len-count.ensures, c.args.posts.ok.0, c.requires.posts.all))
    (omega (arith, c.nodes-nodes.ensures.nodes, c.nodes-nodes.ensures.most)) c.requires.range.most_workers

pub workers_of-requires-clause-nodes : goal.workers_of-requires-clause-nodes
workers_of-requires-clause-nodes g c = node_there _ c.args.settings g.N.Framed.shape c.args.posts.items c.requires.shape c.requires.posts

pub do_all-requires-clause-some : goal.do_all-requires-clause-some
do_all-requires-clause-some g c κs within =
    let count = some_post (length c.args.posts.items) (length c.args.settings.shape.places) c.args.settings.workers c.requires.posts.all
    (omega (arith, c.nodes-nodes.ensures.nodes, c.nodes-nodes.ensures.some)) c.requires.range.some_workers in
    omega (arith, count, ap length c.as_mut_slice.ensures.value, ap length c.in_ok-workers.ensures.posts, length-map c.in_ok-workers.workers.items (λ w. w.post))

pub do_all-requires-clause-ready : goal.do_all-requires-clause-ready
do_all-requires-clause-ready g c κs within =
    All-same (λ w. (vec_len w.served ≡ 0) × (own w.pass ≡ [])) c.as_mut_slice.result.now c.in_ok-workers.workers.items c.as_mut_slice.ensures.value
    (all_ready (λ w. w.pass) (λ w. vec_len w.served) (λ w. w.limit) c.args.settings.connections c.in_ok-workers.workers.items c.in_ok-hub.field-0.passes.items
    c.in_ok-workers.ensures.passes c.in_ok-hub.ensures.1 c.in_ok-workers.ensures.begun)

pub add_all-requires-clause-few : goal.add_all-requires-clause-few
add_all-requires-clause-few g c =
    let final = whole c.in_ok-workers.workers c.as_mut_slice.result.now c.do_all.new.jobs c.as_mut_slice.ensures.value c.do_all.auto.jobs in
    let all = all_few _ c.args.settings g.N.Framed.capacity (λ w. w.post) (λ w. w.pass) (λ w. w.served.items) (λ w. w.end) (λ w. w.limit) c.args.settings.connections
    c.as_mut_slice.result.now c.in_ok-workers.workers.items c.do_all.new.jobs c.as_mut_slice.ensures.value c.do_all.ensures
    (All-weaker (λ w. (vec_len w.served ≡ 0) × (w.limit ≡ c.args.settings.connections)) (λ w. w.limit ≡ c.args.settings.connections) (λ w h. h.1) c.in_ok-workers.workers.items c.in_ok-workers.ensures.begun) in
    All-same (λ w. vec_len w.served ≤ c.args.settings.connections) _ c.do_all.new.jobs final
    (All-weaker (λ w. length w.served.items ≤ c.args.settings.connections) (λ w. vec_len w.served ≤ c.args.settings.connections) (λ w h. omega (arith, h, w.served.ok.0)) c.do_all.new.jobs all)

pub add_all-requires-clause-room : goal.add_all-requires-clause-room
add_all-requires-clause-room g c =
    let count : c.in_ok-workers.workers.len ≡ c.len-count.result =
    omega (arith, c.in_ok-workers.workers.ok.0, ap length c.in_ok-workers.ensures.posts, length-map c.in_ok-workers.workers.items (λ w. w.post), c.args.posts.ok.0, c.len-count.ensures) in
    let room = c.in_ok-left.ensures.room in (
      omega (arith, count, room.0),
      omega (arith, room.1, ap (λ (n : ℕ). n * c.args.settings.connections) count, ap (λ (n : ℕ). c.len-count.result * n) c.from.ensures),
      omega (arith, count, room.2),
      omega (arith, count, room.3),
    )

pub close-entries-requires-clause-order : goal.close-entries-requires-clause-order
close-entries-requires-clause-order g c =
    let final = whole c.in_ok-workers.workers c.as_mut_slice.result.now c.do_all.new.jobs c.as_mut_slice.ensures.value c.do_all.auto.jobs in
    in_order _ c.args.settings g.N.Framed.capacity (λ w. w.post) (λ w. w.pass) (λ w. w.served.items) (λ w. w.end) (λ w. w.limit)
    c.as_mut_slice.result.now c.in_ok-workers.workers.items c.do_all.new.jobs c.in_ok-hub.field-0.passes.items c.add_all.new.self.passes.items c.as_mut_slice.ensures.value c.do_all.ensures
    c.in_ok-workers.ensures.passes c.in_ok-hub.ensures.1
    (put_map (λ w. w.pass) c.in_ok-left.left.passes.items c.add_all.new.self.passes.items _ c.do_all.new.jobs c.add_all.ensures.passes c.in_ok-left.ensures.passes final)

pub returns : goal.returns
returns g c =
    let items = c.in_ok-workers.workers.items in
    let jobs = c.do_all.new.jobs in
    let final = whole c.in_ok-workers.workers c.as_mut_slice.result.now c.do_all.new.jobs c.as_mut_slice.ensures.value c.do_all.auto.jobs in
    record_made _ c.args.settings g.N.Framed.capacity (λ w. w.post) (λ w. w.pass) (λ w. w.served.items) (λ w. w.end) (λ w. w.limit)
    c.as_mut_slice.result.now items jobs c.close-entries.result.entries.items c.in_ok-hub.field-0.passes.items c.add_all.new.self.passes.items c.args.posts.items
    c.add_all.new.self.posts.items c.add_all.new.self.served.items c.add_all.new.self.ends.items g.N.Framed.shape c.requires.frame.0 c.requires.shape c.as_mut_slice.ensures.value c.do_all.ensures
    (All-weaker (λ w. (vec_len w.served ≡ 0) × (w.limit ≡ c.args.settings.connections)) (λ w. w.limit ≡ c.args.settings.connections) (λ w h. h.1) items c.in_ok-workers.ensures.begun)
    c.in_ok-workers.ensures.passes c.in_ok-hub.ensures.1 c.in_ok-workers.ensures.posts
    (put_map (λ w. w.pass) c.in_ok-left.left.passes.items c.add_all.new.self.passes.items _ jobs c.add_all.ensures.passes c.in_ok-left.ensures.passes final)
    (put_flat (λ w. w.served.items) c.in_ok-left.left.served.items c.add_all.new.self.served.items _ jobs c.add_all.ensures.served c.in_ok-left.ensures.served final)
    (put_map (λ w. w.end) c.in_ok-left.left.ends.items c.add_all.new.self.ends.items _ jobs c.add_all.ensures.ends c.in_ok-left.ensures.ends final)
    (put_map (λ w. w.post) c.in_ok-left.left.posts.items c.add_all.new.self.posts.items _ jobs c.add_all.ensures.posts c.in_ok-left.ensures.posts final)
    (All-same (λ w. w.pass.made ≡ own_count w.pass.seat w.pass.seen) jobs _ (sym final) c.add_all.ensures.counted)
    c.close-entries.ensures.made (omega (arith, c.close-entries.ensures.most, c.close-entries.result.entries.ok.0)) c.close-entries.ensures.legal
