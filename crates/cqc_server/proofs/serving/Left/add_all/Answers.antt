use Rattle.std.proofs.Common.{sym, ◌≡◌, ◌*◌, ◌≤◌, [], ◌∷◌, length, rules, arith}
use Rattle.std.specs.Prelude.{vec_len}
use Rattle.std.specs.Vec.Iter.{into_iter_items}
use Rattle.std.proofs.lemmas.List.Elements.{All-head, All-tail, All-same}
use Rattle.commit_journal.specs.Keeping.{own_count}
use Rattle.cqc_server.proofs.Walking.{pushed, poured, all_pushed, all_poured, all_next, all_done, room_left, one_less, times_less}
use Rattle.cqc_server.proofs.serving.Left.add_all.Goals as goal

pub add-requires : goal.add-requires
add-requires g c =
    let rest = into_iter_items c.loop-worker.worker-iterator in
    let left = into_iter_items c.next.new.self in
    let step = c.in-Some.ensures.steps.0 in
    let one = one_less rest left c.in-Some.worker step in
    let few = All-head (λ w. vec_len w.served ≤ c.args.connections) c.in-Some.worker left (All-same (λ w. vec_len w.served ≤ c.args.connections) (c.in-Some.worker ∷ left) rest (sym step) c.loop-worker.invariant.few) in
    let most = times_less (length rest) (length left) c.args.connections (vec_len c.in-Some.worker.served) one few in
    let room = c.loop-worker.invariant in
    record { room = (omega (arith, room.passes_fit, one), omega (arith, room.served_fit, most), omega (arith, room.ends_fit, one), omega (arith, room.posts_fit, one)) }

pub loop-worker-preserved : goal.loop-worker-preserved
loop-worker-preserved g c =
    let rest = into_iter_items c.loop-worker.worker-iterator in
    let left = into_iter_items c.next.new.self in
    let w = c.in-Some.worker in
    let step = c.in-Some.ensures.steps.0 in
    let one = one_less rest left w step in
    let all = All-same (λ w. vec_len w.served ≤ c.args.connections) (w ∷ left) rest (sym step) c.loop-worker.invariant.few in
    let most = times_less (length rest) (length left) c.args.connections (vec_len w.served) one (All-head (λ w. vec_len w.served ≤ c.args.connections) w left all) in
    let was = c.loop-worker.invariant in
    let did = c.add.ensures in
    record {
      few = All-tail (λ w. vec_len w.served ≤ c.args.connections) w left all;
      passes_fit = room_left c.loop-worker.self.passes c.add.new.self.passes (w.pass ∷ []) (length rest) (length left) did.passes did.room.0 (omega (arith, one)) was.passes_fit;
      served_fit = room_left c.loop-worker.self.served c.add.new.self.served w.served.items (length rest * c.args.connections) (length left * c.args.connections) did.served did.room.1
          (omega (arith, most, w.served.ok.0)) was.served_fit;
      ends_fit = room_left c.loop-worker.self.ends c.add.new.self.ends (w.end ∷ []) (length rest) (length left) did.ends did.room.2 (omega (arith, one)) was.ends_fit;
      posts_fit = room_left c.loop-worker.self.posts c.add.new.self.posts (w.post ∷ []) (length rest) (length left) did.posts did.room.3 (omega (arith, one)) was.posts_fit;
      passes = pushed (λ w. w.pass) c.loop-worker.self.passes.items c.add.new.self.passes.items rest left w _ step did.passes was.passes;
      served = poured (λ w. w.served.items) c.loop-worker.self.served.items c.add.new.self.served.items rest left w _ step did.served was.served;
      ends = pushed (λ w. w.end) c.loop-worker.self.ends.items c.add.new.self.ends.items rest left w _ step did.ends was.ends;
      posts = pushed (λ w. w.post) c.loop-worker.self.posts.items c.add.new.self.posts.items rest left w _ step did.posts was.posts;
      counted = all_next (λ w. w.pass.made ≡ own_count w.pass.seat w.pass.seen) rest left w _ step did.counted was.counted;
    }

pub returns-clause-passes : goal.returns-clause-passes
returns-clause-passes g c = all_pushed (λ w. w.pass) c.loop-worker.self.passes.items (into_iter_items c.loop-worker.worker-iterator) _ (search rules) c.loop-worker.invariant.passes

pub returns-clause-served : goal.returns-clause-served
returns-clause-served g c = all_poured (λ w. w.served.items) c.loop-worker.self.served.items (into_iter_items c.loop-worker.worker-iterator) _ (search rules) c.loop-worker.invariant.served

pub returns-clause-ends : goal.returns-clause-ends
returns-clause-ends g c = all_pushed (λ w. w.end) c.loop-worker.self.ends.items (into_iter_items c.loop-worker.worker-iterator) _ (search rules) c.loop-worker.invariant.ends

pub returns-clause-posts : goal.returns-clause-posts
returns-clause-posts g c = all_pushed (λ w. w.post) c.loop-worker.self.posts.items (into_iter_items c.loop-worker.worker-iterator) _ (search rules) c.loop-worker.invariant.posts

pub returns-clause-counted : goal.returns-clause-counted
returns-clause-counted g c =
    all_done (λ w. w.pass.made ≡ own_count w.pass.seat w.pass.seen) (into_iter_items c.loop-worker.worker-iterator) _ (search rules) c.loop-worker.invariant.counted
