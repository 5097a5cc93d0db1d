use Rattle.std.proofs.Common.{◌≡◌, ◌≤◌, ◌*◌, ◌++◌, length, map, vec_len}
use Rattle.std.specs.Prelude.{All}
use Rattle.std.specs.List.{flat_map}
use Rattle.std.specs.Vec.Iter.{into_iter_items}
use Rattle.commit_journal.specs.Keeping.{own_count}
use Rattle.cqc_server.specs.Leaving.{HasRoomFor}
use Rattle.cqc_server.proofs.serving.Left.add_all.Given as goal

abbrev pub invariant-loop-worker : goal.invariant-loop-worker
invariant-loop-worker g l = record {
  few : All (λ w. vec_len w.served ≤ l.connections) (into_iter_items l.worker-iterator);
  passes_fit : HasRoomFor (length (into_iter_items l.worker-iterator)) l.self.passes;
  served_fit : HasRoomFor (length (into_iter_items l.worker-iterator) * l.connections) l.self.served;
  ends_fit : HasRoomFor (length (into_iter_items l.worker-iterator)) l.self.ends;
  posts_fit : HasRoomFor (length (into_iter_items l.worker-iterator)) l.self.posts;
  passes : l.self.passes.items ++ map (λ w. w.pass) (into_iter_items l.worker-iterator) ≡ l.initial.self.passes.items ++ map (λ w. w.pass) l.fn.workers.items;
  served : l.self.served.items ++ flat_map (λ w. w.served.items) (into_iter_items l.worker-iterator)
      ≡ l.initial.self.served.items ++ flat_map (λ w. w.served.items) l.fn.workers.items;
  ends : l.self.ends.items ++ map (λ w. w.end) (into_iter_items l.worker-iterator) ≡ l.initial.self.ends.items ++ map (λ w. w.end) l.fn.workers.items;
  posts : l.self.posts.items ++ map (λ w. w.post) (into_iter_items l.worker-iterator) ≡ l.initial.self.posts.items ++ map (λ w. w.post) l.fn.workers.items;
  counted : All (λ w. w.pass.made ≡ own_count w.pass.seat w.pass.seen) (into_iter_items l.worker-iterator)
      → All (λ w. w.pass.made ≡ own_count w.pass.seat w.pass.seen) l.fn.workers.items;
}
