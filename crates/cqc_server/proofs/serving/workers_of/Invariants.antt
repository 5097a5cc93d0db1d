use Rattle.std.proofs.Common.{◌≡◌, ◌++◌, length, map, vec_len}
use Rattle.std.specs.Prelude.{All}
use Rattle.std.specs.Vec.Iter.{into_iter_items}
use Rattle.cqc_server.proofs.serving.workers_of.Given as goal

abbrev pub invariant-loop-pass : goal.invariant-loop-pass
invariant-loop-pass g l = record {
  passes : map (λ w. w.pass) l.workers.items ++ into_iter_items l.pass-iterator.a ≡ l.fn.passes.items;
  posts : map (λ w. w.post) l.workers.items ++ into_iter_items l.pass-iterator.b ≡ l.fn.posts.items;
  begun : All (λ w. (vec_len w.served ≡ 0) × (w.limit ≡ l.limit)) l.workers.items;
  as_many : length (into_iter_items l.pass-iterator.a) ≡ length (into_iter_items l.pass-iterator.b);
}
