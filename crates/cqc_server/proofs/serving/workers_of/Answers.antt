use Rattle.std.proofs.Common.{◌≡◌, inl, inr, ◌∷◌, [], ◌++◌, ap, length, rules, arith}
use Rattle.std.specs.Prelude.{vec_len}
use Rattle.std.specs.Vec.Iter.{into_iter_items}
use Rattle.std.proofs.lemmas.List.Elements.{All-push, All-same}
use Rattle.cqc_server.proofs.Walking.{grown, all_grown}
use Rattle.cqc_server.proofs.serving.workers_of.Goals as goal

pub loop-pass-preserved : goal.loop-pass-preserved
loop-pass-preserved g c =
    let made = c.in_ok-worker_of.field-0 in
    let was = c.loop-pass.invariant in
    let first = c.in-Some.ensures.steps.0.0 in
    let second = c.in-Some.ensures.steps.1.0 in
    let more : c.push.new.self.items ≡ c.loop-pass.workers.items ++ made ∷ [] = search rules in
    record {
      passes = grown (λ w. w.pass) c.loop-pass.workers.items c.push.new.self.items made (into_iter_items c.loop-pass.pass-iterator.a) (into_iter_items c.next.new.self.a) c.in-Some.pass _ more c.in_ok-worker_of.ensures.pass first was.passes;
      posts = grown (λ w. w.post) c.loop-pass.workers.items c.push.new.self.items made (into_iter_items c.loop-pass.pass-iterator.b) (into_iter_items c.next.new.self.b) c.in-Some.post _ more c.in_ok-worker_of.ensures.post second was.posts;
      begun = All-same (λ w. (vec_len w.served ≡ 0) × (w.limit ≡ c.args.limit)) c.push.new.self.items (c.loop-pass.workers.items ++ made ∷ []) more
          (All-push (λ w. (vec_len w.served ≡ 0) × (w.limit ≡ c.args.limit)) c.loop-pass.workers.items made was.begun c.in_ok-worker_of.ensures.begun);
      as_many = omega (arith, ap length first, ap length second, was.as_many);
    }

pub returns-clause-passes : goal.returns-clause-passes
returns-clause-passes g c = all_grown (λ w. w.pass) c.loop-pass.workers.items (into_iter_items c.loop-pass.pass-iterator.a) _
    (elim c.in-None.ensures.steps [ inl e ↦ search rules | inr e ↦ search rules ]) c.loop-pass.invariant.passes

pub returns-clause-posts : goal.returns-clause-posts
returns-clause-posts g c = all_grown (λ w. w.post) c.loop-pass.workers.items (into_iter_items c.loop-pass.pass-iterator.b) _
    (elim c.in-None.ensures.steps [ inl e ↦ search rules | inr e ↦ search rules ]) c.loop-pass.invariant.posts
