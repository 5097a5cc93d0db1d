use Rattle.std.proofs.Common.{◌≡◌, ℕ, zero, suc, ◌*◌, List, [], ◌∷◌, length, Some, sym, ap, ◌∙◌, rules, arith}
use Rattle.std.specs.Prelude.{slice_get}
use Rattle.node_table.specs.declared.settings.Settings.{Settings}
use Rattle.cqc_server.specs.Record.{ArePosts, IsPostAt}
use Rattle.cqc_server.specs.Watch.{Watch}
use Rattle.cqc_server.proofs.serving_tests.served_by_two.Goals as goal

-- a worker at each of two nodes
two_posts : {Q L : Type 0} (watch : Watch Q L) (s : Settings) (posts : List Q) (a b : Q) → posts ≡ a ∷ b ∷ [] → length s.shape.places ≡ 2 → s.workers ≡ 1
    → (watch.post a).node ≡ 0 → (watch.post b).node ≡ 1 → ArePosts watch s posts
two_posts {Q} {L} watch s posts a b are nodes one first second = record {
  all = omega (arith, ap length are, nodes, one, ap (λ (n : ℕ). length s.shape.places * n) one);
  each = λ k p at. place k p (ap (λ (ps : List Q). slice_get ps k) (sym are) ∙ at);
}
  where
    post_at : (k : ℕ) (x p : Q) → (watch.post x).node ≡ k → Some x ≡ Some p → IsPostAt s.workers k (watch.post p)
    post_at k x p here e = record {
      worker = 0;
      few = omega (arith, one);
      place_is = omega (arith, ap (λ (n : ℕ). (watch.post p).node * n) one, here, ap (λ (q : Q). (watch.post q).node) (same e));
    }
      where
        same : Some x ≡ Some p → x ≡ p
        same e = cc

    place : (k : ℕ) (p : Q) → slice_get (a ∷ b ∷ []) k ≡ Some p → IsPostAt s.workers k (watch.post p)
    place zero p at = post_at 0 a p first at
    place (suc zero) p at = post_at 1 b p second at
    place (suc (suc k)) p at = absurd (none at)
      where
        none : slice_get [] k ≡ Some p → ⊥
        none e = cc

pub serve-requires-clause-posts : goal.serve-requires-clause-posts
serve-requires-clause-posts g c κs within =
    two_posts _ c.settings.result c.push-2.new.self.items c.in_ok-post.field-0 c.in_ok-post-2.field-0 (search rules) c.settings.ensures.nodes.0 c.settings.ensures.nodes.1 c.in_ok-post.ensures c.in_ok-post-2.ensures
