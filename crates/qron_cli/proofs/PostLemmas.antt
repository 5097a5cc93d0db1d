-- Posts of a network, one after the other in order of seat.
use Rattle.std.proofs.Common.{◌≡◌, ℕ, zero, suc, ◌+◌, ◌*◌, ◌/◌, ◌%◌, ◌<◌, ◌≤◌, List, [], ◌∷◌, ◌++◌, length, Some, false, Result, Ok, Err, refl, sym, ap, subst, inl, inr, arith}
use Rattle.std.specs.Prelude.{◌⊎◌, slice_get, IfOk}
use Rattle.std.specs.Result.{is_err}
use Rattle.std.proofs.lemmas.Bool.{false≢true}
use Rattle.std.proofs.Math.Nat.{mod-lt, mod-add-div', div-lt_iff_lt-mul}
use Rattle.std.proofs.lemmas.List.Elements.{All-nil, All-push}
use Rattle.node_table.specs.declared.settings.Settings.{Settings}
use Rattle.cqc_server.specs.Record.{IsPostAt}
use Rattle.cqc_server.specs.Watch.{PostSeen, Watch}
use Rattle.qron_cli.specs.Posts.{AreFirst, AreGiven}

-- what stands in a list with one element more
pushed_at : {Q : Type 0} (xs : List Q) (p q : Q) (k : ℕ) → slice_get (xs ++ p ∷ []) k ≡ Some q → (slice_get xs k ≡ Some q) ⊎ ((k ≡ length xs) × (p ≡ q))
pushed_at [] p q zero e = let same : p ≡ q = cc in inr (refl, same)
pushed_at [] p q (suc k) e = cc
pushed_at (x ∷ xs) p q zero e = inl e
pushed_at (x ∷ xs) p q (suc k) e = elim (pushed_at xs p q k e) [ inl h ↦ inl h | inr h ↦ inr (ap suc h.0, h.1) ]

-- the node of a seat is below the number of nodes
pub node_below : (nodes workers seat : ℕ) → 1 ≤ workers → seat < nodes * workers → seat / workers < nodes
node_below nodes workers seat some few = (div-lt_iff_lt-mul {k = workers} {x = seat} {y = nodes} (omega (arith, some))).1 few

-- the post of a seat, at the node of that seat
seated_at : (workers seat : ℕ) (post : PostSeen) → 1 ≤ workers → post.node ≡ seat / workers → IsPostAt workers seat post
seated_at workers seat post some node = record {
  worker = seat % workers;
  few = mod-lt seat (omega (arith, some));
  place_is = subst (λ n. seat ≡ n * workers + seat % workers) (sym node) (omega (arith, mod-add-div' seat workers));
}

-- none are the first posts
pub none_first : {Q : Type 0} (post : Q → PostSeen) (key : List ℕ) (s : Settings) → AreFirst [] post key s
none_first post key s = record {
  places = λ k p e. cc;
  keys = All-nil (λ p. (post p).key ≡ key);
  times = All-nil (λ p. (post p).times ≡ s.patience);
}

-- with the post of the next seat they are so
pub one_more : {Q : Type 0} (post : Q → PostSeen) (key : List ℕ) (s : Settings) (old new : List Q) (p : Q) → new ≡ old ++ p ∷ [] → 1 ≤ s.workers
    → (post p).node ≡ length old / s.workers → (post p).key ≡ key → (post p).times ≡ s.patience → AreFirst old post key s → AreFirst new post key s
one_more {Q} post key s old new p is some node same goes first = subst (λ (xs : List Q). AreFirst xs post key s) (sym is) (record {
  places = λ k q e. elim (pushed_at old p q k e) [
    | inl h ↦ first.places k q h
    | inr h ↦ subst (λ (x : Q). IsPostAt s.workers k (post x)) h.1 (subst (λ n. IsPostAt s.workers n (post p)) (sym h.0) (seated_at s.workers (length old) (post p) some node))
  ];
  keys = All-push (λ x. (post x).key ≡ key) old p first.keys same;
  times = All-push (λ x. (post x).times ≡ s.patience) old p first.times goes;
})

-- as many as there are workers are posts for all of them
pub all_given : {Q L : Type 0} (watch : Watch Q L) (key : List ℕ) (s : Settings) (posts : List Q) → length posts ≡ length s.shape.places * s.workers
    → AreFirst posts watch.post key s → AreGiven watch key s posts
all_given watch key s posts count first = record {
  all = record { all = count; each = first.places };
  keys = first.keys;
  times = first.times;
}

-- what is promised where a call answers Ok, behind a call that did
pub where_ok : {A E : Type 0} (r : Result A E) (P : Type 0) → false ≡ is_err r → IfOk r (λ _. P) → P
where_ok (Ok a) P good h = h
where_ok (Err e) P good h = absurd (false≢true good)
