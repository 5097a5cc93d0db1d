-- Workers that are made of passes and posts, and what they leave.
-- Main results: `few_posts`, `some_post`, `node_there`, `all_ready`, `all_few`, `in_order`, `record_made`.
use Rattle.std.proofs.Common.{◌≡◌, ◌⊎◌, inl, inr, ℕ, zero, suc, ◌+◌, ◌*◌, ◌<◌, ◌≤◌, List, [], ◌∷◌, ◌++◌, length, map, take, drop, get_or, Some, refl, sym, ap, subst, ◌∙◌, arith}
use Rattle.std.specs.Prelude.{All, slice_get, option_map}
use Rattle.std.specs.List.{AllZip, flat_map}
use Rattle.std.specs.declared.vec.Vec.{Vec}
use Rattle.std.proofs.Math.Nat.{mul-le-mul_left}
use Rattle.std.proofs.lemmas.List.{take_at}
use Rattle.std.proofs.lemmas.List.Elements.{All-nil, All-cons, All-head, All-tail, All-map}
use Rattle.std.proofs.lemmas.Option.{slice_get-map, slice_get-get_or}
use Rattle.network_model.specs.History.{IsLegal, seat_entries}
use Rattle.network_model.specs.declared.Entry.{Entry}
use Rattle.network_model.specs.Network.{Shape}
use Rattle.node_table.specs.declared.settings.Settings.{Settings}
use Rattle.commit_journal.specs.Keeping.{own_count}
use Rattle.commit_journal.specs.Views.{Worker, HaveMade}
use Rattle.quantum_hub.specs.Opening.{AreFreshPasses}
use Rattle.cqc_server.specs.Record.{ArePosts, IsRecord}
use Rattle.cqc_server.specs.Shared.{own}
use Rattle.cqc_server.specs.Watch.{Watch}
use Rattle.cqc_server.specs.Working.{AtPost, HasWorkedOut}
use Rattle.cqc_server.specs.declared.record.Served.{Served}
use Rattle.cqc_server.specs.declared.record.WorkerEnd.{WorkerEnd}
use Rattle.cqc_server.proofs.Records.{recorded}

-- ---- posts
pub few_posts : (n nodes workers : ℕ) → n ≡ nodes * workers → nodes ≤ 8 → workers ≤ 8 → n ≤ 64
few_posts n nodes workers all few most = omega (arith, all, few, mul-le-mul_left nodes most)

pub some_post : (n nodes workers : ℕ) → n ≡ nodes * workers → 1 ≤ nodes → 1 ≤ workers → 0 < n
some_post n nodes workers all some one = omega (arith, all, some, mul-le-mul_left nodes one)

before_end : (place nodes workers node worker : ℕ) → place < nodes * workers → place ≡ node * workers + worker → node < nodes
before_end place nodes workers node worker within is = below (cases node nodes)
  where
    below : (node < nodes) ⊎ (nodes ≤ node) → node < nodes
    below (inl h) = h
    below (inr h) = absurd (omega (arith, within, is, mul-le-mul_left workers h))

    cases : (m n : ℕ) → (m < n) ⊎ (n ≤ m)
    cases m n = grind arith

module _ {Q L : Type 0} (watch : Watch Q L) (s : Settings) where
  pub node_there : (shape : Shape) (posts : List Q) → s.shape ≡ shape → ArePosts watch s posts → (k : ℕ) (d : Q) → k < length posts → (watch.post (get_or posts k d)).node < length shape.places
  node_there shape posts same are k d within =
      let at = are.each k (get_or posts k d) (slice_get-get_or posts k d within) in
      let here = before_end k (length s.shape.places) s.workers (watch.post (get_or posts k d)).node at.worker (omega (arith, within, are.all)) at.place_is in
      subst (λ (x : Shape). (watch.post (get_or posts k d)).node < length x.places) same here

-- ---- lists
-- what a slice of the whole list became
pub whole : {A Z : Type 0} (v : Vec A Z) (lent new : List A) → lent ≡ v.items → length new ≡ length lent → take v.len (new ++ drop (length new) v.items) ≡ new
whole v lent new is same = take_at new (drop (length new) v.items) v.len (omega (arith, v.ok.0, ap length is, same))

-- what was put into an empty list
pub put_map : {A B : Type 0} (f : A → B) (done next : List B) (xs ys : List A) → next ≡ done ++ map f xs → done ≡ [] → xs ≡ ys → next ≡ map f ys
put_map f done next xs ys is none same = is ∙ ap (λ (bs : List _). bs ++ map f xs) none ∙ ap (map f) same

pub put_flat : {A B : Type 0} (f : A → List B) (done next : List B) (xs ys : List A) → next ≡ done ++ flat_map f xs → done ≡ [] → xs ≡ ys → next ≡ flat_map f ys
put_flat f done next xs ys is none same = is ∙ ap (λ (bs : List _). bs ++ flat_map f xs) none ∙ ap (flat_map f) same

-- ---- fresh passes
module _ {A : Type 0} (pass : A → Worker) where
  pub fresh_at : (xs : List A) (passes : List Worker) → map pass xs ≡ passes → AreFreshPasses passes → (k : ℕ) (x : A) → slice_get xs k ≡ Some x
      → pass x ≡ record { seat = k; made = 0; seen = [] }
  fresh_at xs passes are fresh k x at =
      fresh k (pass x) (ap (λ (ps : List Worker). slice_get ps k) (sym are) ∙ slice_get-map pass xs k ∙ ap (option_map pass) at)

  nothing_own : (k : ℕ) → seat_entries k [] ≡ []
  unfolding seat_entries
  nothing_own k = refl

  pub all_ready : (served : A → ℕ) (limit : A → ℕ) (n : ℕ) (xs : List A) (passes : List Worker) → map pass xs ≡ passes → AreFreshPasses passes
      → All (λ x. (served x ≡ 0) × (limit x ≡ n)) xs → All (λ x. (served x ≡ 0) × (own (pass x) ≡ [])) xs
  all_ready served limit n xs passes are fresh begun k d within =
      let new = fresh_at xs passes are fresh k (get_or xs k d) (slice_get-get_or xs k d within) in
      ((begun k d within).0, ap own new ∙ nothing_own k)

-- ---- workers that have ended
module _ {A Q L : Type 0} (watch : Watch Q L) (s : Settings) (capacity : ℕ) (post : A → Q) (pass : A → Worker) (served : A → List (Served L)) (end : A → WorkerEnd) (limit : A → ℕ) where
  abbrev last : A → AtPost Q L
  last a = record { post = post a; pass = pass a; served = served a }

  -- what became of a worker
  abbrev Became : A → A → Type 0
  Became a b = HasWorkedOut watch capacity (limit a) (post a) (last b) (end b) × ((pass b).seat ≡ (pass a).seat)

  few_each : (n : ℕ) (old new : List A) → AllZip Became old new → All (λ a. limit a ≡ n) old → All (λ b. length (served b) ≤ n) new
  few_each n [] [] all begun = All-nil (λ b. length (served b) ≤ n)
  few_each n [] (b ∷ ys) all begun = absurd all
  few_each n (a ∷ xs) [] all begun = absurd all
  few_each n (a ∷ xs) (b ∷ ys) all begun =
      All-cons (λ b. length (served b) ≤ n) b ys (omega (arith, all.0.0.most, All-head (λ a. limit a ≡ n) a xs begun))
      (few_each n xs ys all.1 (All-tail (λ a. limit a ≡ n) a xs begun))

  pub all_few : (n : ℕ) (lent old new : List A) → lent ≡ old → AllZip Became lent new → All (λ a. limit a ≡ n) old → All (λ b. length (served b) ≤ n) new
  all_few n lent old new is all begun = few_each n old new (subst (λ (xs : List A). AllZip Became xs new) is all) begun

  -- the passes keep their order
  order_from : (seat : ℕ → ℕ) (old new : List A) → AllZip Became old new → ((k : ℕ) (a : A) → slice_get old k ≡ Some a → (pass a).seat ≡ seat k)
      → (k : ℕ) (p : Worker) → slice_get (map pass new) k ≡ Some p → p.seat ≡ seat k
  order_from seat old [] all seats k p at = absurd (none at)
    where
      none : slice_get (map pass []) k ≡ Some p → ⊥
      none e = cc
  order_from seat [] (b ∷ ys) all seats k p at = absurd all
  order_from seat (a ∷ xs) (b ∷ ys) all seats zero p at = ap (λ (w : Worker). w.seat) (sym (same at)) ∙ all.0.1 ∙ seats zero a refl
    where
      same : Some (pass b) ≡ Some p → pass b ≡ p
      same e = cc
  order_from seat (a ∷ xs) (b ∷ ys) all seats (suc k) p at = order_from (λ n. seat (suc n)) xs ys all.1 (λ n x e. seats (suc n) x e) k p at

  pub in_order : (lent old new : List A) (passes ended : List Worker) → lent ≡ old → AllZip Became lent new → map pass old ≡ passes → AreFreshPasses passes → ended ≡ map pass new
      → (k : ℕ) (p : Worker) → slice_get ended k ≡ Some p → p.seat ≡ k
  in_order lent old new passes ended lent_is all are fresh is k p at =
      order_from (λ n. n) old new (subst (λ (xs : List A). AllZip Became xs new) lent_is all) (λ n a e. ap (λ (w : Worker). w.seat) (fresh_at pass old passes are fresh n a e)) k p
      (ap (λ (ps : List Worker). slice_get ps k) (sym is) ∙ at)

  alike : (old new : List A) → capacity ≡ s.journal → AllZip Became old new → All (λ a. limit a ≡ s.connections) old
      → AllZip (λ a b. HasWorkedOut watch s.journal s.connections (post a) (last b) (end b)) old new
  alike [] [] frame all begun = tt
  alike [] (b ∷ ys) frame all begun = absurd all
  alike (a ∷ xs) [] frame all begun = absurd all
  alike (a ∷ xs) (b ∷ ys) frame all begun = (
    subst (λ (n : ℕ). HasWorkedOut watch s.journal n (post a) (last b) (end b)) (All-head (λ a. limit a ≡ s.connections) a xs begun)
        (subst (λ (n : ℕ). HasWorkedOut watch n (limit a) (post a) (last b) (end b)) frame all.0.0),
    alike xs ys frame all.1 (All-tail (λ a. limit a ≡ s.connections) a xs begun),
  )

  pub record_made : (lent old new : List A) (h : List Entry) (passes ended : List Worker) (posts left : List Q) (connections : List (Served L)) (ends : List WorkerEnd) (shape : Shape)
      → capacity ≡ s.journal → s.shape ≡ shape → lent ≡ old → AllZip Became lent new → All (λ a. limit a ≡ s.connections) old → map pass old ≡ passes → AreFreshPasses passes
      → map post old ≡ posts → ended ≡ map pass new → connections ≡ flat_map served new → ends ≡ map end new → left ≡ map post new
      → All (λ (b : A). (pass b).made ≡ own_count (pass b).seat (pass b).seen) new → HaveMade ended h → length h ≤ capacity → IsLegal shape h
      → IsRecord watch s posts h connections ends left
  record_made lent old new h passes ended posts left connections ends shape frame same lent_is all begun are fresh posts_are ended_is served_is ends_are left_is counted made most legal =
      let in_seats = in_order lent old new passes (map pass new) lent_is all are fresh refl in
      let whole = recorded watch s post pass served end old new h (alike old new frame (subst (λ (xs : List A). AllZip Became xs new) lent_is all) begun) in_seats
      (All-map (λ (p : Worker). p.made ≡ own_count p.seat p.seen) pass new counted)
      (subst (λ (ps : List Worker). HaveMade ps h) ended_is made) (omega (arith, most, frame)) (subst (λ (x : Shape). IsLegal x h) (sym same) legal) in
      subst (λ (qs : List Q). IsRecord watch s posts h connections ends qs) (sym left_is)
      (subst (λ (es : List WorkerEnd). IsRecord watch s posts h connections es (map post new)) (sym ends_are)
      (subst (λ (cs : List (Served L)). IsRecord watch s posts h cs (map end new) (map post new)) (sym served_is)
      (subst (λ (qs : List Q). IsRecord watch s qs h (flat_map served new) (map end new) (map post new)) posts_are whole)))
