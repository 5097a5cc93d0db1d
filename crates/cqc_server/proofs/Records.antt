-- What workers did over one history is a record of it.
-- Main result: `recorded`.
use Rattle.std.proofs.Common.{◌≡◌, ◌⊎◌, inl, inr, ℕ, zero, suc, ◌≤◌, ◌==◌, List, [], ◌∷◌, ◌++◌, length, map, get_or, Bool, true, false, cond, Some, None, refl, sym, ap, subst, ◌∙◌, arith}
use Rattle.std.specs.Prelude.{All, filter, slice_get, option_map}
use Rattle.std.specs.List.{AllZip, flat_map}
use Rattle.std.proofs.lemmas.Bool.Decides.{nat_tests}
use Rattle.std.proofs.lemmas.List.Elements.{All-head, All-tail}
use Rattle.std.proofs.lemmas.Option.{slice_get-map, slice_get-get_or}
use mathlib.Core.List.{IsPrefix}
use Rattle.network_model.specs.History.{IsLegal, seat_entries, own_entries}
use Rattle.network_model.specs.declared.Entry.{Entry}
use Rattle.node_table.specs.declared.settings.Settings.{Settings}
use Rattle.cqc_model.specs.Plan.{messages}
use Rattle.session_model.specs.declared.Ending.{Ending}
use Rattle.session_model.specs.declared.Ending.TheVariants.{Clean, Cut, ReadFault, WriteFault, Full, Spent}
use Rattle.session_model.specs.Speaks.{Setting, Speaks, EndsAs, FoundFull, ProperPrefix, with_general, replies_of}
use Rattle.session_model.specs.Walk.{Said, walk}
use Rattle.commit_journal.specs.Keeping.{own_count}
use Rattle.commit_journal.specs.Views.{Worker, HaveMade}
use Rattle.cqc_server.specs.Record.{read_limit, connection_of, IsServed, IsServedAt, WorkerRun, HasRun, IsOfServed, IsRecord}
use Rattle.cqc_server.specs.Shared.{GaveUpEnough}
use Rattle.cqc_server.specs.Watch.{PostSeen, Watch}
use Rattle.cqc_server.specs.Working.{WasServedAt, AtPost, HasWorkedOut}
use Rattle.cqc_server.specs.declared.record.Served.{Served}
use Rattle.cqc_server.specs.declared.record.WorkerEnd.{WorkerEnd}
use Rattle.cqc_server.proofs.Fronts.{seat_whole, own_whole, front_short}

-- ---- lists
same_Some : {A : Type 0} (x y : A) → Some x ≡ Some y → x ≡ y
same_Some x y e = cc

never : {A B : Type 0} (x : A) → None ≡ Some x → B
never x e = cc

-- the element that an element of a mapped list is of
of_map : {A B : Type 0} (f : A → B) (xs : List A) (k : ℕ) (y : B) → slice_get (map f xs) k ≡ Some y → (x : A) × (slice_get xs k ≡ Some x) × (f x ≡ y)
of_map f [] k y e = never y e
of_map f (x ∷ xs) zero y e = (x, refl, same_Some (f x) y e)
of_map f (x ∷ xs) (suc k) y e = of_map f xs k y e

-- a fact of the elements that a test keeps
kept : {A : Type 0} (test : A → Bool) (P : A → Type 0) (xs : List A) (k : ℕ) (x : A) → All P (filter test xs) → slice_get xs k ≡ Some x → test x ≡ true → P x
kept test P [] k x all e is = never x e
kept test P (y ∷ ys) zero x all e is =
    let same = same_Some y x e in
    subst P same (All-head P y (filter test ys) (subst (λ b. All P (cond b (y ∷ filter test ys) (filter test ys))) (ap test same ∙ is) all))
kept test P (y ∷ ys) (suc k) x all e is = kept test P ys k x (behind (test y) all) e is
  where
    behind : (b : Bool) → All P (cond b (y ∷ filter test ys) (filter test ys)) → All P (filter test ys)
    behind true all = All-tail P y (filter test ys) all
    behind false all = all

-- what stands in the first of two lists, and in the second, stands in both
before : {A : Type 0} (xs ys : List A) (k : ℕ) (x : A) → slice_get xs k ≡ Some x → slice_get (xs ++ ys) k ≡ Some x
before [] ys k x e = never x e
before (y ∷ xs) ys zero x e = e
before (y ∷ xs) ys (suc k) x e = before xs ys k x e

behind : {A : Type 0} (xs ys : List A) (k : ℕ) (x : A) → slice_get ys k ≡ Some x → (n : ℕ) × (slice_get (xs ++ ys) n ≡ Some x)
behind [] ys k x e = (k, e)
behind (y ∷ xs) ys k x e =
    let there = behind xs ys k x e in
    (suc there.0, there.1)

-- ---- a connection over a longer history
-- the same session, of a later journal
abbrev later : Setting → ℕ → Setting
later s now = record s { entries = now }

-- where it found the journal full, the journal is as full
ends_later : (s : Setting) (now : ℕ) (b : List ℕ) (entries : List Entry) (said : Said) (out : List ℕ) (ending : Ending) → (FoundFull s → FoundFull (later s now))
    → EndsAs s b entries said out ending → EndsAs (later s now) b entries said out ending
ends_later s now b entries said out Clean found e = e
ends_later s now b entries said out (Cut have need) found e = e
ends_later s now b entries said out ReadFault found e = e
ends_later s now b entries said out (Spent bytes) found e = e
ends_later s now b entries said out (Full count) found e = (e.0, found e.1, e.2)
ends_later s now b entries said out WriteFault found e = (either e.0, e.1)
  where
    either : ProperPrefix out said.text ⊎ (FoundFull s × ProperPrefix out (with_general said)) → ProperPrefix out said.text ⊎ (FoundFull (later s now) × ProperPrefix out (with_general said))
    either (inl short) = inl short
    either (inr (full, short)) = inr (found full, short)

speaks_later : (s : Setting) (now : ℕ) (b : List ℕ) (entries : List Entry) (out : List ℕ) (ending : Ending) → s.entries ≤ now → now ≤ s.capacity
    → Speaks s b entries out ending → Speaks (later s now) b entries out ending
speaks_later s now b entries out ending more most x = record {
  asked = x.asked;
  ends = ends_later s now b entries (walk s.connection (messages b) (replies_of entries)) out ending (λ full. full_still s.entries now s.capacity more most full) x.ends;
}
  where
    full_still : (seen now capacity : ℕ) → seen ≤ now → now ≤ capacity → seen ≡ capacity → now ≡ capacity
    full_still seen now capacity more most full = omega arith

module _ {Q L : Type 0} (watch : Watch Q L) where
  served_later : (capacity seen now : ℕ) (entries : List Entry) (key : List ℕ) (first : L) (c : Served L) → seen ≤ now → now ≤ capacity
      → IsServed watch capacity seen entries key first c → IsServed watch capacity now entries key first c
  served_later capacity seen now entries key first c more most x = record {
    read = x.read;
    written = x.written;
    led = x.led;
    was_read = x.was_read;
    few = x.few;
    was_written = x.was_written;
    speaks = speaks_later (record { connection = connection_of c; cap = read_limit; left = (watch.link c.link).left; entries = seen; capacity = capacity }) now x.read entries x.written c.ending more most x.speaks;
    worded = x.worded;
    cause = x.cause;
  }

  -- a connection that was served over a front that has all of its entries was served over the whole
  served_whole : (capacity : ℕ) (front h : List Entry) (seat serial : ℕ) (post : PostSeen) (first : L) (c : Served L)
      → length front ≤ length h → length h ≤ capacity → own_entries seat serial h ≡ own_entries seat serial front
      → WasServedAt watch capacity front seat serial post first c → IsServedAt watch capacity (length h) h seat serial post first c
  served_whole capacity front h seat serial post first c more most whole x = record {
    seat_is = x.served.seat_is;
    serial_is = x.served.serial_is;
    node_is = x.served.node_is;
    served = subst (λ (es : List Entry). IsServed watch capacity (length h) es post.key first c) (sym whole)
        (served_later capacity x.seen (length h) (own_entries seat serial front) post.key first c (omega (arith, x.front, more)) most x.served.served);
  }

-- the pass has seen all entries of its seat in the history
record SawAll (pass : Worker) (h : List Entry) : Type 0 where
  front : IsPrefix pass.seen h
  same : own_count pass.seat pass.seen ≡ own_count pass.seat h

-- ---- workers, as their fields are read
module _ {A Q L : Type 0} (watch : Watch Q L) (s : Settings) (post : A → Q) (pass : A → Worker) (served : A → List (Served L)) (end : A → WorkerEnd) where
  abbrev last : A → AtPost Q L
  last a = record { post = post a; pass = pass a; served = served a }

  abbrev run : A → A → List L → WorkerRun Q L
  run a b links = record { before = post a; after = post b; links = links; served = served b; end = end b }

  -- what became of a worker
  abbrev BecameOf : A → A → Type 0
  BecameOf a b = HasWorkedOut watch s.journal s.connections (post a) (last b) (end b)

  has_run : (h : List Entry) (seat : ℕ) (a b : A) → (pass b).seat ≡ seat → SawAll (pass b) h → length h ≤ s.journal → (x : BecameOf a b)
      → HasRun watch s h seat (run a b x.worked.links)
  has_run h seat a b place saw most x = subst (λ (n : ℕ). HasRun watch s h n (run a b x.worked.links)) place (record {
    same = x.worked.same;
    handed = x.worked.handed;
    all = x.worked.all;
    served = λ k link c there here.
        served_whole watch s.journal (pass b).seen h (pass b).seat k (watch.post (post a)) link c (front_short (pass b).seen h saw.front) most
        (own_whole (pass b).seat k (pass b).seen h saw.front saw.same) (x.worked.each k link c there here);
    most = x.most;
    limit = x.limit_is;
    ended = x.ended;
    waited = subst (λ (es : List Entry). GaveUpEnough [] es (watch.post (post a)).gave_up (watch.post (post b)).gave_up)
        (sym (seat_whole (pass b).seat (pass b).seen h saw.front saw.same)) x.worked.waited;
  })

  -- the runs of workers that have their seats by their places
  record AreRuns (h : List Entry) (seat : ℕ → ℕ) (old new : List A) : Type 0 where
    runs : List (WorkerRun Q L)
    posts_are : map post old ≡ map (λ (r : WorkerRun Q L). r.before) runs
    served_are : flat_map served new ≡ flat_map (λ (r : WorkerRun Q L). r.served) runs
    ends_are : map end new ≡ map (λ (r : WorkerRun Q L). r.end) runs
    left_are : map post new ≡ map (λ (r : WorkerRun Q L). r.after) runs
    each : (k : ℕ) (r : WorkerRun Q L) → slice_get runs k ≡ Some r → HasRun watch s h (seat k) r

  one_run : (h : List Entry) (seat : ℕ → ℕ) (r : WorkerRun Q L) (runs : List (WorkerRun Q L)) → HasRun watch s h (seat zero) r
      → ((k : ℕ) (q : WorkerRun Q L) → slice_get runs k ≡ Some q → HasRun watch s h (seat (suc k)) q)
      → (k : ℕ) (q : WorkerRun Q L) → slice_get (r ∷ runs) k ≡ Some q → HasRun watch s h (seat k) q
  one_run h seat r runs here rest zero q e = subst (HasRun watch s h (seat zero)) (same_Some r q e) here
  one_run h seat r runs here rest (suc k) q e = rest k q e

  runs_of : (h : List Entry) (seat : ℕ → ℕ) (old new : List A) → AllZip BecameOf old new → length h ≤ s.journal
      → ((k : ℕ) (b : A) → slice_get new k ≡ Some b → ((pass b).seat ≡ seat k) × SawAll (pass b) h) → AreRuns h seat old new
  runs_of h seat [] [] all most is = record {
    runs = [];
    posts_are = refl;
    served_are = refl;
    ends_are = refl;
    left_are = refl;
    each = λ k r e. never r e;
  }
  runs_of h seat [] (b ∷ ys) all most is = absurd all
  runs_of h seat (a ∷ xs) [] all most is = absurd all
  runs_of h seat (a ∷ xs) (b ∷ ys) all most is =
      let here = is zero b refl in
      let one = has_run h (seat zero) a b here.0 here.1 most all.0 in
      let rest = runs_of h (λ k. seat (suc k)) xs ys all.1 most (λ k c e. is (suc k) c e) in
      record {
        runs = run a b all.0.worked.links ∷ rest.runs;
        posts_are = ap (λ (qs : List Q). post a ∷ qs) rest.posts_are;
        served_are = ap (λ (cs : List (Served L)). served b ++ cs) rest.served_are;
        ends_are = ap (λ (es : List WorkerEnd). end b ∷ es) rest.ends_are;
        left_are = ap (λ (qs : List Q). post b ∷ qs) rest.left_are;
        each = one_run h seat (run a b all.0.worked.links) rest.runs one rest.each;
      }

  -- ---- entries of connections that were served
  of_all : (new : List A) (k : ℕ) (b : A) (e : Entry) → slice_get new k ≡ Some b → IsOfServed (served b) e → IsOfServed (flat_map served new) e
  of_all [] k b e at x = never b at
  of_all (c ∷ cs) zero b e at x = record {
    place = x.place;
    connection = x.connection;
    there = before (served c) (flat_map served cs) x.place x.connection (ap (λ (w : A). slice_get (served w) x.place) (same_Some c b at) ∙ x.there);
    call_is = x.call_is;
  }
  of_all (c ∷ cs) (suc k) b e at x =
      let y = of_all cs k b e at x in
      let there = behind (served c) (flat_map served cs) y.place y.connection y.there in
      record { place = there.0; connection = y.connection; there = there.1; call_is = y.call_is }

  one_ours : (new : List A) (h : List Entry) (k : ℕ) (a b : A) (i : ℕ) (e : Entry) → slice_get new k ≡ Some b → BecameOf a b → SawAll (pass b) h
      → slice_get h i ≡ Some e → (pass b).seat ≡ e.call.seat → IsOfServed (flat_map served new) e
  unfolding seat_entries
  one_ours new h k a b i e at x saw there seat =
      of_all new k b e at
      (kept (λ (f : Entry). f.call.seat == (pass b).seat) (IsOfServed (served b)) h i e
      (subst (All (IsOfServed (served b))) (sym (seat_whole (pass b).seat (pass b).seen h saw.front saw.same)) x.worked.ours)
      there (test e.call.seat (pass b).seat (sym seat)))
    where
      test : (m n : ℕ) → m ≡ n → (m == n) ≡ true
      test m n is = grind (arith, nat_tests)

  partner : (old new : List A) (k : ℕ) (b : A) → AllZip BecameOf old new → slice_get new k ≡ Some b → (a : A) × BecameOf a b
  partner [] [] k b all e = never b e
  partner [] (d ∷ ds) k b all e = absurd all
  partner (c ∷ cs) [] k b all e = absurd all
  partner (c ∷ cs) (d ∷ ds) zero b all e = (c, subst (BecameOf c) (same_Some d b e) all.0)
  partner (c ∷ cs) (d ∷ ds) (suc k) b all e = partner cs ds k b all.1 e

  -- each pass has seen all entries of its seat
  saw_all : (new : List A) (h : List Entry) (k : ℕ) (b : A) → HaveMade (map pass new) h → All (λ (p : Worker). p.made ≡ own_count p.seat p.seen) (map pass new)
      → slice_get new k ≡ Some b → SawAll (pass b) h
  saw_all new h k b made counted at =
      let there : slice_get (map pass new) k ≡ Some (pass b) = slice_get-map pass new k ∙ ap (option_map pass) at in
      record {
        front = made.prefixes k (pass b) there;
        same = sym (all_at (λ (p : Worker). p.made ≡ own_count p.seat p.seen) (map pass new) k (pass b) counted there) ∙ sym (made.counted k (pass b) there);
      }
    where
      all_at : (P : Worker → Type 0) (ps : List Worker) (k : ℕ) (p : Worker) → All P ps → slice_get ps k ≡ Some p → P p
      all_at P [] k p all e = never p e
      all_at P (q ∷ qs) zero p all e = subst P (same_Some q p e) (All-head P q qs all)
      all_at P (q ∷ qs) (suc k) p all e = all_at P qs k p (All-tail P q qs all) e

  -- What workers did whose passes made the history is its record.
  pub recorded : (old new : List A) (h : List Entry) → AllZip BecameOf old new → ((k : ℕ) (p : Worker) → slice_get (map pass new) k ≡ Some p → p.seat ≡ k)
      → All (λ (p : Worker). p.made ≡ own_count p.seat p.seen) (map pass new) → HaveMade (map pass new) h → length h ≤ s.journal → IsLegal s.shape h
      → IsRecord watch s (map post old) h (flat_map served new) (map end new) (map post new)
  recorded old new h all seats counted made most legal =
      let runs = runs_of h (λ k. k) old new all most
      (λ k b at. (seats k (pass b) (slice_get-map pass new k ∙ ap (option_map pass) at), saw_all new h k b made counted at)) in
      record {
        legal = legal;
        most = most;
        ours = λ i d within.
            let there = slice_get-get_or h i d within in
            let (k, p, at, seat) = made.others i (get_or h i d) there in
            let (b, here, is) = of_map pass new k p at in
            let x = partner old new k b all here in
            one_ours new h k x.0 b i (get_or h i d) here x.1 (saw_all new h k b made counted here) there (ap (λ (w : Worker). w.seat) is ∙ seat);
        runs = runs.runs;
        posts_are = runs.posts_are;
        served_are = runs.served_are;
        ends_are = runs.ends_are;
        left_are = runs.left_are;
        each = runs.each;
      }
