-- A worker that serves one connection after the other.
-- Main results: `served_one`, `none_served`, `one_more`, `worked_out`.
use Rattle.std.proofs.Common.{◌≡◌, ◌≢◌, ℕ, suc, zero, ◌<◌, ◌≤◌, ◌⊎◌, inl, inr, List, [], ◌∷◌, ◌++◌, length, get_or, Option, None, Some, Ok, Err, refl, sym, ap, subst, ◌∙◌, arith, append_assoc, length-append}
use Rattle.std.specs.Prelude.{All, slice_get, option_map}
use Rattle.std.proofs.lemmas.List.{append-nil, append_cancel_left, length_push, nil_from_length}
use Rattle.std.proofs.lemmas.List.Elements.{All-nil, All-append, All-weaker, All-same}
use Rattle.std.proofs.lemmas.Option.{slice_get_within, slice_get-get_or}
use mathlib.Core.List.{IsPrefix}
use Rattle.network_model.specs.History.{own_entries, seat_entries}
use Rattle.network_model.specs.declared.Call.{Call}
use Rattle.network_model.specs.declared.Entry.{Entry}
use Rattle.session_model.specs.Walk.{Connection}
use Rattle.session_model.specs.Speaks.{Speaks}
use Rattle.session_model.specs.Worded.{AreWorded}
use Rattle.qron_link.specs.Outside.{Rose, WasRead, WasWritten}
use Rattle.cqc_session.specs.Session.{EndCause}
use Rattle.cqc_session.specs.Serving as session
use Rattle.commit_journal.specs.Views.{Worker}
use Rattle.cqc_server.specs.Record.{read_limit, IsServed, IsSamePost, IsOfServed, EndedBy, connection_of}
use Rattle.cqc_server.specs.Replay.{IsCallAt}
use Rattle.cqc_server.specs.Shared.{own, AreNextWorded, GaveUpEnough}
use Rattle.cqc_server.specs.SharedLaws.{enough_on}
use Rattle.cqc_server.specs.Watch.{LinkSeen, PostSeen, Watch}
use Rattle.cqc_server.specs.Working.{GoesOn, HasServedOne, WasServedAt, HasWorkedOn, AtPost, WorksOn, HasWorkedOut}
use Rattle.cqc_server.specs.declared.record.Served.{Served}
use Rattle.cqc_server.specs.declared.record.WorkerEnd.{WorkerEnd}
use Rattle.cqc_server.specs.declared.record.WorkerEnd.TheVariants.{Limit, Closed, DoorFault}
use Rattle.cqc_server.proofs.Connections.{spoken_ours, own_same, own_first}

-- ---- lists that grow
-- what stands at a place of a list that has grown
get_pushed : {A : Type 0} (xs : List A) (x y : A) (k : ℕ) → slice_get (xs ++ x ∷ []) k ≡ Some y → (slice_get xs k ≡ Some y) ⊎ ((k ≡ length xs) × (x ≡ y))
get_pushed [] x y zero e = inr (refl, cc)
get_pushed [] x y (suc k) e = absurd (cc)
get_pushed (z ∷ zs) x y zero e = inl e
get_pushed (z ∷ zs) x y (suc k) e = further (get_pushed zs x y k e)
  where
    further : (slice_get zs k ≡ Some y) ⊎ ((k ≡ length zs) × (x ≡ y)) → (slice_get zs k ≡ Some y) ⊎ ((suc k ≡ suc (length zs)) × (x ≡ y))
    further (inl here) = inl here
    further (inr last) = inr (ap suc last.0, last.1)

get_front : {A : Type 0} (xs ys : List A) (x : A) (k : ℕ) → slice_get xs k ≡ Some x → slice_get (xs ++ ys) k ≡ Some x
get_front [] ys x k e = absurd (cc)
get_front (z ∷ zs) ys x zero e = e
get_front (z ∷ zs) ys x (suc k) e = get_front zs ys x k e

get_last : {A : Type 0} (xs : List A) (x : A) → slice_get (xs ++ x ∷ []) (length xs) ≡ Some x
get_last [] x = refl
get_last (z ∷ zs) x = get_last zs x

-- links handed out in two steps
handed_on : {L : Type 0} (o : Option (List L)) (a b : List L) → option_map (λ list. list ++ b) (option_map (λ list. list ++ a) o) ≡ option_map (λ list. list ++ (a ++ b)) o
handed_on None a b = refl
handed_on (Some list) a b = ap Some (append_assoc list a b)

handed_none : {L : Type 0} (o : Option (List L)) → o ≡ option_map (λ list. list ++ []) o
handed_none None = refl
handed_none (Some list) = ap Some (sym (append-nil list))

-- ---- posts
module _ {Q L : Type 0} (watch : Watch Q L) where
  pub stands_still : (old new : Q) → IsSamePost watch old new → watch.handed new ≡ watch.handed old → (watch.post old).faults ≤ (watch.post new).faults
      → (watch.post old).closings ≤ (watch.post new).closings → GoesOn watch [] old new
  stands_still old new same handed faults closings = record { same = same; handed = handed ∙ handed_none (watch.handed old); faults = faults; closings = closings }

  goes_further : ((a b c : Q) → watch.was_led a b → watch.was_led b c → watch.was_led a c) → (links more : List L) (a b c : Q)
      → GoesOn watch links a b → GoesOn watch more b c → GoesOn watch (links ++ more) a c
  goes_further on links more a b c x y = record {
    same = record { led = on a b c x.same.led y.same.led; node = y.same.node ∙ x.same.node; key = y.same.key ∙ x.same.key; times = y.same.times ∙ x.same.times };
    handed = y.handed ∙ ap (option_map (λ list. list ++ more)) x.handed ∙ handed_on (watch.handed a) links more;
    faults = omega (arith, x.faults, y.faults);
    closings = omega (arith, x.closings, y.closings);
  }

  -- ---- a worker that has served nothing
  pub none_served : (capacity : ℕ) (first : Q) (pass : Worker) (served : List (Served L)) → watch.was_led first first → own pass ≡ [] → length served ≡ 0
      → HasWorkedOn watch capacity first first pass served
  none_served capacity first pass served led none empty =
      subst (λ (list : List (Served L)). HasWorkedOn watch capacity first first pass list) (sym (nil_from_length served empty)) (record {
        links = [];
        same = record { led = led; node = refl; key = refl; times = refl };
        handed = handed_none (watch.handed first);
        all = refl;
        each = λ k link c there. absurd (cc);
        ours = All-same (IsOfServed []) (own pass) [] none (All-nil (IsOfServed []));
        waited = subst (λ (es : List Entry). GaveUpEnough [] es (watch.post first).gave_up (watch.post first).gave_up) (sym none) (λ _. omega arith);
        more = omega arith;
        faults = omega arith;
        closings = omega arith;
      })

  -- ---- one connection more
  -- an earlier connection, over a history that has grown by entries of another
  kept_at : (capacity : ℕ) (before now : Worker) (entries : List Entry) (p : Connection) (k : ℕ) (post : PostSeen) (link : L) (c : Served L) → p.seat ≡ before.seat
      → now.seat ≡ before.seat → IsPrefix before.seen now.seen → own now ≡ own before ++ entries → p.serial ≢ k → All (λ e. IsCallAt p e.call) entries
      → WasServedAt watch capacity before.seen before.seat k post link c → WasServedAt watch capacity now.seen now.seat k post link c
  kept_at capacity before now entries p k post link c at seat seen added apart ours w =
      let grown : seat_entries p.seat now.seen ≡ seat_entries p.seat before.seen ++ entries =
      ap (λ (s : ℕ). seat_entries s now.seen) (at ∙ sym seat) ∙ added ∙ ap (λ (s : ℕ). seat_entries s before.seen ++ entries) (sym at) in
      let same : own_entries now.seat k now.seen ≡ own_entries before.seat k before.seen =
      ap (λ (s : ℕ). own_entries s k now.seen) (seat ∙ sym at) ∙ own_same p k before.seen now.seen entries grown apart ours ∙ ap (λ (s : ℕ). own_entries s k before.seen) at in
      record {
        seen = w.seen;
        front = omega (arith, w.front, ap length seen.1, length-append before.seen seen.0);
        served = record {
          seat_is = w.served.seat_is ∙ sym seat;
          serial_is = w.served.serial_is;
          node_is = w.served.node_is;
          served = subst (λ (es : List Entry). IsServed watch capacity w.seen es post.key link c) (sym same) w.served.served;
        };
      }

  -- the entries of earlier connections have earlier serials
  earlier_serials : (capacity : ℕ) (first old : Q) (pass : Worker) (served : List (Served L)) (link : L) → HasWorkedOn watch capacity first old pass served
      → All (λ e. e.call.serial ≢ length served) (own pass)
  earlier_serials capacity first old pass served link w =
      All-weaker (IsOfServed served) (λ (e : Entry). e.call.serial ≢ length served) by (own pass) w.ours
    where
      by : (e : Entry) → IsOfServed served e → e.call.serial ≢ length served
      by e x same =
          let within : x.place < length served = slice_get_within served x.place x.connection x.there in
          let there : slice_get w.links x.place ≡ Some (get_or w.links x.place link) = slice_get-get_or w.links x.place link (omega (arith, within, w.all)) in
          let serial : x.connection.serial ≡ x.place = (w.each x.place (get_or w.links x.place link) x.connection there x.there).served.serial_is in
          absurd (omega (arith, within, serial, same, ap (λ (c : Call). c.serial) x.call_is))

  -- the connection that was served now
  new_at : (capacity : ℕ) (first old mid new : Q) (before now : Worker) (served : List (Served L)) (link : L) (s : Served L) → HasWorkedOn watch capacity first old before served
      → IsSamePost watch first mid → HasServedOne watch capacity (length served) mid new before now link s
      → WasServedAt watch capacity now.seen now.seat (length served) (watch.post first) link s
  new_at capacity first old mid new before now served link s w same x =
      let p = connection_of s in
      let ours : All (λ e. IsCallAt p e.call) x.entries = spoken_ours _ _ _ _ _ x.served.speaks in
      let grown : seat_entries s.seat now.seen ≡ seat_entries s.seat before.seen ++ x.entries =
      ap (λ (n : ℕ). seat_entries n now.seen) (x.seat_is ∙ sym x.seat) ∙ x.added ∙ ap (λ (n : ℕ). seat_entries n before.seen ++ x.entries) (sym x.seat_is) in
      let none : All (λ (e : Entry). e.call.serial ≢ s.serial) (seat_entries s.seat before.seen) =
      subst (λ (n : ℕ). All (λ (e : Entry). e.call.serial ≢ s.serial) (seat_entries n before.seen)) (sym x.seat_is)
      (subst (λ (n : ℕ). All (λ (e : Entry). e.call.serial ≢ n) (own before)) (sym x.serial_is) (earlier_serials capacity first old before served link w)) in
      let mine : own_entries now.seat (length served) now.seen ≡ x.entries =
      ap (λ (n : ℕ). own_entries n (length served) now.seen) (x.seat ∙ sym x.seat_is) ∙ ap (λ (n : ℕ). own_entries s.seat n now.seen) (sym x.serial_is)
      ∙ own_first p before.seen now.seen x.entries grown none ours in
      record {
        seen = length now.seen;
        front = omega arith;
        served = record {
          seat_is = x.seat_is ∙ sym x.seat;
          serial_is = x.serial_is;
          node_is = x.node_is ∙ same.node;
          served = subst (λ (es : List Entry). IsServed watch capacity (length now.seen) es (watch.post first).key link s) (sym mine)
              (subst (λ (key : List ℕ). IsServed watch capacity (length now.seen) x.entries key link s) same.key x.served);
        };
      }

  of_more : (served : List (Served L)) (s : Served L) (e : Entry) → IsOfServed served e → IsOfServed (served ++ s ∷ []) e
  of_more served s e x = record { place = x.place; connection = x.connection; there = get_front served (s ∷ []) x.connection x.place x.there; call_is = x.call_is }

  of_last : (served : List (Served L)) (s : Served L) (e : Entry) → IsCallAt (connection_of s) e.call → IsOfServed (served ++ s ∷ []) e
  of_last served s e is = record { place = length served; connection = s; there = get_last served s; call_is = is }

  served_more : ((a b c : Q) → watch.was_led a b → watch.was_led b c → watch.was_led a c) → (capacity : ℕ) (first old mid new : Q) (before now : Worker) (served : List (Served L))
      (link : L) (s : Served L) → HasWorkedOn watch capacity first old before served → GoesOn watch (link ∷ []) old mid → (watch.post mid).gave_up ≡ (watch.post old).gave_up
      → HasServedOne watch capacity (length served) mid new before now link s → HasWorkedOn watch capacity first new now (served ++ s ∷ [])
  served_more on capacity first old mid new before now served link s w knocked patient x =
      let p = connection_of s in
      let ours : All (λ e. IsCallAt p e.call) x.entries = spoken_ours _ _ _ _ _ x.served.speaks in
      let met : GoesOn watch (w.links ++ link ∷ []) first mid =
      goes_further on w.links (link ∷ []) first old mid (record { same = w.same; handed = w.handed; faults = w.faults; closings = w.closings }) knocked in
      let all : GoesOn watch (w.links ++ link ∷ []) first new =
      subst (λ (links : List L). GoesOn watch links first new) (append-nil (w.links ++ link ∷ [])) (goes_further on (w.links ++ link ∷ []) [] first mid new met x.post) in
      record {
        links = w.links ++ link ∷ [];
        same = all.same;
        handed = all.handed;
        all = omega (arith, length_push w.links link, length_push served s, w.all);
        each = λ k l c there is. at met.same k l c (get_pushed w.links link l k there) (get_pushed served s c k is);
        ours = All-same (IsOfServed (served ++ s ∷ [])) (own now) (own before ++ x.entries) x.added
            (All-append (IsOfServed (served ++ s ∷ [])) (own before) x.entries
            (All-weaker (IsOfServed served) (IsOfServed (served ++ s ∷ [])) (of_more served s) (own before) w.ours)
            (All-weaker (λ (e : Entry). IsCallAt p e.call) (IsOfServed (served ++ s ∷ [])) (of_last served s) x.entries ours));
        waited = enough_on [] (own before) (own now) (watch.post first).gave_up (watch.post mid).gave_up (watch.post new).gave_up x.more
            (subst (λ (n : ℕ). GaveUpEnough [] (own before) (watch.post first).gave_up n) (sym patient) w.waited) x.waited;
        more = omega (arith, w.more, patient, x.more);
        faults = all.faults;
        closings = all.closings;
      }
    where
      at : IsSamePost watch first mid → (k : ℕ) (l : L) (c : Served L) → (slice_get w.links k ≡ Some l) ⊎ ((k ≡ length w.links) × (link ≡ l))
          → (slice_get served k ≡ Some c) ⊎ ((k ≡ length served) × (s ≡ c)) → WasServedAt watch capacity now.seen now.seat k (watch.post first) l c
      at same k l c (inl there) (inl is) =
          let within : k < length served = slice_get_within served k c is in
          kept_at capacity before now x.entries (connection_of s) k (watch.post first) l c x.seat_is x.seat x.seen x.added
          (λ e. absurd (omega (arith, within, e, x.serial_is))) (spoken_ours _ _ _ _ _ x.served.speaks) (w.each k l c there is)
      at same k l c (inl there) (inr is) = absurd (omega (arith, slice_get_within w.links k l there, is.0, w.all))
      at same k l c (inr there) (inl is) = absurd (omega (arith, slice_get_within served k c is, there.0, w.all))
      at same k l c (inr there) (inr is) =
          subst (λ (n : ℕ). WasServedAt watch capacity now.seen now.seat n (watch.post first) l c) (sym is.0)
          (subst (λ (y : L). WasServedAt watch capacity now.seen now.seat (length served) (watch.post first) y c) there.1
          (subst (λ (y : Served L). WasServedAt watch capacity now.seen now.seat (length served) (watch.post first) link y) is.1
          (new_at capacity first old mid new before now served link s w same x)))

-- ---- a link that was served
pub seen_alike : (a b : LinkSeen) → a.left ≡ b.left → a.held ≡ b.held → a.read_faults ≡ b.read_faults → a.write_faults ≡ b.write_faults → a ≡ b
seen_alike a b left held reads writes =
    ap (λ x. seen x a.held a.read_faults a.write_faults) left ∙ ap (λ x. seen b.left x a.read_faults a.write_faults) held
    ∙ ap (λ x. seen b.left b.held x a.write_faults) reads ∙ ap (λ x. seen b.left b.held b.read_faults x) writes
  where
    seen : Option (List ℕ) → Option (List ℕ) → ℕ → ℕ → LinkSeen
    seen w x y z = record { left = w; held = x; read_faults = y; write_faults = z }

placed_alike : (p q : Connection) → q.seat ≡ p.seat → q.serial ≡ p.serial → q.node ≡ p.node → p ≡ q
placed_alike p q seat serial node =
    ap (λ x. at x p.serial p.node) (sym seat) ∙ ap (λ x. at q.seat x p.node) (sym serial) ∙ ap (λ x. at q.seat q.serial x) (sym node)
  where
    at : ℕ → ℕ → ℕ → Connection
    at x y z = record { seat = x; serial = y; node = z }

module _ {Q L : Type 0} (watch : Watch Q L) (on : (a b c : L) → watch.link_was_led a b → watch.link_was_led b c → watch.link_was_led a c) where
  -- as a session that was served and then closed its link
  pub served_one : (capacity serial most : ℕ) (old new : Q) (before now : Worker) (first last : L) (s : Served L) (p : Connection)
      → (s.seat ≡ p.seat) × (s.serial ≡ p.serial) × (s.node ≡ p.node) → most ≡ read_limit
      → (p.seat ≡ before.seat) × (p.serial ≡ serial) × (p.node ≡ (watch.post old).node)
      → session.Served p most (watch.link first).left (watch.link last).left (watch.link first).held (watch.link last).held (own before) (own now) (length now.seen) capacity s.ending
      → AreNextWorded (watch.word (watch.post old).key p.seat p.serial) (own before) (own now)
      → EndCause s.ending (watch.link first).read_faults (watch.link last).read_faults (watch.link first).write_faults (watch.link last).write_faults
      → watch.link_was_led first last → watch.link_was_led last s.link → watch.link s.link ≡ watch.link last
      → IsPrefix before.seen now.seen → now.seat ≡ before.seat
      → GaveUpEnough (own before) (own now) (watch.post old).gave_up (watch.post new).gave_up → (watch.post old).gave_up ≤ (watch.post new).gave_up
      → GoesOn watch [] old new → HasServedOne watch capacity serial old new before now first s
  served_one capacity serial most old new before now first last s p same whole at did worded cause led closed shut seen seat waited more post =
      let place : p ≡ connection_of s = placed_alike p (connection_of s) same.0 same.1 same.2 in
      let entries : worded.entries ≡ did.entries = append_cancel_left (own before) worded.entries did.entries (sym worded.added ∙ did.added) in
      record {
        seat_is = same.0 ∙ at.0;
        serial_is = same.1 ∙ at.1;
        node_is = same.2 ∙ at.2;
        entries = did.entries;
        added = did.added;
        served = record {
          read = did.read;
          written = did.written;
          led = on first last s.link led closed;
          was_read = subst (λ (x : LinkSeen). WasRead (watch.link first).left did.read x.left) (sym shut) did.took;
          few = omega (arith, did.few, whole);
          was_written = subst (λ (x : LinkSeen). WasWritten (watch.link first).held did.written x.held) (sym shut) did.gave;
          speaks = subst (λ (x : LinkSeen). Speaks (record { connection = connection_of s; cap = read_limit; left = x.left; entries = length now.seen; capacity = capacity }) did.read did.entries did.written s.ending) (sym shut)
              (subst (λ (n : ℕ). Speaks (record { connection = connection_of s; cap = n; left = (watch.link last).left; entries = length now.seen; capacity = capacity }) did.read did.entries did.written s.ending) whole
              (subst (λ (q : Connection). Speaks (record { connection = q; cap = most; left = (watch.link last).left; entries = length now.seen; capacity = capacity }) did.read did.entries did.written s.ending) place did.speaks));
          worded = subst (λ (q : Connection). AreWorded (watch.word (watch.post old).key q.seat q.serial) did.entries) place
              (subst (λ (es : List Entry). AreWorded (watch.word (watch.post old).key p.seat p.serial) es) entries worded.worded);
          cause = subst (λ (x : LinkSeen). EndCause s.ending (watch.link first).read_faults x.read_faults (watch.link first).write_faults x.write_faults) (sym shut) cause;
        };
        seen = seen;
        seat = seat;
        waited = waited;
        more = more;
        post = post;
      }

-- ---- a worker's end
-- a count that rose from a later moment on rose from an earlier one
rose_since : (a b c : ℕ) → a ≤ b → Rose b c → Rose a c
rose_since a b c more rose = omega (arith, more, rose)

ended_since : (first old new : PostSeen) (end : WorkerEnd) → first.faults ≤ old.faults → first.closings ≤ old.closings → EndedBy old new end → EndedBy first new end
ended_since first old new Limit faults closings x = tt
ended_since first old new Closed faults closings x = rose_since first.closings old.closings new.closings closings x
ended_since first old new DoorFault faults closings x = rose_since first.faults old.faults new.faults faults x

module _ {Q L : Type 0} (watch : Watch Q L) where
  -- a step that served a connection
  pub one_more : ((a b c : Q) → watch.was_led a b → watch.was_led b c → watch.was_led a c) → (capacity serial : ℕ) (old mid new : Q) (before now : Worker) (served all : List (Served L)) (link : L) (s : Served L) → GoesOn watch (link ∷ []) old mid
      → (watch.post mid).gave_up ≡ (watch.post old).gave_up → serial ≡ length served → HasServedOne watch capacity serial mid new before now link s → all ≡ served ++ s ∷ []
      → WorksOn watch capacity (record { post = old; pass = before; served = served }) (record { post = new; pass = now; served = all }) (Ok tt)
  one_more on capacity serial old mid new before now served all link s knocked patient next x pushed = record {
    on = λ first w. subst (λ (list : List (Served L)). HasWorkedOn watch capacity first new now list) (sym pushed)
        (served_more watch on capacity first old mid new before now served link s w knocked patient
        (subst (λ (n : ℕ). HasServedOne watch capacity n mid new before now link s) next x));
    seat = x.seat;
    ends = ap length pushed ∙ length_push served s;
  }

  -- the end behind a step at which the door handed nothing out
  pub worked_out : (capacity limit : ℕ) (first : Q) (old new : AtPost Q L) (end : WorkerEnd) → HasWorkedOn watch capacity first old.post old.pass old.served
      → length old.served < limit → WorksOn watch capacity old new (Err end) → HasWorkedOut watch capacity limit first new end
  worked_out capacity limit first old new end w few step =
      let same : length new.served ≡ length old.served = ap length (step.ends).0 in
      record {
        worked = step.on first w;
        most = omega (arith, same, few);
        limit_is = (λ is. absurd ((step.ends).1 is), λ is. absurd (omega (arith, is, same, few)));
        ended = ended_since (watch.post first) (watch.post old.post) (watch.post new.post) end w.faults w.closings (step.ends).2;
      }
