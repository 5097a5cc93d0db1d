-- A replay from its beginning, where nobody did anything, to its end, where each actor has ended.
use Rattle.std.proofs.Common.{◌≡◌, ℕ, zero, suc, ◌+◌, ◌<◌, ◌≤◌, List, [], ◌∷◌, length, map, Option, None, Some, refl, sym, ap, subst, ◌∙◌, arith}
use Rattle.std.specs.Prelude.{All, IfSome, IsSome, slice_get, replicate}
use Rattle.std.specs.List.{flat_map}
use Rattle.std.proofs.lemmas.List.Elements.{All-nil, All-cons, All-head, All-tail}
use Rattle.network_model.specs.Network.{Shape}
use Rattle.network_model.specs.History.{own_entries}
use Rattle.network_model.specs.declared.Entry.{Entry}
use Rattle.session_model.specs.declared.Ending.{Ending}
use Rattle.session_model.specs.Walk.{Connection, Work, between, Leads}
use Rattle.session_model.specs.Turns.{of_order}
use Rattle.session_model.proofs.Leading.{leads_nowhere}
use Rattle.qron_link.specs.Outside.{RoomTaken}
use Rattle.qron_link.specs.Dices.{Drawn}
use Rattle.qron_link.proofs.Known.{read_none, written_none}
use Rattle.factored_core.specs.Core.{Journal}
use Rattle.cqc_session.specs.State.{State}
use Rattle.cqc_server.specs.Replay.{Act, Seen, HasBegun, CameToEnd, Replayed, dice_begun, entries_of, actor_of, IsOfOne}
use Rattle.cqc_server.specs.Progress.{IsOver, Stands, IsActing, Fits, AreActing, AllFit, AllTakeTurns, AllHaveActed}
use Rattle.cqc_server.proofs.Scenes.{all_then, places_same}

-- ---- the beginning
abbrev nobody : Option Ending
nobody = None

-- an actor that is there at the beginning
abbrev pub IsFresh : ℕ → ℕ → Seen → Type 0
IsFresh nodes k s = HasBegun k nodes s.session × (s.ending ≡ None)

-- an actor did nothing yet
abbrev pub start : Seen → Act
start s = record { before = s; after = dice_begun s; read = []; written = [] }

pub fresh_seen : {A : Type 0} (seen : A → Seen) (nodes : ℕ) (xs : List A) (k n : ℕ) → IfSome (slice_get xs k) (λ a. IsFresh nodes n (seen a)) → IfSome (slice_get (map seen xs) k) (IsFresh nodes n)
fresh_seen seen nodes [] zero n h = h
fresh_seen seen nodes [] (suc k) n h = h
fresh_seen seen nodes (x ∷ xs) zero n h = h
fresh_seen seen nodes (x ∷ xs) (suc k) n h = fresh_seen seen nodes xs k n h

room_none : (room : Option ℕ) → RoomTaken room 0 room
room_none None = tt
room_none (Some r) = simple r
  where
    simple : (r : ℕ) → r + 0 ≡ r
    simple r = omega arith

module _ (word : List ℕ → ℕ → ℕ → ℕ → ℕ) (shape : Shape) (capacity : ℕ) (h : List Entry) where
  -- what stands of an actor that did nothing
  nothing_done : (s : Seen) (k : ℕ) (own : List Entry) → own ≡ [] → IsFresh (length shape.places) k s → IsActing word capacity (length h) own (start s)
  nothing_done s k own empty fresh =
      let b = fresh.0 in
      let serial : s.session.connection.serial ≡ 0 = ap (λ (x : State). x.connection.serial) b.is ∙ b.serial_is in
      subst (λ (es : List Entry). IsActing word capacity (length h) es (start s)) (sym empty) (record {
        connection = refl;
        cap = refl;
        read = read_none s.left s.left refl;
        written = written_none s.held s.held refl;
        room = room_none s.room;
        dice = ap (λ (n : ℕ). record { key = s.dice.key; seat = s.session.connection.seat; serial = n; taken = 0 }) (sym serial);
        worded = tt;
        reads = as_long s.read_faults;
        writes = as_long s.write_faults;
        stands = subst (Stands word capacity (length h) [] (start s)) (sym fresh.1) (record {
          stage = ap (λ (x : State). x.stage) b.is;
          paid = paid s.session.budget s.session.cap (ap (λ (x : State). x.budget) b.is);
          leads = subst (λ (w : Work). Leads s.session.connection between [] [] [] [] w) (sym (ap (λ (x : State). x.work) b.is)) (leads_nowhere s.session.connection between);
          last = λ some. absurd (omega (arith, some));
        });
      })
    where
      as_long : (n : ℕ) → n ≤ n
      as_long n = omega arith

      paid : (b c : ℕ) → b ≡ c → b + 0 ≡ c
      paid b c e = omega (arith, e)

  begin_from : (seats : ℕ) (k : ℕ) (ss : List Seen) → ((n : ℕ) → IfSome (slice_get ss n) (IsFresh (length shape.places) (k + n))) → ((n : ℕ) → n < seats → own_entries n 0 h ≡ [])
      → k + length ss ≤ seats → AreActing word shape capacity h k (map start ss)
  begin_from seats k [] fresh unused few = tt
  begin_from seats k (s ∷ ss) fresh unused few =
      let f : IsFresh (length shape.places) k s = subst (λ (n : ℕ). IsFresh (length shape.places) n s) (simple k) (fresh zero) in
      let b = f.0 in
      let seat : s.session.connection.seat ≡ k = ap (λ (x : State). x.connection.seat) b.is ∙ b.seat_is in
      let serial : s.session.connection.serial ≡ 0 = ap (λ (x : State). x.connection.serial) b.is ∙ b.serial_is in
      let none : entries_of (start s) h ≡ [] =
      ap (λ (n : ℕ). own_entries n s.session.connection.serial h) seat ∙ ap (λ (n : ℕ). own_entries k n h) serial ∙ unused k (omega (arith, few)) in (
        record { seat_is = seat; node = subst (λ (p : Connection). p.node < length shape.places) (sym (ap (λ (x : State). x.connection) b.is)) b.node },
        nothing_done s k (entries_of (start s) h) none f,
        begin_from seats (suc k) ss (λ n. subst (λ (m : ℕ). IfSome (slice_get ss n) (IsFresh (length shape.places) m)) (moved k n) (fresh (suc n))) unused (omega (arith, few)),
      )
    where
      simple : (k : ℕ) → k + 0 ≡ k
      simple k = omega arith

      moved : (k n : ℕ) → k + suc n ≡ suc k + n
      moved k n = omega arith

  pub all_begin : (ss : List Seen) → ((n : ℕ) → IfSome (slice_get ss n) (IsFresh (length shape.places) n)) → ((n : ℕ) → n < length ss → own_entries n 0 h ≡ [])
      → AreActing word shape capacity h 0 (map start ss)
  all_begin ss fresh unused =
      begin_from (length ss) 0 ss (λ n. subst (λ (m : ℕ). IfSome (slice_get ss n) (IsFresh (length shape.places) m)) (simple n) (fresh n)) unused (omega arith)
    where
      simple : (n : ℕ) → n ≡ 0 + n
      simple n = omega arith

  -- ---- the end
  one_ended : (a : Act) → IsActing word capacity (length h) (entries_of a h) a → length h ≤ capacity → (o : Option Ending) → a.after.ending ≡ o → IsSome o
      → CameToEnd word capacity h a × Fits word a a.after.ending (actor_of word a)
  one_ended a f few None e some = absurd (no some)
    where
      no : IsSome nobody → ⊥
      no x = cc
  one_ended a f few (Some ending) e some =
      let over : IsOver word capacity (length h) (entries_of a h) a ending = subst (Stands word capacity (length h) (entries_of a h) a) e f.stands in (
        record {
          ending = ending;
          ended = e;
          read = f.read;
          written = f.written;
          room = f.room;
          speaks = over.speaks (length h) (as_long (length h)) few;
          worded = f.worded;
          cause = over.cause;
          key = ap (λ (d : Drawn). d.key) f.dice;
        },
        subst (λ o. Fits word a o (actor_of word a)) (sym e) refl,
      )
    where
      as_long : (n : ℕ) → n ≤ n
      as_long n = omega arith

  all_ended : (n : ℕ) (acts : List Act) → AreActing word shape capacity h n acts → length h ≤ capacity → All (λ s. IsSome s.ending) (map (λ (a : Act). a.after) acts)
      → All (CameToEnd word capacity h) acts × AllFit word acts (map (actor_of word) acts)
  all_ended n [] f few some = (All-nil (CameToEnd word capacity h), tt)
  all_ended n (a ∷ acts) f few some =
      let head = All-head (λ (s : Seen). IsSome s.ending) a.after (map (λ (x : Act). x.after) acts) some in
      let tail = All-tail (λ (s : Seen). IsSome s.ending) a.after (map (λ (x : Act). x.after) acts) some in
      let one = one_ended a f.1 few a.after.ending refl head in
      let others = all_ended (suc n) acts f.2 few tail in
      (All-cons (CameToEnd word capacity h) a acts one.0 others.0, (one.1, others.1))

starts_before : (ss : List Seen) → map (λ (a : Act). a.before) (map start ss) ≡ ss
starts_before [] = refl
starts_before (s ∷ ss) = ap (λ (xs : List Seen). s ∷ xs) (starts_before ss)

starts_after : (ss : List Seen) → map (λ (a : Act). a.after) (map start ss) ≡ map dice_begun ss
starts_after [] = refl
starts_after (s ∷ ss) = ap (λ (xs : List Seen). dice_begun s ∷ xs) (starts_after ss)

-- actors whose dice were begun have done nothing else
pub have_begun : (word : List ℕ → ℕ → ℕ → ℕ → ℕ) (shape : Shape) (capacity : ℕ) (h : List Entry) (ss now : List Seen) → now ≡ map dice_begun ss
    → ((n : ℕ) → IfSome (slice_get ss n) (IsFresh (length shape.places) n)) → ((n : ℕ) → n < length ss → own_entries n 0 h ≡ [])
    → AllHaveActed word shape capacity h now
have_begun word shape capacity h ss now begun fresh unused =
    record { acts = map start ss; now_is = starts_after ss ∙ sym begun; acting = all_begin word shape capacity h ss fresh unused }

-- the order, and then each actor to its end
pub replayed : (word : List ℕ → ℕ → ℕ → ℕ → ℕ) (shape : Shape) (capacity : ℕ) (order : List ℕ) (h k l : List Entry) (ss begun mid now : List Seen) → begun ≡ map dice_begun ss
    → ((n : ℕ) → IfSome (slice_get ss n) (IsFresh (length shape.places) n)) → ((n : ℕ) → n < length ss → own_entries n 0 h ≡ [])
    → AllTakeTurns word shape capacity (λ ms. of_order ms order) h k begun mid → AllTakeTurns word shape capacity (λ ms. flat_map (replicate capacity) ms) k l mid now
    → All (λ s. IsSome s.ending) now → length l ≤ capacity → Replayed word shape capacity order h l ss now
replayed word shape capacity order h k l ss begun mid now is fresh unused one two some few =
    let both = all_then word shape capacity (λ ms. of_order ms order) (λ ms. flat_map (replicate capacity) ms) h k l begun mid now one two in
    let t = both (map start ss) (starts_after ss ∙ sym is) (all_begin word shape capacity h ss fresh unused) in
    let ended = all_ended word shape capacity l 0 t.next t.acting few (subst (All (λ s. IsSome s.ending)) (sym t.now_is) some) in
    record {
      acts = t.next;
      before_is = sym (t.same ∙ starts_before ss);
      after_is = sym t.now_is;
      ends = ended.0;
      added = t.added;
      grown = t.grown;
      ours = subst (λ (ps : List Connection). All (IsOfOne ps) t.added) (sym (places_same t.next (map start ss) t.same)) t.ours;
      turns = (t.turns (map (actor_of word) t.next) ended.1).1;
    }

-- the same for a core whose settings are as they were
pub ends_all_at : (word : List ℕ → ℕ → ℕ → ℕ → ℕ) (first mid : Journal) (l : List Entry) (before after : List Seen) → mid ≡ record first { entries = mid.entries }
    → AllTakeTurns word mid.shape mid.capacity (λ ms. flat_map (replicate mid.capacity) ms) mid.entries l before after
    → AllTakeTurns word first.shape first.capacity (λ ms. flat_map (replicate first.capacity) ms) mid.entries l before after
ends_all_at word first mid l before after same takes =
    subst (λ (j : Journal). AllTakeTurns word j.shape j.capacity (λ ms. flat_map (replicate j.capacity) ms) mid.entries l before after) same takes

pub all_acted_at : (word : List ℕ → ℕ → ℕ → ℕ → ℕ) (first mid : Journal) (nows : List Seen) → mid ≡ record first { entries = mid.entries }
    → AllHaveActed word first.shape first.capacity mid.entries nows → AllHaveActed word mid.shape mid.capacity mid.entries nows
all_acted_at word first mid nows same all = subst (λ (j : Journal). AllHaveActed word j.shape j.capacity mid.entries nows) (sym same) all
