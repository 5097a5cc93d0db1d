-- Connections that sit at their places are those of the definition of turns, and can take turns.
use Rattle.std.proofs.Common.{◌≡◌, ℕ, zero, suc, ◌+◌, ◌<◌, ◌^◌, List, [], ◌∷◌, ◌++◌, length, get_or, map, Option, None, Some, refl, sym, ap, subst, ◌∙◌, arith}
use Rattle.std.specs.Prelude.{slice_get, IfSome, All, true, false, if◌then◌else◌, Result, Ok, Err}
use Rattle.std.specs.Result.{is_ok, is_err}
use Rattle.std.proofs.lemmas.List.{length-map, map-append}
use Rattle.std.proofs.lemmas.List.Elements.{All-push}
use Rattle.network_model.specs.Network.{Shape}
use Rattle.factored_core.specs.Core.{Journal}
use Rattle.session_model.specs.Turns.{Actor, Finish, AreTurns, takers_of, actor_end}
use Rattle.network_model.specs.History.{own_entries}
use Rattle.network_model.specs.declared.Entry.{Entry}
use Rattle.schedule.specs.declared.plans.Planned.{Planned}
use Rattle.schedule.specs.Plans.{Plan}
use Rattle.schedule.specs.Views.{plan}
use Rattle.qron_link.specs.MemLinks.{Memory, new_memory}
use Rattle.cqc_session.specs.State.{begun}
use Rattle.cqc_server.specs.Replay.{HasBegun}
use Rattle.cqc_server.specs.Replay as replay
use Rattle.cqc_server.specs.InMemory.{IsUnused, planned_actor}
use Rattle.qron_cli.specs.Pipe.{AllWords}
use Rattle.qron_cli.specs.Seats.{Seat, connection_at, planned, all_planned, piece, seated, all_seated, ends_of}
use Rattle.qron_cli.specs.Printed.{Printed}
use Rattle.cqc_server.specs.Watch.{LinkSeen}
use Rattle.qron_cli.specs.declared.status.Status.{Status}

-- the actor of the definition of turns that sits at a seat
abbrev pub actor_by : AllWords → Seat → Actor
actor_by word q = record {
  connection = q.session.connection;
  words = λ k. word q.key q.session.connection.seat q.session.connection.serial k;
  input = q.link.left;
  room = Some q.link.room;
}

-- one more is seated behind the others
pub seated_more : (key : List ℕ) (n : ℕ) (plans : List Plan) (p : Plan) → all_seated key n (plans ++ p ∷ []) ≡ all_seated key n plans ++ seated key (n + length plans) p ∷ []
seated_more key n [] p = ap (λ m. seated key m p ∷ []) (omega arith)
seated_more key n (q ∷ plans) p =
    ap (λ es. seated key n q ∷ es) (seated_more key (suc n) plans p ∙ ap (λ m. all_seated key (suc n) plans ++ seated key m p ∷ []) (omega arith))

-- there are as many as plans
pub length_seated : (key : List ℕ) (n : ℕ) (plans : List Plan) → length (all_seated key n plans) ≡ length plans
length_seated key n [] = refl
length_seated key n (p ∷ plans) = ap suc (length_seated key (suc n) plans)

-- one more sits behind those that are seated
pub seated_push : {A : Type 0} (seat : A → Seat) (key seed : List ℕ) (n : ℕ) (actors : List A) (plans : List Planned) (a : A) (p : Planned)
    → map seat actors ≡ all_seated key 0 (map plan plans) → n ≡ length actors → seed ≡ key → seat a ≡ seated seed n (plan p)
    → map seat (actors ++ a ∷ []) ≡ all_seated key 0 (map plan (plans ++ p ∷ []))
seated_push seat key seed n actors plans a p so_far count same here =
    let as_many : length actors ≡ length (map plan plans) = sym (length-map actors seat) ∙ ap length so_far ∙ length_seated key 0 (map plan plans) in
    let number : n ≡ 0 + length (map plan plans) = omega (arith, as_many) in
    let last : seat a ≡ seated key (0 + length (map plan plans)) (plan p) =
    here ∙ ap (λ k. seated k n (plan p)) same ∙ ap (λ m. seated key m (plan p)) number in
    map-append seat actors (a ∷ [])
    ∙ ap (λ es. es ++ seat a ∷ []) so_far
    ∙ ap (λ q. all_seated key 0 (map plan plans) ++ q ∷ []) last
    ∙ sym (seated_more key 0 (map plan plans) (plan p))
    ∙ ap (all_seated key 0) (sym (map-append plan plans (p ∷ [])))

-- their actors are those of the plans
pub actors_are : (word : AllWords) (key : List ℕ) (n : ℕ) (plans : List Plan) → map (actor_by word) (all_seated key n plans) ≡ all_planned word key n plans
actors_are word key n [] = refl
actors_are word key n (p ∷ plans) = ap (λ es. planned word key n p ∷ es) (actors_are word key (suc n) plans)

-- the same of all that are seated so
pub planned_are : {A : Type 0} (seen : A → replay.Seen) (seat : A → Seat) (word : AllWords) → ((a : A) → planned_actor word (seen a) ≡ actor_by word (seat a))
    → (actors : List A) → map (planned_actor word) (map seen actors) ≡ map (actor_by word) (map seat actors)
planned_are seen seat word same [] = refl
planned_are seen seat word same (a ∷ actors) =
    ap (λ m. m ∷ map (planned_actor word) (map seen actors)) (same a)
    ∙ ap (λ ms. actor_by word (seat a) ∷ ms) (planned_are seen seat word same actors)

-- a session at a seat has begun there, at a node of the network
begun_one : (key : List ℕ) (n nodes : ℕ) (p : Plan) (q : Seat) → q ≡ seated key n p → p.node < nodes → HasBegun n nodes q.session × (q.ending ≡ None)
begun_one key n nodes p q is few = (
  record {
    connection = connection_at n p;
    seat_is = refl;
    serial_is = refl;
    node = few;
    is = ap Seat.session is ∙ ap (begun (connection_at n p)) (sym (ap (λ (x : Seat). x.session.cap) is));
  },
  ap Seat.ending is,
)

-- all have begun
pub all_begun : {A : Type 0} (seat : A → Seat) (key : List ℕ) (nodes n : ℕ) (actors : List A) (plans : List Planned)
    → map seat actors ≡ all_seated key n (map plan plans) → All (λ (p : Planned). p.node < nodes) plans
    → (k : ℕ) → IfSome (slice_get actors k) (λ a. HasBegun (n + k) nodes (seat a).session × ((seat a).ending ≡ None))
all_begun seat key nodes n [] plans is few k = tt
all_begun seat key nodes n (a ∷ actors) [] is few k = cc
all_begun seat key nodes n (a ∷ actors) (p ∷ plans) is few zero =
    let here : seat a ≡ seated key n (plan p) = cc in
    subst (λ m. HasBegun m nodes (seat a).session × ((seat a).ending ≡ None)) (omega arith) (begun_one key n nodes (plan p) (seat a) here (few zero p (omega arith)))
all_begun seat key nodes n (a ∷ actors) (p ∷ plans) is few (suc k) =
    let others : map seat actors ≡ all_seated key (suc n) (map plan plans) = cc in
    let P : ℕ → Type 0 = λ m. IfSome (slice_get actors k) (λ x. HasBegun m nodes (seat x).session × ((seat x).ending ≡ None)) in
    subst P (omega arith) (all_begun seat key nodes (suc n) actors plans others (λ j d h. few (suc j) d (omega arith)) k)

-- a link that was not used yet
unused_one : (key : List ℕ) (n : ℕ) (p : Plan) (q : Seat) → q ≡ seated key n p → length q.link.left < 2 ^ 32 → IsUnused q.session.cap q.link
unused_one key n p q is few =
    let link : q.link ≡ new_memory p.bytes piece p.room [] [] = ap Seat.link is in
    record {
      held = ap Memory.held link;
      bad_reads = ap Memory.bad_reads link;
      bad_writes = ap Memory.bad_writes link;
      read_faults = ap Memory.read_faults link;
      write_faults = ap Memory.write_faults link;
      few = subst (λ n. length q.link.left < n) (sym (ap (λ (x : Seat). x.session.cap) is)) few;
    }

-- no link was used yet
pub all_unused : {A : Type 0} (seat : A → Seat) (key : List ℕ) (n : ℕ) (actors : List A) (plans : List Plan)
    → map seat actors ≡ all_seated key n plans → All (λ a. length (seat a).link.left < 2 ^ 32) actors
    → (k : ℕ) (d : A) → k < length actors → IsUnused (seat (get_or actors k d)).session.cap (seat (get_or actors k d)).link
all_unused seat key n [] plans is few k d h = absurd (omega arith)
all_unused seat key n (a ∷ actors) [] is few k d h = cc
all_unused seat key n (a ∷ actors) (p ∷ plans) is few zero d h =
    let here : seat a ≡ seated key n p = cc in
    unused_one key n p (seat a) here (few zero a (omega arith))
all_unused seat key n (a ∷ actors) (p ∷ plans) is few (suc k) d h =
    let others : map seat actors ≡ all_seated key (suc n) plans = cc in
    all_unused seat key (suc n) actors plans others (λ j e i. few (suc j) e (omega arith)) k d (omega arith)

-- an empty history has no entries of anyone
pub none_of : (k : ℕ) (h : List Entry) → h ≡ [] → own_entries k 0 h ≡ []
unfolding own_entries
none_of k h e = subst (λ (x : List Entry). own_entries k 0 x ≡ []) (sym e) refl

-- as many actors as plans, and so turns are of actors
pub all_placed : {A : Type 0} (seat : A → Seat) (key : List ℕ) (actors : List A) (plans : List Planned) (order : List ℕ)
    → map seat actors ≡ all_seated key 0 (map plan plans) → All (λ k. k < length plans) order → All (λ k. k < length actors) order
all_placed seat key actors plans order is few k d h =
    let as_many : length actors ≡ length plans = sym (length-map actors seat) ∙ ap length is ∙ length_seated key 0 (map plan plans) ∙ length-map plans plan in
    omega (arith, as_many, few k d h)

-- ---- taking turns
-- at a slice of the actors: all have begun
pub begun_in : {A : Type 0} (seat : A → Seat) (key : List ℕ) (nodes n : ℕ) (xs ys : List A) (plans : List Planned) → ys ≡ xs → nodes ≡ n
    → map seat xs ≡ all_seated key 0 (map plan plans) → All (λ (p : Planned). p.node < n) plans
    → (k : ℕ) → IfSome (slice_get ys k) (λ a. HasBegun k nodes (seat a).session × ((seat a).ending ≡ None))
begun_in seat key nodes n xs ys plans same count is few k =
    subst (λ zs. IfSome (slice_get zs k) (λ a. HasBegun k nodes (seat a).session × ((seat a).ending ≡ None))) (sym same)
    (subst (λ m. IfSome (slice_get xs k) (λ a. HasBegun k m (seat a).session × ((seat a).ending ≡ None))) (sym count)
    (subst (λ m. IfSome (slice_get xs k) (λ a. HasBegun m n (seat a).session × ((seat a).ending ≡ None))) (from_zero k) (all_begun seat key n 0 xs plans is few k)))
  where
    from_zero : (k : ℕ) → 0 + k ≡ k
    from_zero k = omega arith

-- turns from a core that was just opened, of actors that are those of plans
pub turns_by : (shape : Shape) (capacity : ℕ) (first : Journal) (models plans : List Actor) (order turns : List ℕ) (last : List Entry)
    → first ≡ record { shape = shape; capacity = capacity; entries = [] } → models ≡ plans → turns ≡ order
    → AreTurns first.shape first.capacity (takers_of first.capacity models turns) first.entries last → AreTurns shape capacity (takers_of capacity plans order) [] last
turns_by shape capacity first models plans order turns last opened same_models same_order h =
    subst (λ (ks : List ℕ). AreTurns shape capacity (takers_of capacity plans ks) [] last) same_order
    (subst (λ (ms : List Actor). AreTurns shape capacity (takers_of capacity ms turns) [] last) same_models
    (subst (λ (j : Journal). AreTurns j.shape j.capacity (takers_of j.capacity models turns) j.entries last) opened h))

pub ends_by : (shape : Shape) (capacity : ℕ) (first : Journal) (models plans : List Actor) (last : List Entry) (ends : List (Option Finish))
    → first ≡ record { shape = shape; capacity = capacity; entries = [] } → models ≡ plans
    → ends ≡ map (λ m. Some (actor_end first.capacity last m)) models → ends ≡ ends_of capacity last plans
ends_by shape capacity first models plans last ends opened same_models h =
    h ∙ ap (λ (j : Journal). map (λ (m : Actor). Some (actor_end j.capacity last m)) models) opened ∙ ap (ends_of capacity last) same_models

-- the actors of seated connections are those of the plans
pub models_are : {A : Type 0} (seen : A → replay.Seen) (seat : A → Seat) (word : AllWords) (key : List ℕ) → ((a : A) → planned_actor word (seen a) ≡ actor_by word (seat a))
    → (xs ys : List A) (plans : List Plan) → ys ≡ xs → map seat xs ≡ all_seated key 0 plans → map (planned_actor word) (map seen ys) ≡ all_planned word key 0 plans
models_are seen seat word key same xs ys plans value is =
    ap (λ zs. map (planned_actor word) (map seen zs)) value ∙ planned_are seen seat word same xs ∙ ap (map (actor_by word)) is ∙ actors_are word key 0 plans

-- what was printed, said of the same text, outcome and pipe
pub printed_by : (text same : List ℕ) (done then_done : Status) (old before new : LinkSeen) (status : Status) → text ≡ same → done ≡ then_done → old ≡ before
    → Printed text done old new status → Printed same then_done before new status
printed_by text same done then_done old before new status p q r h =
    subst (λ (o : LinkSeen). Printed same then_done o new status) r
    (subst (λ (d : Status). Printed same d old new status) q (subst (λ (t : List ℕ). Printed t done old new status) p h))

-- as many connections have ended as there are
pub as_many : {A S : Type 0} (seen : A → S) (shown : S → Option Finish) (model : S → Actor) (end : Actor → Option Finish) (xs ys : List A)
    → map shown (map seen xs) ≡ map end (map model (map seen ys)) → length xs ≡ length ys
as_many seen shown model end xs ys e =
    sym (length-map (map seen xs) shown ∙ length-map xs seen) ∙ ap length e ∙ length-map (map model (map seen ys)) end ∙ length-map (map seen ys) model ∙ length-map ys seen

-- one more connection with few bytes
pub few_push : {A : Type 0} (left : A → List ℕ) (xs ys : List A) (a : A) → ys ≡ xs ++ a ∷ []
    → All (λ x. length (left x) < 2 ^ 32) xs → length (left a) < 2 ^ 32 → All (λ x. length (left x) < 2 ^ 32) ys
few_push left xs ys a is few one = subst (All (λ x. length (left x) < 2 ^ 32)) (sym is) (All-push (λ x. length (left x) < 2 ^ 32) xs a few one)

-- a connection that was pushed stands behind the others
pub pushed_behind : {A E : Type 0} (r : Result (Unit {0}) E) (old new : List A) (a : A) → false ≡ is_err r → new ≡ (if is_ok r then old ++ a ∷ [] else old) → new ≡ old ++ a ∷ []
pushed_behind (Ok u) old new a good is = is
pushed_behind (Err e) old new a good is = absurd (never good)
  where
    never : false ≡ true → ⊥
    never e = cc
