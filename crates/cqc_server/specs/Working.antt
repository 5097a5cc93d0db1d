-- A worker on its way: what it has done so far, over the history that its pass has seen.
use Rattle.std.specs.Prelude.{◌≡◌, ◌≢◌, ◌↔◌, ℕ, ◌+◌, ◌≤◌, List, [], ◌++◌, length, slice_get, All, Some, option_map, Result, MatchResult}
use mathlib.Core.List.{IsPrefix}
use Rattle.network_model.specs.declared.Entry.{Entry}
use Rattle.commit_journal.specs.Views.{Worker}
use Rattle.cqc_server.specs.Record.{IsServed, IsServedAt, IsSamePost, IsOfServed, EndedBy}
use Rattle.cqc_server.specs.Shared.{own, GaveUpEnough}
use Rattle.cqc_server.specs.Watch.{PostSeen, Watch}
use Rattle.cqc_server.specs.declared.record.Served.{Served}
use Rattle.cqc_server.specs.declared.record.WorkerEnd.{WorkerEnd}
use Rattle.cqc_server.specs.declared.record.WorkerEnd.TheVariants.{Limit}

-- A post went on, and its door handed out these links meanwhile.
pub record GoesOn {Q L : Type 0} (watch : Watch Q L) (links : List L) (old new : Q) : Type 0 where
  pub same : IsSamePost watch old new
  pub handed : watch.handed new ≡ option_map (λ list. list ++ links) (watch.handed old)
  pub faults : (watch.post old).faults ≤ (watch.post new).faults
  pub closings : (watch.post old).closings ≤ (watch.post new).closings

-- A link was served at this place, over the entries that the pass has made meanwhile.
pub record HasServedOne {Q L : Type 0} (watch : Watch Q L) (capacity serial : ℕ) (old new : Q) (before now : Worker) (first : L) (s : Served L) : Type 0 where
  pub seat_is : s.seat ≡ before.seat
  pub serial_is : s.serial ≡ serial
  pub node_is : s.node ≡ (watch.post old).node
  pub entries : List Entry
  pub added : own now ≡ own before ++ entries
  pub served : IsServed watch capacity (length now.seen) entries (watch.post old).key first s
  pub seen : IsPrefix before.seen now.seen
  pub seat : now.seat ≡ before.seat
  pub waited : GaveUpEnough (own before) (own now) (watch.post old).gave_up (watch.post new).gave_up
  pub more : (watch.post old).gave_up ≤ (watch.post new).gave_up
  pub post : GoesOn watch [] old new

-- a connection was served at its place, over a front of the history
pub record WasServedAt {Q L : Type 0} (watch : Watch Q L) (capacity : ℕ) (history : List Entry) (seat serial : ℕ) (post : PostSeen) (first : L) (s : Served L) : Type 0 where
  pub seen : ℕ
  pub front : seen ≤ length history
  pub served : IsServedAt watch capacity seen history seat serial post first s

-- A worker whose post was the old one, and which had made no entry, has served the links that its door handed out so far,
-- one after the other. Each entry that it made is of one of them.
pub record HasWorkedOn {Q L : Type 0} (watch : Watch Q L) (capacity : ℕ) (old new : Q) (pass : Worker) (served : List (Served L)) : Type 0 where
  pub links : List L
  pub same : IsSamePost watch old new
  pub handed : watch.handed new ≡ option_map (λ list. list ++ links) (watch.handed old)
  pub all : length links ≡ length served
  pub each : (k : ℕ) (link : L) (c : Served L) → slice_get links k ≡ Some link → slice_get served k ≡ Some c
      → WasServedAt watch capacity pass.seen pass.seat k (watch.post old) link c
  pub ours : All (IsOfServed served) (own pass)
  pub waited : GaveUpEnough [] (own pass) (watch.post old).gave_up (watch.post new).gave_up
  pub more : (watch.post old).gave_up ≤ (watch.post new).gave_up
  pub faults : (watch.post old).faults ≤ (watch.post new).faults
  pub closings : (watch.post old).closings ≤ (watch.post new).closings

-- a worker, as contracts see it on its way
pub record AtPost (Q L : Type 0) : Type 0 where
  pub post : Q
  pub pass : Worker
  pub served : List (Served L)

-- a step of a worker: it serves one connection more, or ends, since its door was closed or failed
pub record WorksOn {Q L : Type 0} (watch : Watch Q L) (capacity : ℕ) (old new : AtPost Q L) (done : Result (Unit {0}) WorkerEnd) : Type 0 where
  pub on : (first : Q) → HasWorkedOn watch capacity first old.post old.pass old.served → HasWorkedOn watch capacity first new.post new.pass new.served
  pub seat : new.pass.seat ≡ old.pass.seat
  pub ends : MatchResult done (λ _. length new.served ≡ length old.served + 1)
      (λ end. (new.served ≡ old.served) × (end ≢ Limit) × EndedBy (watch.post old.post) (watch.post new.post) end)

-- a worker that may serve so many connections has ended
pub record HasWorkedOut {Q L : Type 0} (watch : Watch Q L) (capacity limit : ℕ) (first : Q) (last : AtPost Q L) (end : WorkerEnd) : Type 0 where
  pub worked : HasWorkedOn watch capacity first last.post last.pass last.served
  pub most : length last.served ≤ limit
  pub limit_is : (end ≡ Limit) ↔ (length last.served ≡ limit)
  pub ended : EndedBy (watch.post first) (watch.post last.post) end
