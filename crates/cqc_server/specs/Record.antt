-- What serving leaves: one record of all that was said and done on the ports of a network.
use Rattle.std.specs.Prelude.{◌≡◌, ◌↔◌, ℕ, ◌+◌, ◌*◌, ◌^◌, ◌<◌, ◌≤◌, List, [], ◌∷◌, ◌++◌, length, map, slice_get, All, Option, Some, option_map}
use Rattle.std.specs.List.{flat_map}
use Rattle.network_model.specs.History.{IsLegal, own_entries, seat_entries}
use Rattle.network_model.specs.declared.Call.{Call}
use Rattle.network_model.specs.declared.Entry.{Entry}
use Rattle.node_table.specs.declared.settings.Settings.{Settings}
use Rattle.qron_link.specs.Outside.{Rose, WasRead, WasWritten}
use Rattle.cqc_session.specs.Session.{EndCause}
use Rattle.session_model.specs.Speaks.{Setting, Speaks}
use Rattle.session_model.specs.Walk.{Connection, call_of}
use Rattle.session_model.specs.Worded.{AreWorded}
use Rattle.cqc_server.specs.Shared.{GaveUpEnough}
use Rattle.cqc_server.specs.Watch.{PostSeen, Watch}
use Rattle.cqc_server.specs.declared.record.Served.{Served}
use Rattle.cqc_server.specs.declared.record.WorkerEnd.{WorkerEnd}
use Rattle.cqc_server.specs.declared.record.WorkerEnd.TheVariants.{Limit, Closed, DoorFault}

-- the most bytes that are read on a connection
abbrev pub read_limit : ℕ
read_limit = 2 ^ 32

-- the connection that was served
abbrev pub connection_of : {L : Type 0} → Served L → Connection
connection_of s = record { seat = s.seat; serial = s.serial; node = s.node }

-- A link that a door handed out was served as a connection, over a history with these entries of its own, of which its
-- session has seen so many, and of which there may be capacity: the bytes that were read, its entries, the bytes that
-- were written and its ending are those of a connection, and its words those of dice with this key. A fault ended it
-- only where its own side of the link failed.
pub record IsServed {Q L : Type 0} (watch : Watch Q L) (capacity seen : ℕ) (entries : List Entry) (key : List ℕ) (first : L) (s : Served L) : Type 0 where
  pub read : List ℕ
  pub written : List ℕ
  pub led : watch.link_was_led first s.link
  pub was_read : WasRead (watch.link first).left read (watch.link s.link).left
  pub few : length read ≤ read_limit
  pub was_written : WasWritten (watch.link first).held written (watch.link s.link).held
  pub speaks : Speaks (record { connection = connection_of s; cap = read_limit; left = (watch.link s.link).left; entries = seen; capacity = capacity }) read entries written s.ending
  pub worded : AreWorded (watch.word key s.seat s.serial) entries
  pub cause : EndCause s.ending (watch.link first).read_faults (watch.link s.link).read_faults (watch.link first).write_faults (watch.link s.link).write_faults

-- it was served at this place: as the connection of a seat with this serial, at the post's node and with the key of its dice
pub record IsServedAt {Q L : Type 0} (watch : Watch Q L) (capacity seen : ℕ) (history : List Entry) (seat serial : ℕ) (post : PostSeen) (first : L) (s : Served L) : Type 0 where
  pub seat_is : s.seat ≡ seat
  pub serial_is : s.serial ≡ serial
  pub node_is : s.node ≡ post.node
  pub served : IsServed watch capacity seen (own_entries seat serial history) post.key first s

-- what a worker did: its post before and after, the links that its door handed out, the connections that it served, and why it ended
pub record WorkerRun (Q L : Type 0) : Type 0 where
  pub before : Q
  pub after : Q
  pub links : List L
  pub served : List (Served L)
  pub end : WorkerEnd

-- the post is another moment of the same one: its node, the key of its dice and the times of its patience are as they were
pub record IsSamePost {Q L : Type 0} (watch : Watch Q L) (old new : Q) : Type 0 where
  pub led : watch.was_led old new
  pub node : (watch.post new).node ≡ (watch.post old).node
  pub key : (watch.post new).key ≡ (watch.post old).key
  pub times : (watch.post new).times ≡ (watch.post old).times

-- why a worker ended: its door was closed, or failed, only where that count rose
abbrev pub EndedBy : PostSeen → PostSeen → WorkerEnd → Type 0
EndedBy old new Limit = Unit {0}
EndedBy old new Closed = Rose old.closings new.closings
EndedBy old new DoorFault = Rose old.faults new.faults

-- The worker of a seat served the links that its door handed out, one after the other, each as its next connection, over
-- this history. It ended at the limit exactly after so many. No more of its commands were answered TIMEOUT than its
-- patience gave up.
pub record HasRun {Q L : Type 0} (watch : Watch Q L) (s : Settings) (history : List Entry) (seat : ℕ) (run : WorkerRun Q L) : Type 0 where
  pub same : IsSamePost watch run.before run.after
  pub handed : watch.handed run.after ≡ option_map (λ links. links ++ run.links) (watch.handed run.before)
  pub all : length run.links ≡ length run.served
  pub served : (k : ℕ) (link : L) (c : Served L) → slice_get run.links k ≡ Some link → slice_get run.served k ≡ Some c
      → IsServedAt watch s.journal (length history) history seat k (watch.post run.before) link c
  pub most : length run.served ≤ s.connections
  pub limit : (run.end ≡ Limit) ↔ (length run.served ≡ s.connections)
  pub ended : EndedBy (watch.post run.before) (watch.post run.after) run.end
  pub waited : GaveUpEnough [] (seat_entries seat history) (watch.post run.before).gave_up (watch.post run.after).gave_up

-- the entry is of a connection that was served
pub record IsOfServed {L : Type 0} (served : List (Served L)) (e : Entry) : Type 0 where
  pub place : ℕ
  pub connection : Served L
  pub there : slice_get served place ≡ Some connection
  pub call_is : e.call ≡ call_of (connection_of connection) e.call.app e.call.command

-- The record of a network with these settings, whose workers had these posts: one legal history, each of whose entries
-- is of a connection that was served; and what each worker did over it, in order of seat.
pub record IsRecord {Q L : Type 0} (watch : Watch Q L) (s : Settings) (posts : List Q) (entries : List Entry) (served : List (Served L)) (ends : List WorkerEnd) (left : List Q) : Type 0 where
  pub legal : IsLegal s.shape entries
  pub most : length entries ≤ s.journal
  pub ours : All (IsOfServed served) entries
  pub runs : List (WorkerRun Q L)
  pub posts_are : posts ≡ map (λ (r : WorkerRun Q L). r.before) runs
  pub served_are : served ≡ flat_map (λ (r : WorkerRun Q L). r.served) runs
  pub ends_are : ends ≡ map (λ (r : WorkerRun Q L). r.end) runs
  pub left_are : left ≡ map (λ (r : WorkerRun Q L). r.after) runs
  pub each : (seat : ℕ) (r : WorkerRun Q L) → slice_get runs seat ≡ Some r → HasRun watch s entries seat r

-- the post at a place is one for a node with so many workers: those of node 0 come first
pub record IsPostAt (workers place : ℕ) (post : PostSeen) : Type 0 where
  pub worker : ℕ
  pub few : worker < workers
  pub place_is : place ≡ post.node * workers + worker

-- posts for all workers of a network, in order of seat
pub record ArePosts {Q L : Type 0} (watch : Watch Q L) (s : Settings) (posts : List Q) : Type 0 where
  pub all : length posts ≡ length s.shape.places * s.workers
  pub each : (k : ℕ) (p : Q) → slice_get posts k ≡ Some p → IsPostAt s.workers k (watch.post p)
