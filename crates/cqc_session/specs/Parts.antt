-- What reading a header, a body and a whole message did to a link.
use Rattle.std.specs.Prelude.{◌≡◌, ◌≢◌, ℕ, ◌<◌, ◌≤◌, ◌==◌, if◌then◌else◌, List, ◌∷◌, length, Option, None, Some, Bool, false, Result, Ok, Err}
use Rattle.cqc_model.specs.declared.Command.{Command}
use Rattle.cqc_model.specs.declared.Header.{Header}
use Rattle.cqc_model.specs.declared.Instr.TheVariants.{Allocate}
use Rattle.cqc_model.specs.declared.Reply.{Reply}
use Rattle.cqc_model.specs.Plan.{begins_whole, refusal_of, body_limit, plan_of, fixed, steps}
use Rattle.cqc_program.specs.Rounds.{kind_of}
use Rattle.cqc_program.specs.Walks.{walk_limit}
use Rattle.session_model.specs.declared.Ending.{Ending}
use Rattle.session_model.specs.declared.Ending.TheVariants as ending
use Rattle.session_model.specs.Walk.{Connection, between}
use Rattle.qron_link.specs.Outside.{Rose, AtEnd}
use Rattle.qron_link.specs.Transfers.{Took}
use Rattle.qron_link.specs.declared.transfer.Filled.{Filled}
use Rattle.qron_link.specs.declared.transfer.Filled.TheVariants as filled
use Rattle.cqc_session.specs.declared.allowance.Part.{Part}
use Rattle.cqc_session.specs.declared.allowance.Part.TheVariants.{Head, Body}
use Rattle.cqc_session.specs.declared.message.Asked.{Asked}
use Rattle.cqc_session.specs.declared.message.Asked.TheVariants as asked
use Rattle.network_model.specs.declared.Call.{Call}
use Rattle.cqc_session.specs.declared.stage.Stage.TheVariants.{Waiting}
use Rattle.cqc_session.specs.State.{State, Waits, work_of, work_size, steps_left}
use Rattle.cqc_session.specs.Session.{Spoke, Broken, Halted, PartAs, EndCause}

-- a link at one moment: the bytes that are left, those that it holds, and how many may still be read
pub record Moment : Type 0 where
  pub left : Option (List ℕ)
  pub held : Option (List ℕ)
  pub budget : ℕ

abbrev pub moment : {L : Type 0} → (L → Option (List ℕ)) → (L → Option (List ℕ)) → L → ℕ → Moment
moment left held link budget = record { left = left link; held = held link; budget = budget }

-- these bytes were read, and paid for
abbrev pub Reads : Moment → Moment → List ℕ → Type 0
Reads old new bytes = Took old.left new.left old.budget new.budget bytes

-- the bytes of a part of a message
abbrev pub part_size : Part → ℕ
part_size Head = 8
part_size (Body size) = size

-- fewer bytes came than there should be
abbrev pub IsShortOf : Filled → ℕ → Type 0
IsShortOf (filled.Ended have) size = have < size
IsShortOf _ size = Unit {0}

-- the ending of a source that ends after so many bytes of a part
abbrev pub cut_in : Part → ℕ → Ending
cut_in Head have = if have == 0 then ending.Clean else ending.Cut have 8
cut_in (Body size) have = ending.Cut have size

-- what an attempt to read a part comes to
abbrev pub part_end : ℕ → Part → Filled → Result (Unit {0}) Ending
part_end cap part filled.Whole = Ok tt
part_end cap part (filled.Ended have) = Err (cut_in part have)
part_end cap part filled.Failed = Err ending.ReadFault
part_end cap part filled.Spent = Err (ending.Spent cap)

-- a failed read rose its count
abbrev pub PartCause : {T : Type 0} → Result T Ending → ℕ → ℕ → Type 0
PartCause (Err ending.ReadFault) reads now_reads = (reads ≤ now_reads) × Rose reads now_reads
PartCause _ reads now_reads = reads ≤ now_reads

-- what reading leaves of a link: it holds what it held, no write has failed, and it was led here
pub record OnlyRead {L : Type 0} (holds : L → Option (List ℕ)) (fails : L → ℕ) (leads : L → L → Type 0) (old new : L) : Type 0 where
  pub held : holds new ≡ holds old
  pub write_faults : fails new ≡ fails old
  pub led : leads old new

-- a header was cut short, or nothing came
pub record HeadParted (cap : ℕ) (old new : Moment) (why : Ending) : Type 0 where
  pub part : List ℕ
  pub took : Reads old new part
  pub none : begins_whole part ≡ false
  pub because : PartAs cap new.left new.budget part why

-- why a body was cut short
abbrev pub BodyAs : ℕ → Moment → ℕ → List ℕ → Ending → Type 0
BodyAs cap new size part (ending.Cut have need) = (have ≡ length part) × (need ≡ size) × AtEnd new.left
BodyAs cap new size part ending.ReadFault = Unit {0}
BodyAs cap new size part (ending.Spent bytes) = (new.budget ≡ 0) × (bytes ≡ cap)
BodyAs cap new size part _ = ⊥

pub record BodyParted (cap : ℕ) (old new : Moment) (size : ℕ) (why : Ending) : Type 0 where
  pub part : List ℕ
  pub took : Reads old new part
  pub less : length part < size
  pub because : BodyAs cap new size part why

-- so many bytes were read
pub record WholeRead (old new : Moment) (size : ℕ) : Type 0 where
  pub taken : List ℕ
  pub took : Reads old new taken
  pub all : length taken ≡ size

-- what a header says of its message
abbrev pub AskedAs : Header → Asked → Type 0
AskedAs h (asked.Fixed r) = refusal_of h ≡ Some r
AskedAs h (asked.List factory) = (refusal_of h ≡ None) × (h.kind ≡ kind_of factory) × (h.length ≤ body_limit)

-- the one answer to a message, or its commands
abbrev pub PlannedAs : Header → List ℕ → List Command → Bool → Option Reply → Type 0
PlannedAs head body list notify (Some r) = plan_of (record { head = head; body = body }) ≡ fixed r
PlannedAs head body list notify None = (plan_of (record { head = head; body = body }) ≡ steps list notify) × (length list < walk_limit)

-- a body was read whole: it has one answer, or its commands are to be asked
pub record BodyTaken (head : Header) (old new : Moment) (list : List Command) (notify : Bool) (answer : Option Reply) : Type 0 where
  pub body : List ℕ
  pub took : Reads old new body
  pub all : length body ≡ head.length
  pub plan : PlannedAs head body list notify answer

-- what taking one message did: the app of the message that is open, or none where it was answered
abbrev pub TakenAs : Connection → ℕ → Moment → Moment → List Command → Bool → Result (Option ℕ) Ending → Type 0
TakenAs connection cap old new list notify (Ok opened) =
    Spoke connection between old.left new.left old.held new.held old.budget new.budget (work_of opened list notify)
    × (new.budget < old.budget) × (work_size (work_of opened list notify) < walk_limit)
TakenAs connection cap old new list notify (Err why) =
    Halted connection cap between old.left new.left old.held new.held old.budget new.budget why

-- a fault of an ending has risen; no count fell
abbrev pub ResultCause : {T : Type 0} → Result T Ending → ℕ → ℕ → ℕ → ℕ → Type 0
ResultCause (Ok _) reads now_reads writes now_writes = (reads ≤ now_reads) × (writes ≤ now_writes)
ResultCause (Err why) reads now_reads writes now_writes = EndCause why reads now_reads writes now_writes

-- what looking for the next command did, while the message of an app is open or none is
abbrev pub NextAs : Connection → Option ℕ → List Command → Bool → Moment → Moment → Result (Option (ℕ × Command)) Ending → Type 0
NextAs connection opened list notify old new (Ok (Some (app, c))) =
    (opened ≡ Some app) × (others : List Command) × (list ≡ c ∷ others) × (new.left ≡ old.left) × (new.held ≡ old.held) × (c.instr ≢ Allocate)
NextAs connection opened list notify old new (Ok None) =
    Spoke connection (work_of opened list notify) old.left new.left old.held new.held old.budget new.budget between
NextAs connection opened list notify old new (Err why) =
    (why ≡ ending.WriteFault) × Broken connection (work_of opened list notify) old.left new.left old.held new.held old.budget new.budget

-- a reply that was not written ends the connection
abbrev pub NextCause : {T : Type 0} → Result T Ending → ℕ → ℕ → Type 0
NextCause (Ok _) writes now_writes = writes ≤ now_writes
NextCause (Err why) writes now_writes = (writes ≤ now_writes) × Rose writes now_writes

-- what a step of a session did: it asks a call and all stays, or it went on
abbrev pub StepDid : State → State → Moment → Moment → Result (Option Call) Ending → Type 0
StepDid s t old new (Ok (Some call)) =
    (t ≡ s) × (new.left ≡ old.left) × (new.held ≡ old.held) × Waits call (record t { stage = Waiting })
StepDid s t old new (Ok None) =
    Spoke s.connection s.work old.left new.left old.held new.held old.budget new.budget t.work
    × (new.budget < old.budget) × (work_size t.work < walk_limit)
StepDid s t old new (Err why) = Halted s.connection s.cap s.work old.left new.left old.held new.held old.budget new.budget why

-- what steps up to a call or the end did
abbrev pub AdvanceDid : State → State → Moment → Moment → Result Call Ending → Type 0
AdvanceDid s t old new (Ok call) =
    Spoke s.connection s.work old.left new.left old.held new.held old.budget new.budget t.work × Waits call (record t { stage = Waiting })
    × (steps_left t ≤ steps_left s)
AdvanceDid s t old new (Err why) = Halted s.connection s.cap s.work old.left new.left old.held new.held old.budget new.budget why
