-- What a call of a session did to its link.
use Rattle.std.specs.Prelude.{◌≡◌, ℕ, ◌<◌, ◌≤◌, List, [], ◌∷◌, ◌++◌, length, Option, false, Result, Ok, Err}
use Rattle.session_model.specs.declared.Ending.{Ending}
use Rattle.session_model.specs.declared.Ending.TheVariants.{Clean, Cut, ReadFault, WriteFault, Full, Spent}
use Rattle.network_model.specs.declared.Call.{Call}
use Rattle.network_model.specs.declared.CoreReply.{CoreReply}
use Rattle.network_model.specs.declared.JournalFull.{JournalFull}
use Rattle.cqc_model.specs.declared.Fault.TheVariants as fault
use Rattle.cqc_model.specs.declared.Reply.TheVariants as reply
use Rattle.cqc_model.specs.Wire.{spell}
use Rattle.session_model.specs.Walk.{spell_core}
use Rattle.cqc_model.specs.Plan.{begins_whole}
use Rattle.session_model.specs.Walk.{Connection, Work, between, Leads}
use Rattle.session_model.specs.Speaks.{CutAt, ProperPrefix}
use Rattle.qron_link.specs.Outside.{Rose, WasWritten, AtEnd}
use Rattle.cqc_session.specs.declared.turn.Turn.{Turn}
use Rattle.cqc_session.specs.declared.turn.Turn.TheVariants.{Execute, End}
use Rattle.cqc_session.specs.State.{State, Waits}
use Rattle.qron_link.specs.Transfers.{Took}

-- it went on: bytes were read, bytes were written, and more is to be said from new
pub record Spoke (connection : Connection) (old : Work) (left rest held wrote : Option (List ℕ)) (before now : ℕ) (new : Work) : Type 0 where
  pub taken : List ℕ
  pub given : List ℕ
  pub took : Took left rest before now taken
  pub gave : WasWritten held given wrote
  pub leads : Leads connection old taken [] [] given new

-- why it stopped with a part of a message
abbrev pub PartAs : ℕ → Option (List ℕ) → ℕ → List ℕ → Ending → Type 0
PartAs cap rest now part Clean = (part ≡ []) × AtEnd rest
PartAs cap rest now part (Cut have need) = (0 < length part) × AtEnd rest × CutAt part have need
PartAs cap rest now part ReadFault = Unit {0}
PartAs cap rest now part (Spent bytes) = (now ≡ 0) × (bytes ≡ cap)
PartAs cap rest now part WriteFault = ⊥
PartAs cap rest now part (Full entries) = ⊥

-- it stopped between two messages or in one
pub record Paused (connection : Connection) (cap : ℕ) (old : Work) (left rest held wrote : Option (List ℕ)) (before now : ℕ) (ending : Ending) : Type 0 where
  pub taken : List ℕ
  pub part : List ℕ
  pub given : List ℕ
  pub took : Took left rest before now (taken ++ part)
  pub gave : WasWritten held given wrote
  pub leads : Leads connection old taken [] [] given between
  pub none : begins_whole part ≡ false
  pub why : PartAs cap rest now part ending

-- a reply could not be written whole
pub record Broken (connection : Connection) (old : Work) (left rest held wrote : Option (List ℕ)) (before now : ℕ) : Type 0 where
  pub taken : List ℕ
  pub whole : List ℕ
  pub given : List ℕ
  pub took : Took left rest before now taken
  pub gave : WasWritten held given wrote
  pub leads : Leads connection old taken [] [] whole between
  pub short : ProperPrefix given whole

abbrev pub Halted : Connection → ℕ → Work → Option (List ℕ) → Option (List ℕ) → Option (List ℕ) → Option (List ℕ) → ℕ → ℕ → Ending → Type 0
Halted connection cap old left rest held wrote before now WriteFault = Broken connection old left rest held wrote before now
Halted connection cap old left rest held wrote before now Clean = Paused connection cap old left rest held wrote before now Clean
Halted connection cap old left rest held wrote before now ReadFault = Paused connection cap old left rest held wrote before now ReadFault
Halted connection cap old left rest held wrote before now (Cut have need) = Paused connection cap old left rest held wrote before now (Cut have need)
Halted connection cap old left rest held wrote before now (Spent bytes) = Paused connection cap old left rest held wrote before now (Spent bytes)
Halted connection cap old left rest held wrote before now (Full entries) = ⊥

-- a fault of an ending has risen; no count fell
abbrev pub EndCause : Ending → ℕ → ℕ → ℕ → ℕ → Type 0
EndCause ReadFault reads now_reads writes now_writes = (reads ≤ now_reads) × (writes ≤ now_writes) × Rose reads now_reads
EndCause WriteFault reads now_reads writes now_writes = (reads ≤ now_reads) × (writes ≤ now_writes) × Rose writes now_writes
EndCause _ reads now_reads writes now_writes = (reads ≤ now_reads) × (writes ≤ now_writes)

-- the bytes for what the core answered
abbrev pub answer_text : ℕ → Result CoreReply JournalFull → List ℕ
answer_text app (Ok r) = spell_core app r
answer_text app (Err e) = spell app (reply.Error fault.General)

-- a piece of the answer's bytes was written, and no more
pub record PartSaid (text : List ℕ) (held wrote : Option (List ℕ)) : Type 0 where
  pub given : List ℕ
  pub gave : WasWritten held given wrote
  pub short : ProperPrefix given text

-- how an answer ended the session
abbrev pub AnswerEnds : Ending → ℕ → Result CoreReply JournalFull → Option (List ℕ) → Option (List ℕ) → Type 0
AnswerEnds WriteFault app done held wrote = PartSaid (answer_text app done) held wrote
AnswerEnds (Full entries) app (Err e) held wrote = (entries ≡ e.entries) × WasWritten held (answer_text app (Err e)) wrote
AnswerEnds _ app done held wrote = ⊥

-- the session goes on after a reply
pub record Resumes (connection : Connection) (old : Work) (call : Call) (held wrote : Option (List ℕ)) (r : CoreReply) (new : Work) : Type 0 where
  pub gave : WasWritten held (spell_core call.app r) wrote
  pub leads : Leads connection old [] (call ∷ []) (r ∷ []) (spell_core call.app r) new

abbrev pub GoesOn : Connection → Work → Call → Option (List ℕ) → Option (List ℕ) → Result CoreReply JournalFull → Work → Type 0
GoesOn connection old call held wrote (Ok r) new = Resumes connection old call held wrote r new
GoesOn connection old call held wrote (Err e) new = ⊥

-- what a poll did
abbrev pub PollDid : State → State → Option (List ℕ) → Option (List ℕ) → Option (List ℕ) → Option (List ℕ) → Turn → Type 0
PollDid old new left rest held wrote (Execute call) =
    Spoke old.connection old.work left rest held wrote old.budget new.budget new.work × Waits call new
PollDid old new left rest held wrote (End ending) = Halted old.connection old.cap old.work left rest held wrote old.budget new.budget ending

abbrev pub TurnCause : Turn → ℕ → ℕ → ℕ → ℕ → Type 0
TurnCause (End ending) reads now_reads writes now_writes = EndCause ending reads now_reads writes now_writes
TurnCause (Execute call) reads now_reads writes now_writes = (reads ≤ now_reads) × (writes ≤ now_writes)

abbrev pub AnswerCause : Ending → ℕ → ℕ → Type 0
AnswerCause WriteFault writes now_writes = (writes ≤ now_writes) × Rose writes now_writes
AnswerCause _ writes now_writes = writes ≤ now_writes

-- a poll that asks a command leaves no more steps than there were
abbrev pub StepsKept : Turn → ℕ → ℕ → Type 0
StepsKept (Execute call) before now = now ≤ before
StepsKept (End ending) before now = Unit {0}
