-- Where the reading of replies stops, and what has come by then.
use Rattle.std.specs.Prelude.{◌≡◌, ℕ, ◌<◌, ◌≤◌, List, [], ◌++◌, length, slice_index, Option, Bool, Result, Ok, Err}
use Rattle.cqc_model.specs.declared.Reply.{Reply}
use Rattle.cqc_model.specs.Wire.{spell, spell_message}
use Rattle.cqc_model.specs.Ranges.{FitsReply}
use Rattle.script.specs.Drafts.{Sending}
use Rattle.qron_link.specs.Outside.{Rose, WasWritten, AtEnd}
use Rattle.cqc_client.specs.declared.stops.Stop.{Stop}
use Rattle.cqc_client.specs.declared.stops.Stop.TheVariants as stop
use Rattle.cqc_client.specs.declared.talking.Talked.{Talked}
use Rattle.cqc_client.specs.declared.talking.Talked.TheVariants as talked
use Rattle.cqc_client.specs.Replies.{line_of, is_last_reply, IsPartOfReply, IsStrange}
use Rattle.cqc_client.specs.Talk.{Said, AreEarly, AreWhole, app_of, spell_replies, lines_of_replies}

-- what had come where a reply was due: part of it, or what is none; now is how much may still be read
abbrev pub StopsDue : Stop → ℕ → List ℕ → Option (List ℕ) → ℕ → Type 0
StopsDue stop.Ended app part left now = IsPartOfReply app part × (0 < now) × AtEnd left
StopsDue stop.NotRead app part left now = IsPartOfReply app part × (0 < now)
StopsDue stop.Spent app part left now = IsPartOfReply app part × (now ≡ 0)
StopsDue (stop.Strange kind) app part left now = IsStrange app part × (kind ≡ slice_index part 1)
StopsDue stop.NotSent app part left now = ⊥
StopsDue stop.NotPrinted app part left now = ⊥

-- a reply came, or what had come else
abbrev pub ReadsDue : Result Reply Stop → ℕ → List ℕ → Option (List ℕ) → ℕ → Type 0
ReadsDue (Ok r) app bytes left now = FitsReply r × (bytes ≡ spell app r)
ReadsDue (Err s) app bytes left now = StopsDue s app bytes left now

-- a room was filled with what was read, or the source gave less
abbrev pub FillsDue : Result (Unit {0}) Stop → List ℕ → ℕ → Option (List ℕ) → ℕ → Type 0
FillsDue (Ok u) taken size left now = length taken ≡ size
FillsDue (Err stop.Ended) taken size left now = (length taken < size) × (0 < now) × AtEnd left
FillsDue (Err stop.NotRead) taken size left now = (length taken < size) × (0 < now)
FillsDue (Err stop.Spent) taken size left now = (length taken < size) × (now ≡ 0)
FillsDue (Err _) taken size left now = ⊥

-- a reply came whole, but only a front of its line was printed
pub record IsHalfPrinted (app : ℕ) (part tail : List ℕ) : Type 0 where
  pub reply : Reply
  pub fits : FitsReply reply
  pub is : part ≡ spell app reply
  pub missing : List ℕ
  pub line : tail ++ missing ≡ line_of reply
  pub some : 0 < length missing

-- where hearing stops: part is behind the whole replies, and tail behind their lines
abbrev pub StopsHearing : Stop → ℕ → List ℕ → List ℕ → Option (List ℕ) → ℕ → Type 0
StopsHearing stop.NotPrinted app part tail left now = IsHalfPrinted app part tail
StopsHearing s app part tail left now = StopsDue s app part left now × (tail ≡ [])

-- one reply was read and printed, and whether it is the last is told
pub record IsOne (app : ℕ) (came shown : List ℕ) (last : Bool) : Type 0 where
  pub reply : Reply
  pub fits : FitsReply reply
  pub bytes : came ≡ spell app reply
  pub printed : shown ≡ line_of reply
  pub ends : last ≡ is_last_reply reply

abbrev pub HearsOne : Result Bool Stop → ℕ → List ℕ → List ℕ → Option (List ℕ) → ℕ → Type 0
HearsOne (Ok last) app came shown left now = IsOne app came shown last
HearsOne (Err s) app came shown left now = StopsHearing s app came shown left now

-- all replies to a message were read and printed
pub record IsWholeHeard (app : ℕ) (came shown : List ℕ) : Type 0 where
  pub replies : List Reply
  pub whole : AreWhole replies
  pub bytes : came ≡ spell_replies app replies
  pub printed : shown ≡ lines_of_replies replies

-- some were, none of them its last
pub record IsPartHeard (s : Stop) (app : ℕ) (came shown : List ℕ) (left : Option (List ℕ)) (now : ℕ) : Type 0 where
  pub replies : List Reply
  pub part : List ℕ
  pub tail : List ℕ
  pub early : AreEarly replies
  pub bytes : came ≡ spell_replies app replies ++ part
  pub printed : shown ≡ lines_of_replies replies ++ tail
  pub stops : StopsHearing s app part tail left now

abbrev pub Hears : Result (Unit {0}) Stop → ℕ → List ℕ → List ℕ → Option (List ℕ) → ℕ → Type 0
Hears (Ok u) app came shown left now = IsWholeHeard app came shown
Hears (Err s) app came shown left now = IsPartHeard s app came shown left now

-- a message was sent only in part, and nothing was read
pub record IsHalfSent (m : Sending) (said : Said) : Type 0 where
  pub missing : List ℕ
  pub sent : said.sent ++ missing ≡ spell_message m.head m.list
  pub some : 0 < length missing
  pub read : said.read ≡ []
  pub printed : said.printed ≡ []

-- a message was sent, and its replies heard
pub record IsSentAndHeard (r : Result (Unit {0}) Stop) (m : Sending) (said : Said) (left : Option (List ℕ)) (now : ℕ) : Type 0 where
  pub sent : said.sent ≡ spell_message m.head m.list
  pub hears : Hears r (app_of m) said.read said.printed left now

abbrev pub Exchanges : Result (Unit {0}) Stop → Sending → Said → Option (List ℕ) → ℕ → Type 0
Exchanges (Err stop.NotSent) m said left now = IsHalfSent m said
Exchanges r m said left now = IsSentAndHeard r m said left now

-- all of a message was written, or only a front
abbrev pub Sends : Result (Unit {0}) Stop → Sending → Option (List ℕ) → Option (List ℕ) → Type 0
Sends (Ok u) m old new = WasWritten old (spell_message m.head m.list) new
Sends (Err stop.NotSent) m old new =
    (front : List ℕ) × (missing : List ℕ) × WasWritten old front new × (front ++ missing ≡ spell_message m.head m.list) × (0 < length missing)
Sends (Err _) m old new = ⊥

-- each fault stops only where its own count rose, and no count falls
abbrev pub StopReads : Stop → ℕ → ℕ → Type 0
StopReads stop.NotRead before now = (before ≤ now) × Rose before now
StopReads _ before now = before ≤ now

abbrev pub StopSends : Stop → ℕ → ℕ → Type 0
StopSends stop.NotSent before now = (before ≤ now) × Rose before now
StopSends _ before now = before ≤ now

abbrev pub StopPrints : Stop → ℕ → ℕ → Type 0
StopPrints stop.NotPrinted before now = (before ≤ now) × Rose before now
StopPrints _ before now = before ≤ now

abbrev pub ReadFaults : {A : Type 0} → Result A Stop → ℕ → ℕ → Type 0
ReadFaults (Ok a) before now = before ≤ now
ReadFaults (Err s) before now = StopReads s before now

abbrev pub SendFaults : {A : Type 0} → Result A Stop → ℕ → ℕ → Type 0
SendFaults (Ok a) before now = before ≤ now
SendFaults (Err s) before now = StopSends s before now

abbrev pub PrintFaults : {A : Type 0} → Result A Stop → ℕ → ℕ → Type 0
PrintFaults (Ok a) before now = before ≤ now
PrintFaults (Err s) before now = StopPrints s before now

-- the answer of a talk that stops after so many messages
abbrev pub talked_at : Stop → ℕ → Talked
talked_at stop.Ended n = talked.Cut n
talked_at stop.NotRead n = talked.LinkRead
talked_at stop.Spent n = talked.Spent n
talked_at (stop.Strange kind) n = talked.Strange n kind
talked_at stop.NotSent n = talked.LinkWrite
talked_at stop.NotPrinted n = talked.OutWrite
