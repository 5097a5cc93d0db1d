-- What a talk reads, sends and prints, and how it ends.
use Rattle.std.specs.Prelude.{◌≡◌, ℕ, ◌^◌, ◌<◌, ◌≤◌, List, [], ◌∷◌, ◌++◌, length, map, slice_index, All, true, false, Option}
use Rattle.std.specs.List.{flat_map}
use Rattle.cqc_model.specs.declared.Reply.{Reply}
use Rattle.cqc_model.specs.Wire.{spell, spell_message, head_app}
use Rattle.cqc_model.specs.Ranges.{FitsReply}
use Rattle.session_model.specs.Heard.{heard}
use Rattle.script.specs.Drafts.{Sending}
use Rattle.qron_link.specs.Outside.{Rose, WasRead, WasWritten, AtEnd}
use Rattle.cqc_client.specs.declared.talking.Talked.{Talked}
use Rattle.cqc_client.specs.declared.talking.Talked.TheVariants.{Done, LinkRead, LinkWrite, OutWrite, Cut, Strange, Spent}
use Rattle.cqc_client.specs.Replies.{line_of, is_last_reply, IsPartOfReply, IsStrange}

-- the most bytes that a talk reads
abbrev pub talk_limit : ℕ
talk_limit = 2 ^ 32

-- a message, and replies to it
pub record Exchange : Type 0 where
  pub message : Sending
  pub replies : List Reply

-- the app of a message
abbrev pub app_of : Sending → ℕ
app_of m = head_app m.head

-- the bytes of messages
abbrev pub spell_script : List Sending → List ℕ
spell_script script = flat_map (λ m. spell_message m.head m.list) script

-- the bytes of replies to an app
abbrev pub spell_replies : ℕ → List Reply → List ℕ
spell_replies app replies = flat_map (spell app) replies

-- the bytes of all replies, each to the app of its message
abbrev pub spell_exchanges : List Exchange → List ℕ
spell_exchanges exchanges = flat_map (λ e. spell_replies (app_of e.message) e.replies) exchanges

-- the messages
abbrev pub messages_of : List Exchange → List Sending
messages_of exchanges = map (λ e. e.message) exchanges

-- the lines of replies
abbrev pub lines_of_replies : List Reply → List ℕ
lines_of_replies replies = flat_map line_of replies

-- replies of which none is a message's last
abbrev pub AreEarly : List Reply → Type 0
AreEarly replies = All (λ r. FitsReply r × (is_last_reply r ≡ false)) replies

-- replies that end with a message's last one
pub record AreWhole (replies : List Reply) : Type 0 where
  pub early : List Reply
  pub last : Reply
  pub is : replies ≡ early ++ last ∷ []
  pub go_on : AreEarly early
  pub fits : FitsReply last
  pub ends : is_last_reply last ≡ true

-- the bytes that were read, sent and printed
pub record Said : Type 0 where
  pub read : List ℕ
  pub sent : List ℕ
  pub printed : List ℕ

-- so many bytes moved at a link and at a sink, where they tell them
pub record Moved (said : Said) (left left_new held held_new out out_new : Option (List ℕ)) : Type 0 where
  pub read : WasRead left said.read left_new
  pub sent : WasWritten held said.sent held_new
  pub printed : WasWritten out said.printed out_new

-- the messages in front of the later ones were answered whole
pub record Answered (script : List Sending) (done : List Exchange) (later : List Sending) : Type 0 where
  pub messages : script ≡ messages_of done ++ later
  pub each : All (λ e. AreWhole e.replies) done

-- all messages were sent and answered whole, and nothing was read behind the last reply
pub record IsDone (script : List Sending) (messages : ℕ) (said : Said) : Type 0 where
  pub done : List Exchange
  pub answered : Answered script done []
  pub count : messages ≡ length done
  pub read : said.read ≡ spell_exchanges done
  pub sent : said.sent ≡ spell_script script
  pub printed : said.printed ≡ heard (length script) said.read

-- so many messages were answered whole, and the next was sent: its replies so far are none its last, and part is behind them
pub record Awaits (script : List Sending) (messages : ℕ) (part : List ℕ) (said : Said) : Type 0 where
  pub done : List Exchange
  pub next : Exchange
  pub later : List Sending
  pub answered : Answered script done (next.message ∷ later)
  pub early : AreEarly next.replies
  pub count : messages ≡ length done
  pub read : said.read ≡ spell_exchanges (done ++ next ∷ []) ++ part
  pub sent : said.sent ≡ spell_script (messages_of (done ++ next ∷ []))

-- each reply that came has its line
pub record IsHeard (script : List Sending) (messages : ℕ) (part : List ℕ) (said : Said) : Type 0 where
  pub awaits : Awaits script messages part said
  pub printed : said.printed ≡ heard (length script) (spell_exchanges (awaits.done ++ awaits.next ∷ []))

-- a reply is due, of which only a part has come
abbrev pub IsDue : List Sending → ℕ → Said → Type 0
IsDue script messages said = (part : List ℕ) × (h : IsHeard script messages part said) × IsPartOfReply (app_of h.awaits.next.message) part

-- what has come is no reply
abbrev pub HasStrange : List Sending → ℕ → ℕ → Said → Type 0
HasStrange script messages kind said =
    (part : List ℕ) × (h : IsHeard script messages part said) × IsStrange (app_of h.awaits.next.message) part × (kind ≡ slice_index part 1)

-- only a front of the next message was sent
pub record IsUnsent (script : List Sending) (said : Said) : Type 0 where
  pub done : List Exchange
  pub next : Sending
  pub later : List Sending
  pub answered : Answered script done (next ∷ later)
  pub read : said.read ≡ spell_exchanges done
  pub missing : List ℕ
  pub sent : said.sent ++ missing ≡ spell_script (messages_of done ++ next ∷ [])
  pub some : 0 < length missing
  pub few : length missing ≤ length (spell_message next.head next.list)
  pub printed : said.printed ≡ heard (length script) said.read

-- of the line of the last reply only a front was printed
pub record IsUnprinted (script : List Sending) (said : Said) : Type 0 where
  pub messages : ℕ
  pub reply : Reply
  pub fits : FitsReply reply
  pub part : List ℕ
  pub awaits : Awaits script messages part said
  pub is : part ≡ spell (app_of awaits.next.message) reply
  pub missing : List ℕ
  pub printed : said.printed ++ missing ≡ heard (length script) said.read
  pub some : 0 < length missing
  pub few : length missing ≤ length (line_of reply)

-- how a talk ended: left is what the source has left
abbrev pub EndsAs : Talked → List Sending → Said → Option (List ℕ) → Type 0
EndsAs (Done messages) script said left = IsDone script messages said
EndsAs LinkRead script said left = (messages : ℕ) × IsDue script messages said × (length said.read < talk_limit)
EndsAs LinkWrite script said left = IsUnsent script said
EndsAs OutWrite script said left = IsUnprinted script said
EndsAs (Cut messages) script said left = IsDue script messages said × (length said.read < talk_limit) × AtEnd left
EndsAs (Strange messages kind) script said left = HasStrange script messages kind said
EndsAs (Spent messages) script said left = IsDue script messages said × (length said.read ≡ talk_limit)

-- each fault is told only where its own count rose, and no count falls
abbrev pub LinkReadCause : Talked → ℕ → ℕ → Type 0
LinkReadCause LinkRead before now = (before ≤ now) × Rose before now
LinkReadCause _ before now = before ≤ now

abbrev pub LinkWriteCause : Talked → ℕ → ℕ → Type 0
LinkWriteCause LinkWrite before now = (before ≤ now) × Rose before now
LinkWriteCause _ before now = before ≤ now

abbrev pub OutWriteCause : Talked → ℕ → ℕ → Type 0
OutWriteCause OutWrite before now = (before ≤ now) × Rose before now
OutWriteCause _ before now = before ≤ now
