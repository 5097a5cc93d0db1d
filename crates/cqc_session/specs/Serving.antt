-- A whole session over a core.
use Rattle.std.specs.Prelude.{◌≡◌, ℕ, ◌<◌, ◌≤◌, List, [], ◌∷◌, ◌++◌, length, Option}
use Rattle.session_model.specs.declared.Ending.{Ending}
use Rattle.network_model.specs.declared.Call.{Call}
use Rattle.network_model.specs.declared.Entry.{Entry}
use Rattle.network_model.specs.declared.CoreReply.{CoreReply}
use Rattle.network_model.specs.declared.JournalFull.{JournalFull}
use Rattle.cqc_model.specs.Plan.{messages}
use Rattle.session_model.specs.Walk.{Connection, Work, between, Leads, walk}
use Rattle.session_model.specs.Turns.{words_taken}
use Rattle.session_model.specs.Worded.{AreWorded}
use Rattle.session_model.specs.Speaks.{Speaks, Prefix, calls_of, replies_of, but_last}
use Rattle.qron_link.specs.Outside.{WasRead, WasWritten}
use Rattle.qron_link.specs.Transfers.{Took}

-- the call and its reply were added, with a word or none
pub record Added (call : Call) (reply : CoreReply) (old new : List Entry) : Type 0 where
  pub word : Option ℕ
  pub is : new ≡ old ++ (record { call = call; word = word; reply = reply }) ∷ []

-- the history that was seen was full, and no entry was added
pub record WasFull (e : JournalFull) (capacity seen : ℕ) (old new : List Entry) : Type 0 where
  pub stays : new ≡ old
  pub full : seen ≡ capacity
  pub entries : e.entries ≡ capacity

-- a session so far: the bytes, the entries that were added, and what was said before the last of them was made
pub record Serving (connection : Connection) (cap : ℕ) (left rest held wrote : Option (List ℕ)) (now : ℕ) (old new : List Entry) (work : Work) : Type 0 where
  pub taken : List ℕ
  pub given : List ℕ
  pub entries : List Entry
  pub took : Took left rest cap now taken
  pub gave : WasWritten held given wrote
  pub added : new ≡ old ++ entries
  pub leads : Leads connection between taken (calls_of entries) (replies_of entries) given work
  pub before : List ℕ
  pub earlier : Prefix before given
  pub last : 0 < length entries → (later : List ℕ) → (walk connection (messages (taken ++ later)) (replies_of (but_last entries))).text ≡ before

-- entries were added that have the next words of a connection, from its first, and so many words were taken
pub record WordedAfter (words : ℕ → ℕ) (old new : List Entry) (taken : ℕ) : Type 0 where
  pub entries : List Entry
  pub added : new ≡ old ++ entries
  pub worded : AreWorded words entries
  pub count : taken ≡ words_taken entries

-- what was read, at most as many bytes as may be, what was written and added, and how it ended
pub record Served (connection : Connection) (cap : ℕ) (left rest held wrote : Option (List ℕ)) (old new : List Entry) (seen capacity : ℕ) (ending : Ending) : Type 0 where
  pub read : List ℕ
  pub written : List ℕ
  pub entries : List Entry
  pub took : WasRead left read rest
  pub few : length read ≤ cap
  pub gave : WasWritten held written wrote
  pub added : new ≡ old ++ entries
  pub speaks : Speaks (record { connection = connection; cap = cap; left = rest; entries = seen; capacity = capacity }) read entries written ending
