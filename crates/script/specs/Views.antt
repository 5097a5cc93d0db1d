-- The code's drafts and messages, without where they lie in memory.
use Rattle.std.specs.Prelude.{◌≡◌, ℕ, List, map, Result, Ok, Err}
use Rattle.script.specs.declared.reader.Message.{Message}
use Rattle.script.specs.declared.draft.DraftScript.{DraftScript}
use Rattle.script.specs.declared.fault.ScriptWhy.{ScriptWhy}
use Rattle.script.specs.declared.reader.ScriptRead.{ScriptRead}
use Rattle.script.specs.declared.reader.ScriptRead.TheVariants.{Read, Refused, OutOfMemory}
use Rattle.script.specs.Drafts.{Draft, Sending}

-- one message
abbrev pub sending_of : Message → Sending
sending_of m = record { head = m.head; list = m.list.items }

-- what the lines so far made
abbrev pub draft_of : DraftScript → Draft
draft_of d = record { app = d.app; pending = d.pending.items; messages = map sending_of d.messages.items }

-- A text was read to what it means, or refused where it means a refusal, unless memory ran out.
abbrev pub Gives : ScriptRead → Result (List Sending) (ℕ × ScriptWhy) → Type 0
Gives (Read messages) meaning = meaning ≡ Ok (map sending_of messages.items)
Gives (Refused fault) meaning = meaning ≡ Err (fault.line, fault.why)
Gives OutOfMemory meaning = Unit {0}
