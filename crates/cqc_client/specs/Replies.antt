-- The replies that a client waits for: their lines, and which is a message's last.
use Rattle.std.specs.Prelude.{◌≡◌, ◌⊎◌, ℕ, ◌+◌, ◌≤◌, List, length, Bool, false}
use Rattle.cqc_model.specs.declared.Header.{Header}
use Rattle.cqc_model.specs.declared.Reply.{Reply}
use Rattle.cqc_model.specs.Wire.{header_of, spell, reply_kind, reply_body}
use Rattle.cqc_model.specs.Ranges.{FitsReply}
use Rattle.cqc_model.specs.Plan.{Message, body_size, begins_whole}
use Rattle.session_model.specs.Heard.{reply_line, is_last}

-- the header of a reply to an app
abbrev pub reply_header : ℕ → Reply → Header
reply_header app r = record { version = 2; kind = reply_kind r; app = app; length = length (reply_body r) }

-- a reply as the message that its bytes are
abbrev pub as_message : ℕ → Reply → Message
as_message app r = record { head = reply_header app r; body = reply_body r }

-- the line of a reply, which doesn't tell its app
abbrev pub line_of : Reply → List ℕ
line_of r = reply_line (as_message 0 r)

-- whether a reply is a message's last
abbrev pub is_last_reply : Reply → Bool
is_last_reply r = is_last (as_message 0 r)

-- a reply to this app has this header
abbrev pub BeginsReply : ℕ → Header → Type 0
BeginsReply app h = (r : Reply) × FitsReply r × (h ≡ reply_header app r)

-- bytes are those of a reply to this app
abbrev pub IsReply : ℕ → List ℕ → Type 0
IsReply app bytes = (r : Reply) × FitsReply r × (bytes ≡ spell app r)

-- a reply to this app may still come of bytes: less than its header has come, or less than its body
pub record IsPartOfReply (app : ℕ) (bytes : List ℕ) : Type 0 where
  pub short : begins_whole bytes ≡ false
  pub header : 8 ≤ length bytes → BeginsReply app (header_of bytes)

-- no reply to this app comes of bytes: just a header that none has, or a whole body that makes it none
abbrev pub IsStrange : ℕ → List ℕ → Type 0
IsStrange app bytes = (length bytes ≡ 8) × (¬ BeginsReply app (header_of bytes))
    ⊎ BeginsReply app (header_of bytes) × (length bytes ≡ 8 + body_size bytes) × (¬ IsReply app bytes)
