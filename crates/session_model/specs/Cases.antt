-- Worked cases of a connection: what is said for bytes and the core's replies.
use Rattle.std.specs.Prelude.{ℕ, ◌≡◌, true, false, List, [], ◌∷◌, Option, None, Some}
use Rattle.cqc_model.specs.declared.Instr.TheVariants as instr
use Rattle.cqc_model.specs.declared.Fault.TheVariants as fault
use Rattle.cqc_model.specs.declared.Reply.{Reply}
use Rattle.cqc_model.specs.declared.Reply.TheVariants as reply
use Rattle.cqc_model.specs.Plan.{messages, refusal_of}
use Rattle.network_model.specs.declared.Call.{Call}
use Rattle.network_model.specs.declared.CoreReply.{CoreReply}
use Rattle.network_model.specs.declared.CoreReply.TheVariants as core
use Rattle.session_model.specs.Walk.{Connection, Said, walk}

-- the first connection of seat 0, at node 0
abbrev pub first_connection : Connection
first_connection = record { seat = 0; serial = 0; node = 0 }

-- what is said there for bytes and replies
abbrev pub said_for : List ℕ → List CoreReply → Said
said_for bytes replies = walk first_connection (messages bytes) replies

-- NEW of application 0 on that connection, with NOTIFY
abbrev pub new_call : Call
new_call = record { seat = 0; serial = 0; node = 0; app = 0; command = record { qubit = 0; instr = instr.New; notify = true; block = false } }

-- HELLO of application 7 is answered by HELLO
abbrev pub HelloIsAnswered : Type 0
HelloIsAnswered = said_for (2 ∷ 0 ∷ 0 ∷ 7 ∷ 0 ∷ 0 ∷ 0 ∷ 0 ∷ []) [] ≡ record { asked = []; text = 2 ∷ 0 ∷ 0 ∷ 7 ∷ 0 ∷ 0 ∷ 0 ∷ 0 ∷ []; due = None }

-- NEW with NOTIFY is asked, and answered by NEW_OK and DONE
pub record NewIsAnswered : Type 0 where
  pub asked : said_for (2 ∷ 1 ∷ 0 ∷ 0 ∷ 0 ∷ 0 ∷ 0 ∷ 4 ∷ 0 ∷ 0 ∷ 1 ∷ 1 ∷ []) [] ≡ record { asked = new_call ∷ []; text = []; due = Some new_call }
  pub answered : said_for (2 ∷ 1 ∷ 0 ∷ 0 ∷ 0 ∷ 0 ∷ 0 ∷ 4 ∷ 0 ∷ 0 ∷ 1 ∷ 1 ∷ []) (core.New 0 ∷ []) ≡ record {
    asked = new_call ∷ [];
    text = 2 ∷ 10 ∷ 0 ∷ 0 ∷ 0 ∷ 0 ∷ 0 ∷ 2 ∷ 0 ∷ 0 ∷ 2 ∷ 4 ∷ 0 ∷ 0 ∷ 0 ∷ 0 ∷ 0 ∷ 0 ∷ [];
    due = None;
  }

-- a body whose second command is cut short is answered by GENERAL alone, and nothing of it is asked
abbrev pub ShortBody : Type 0
ShortBody = said_for (2 ∷ 1 ∷ 0 ∷ 0 ∷ 0 ∷ 0 ∷ 0 ∷ 6 ∷ 0 ∷ 0 ∷ 1 ∷ 0 ∷ 0 ∷ 0 ∷ []) [] ≡ record { asked = []; text = 2 ∷ 20 ∷ 0 ∷ 0 ∷ 0 ∷ 0 ∷ 0 ∷ 0 ∷ []; due = None }

-- the answer that a header of application 0 fixes
abbrev pub fixed_answer : ℕ → ℕ → ℕ → Option Reply
fixed_answer version kind size = refusal_of record { version = version; kind = kind; app = 0; length = size }

-- another version, the types GET_TIME, EXPIRE and 11, the option ACTION, and a body that is too long by one
pub record RefusedMessages : Type 0 where
  pub version : fixed_answer 1 0 0 ≡ Some (reply.Error fault.Unsupported)
  pub get_time : fixed_answer 2 8 0 ≡ Some (reply.Error fault.Unsupported)
  pub expire : fixed_answer 2 3 0 ≡ Some (reply.Error fault.Unsupported)
  pub eleven : fixed_answer 2 11 0 ≡ Some (reply.Error fault.Unsupported)
  pub action : said_for (2 ∷ 1 ∷ 0 ∷ 0 ∷ 0 ∷ 0 ∷ 0 ∷ 4 ∷ 0 ∷ 0 ∷ 1 ∷ 2 ∷ []) [] ≡ record { asked = []; text = 2 ∷ 22 ∷ 0 ∷ 0 ∷ 0 ∷ 0 ∷ 0 ∷ 0 ∷ []; due = None }
  pub too_long : fixed_answer 2 1 65537 ≡ Some (reply.Error fault.General)
  pub long_enough : fixed_answer 2 1 65536 ≡ None
