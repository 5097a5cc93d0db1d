-- What the bytes read, the own entries, the bytes written and the ending of a connection have to do with one another.
use Rattle.std.specs.Prelude.{◌≡◌, ℕ, ◌⊎◌, ◌+◌, ◌<◌, List, [], ◌∷◌, ◌++◌, length, map, Option, None, Some, IfSome, IsSomeAnd, nat_lt, MatchBool}
use Rattle.network_model.specs.declared.Call.{Call}
use Rattle.network_model.specs.declared.Entry.{Entry}
use Rattle.network_model.specs.declared.CoreReply.{CoreReply}
use Rattle.cqc_model.specs.declared.Fault.TheVariants as fault
use Rattle.cqc_model.specs.declared.Reply.TheVariants as reply
use Rattle.session_model.specs.declared.Ending.{Ending}
use Rattle.session_model.specs.declared.Ending.TheVariants.{Clean, Cut, ReadFault, WriteFault, Full, Spent}
use Rattle.cqc_model.specs.Wire.{spell}
use Rattle.cqc_model.specs.Plan.{messages, rest, body_size}
use Rattle.session_model.specs.Walk.{Connection, Said, walk}

-- What a session is asked about: where it is, how many bytes it may read, whether its source has no byte
-- left, and the entries and the capacity of the journal.
pub record Setting : Type 0 where
  pub connection : Connection
  pub cap : ℕ
  pub left : Option (List ℕ)
  pub entries : ℕ
  pub capacity : ℕ

-- the source ended: no byte is left, where it tells them
abbrev pub Ended : Option (List ℕ) → Type 0
Ended left = IfSome left (λ b. b ≡ [])

-- the due call, if there is one
abbrev pub due_list : Option Call → List Call
due_list None = []
due_list (Some c) = c ∷ []

-- the replies of entries
abbrev pub replies_of : List Entry → List CoreReply
replies_of entries = map (λ e. e.reply) entries

-- the calls of entries
abbrev pub calls_of : List Entry → List Call
calls_of entries = map (λ e. e.call) entries

-- all entries but the last
abbrev pub but_last : List Entry → List Entry
but_last [] = []
but_last (e ∷ []) = []
but_last (e ∷ f ∷ es) = e ∷ but_last (f ∷ es)

-- a header or a body was cut short: how much of it is there, and its whole length
abbrev pub CutAt : List ℕ → ℕ → ℕ → Type 0
CutAt part have need = MatchBool (nat_lt (length part) 8) ((have ≡ length part) × (need ≡ 8)) ((have + 8 ≡ length part) × (need ≡ body_size part))

-- the bytes begin the whole, and are fewer
abbrev pub ProperPrefix : List ℕ → List ℕ → Type 0
ProperPrefix out whole = (more : List ℕ) × (0 < length more) × (out ++ more ≡ whole)

-- the bytes begin the whole
abbrev pub Prefix : List ℕ → List ℕ → Type 0
Prefix out whole = (more : List ℕ) × (out ++ more ≡ whole)

-- the journal was full when the due call came
abbrev pub FoundFull : Setting → Type 0
FoundFull s = s.entries ≡ s.capacity

-- GENERAL for the due call, if there is one
abbrev pub general_text : Option Call → List ℕ
general_text None = []
general_text (Some c) = spell c.app (reply.Error fault.General)

-- the text, with GENERAL for the due call
abbrev pub with_general : Said → List ℕ
with_general said = said.text ++ general_text said.due

-- the row of an ending
abbrev pub EndsAs : Setting → List ℕ → List Entry → Said → List ℕ → Ending → Type 0
EndsAs s b entries said out Clean = (said.due ≡ None) × (rest b ≡ []) × Ended s.left × (out ≡ said.text)
EndsAs s b entries said out (Cut have need) =
    (said.due ≡ None) × (0 < length (rest b)) × Ended s.left × (out ≡ said.text) × CutAt (rest b) have need
EndsAs s b entries said out ReadFault = (said.due ≡ None) × (out ≡ said.text)
EndsAs s b entries said out (Spent bytes) = (said.due ≡ None) × (bytes ≡ length b) × (bytes ≡ s.cap) × (out ≡ said.text)
EndsAs s b entries said out (Full count) =
    IsSomeAnd said.due (λ c. out ≡ said.text ++ spell c.app (reply.Error fault.General)) × FoundFull s × (count ≡ s.capacity)
EndsAs s b entries said out WriteFault =
    (ProperPrefix out said.text ⊎ (FoundFull s × ProperPrefix out (with_general said)))
    × (0 < length entries → Prefix (walk s.connection (messages b) (replies_of (but_last entries))).text out)

-- the bytes read, the own entries, the bytes written and the ending
pub record Speaks (s : Setting) (b : List ℕ) (entries : List Entry) (out : List ℕ) (ending : Ending) : Type 0 where
  pub asked : (walk s.connection (messages b) (replies_of entries)).asked
      ≡ calls_of entries ++ due_list (walk s.connection (messages b) (replies_of entries)).due
  pub ends : EndsAs s b entries (walk s.connection (messages b) (replies_of entries)) out ending
