-- The grammar of a script, line by line, with the first refusal.
use Rattle.std.specs.Prelude.{ℕ, ◌+◌, ◌==◌, nat_le, true, if◌then◌else◌, List, [], ◌∷◌, length, Result, Ok, Err}
use Rattle.cqc_model.specs.declared.Command.{Command}
use Rattle.cqc_model.specs.declared.Head.{Head}
use Rattle.cqc_model.specs.declared.Head.TheVariants as head
use Rattle.cqc_model.specs.Wire.{message_body}
use Rattle.cqc_model.specs.Plan.{body_limit}
use Rattle.text_lines.specs.Lines.{lines, content}
use Rattle.text_lines.specs.Words.{words, number_up_to}
use Rattle.text_lines.specs.Reading.{◌>>=◌, ◌or◌, read_lines, is_passed_over}
use Rattle.script.specs.declared.verb.Verb.{Verb}
use Rattle.script.specs.declared.verb.Verb.TheVariants as verb
use Rattle.script.specs.declared.fault.ScriptWhy.{ScriptWhy}
use Rattle.script.specs.declared.fault.ScriptWhy.TheVariants.{Word, Count, Number, Pending, Nothing, Long}
use Rattle.script.specs.Verbs.{verb_of}
use Rattle.script.specs.Commands.{id_in, command_in}
use Rattle.script.specs.Drafts.{Draft, Sending, no_draft, with_command, with_message, notify_last}

-- the commands are sent under a head, as one message
abbrev pub send : Draft → Head → List Command → Result Draft ScriptWhy
send d head [] = Err Nothing
send d head (c ∷ list) =
    if nat_le (length (message_body head (c ∷ list))) body_limit then Ok (with_message d head (c ∷ list)) else Err Long

-- ---- lines
-- app <n>
unfoldable pub app_line : Draft → List (List ℕ) → Result Draft ScriptWhy
app_line d (n ∷ []) = do
  app ← id_in n or Number
  Ok (record d { app = app })
app_line d _ = Err Count

-- hello
abbrev pub hello_line : Draft → List (List ℕ) → Result Draft ScriptWhy
hello_line d [] = if length d.pending == 0 then Ok (with_message d (head.Hello d.app) []) else Err Pending
hello_line d _ = Err Count

-- go
abbrev pub go_line : Draft → List (List ℕ) → Result Draft ScriptWhy
go_line d [] = send d (head.Commands d.app) (notify_last d.pending)
go_line d _ = Err Count

-- factory <n>
unfoldable pub factory_line : Draft → List (List ℕ) → Result Draft ScriptWhy
factory_line d (n ∷ []) = do
  repeats ← number_up_to 255 n or Number
  send d (head.Factory d.app repeats true) d.pending
factory_line d _ = Err Count

-- a command's line, of which its operands were read
unfoldable pub command_line : Draft → List (List ℕ) → Result Command ScriptWhy → Result Draft ScriptWhy
command_line d operands read = do
  c ← read
  Ok (with_command d c)

-- what a line does, by its verb
abbrev pub verb_line : Draft → List (List ℕ) → Verb → Result Draft ScriptWhy
verb_line d operands verb.App = app_line d operands
verb_line d operands verb.Hello = hello_line d operands
verb_line d operands verb.Go = go_line d operands
verb_line d operands verb.Factory = factory_line d operands
verb_line d operands (verb.Command kind) = command_line d operands (command_in kind operands)

-- the words of a line, of which the first is its verb
abbrev pub line_of : Draft → List (List ℕ) → Result Draft ScriptWhy
line_of d [] = Err Word
line_of d (word ∷ operands) = (verb_of word or Word) >>= verb_line d operands

-- what a line makes of the draft so far: one that is passed over leaves it
abbrev pub take_line : Draft → List ℕ → Result Draft ScriptWhy
take_line d line = if is_passed_over (content line) then Ok d else line_of d (words (content line))

-- at the end no command is pending
abbrev pub at_end : ℕ → Result Draft (ℕ × ScriptWhy) → Result (List Sending) (ℕ × ScriptWhy)
at_end number (Ok d) = if length d.pending == 0 then Ok d.messages else Err (number, Pending)
at_end number (Err refusal) = Err refusal

-- the messages of a text, or its first refusal, with the number of its line from 1 on
abbrev pub script_of : List ℕ → Result (List Sending) (ℕ × ScriptWhy)
script_of text = at_end (length (lines text) + 1) (read_lines take_line 1 no_draft (lines text))
