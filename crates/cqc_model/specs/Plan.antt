-- How bytes are cut into messages, and what each message asks for.
use Rattle.std.specs.Prelude.{ℕ, zero, suc, ◌+◌, ◌/◌, ◌%◌, ◌^◌, List, [], ◌∷◌, length, take, drop, slice_index, replicate, nat_lt, nat_le, Bool, false, not, ◌&&◌, ◌||◌, ◌==◌, if◌then◌else◌, Option, None, Some, is_none, unwrap_or, Result, Ok, Err}
use Rattle.std.specs.List.{flat_map, list_any}
use Rattle.cqc_model.specs.declared.Header.{Header}
use Rattle.cqc_model.specs.declared.Remote.{Remote}
use Rattle.cqc_model.specs.declared.Command.{Command}
use Rattle.cqc_model.specs.declared.Instr.{Instr}
use Rattle.cqc_model.specs.declared.Instr.TheVariants as instr
use Rattle.cqc_model.specs.declared.Fault.TheVariants as fault
use Rattle.cqc_model.specs.declared.BodyFault.{BodyFault}
use Rattle.cqc_model.specs.declared.BodyFault.TheVariants as body_fault
use Rattle.cqc_model.specs.declared.Reply.{Reply}
use Rattle.cqc_model.specs.declared.Reply.TheVariants as reply
use Rattle.cqc_model.specs.Wire.{header_of, number_at, long_number_at}

-- a header, and as many bytes as it says
pub record Message : Type 0 where
  pub head : Header
  pub body : List ℕ

-- the length that the header in front says
abbrev pub body_size : List ℕ → ℕ
body_size b = (header_of b).length

-- the bytes begin with a whole message
abbrev pub begins_whole : List ℕ → Bool
begins_whole b = nat_le 8 (length b) && nat_le (8 + body_size b) (length b)

-- whole messages, and what is left
pub record Cutting : Type 0 where
  pub messages : List Message
  pub rest : List ℕ

-- the message in front
abbrev pub first_message : List ℕ → Message
first_message b = record { head = header_of b; body = take (body_size b) (drop 8 b) }

-- the bytes behind it
abbrev pub behind_message : List ℕ → List ℕ
behind_message b = drop (8 + body_size b) b

-- one message more in front
abbrev pub with_message : Message → Cutting → Cutting
with_message m c = record { messages = m ∷ c.messages; rest = c.rest }

-- at most n messages, from the front
abbrev pub cut_most : ℕ → List ℕ → Cutting
cut_most zero b = record { messages = []; rest = b }
cut_most (suc n) b =
    if begins_whole b then with_message (first_message b) (cut_most n (behind_message b)) else record { messages = []; rest = b }

-- each message takes eight bytes, so there are no more than bytes
unfoldable pub cut : List ℕ → Cutting
cut b = cut_most (length b) b

-- the whole messages of bytes
abbrev pub messages : List ℕ → List Message
messages b = (cut b).messages

-- what is left behind them
abbrev pub rest : List ℕ → List ℕ
rest b = (cut b).rest

-- The command list of a body.

-- the bytes of an instruction's extra header; none for an unknown instruction
abbrev pub extra_size : ℕ → Option ℕ
extra_size number =
    if number == 5 || number == 7 then Some 8
    else (if number == 14 || number == 15 || number == 16 then Some 1
    else (if number == 20 || number == 21 then Some 2
    else (if nat_le number 18 && not (number == 9) || number == 22 || number == 23 then Some 0
    else None)))

-- the remote application of an extra header
abbrev pub remote_of : List ℕ → Remote
remote_of b = record {
  app = number_at 0 b;
  port = number_at 2 b;
  node = long_number_at 4 b;
}

-- the number of the first two bytes
abbrev pub number_of : List ℕ → ℕ
number_of b = number_at 0 b

-- the instruction of a known number, with its extra header
abbrev pub instr_of : ℕ → List ℕ → Instr
instr_of number extra =
    if number == 1 then instr.New
    else (if number == 2 then instr.Measure
    else (if number == 3 then instr.MeasureInplace
    else (if number == 4 then instr.Reset
    else (if number == 5 then instr.Send (remote_of extra)
    else (if number == 6 then instr.Recv
    else (if number == 7 then instr.Epr (remote_of extra)
    else (if number == 8 then instr.EprRecv
    else (if number == 10 then instr.X
    else (if number == 11 then instr.Z
    else (if number == 12 then instr.Y
    else (if number == 13 then instr.T
    else (if number == 14 then instr.RotX (slice_index extra 0)
    else (if number == 15 then instr.RotY (slice_index extra 0)
    else (if number == 16 then instr.RotZ (slice_index extra 0)
    else (if number == 17 then instr.H
    else (if number == 18 then instr.K
    else (if number == 20 then instr.Cnot (number_of extra)
    else (if number == 21 then instr.Cphase (number_of extra)
    else (if number == 22 then instr.Allocate
    else (if number == 23 then instr.Release
    else instr.I))))))))))))))))))))

-- bit k of the options: NOTIFY 0, ACTION 1, BLOCK 2, IFTHEN 3
abbrev pub has_option : ℕ → ℕ → Bool
has_option k options = ((options / (2 ^ k)) % 2) == 1

-- a number without an extra header is an unknown instruction
abbrev pub is_unknown : ℕ → Bool
is_unknown number = is_none (extra_size number)

-- the bytes of a command with its extra header
abbrev pub command_size : ℕ → ℕ
command_size number = unwrap_or (extra_size number) 0 + 4

-- the first fault of the command in front, which begins at a place of its list
abbrev pub command_fault : ℕ → List ℕ → Option BodyFault
command_fault place b =
    if nat_lt (length b) 4 then Some (body_fault.Short place)
    else (if is_unknown (slice_index b 2) then Some (body_fault.Unsupported place)
    else (if has_option 1 (slice_index b 3) || has_option 3 (slice_index b 3) then Some (body_fault.Unsupported place)
    else (if nat_lt (length b) (command_size (slice_index b 2)) then Some (body_fault.Short place)
    else None)))

-- the command in front
abbrev pub command_of : List ℕ → Command
command_of b = record {
  qubit = number_of b;
  instr = instr_of (slice_index b 2) (drop 4 b);
  notify = has_option 0 (slice_index b 3);
  block = has_option 2 (slice_index b 3);
}

-- a command in front of others, unless one of them has a fault
abbrev pub with_command : Option BodyFault → Command → Result (List Command) BodyFault → Result (List Command) BodyFault
with_command (Some f) c others = Err f
with_command None c (Ok cs) = Ok (c ∷ cs)
with_command None c (Err f) = Err f

-- at most n commands from a place on, or the first fault
abbrev pub commands_most : ℕ → ℕ → List ℕ → Result (List Command) BodyFault
commands_most zero place b = Ok []
commands_most (suc n) place b =
    if length b == 0 then Ok []
    else with_command (command_fault place b) (command_of b)
    (commands_most n (place + command_size (slice_index b 2)) (drop (command_size (slice_index b 2)) b))

-- the commands of a list, or its first fault
unfoldable pub commands : List ℕ → Result (List Command) BodyFault
commands b = commands_most (length b) 0 b

-- The plan of a message: one fixed reply, or commands, and whether DONE follows them.
pub data Plan : Type 0 where
  fixed : Reply → Plan
  steps : List Command → Bool → Plan

-- the plan of a list with a fault
abbrev pub fault_plan : BodyFault → Plan
fault_plan (body_fault.Unsupported place) = fixed (reply.Error fault.Unsupported)
fault_plan (body_fault.Short place) = fixed (reply.Error fault.General)

-- ALLOCATE with count n is n times NEW with its options
abbrev pub unrolled_as : Instr → Command → List Command
unrolled_as instr.Allocate c = replicate c.qubit (record c { qubit = 0; instr = instr.New })
unrolled_as _ c = c ∷ []

-- the commands that a command stands for
abbrev pub unrolled : Command → List Command
unrolled c = unrolled_as c.instr c

-- the list run that many times; a NOTIFY of the options counts, and one of a command that is reached
abbrev pub list_plan : ℕ → Bool → Result (List Command) BodyFault → Plan
list_plan repeats notify (Err f) = fault_plan f
list_plan repeats notify (Ok list) =
    steps (flat_map (λ c. c) (replicate repeats (flat_map unrolled list)))
    (notify || nat_lt 0 repeats && list_any (λ c. c.notify) list)

-- the type of HELLO
abbrev pub HELLO : ℕ
HELLO = 0

-- the type of COMMAND
abbrev pub COMMAND : ℕ
COMMAND = 1

-- the type of FACTORY
abbrev pub FACTORY : ℕ
FACTORY = 2

-- whether a type is that of a message; all others are of replies, or unsupported
abbrev pub is_message_kind : ℕ → Bool
is_message_kind kind = kind == HELLO || kind == COMMAND || kind == FACTORY

-- the most bytes of a body
abbrev pub body_limit : ℕ
body_limit = 65536

-- the most commands of a body, each of which takes at least four bytes
abbrev pub command_limit : ℕ
command_limit = 16384

-- the answer that the header alone fixes
abbrev pub refusal_of : Header → Option Reply
refusal_of h =
    if not (h.version == 2) then Some (reply.Error fault.Unsupported)
    else (if not (is_message_kind h.kind) then Some (reply.Error fault.Unsupported)
    else (if nat_lt body_limit h.length then Some (reply.Error fault.General)
    else (if h.kind == HELLO then Some reply.Hello
    else None)))

-- the plan of a body
abbrev pub body_plan : ℕ → List ℕ → Plan
body_plan kind b =
    if kind == COMMAND then list_plan 1 false (commands b)
    else (if nat_lt (length b) 2 then fixed (reply.Error fault.General)
    else list_plan (slice_index b 0) (has_option 0 (slice_index b 1)) (commands (drop 2 b)))

-- the plan of a message, by what the header fixes
abbrev pub plan_with : Option Reply → Message → Plan
plan_with (Some r) m = fixed r
plan_with None m = body_plan m.head.kind m.body

-- the plan of a message
abbrev pub plan_of : Message → Plan
plan_of m = plan_with (refusal_of m.head) m
