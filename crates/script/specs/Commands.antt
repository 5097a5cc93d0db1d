-- The command of a line: its operands, in order.
use Rattle.std.specs.Prelude.{ℕ, false, List, [], ◌∷◌, Option, Result, Ok, Err}
use Rattle.cqc_model.specs.declared.Command.{Command}
use Rattle.cqc_model.specs.declared.Remote.{Remote}
use Rattle.cqc_model.specs.declared.Instr.{Instr}
use Rattle.cqc_model.specs.declared.Instr.TheVariants.{RotX, RotY, RotZ, Cnot, Cphase, Send, Epr, Allocate}
use Rattle.text_lines.specs.Words.{number_up_to, number_between, address_of}
use Rattle.text_lines.specs.Reading.{◌>>=◌, ◌or◌}
use Rattle.script.specs.declared.verb.Axis.{Axis}
use Rattle.script.specs.declared.verb.Axis.TheVariants as axis
use Rattle.script.specs.declared.verb.Gate.{Gate}
use Rattle.script.specs.declared.verb.Gate.TheVariants as gate
use Rattle.script.specs.declared.verb.Way.{Way}
use Rattle.script.specs.declared.verb.Way.TheVariants as way
use Rattle.script.specs.declared.verb.Kind.{Kind}
use Rattle.script.specs.declared.verb.Kind.TheVariants as kind
use Rattle.script.specs.declared.fault.ScriptWhy.{ScriptWhy}
use Rattle.script.specs.declared.fault.ScriptWhy.TheVariants.{Number, Count}

-- a command without options
abbrev pub command : ℕ → Instr → Command
command qubit instr = record { qubit = qubit; instr = instr; notify = false; block = false }

-- a rotation about an axis
abbrev pub turn : Axis → ℕ → Instr
turn axis.X step = RotX step
turn axis.Y step = RotY step
turn axis.Z step = RotZ step

-- a gate with another qubit
abbrev pub both : Gate → ℕ → Instr
both gate.Cnot r = Cnot r
both gate.Cphase r = Cphase r

-- a transfer to a remote application
abbrev pub transfer : Way → Remote → Instr
transfer way.Send remote = Send remote
transfer way.Epr remote = Epr remote

-- a number of 16 bits: of a qubit, an application, or a count
abbrev pub id_in : List ℕ → Option ℕ
id_in word = number_up_to 65_535 word

-- a port
abbrev pub port_in : List ℕ → Option ℕ
port_in word = number_between 1 65_535 word

-- ---- the operands of each kind
-- q step
unfoldable pub turn_in : Axis → List (List ℕ) → Result Command ScriptWhy
turn_in axis (q ∷ step ∷ []) = do
  qubit ← id_in q or Number
  steps ← number_up_to 255 step or Number
  Ok (command qubit (turn axis steps))
turn_in axis _ = Err Count

-- q r
unfoldable pub both_in : Gate → List (List ℕ) → Result Command ScriptWhy
both_in gate (q ∷ r ∷ []) = do
  qubit ← id_in q or Number
  other ← id_in r or Number
  Ok (command qubit (both gate other))
both_in gate _ = Err Count

-- q app address port
unfoldable pub transfer_in : Way → List (List ℕ) → Result Command ScriptWhy
transfer_in way (q ∷ app ∷ address ∷ port ∷ []) = do
  qubit ← id_in q or Number
  to ← id_in app or Number
  node ← address_of address or Number
  at ← port_in port or Number
  Ok (command qubit (transfer way (record { app = to; port = at; node = node })))
transfer_in way _ = Err Count

-- q
unfoldable pub on_qubit_in : Instr → List (List ℕ) → Result Command ScriptWhy
on_qubit_in instr (q ∷ []) = do
  qubit ← id_in q or Number
  Ok (command qubit instr)
on_qubit_in instr _ = Err Count

-- no operand
abbrev pub alone_in : Instr → List (List ℕ) → Result Command ScriptWhy
alone_in instr [] = Ok (command 0 instr)
alone_in instr _ = Err Count

-- the command of a kind, with these operands; a count stands where the qubit does
abbrev pub command_in : Kind → List (List ℕ) → Result Command ScriptWhy
command_in (kind.Alone instr) operands = alone_in instr operands
command_in (kind.OnQubit instr) operands = on_qubit_in instr operands
command_in (kind.Turn axis) operands = turn_in axis operands
command_in (kind.Both gate) operands = both_in gate operands
command_in (kind.Transfer way) operands = transfer_in way operands
command_in kind.Allocate operands = on_qubit_in Allocate operands
