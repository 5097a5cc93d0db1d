-- What an instruction is to the network, and what each kind of instruction has.
use Rattle.std.specs.Prelude.{ℕ, ◌/◌, ◌%◌, ◌==◌, Bool, true, false, cond, Option, Some, None}
use Rattle.cqc_model.specs.declared.Instr.{Instr}
use Rattle.cqc_model.specs.declared.Instr.TheVariants as instr
use Rattle.cqc_model.specs.declared.Remote.{Remote}
use Rattle.state_model.specs.declared.Gate.{Gate}
use Rattle.state_model.specs.declared.Gate.TheVariants as gates
use Rattle.state_model.specs.declared.Two.TheVariants as twos
use Rattle.network_model.specs.declared.Line.{Line}
use Rattle.network_model.specs.declared.Line.TheVariants as line
use Rattle.network_model.specs.declared.After.TheVariants.{TakenOut, Left, Cleared}
use Rattle.network_model.specs.declared.Kind.{Kind}
use Rattle.network_model.specs.declared.Kind.TheVariants.{Idle, Gate as OneGate, Inexact, Two as TwoGate, Measure, Make, Pair, Send, Receive, Unrolled}

-- a rotation is exact by whole eighths of a turn, of 32 steps each
unfoldable pub exact : ℕ → Gate → Kind
exact step g = cond (step % 32 == 0) (OneGate g) Inexact

-- the kind of an instruction; rotations turn by step / 32 eighths
unfoldable pub kind_of : Instr → Kind
kind_of instr.I = Idle
kind_of instr.X = OneGate gates.X
kind_of instr.Y = OneGate gates.Y
kind_of instr.Z = OneGate gates.Z
kind_of instr.T = OneGate gates.T
kind_of instr.H = OneGate gates.H
kind_of instr.K = OneGate gates.K
kind_of (instr.RotX step) = exact step (gates.RotX (step / 32))
kind_of (instr.RotY step) = exact step (gates.RotY (step / 32))
kind_of (instr.RotZ step) = exact step (gates.RotZ (step / 32))
kind_of (instr.Cnot id) = TwoGate twos.Cnot id
kind_of (instr.Cphase id) = TwoGate twos.Cphase id
kind_of instr.Measure = Measure TakenOut true
kind_of instr.MeasureInplace = Measure Left true
kind_of instr.Reset = Measure Cleared false
kind_of instr.Release = Measure TakenOut false
kind_of instr.New = Make
kind_of (instr.Epr r) = Pair r
kind_of (instr.Send r) = Send r
kind_of instr.Recv = Receive line.Sent
kind_of instr.EprRecv = Receive line.Pair
kind_of instr.Allocate = Unrolled

-- whether the call's own id must be held
unfoldable pub takes_qubit : Kind → Bool
takes_qubit Make = false
takes_qubit (Pair r) = false
takes_qubit (Receive l) = false
takes_qubit _ = true

-- the id of a gate's second qubit
unfoldable pub second_of : Kind → Option ℕ
second_of (TwoGate g id) = Some id
second_of _ = None

-- the remote application of a transfer
unfoldable pub remote_of : Kind → Option Remote
remote_of (Pair r) = Some r
remote_of (Send r) = Some r
remote_of _ = None

-- the line of a receipt
unfoldable pub line_of : Kind → Option Line
line_of (Receive l) = Some l
line_of _ = None

-- whether it is a gate, on one qubit or two
unfoldable pub is_gate : Kind → Bool
is_gate (OneGate g) = true
is_gate (TwoGate g id) = true
is_gate _ = false

-- whether it is a rotation that is not exact
unfoldable pub is_inexact : Kind → Bool
is_inexact Inexact = true
is_inexact _ = false

-- whether it draws a random word
unfoldable pub is_measurement : Kind → Bool
is_measurement (Measure after told) = true
is_measurement _ = false

-- whether the own node gets a new qubit
unfoldable pub is_making : Kind → Bool
is_making Make = true
is_making (Pair r) = true
is_making _ = false

-- whether it makes a pair
unfoldable pub is_pair : Kind → Bool
is_pair (Pair r) = true
is_pair _ = false
