-- Worked cases of the step, as lists of calls with words and the replies to them.
use Rattle.std.specs.Prelude.{ℕ, ◌≡◌, ◌-◌, ◌^◌, Bool, true, false, List, [], ◌∷◌, ◌++◌, map, Option, None, Some, if◌then◌else◌}
use Rattle.cqc_model.specs.declared.Instr.{Instr}
use Rattle.cqc_model.specs.declared.Instr.TheVariants as instr
use Rattle.cqc_model.specs.declared.Remote.{Remote}
use Rattle.cqc_model.specs.declared.Fault.{Fault}
use Rattle.cqc_model.specs.declared.Fault.TheVariants as fault
use Rattle.network_model.specs.Network.{Network, Shape, opening}
use Rattle.network_model.specs.Step.{refusal, effect, draws}
use Rattle.network_model.specs.History.{advance}
use Rattle.network_model.specs.Factored.{homes_after}
use Rattle.network_model.specs.declared.Call.{Call}
use Rattle.network_model.specs.declared.Entry.{Entry}
use Rattle.network_model.specs.declared.CoreReply.{CoreReply}
use Rattle.network_model.specs.declared.CoreReply.TheVariants as reply

-- the reply that a refusal gives, else the effect's
abbrev pub reply_by : Option Fault → CoreReply → CoreReply
reply_by None r = r
reply_by (Some f) r = reply.Error f

-- the entry of a call, where no group is too large
abbrev pub entry_of : Shape → Network → Call → ℕ → Entry
entry_of shape s c word = record {
  call = c;
  word = if draws s c then Some word else None;
  reply = reply_by (refusal shape s c) (effect shape s c word).reply;
}

-- the entries of calls in order, where no group is too large; each call comes with the word that it would draw
abbrev pub entries_from : Shape → Network → List (Call × ℕ) → List Entry
entries_from shape s [] = []
entries_from shape s (c ∷ cs) = entry_of shape s (c.0) (c.1) ∷ entries_from shape (advance shape s (entry_of shape s (c.0) (c.1))) cs

-- the replies to calls in order
abbrev pub replies_from : Shape → Network → List (Call × ℕ) → List CoreReply
replies_from shape s calls = map (λ e. e.reply) (entries_from shape s calls)

-- a network of two nodes at 127.0.0.1, ports 8821 and 8822, with this room and this limit of qubits of a group
abbrev pub two_nodes : ℕ → ℕ → Shape
two_nodes room limit = record {
  places = record { address = 2130706433; port = 8821 } ∷ record { address = 2130706433; port = 8822 } ∷ [];
  room = room;
  limit = limit;
}

-- a call of a node's application on a qubit, with a word
abbrev pub asks : ℕ → ℕ → ℕ → Instr → ℕ → Call × ℕ
asks node app qubit i word = (
  record {
    seat = node;
    serial = 0;
    node = node;
    app = app;
    command = record { qubit = qubit; instr = i; notify = false; block = false };
  },
  word,
)

-- application 0 of the other node
abbrev pub node_one : Remote
node_one = record { app = 0; port = 8822; node = 2130706433 }

-- the greatest word
abbrev pub greatest : ℕ
greatest = 2 ^ 64 - 1

-- the replies over two plain nodes
abbrev pub replies_of : List (Call × ℕ) → List CoreReply
replies_of calls = replies_from (two_nodes 16 12) opening calls

-- the calls of application 0 at node 0 on qubit 0, one after the other; a measurement would draw the word
abbrev pub in_turn : List Instr → ℕ → List (Call × ℕ)
in_turn is word = map (λ i. asks 0 0 0 i word) is

-- a new qubit is measured as 0, by the least and the greatest word
pub record ZeroProbability : Type 0 where
  pub least : replies_of (in_turn (instr.New ∷ instr.Measure ∷ []) 0) ≡ reply.New 0 ∷ reply.Outcome false ∷ []
  pub greatest : replies_of (in_turn (instr.New ∷ instr.Measure ∷ []) greatest) ≡ reply.New 0 ∷ reply.Outcome false ∷ []

-- a turned qubit is measured as 1, by the greatest word
abbrev pub Certainty : Type 0
Certainty = replies_of (in_turn (instr.New ∷ instr.X ∷ instr.Measure ∷ []) greatest) ≡ reply.New 0 ∷ reply.Silent ∷ reply.Outcome true ∷ []

-- after H the outcome is 1 for the words below 2^63, and 0 from there on
pub record Tie : Type 0 where
  pub below : replies_of (in_turn (instr.New ∷ instr.H ∷ instr.Measure ∷ []) (2 ^ 63 - 1)) ≡ reply.New 0 ∷ reply.Silent ∷ reply.Outcome true ∷ []
  pub half : replies_of (in_turn (instr.New ∷ instr.H ∷ instr.Measure ∷ []) (2 ^ 63)) ≡ reply.New 0 ∷ reply.Silent ∷ reply.Outcome false ∷ []

-- H, T and H
abbrev pub mixed : List Instr
mixed = instr.New ∷ instr.H ∷ instr.T ∷ instr.H ∷ instr.Measure ∷ []

-- after H, T and H the probability of 1 is (2 - √2) / 4: the last word that gives 1, and the first that gives 0
pub record IrrationalThreshold : Type 0 where
  pub below : replies_of (in_turn mixed 2701463124188384701) ≡ reply.New 0 ∷ reply.Silent ∷ reply.Silent ∷ reply.Silent ∷ reply.Outcome true ∷ []
  pub above : replies_of (in_turn mixed 2701463124188384702) ≡ reply.New 0 ∷ reply.Silent ∷ reply.Silent ∷ reply.Silent ∷ reply.Outcome false ∷ []

-- a pair with application 0 of the other node, received there, and measured first here and then there
abbrev pub measured_pair : ℕ → ℕ → List (Call × ℕ)
measured_pair here there =
    asks 0 0 0 (instr.Epr node_one) 0 ∷ asks 1 0 0 instr.EprRecv 0 ∷ asks 0 0 0 instr.Measure here ∷ asks 1 0 0 instr.Measure there ∷ []

-- what both holders of that pair are told
abbrev pub told : CoreReply
told = reply.Pair 0 (record { node_a = 2130706433; port_a = 8821; app_a = 0; node_b = 2130706433; port_b = 8822; app_b = 0; pair = 0 })

-- both halves of a pair give the outcome of the half that is measured first, whatever the other's word is
pub record PairAgrees : Type 0 where
  pub ones : replies_of (measured_pair 0 greatest) ≡ told ∷ told ∷ reply.Outcome true ∷ reply.Outcome true ∷ []
  pub zeros : replies_of (measured_pair greatest 0) ≡ told ∷ told ∷ reply.Outcome false ∷ reply.Outcome false ∷ []

-- one qubit is held: CNOT with itself, with a missing target, of a missing qubit, and a rotation by no eighth of a missing qubit
abbrev pub OrderOfRefusals : Type 0
OrderOfRefusals =
    replies_of (asks 0 0 0 instr.New 0 ∷ asks 0 0 0 (instr.Cnot 0) 0 ∷ asks 0 0 0 (instr.Cnot 9) 0 ∷ asks 0 0 9 (instr.Cnot 9) 0 ∷ asks 0 0 9 (instr.RotX 1) 0 ∷ [])
    ≡ reply.New 0 ∷ reply.Error fault.Unsupported ∷ reply.Error fault.Unknown ∷ reply.Error fault.Unknown ∷ reply.Error fault.Unknown ∷ []

-- three qubits where a group has at most two: a third joins once one is measured
abbrev pub RegisterLimit : Type 0
RegisterLimit =
    replies_from (two_nodes 16 2) opening (
    asks 0 0 0 instr.New 0 ∷ asks 0 0 0 instr.New 0 ∷ asks 0 0 0 instr.New 0
    ∷ asks 0 0 0 (instr.Cnot 1) 0 ∷ asks 0 0 1 (instr.Cnot 2) 0
    ∷ asks 0 0 0 instr.MeasureInplace greatest ∷ asks 0 0 1 (instr.Cnot 2) 0 ∷ [])
    ≡ reply.New 0 ∷ reply.New 1 ∷ reply.New 2 ∷ reply.Silent ∷ reply.Error fault.General ∷ reply.Outcome false ∷ reply.Silent ∷ []

-- application 2 of the other node
abbrev pub receiver : Remote
receiver = record { app = 2; port = 8822; node = 2130706433 }

-- the sender's side of a teleportation of the qubit that H and T make of a new one: both its qubits are measured
abbrev pub sent_over : ℕ → List (Call × ℕ)
sent_over word =
    asks 0 1 0 instr.New 0 ∷ asks 0 1 0 instr.H 0 ∷ asks 0 1 0 instr.T 0
    ∷ asks 0 1 0 (instr.Epr receiver) 0 ∷ asks 0 1 0 (instr.Cnot 1) 0 ∷ asks 0 1 0 instr.H 0
    ∷ asks 0 1 0 instr.Measure word ∷ asks 0 1 1 instr.Measure word ∷ []

-- the receiver's qubit is turned back by the inverses of T and H, and measured
abbrev pub turned_back : List (Call × ℕ)
turned_back = asks 1 2 0 (instr.RotZ 224) 0 ∷ asks 1 2 0 instr.H 0 ∷ asks 1 2 0 instr.Measure 0 ∷ []

-- the replies in which something is measured
abbrev pub outcomes : List CoreReply → List Bool
outcomes [] = []
outcomes (reply.Outcome b ∷ rs) = b ∷ outcomes rs
outcomes (_ ∷ rs) = outcomes rs

-- the receiver's corrected qubit is the sent one: with both corrections after the outcomes 1 and 1, with none after 0 and 0
pub record Teleportation : Type 0 where
  pub corrected : outcomes (replies_of (sent_over 0 ++ asks 1 2 0 instr.EprRecv 0 ∷ asks 1 2 0 instr.X 0 ∷ asks 1 2 0 instr.Z 0 ∷ turned_back)) ≡ true ∷ true ∷ false ∷ []
  pub plain : outcomes (replies_of (sent_over greatest ++ asks 1 2 0 instr.EprRecv 0 ∷ turned_back)) ≡ false ∷ false ∷ false ∷ []

-- the homes of numbers 0, 1 and 2 after calls
abbrev pub homes_of : List (Call × ℕ) → List ℕ
homes_of calls = map (homes_after (two_nodes 16 12) (entries_from (two_nodes 16 12) opening calls)) (0 ∷ 1 ∷ 2 ∷ [])

-- a pair shares a slot, a gate brings the other group to the own qubit's slot, and a measured qubit moves to the least free one
pub record HomesMove : Type 0 where
  pub apart : homes_of (asks 0 0 0 (instr.Epr node_one) 0 ∷ asks 0 0 0 instr.New 0 ∷ []) ≡ 0 ∷ 0 ∷ 1 ∷ []
  pub joined : homes_of (asks 0 0 0 (instr.Epr node_one) 0 ∷ asks 0 0 0 instr.New 0 ∷ asks 0 0 1 (instr.Cnot 0) 0 ∷ asks 0 0 0 instr.MeasureInplace 0 ∷ []) ≡ 0 ∷ 1 ∷ 1 ∷ []
