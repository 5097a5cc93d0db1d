-- The laws of the step and of histories as statements.
use Rattle.std.specs.Prelude.{ℕ, ◌≡◌, ◌≤◌, false, List, [], ◌∷◌, ◌++◌, Option}
use Rattle.state_model.specs.Coefficient.{zero_coefficient}
use Rattle.state_model.specs.StateVector.{IsSameState}
use Rattle.state_model.specs.Registers.{Register}
use Rattle.network_model.specs.Factored.{FitsSlot, FitsNode, FitsPool, IsHoused, touches_slot, touches_node, touches_pool, homes_step, homes_after}
use Rattle.network_model.specs.Network.{Network, Shape, IsSound}
use Rattle.network_model.specs.Step.{effect, IsReply}
use Rattle.network_model.specs.History.{IsLegal, IsLegalEntry, advance, after}
use Rattle.network_model.specs.declared.Line.{Line}
use Rattle.cqc_model.specs.declared.PairInfo.{PairInfo}
use Rattle.network_model.specs.declared.Call.{Call}
use Rattle.network_model.specs.declared.Entry.{Entry}
use Rattle.network_model.specs.declared.CoreReply.{CoreReply}

-- t is s with a vector that is the same up to scale and phase
pub record DiffersInVector (s t : Network) : Type 0 where
  pub vector : IsSameState s.vector t.vector
  pub rest : t ≡ record s { vector = t.vector }

-- states that differ only in vectors that are the same give the same replies, and next states that again differ only so
abbrev pub StepRespectsSameStates : Type 0
StepRespectsSameStates = (shape : Shape) (s t : Network) (c : Call) (word : ℕ)
    → ¬ ((x : ℕ) → s.vector x ≡ zero_coefficient) → DiffersInVector s t
    → ((r : CoreReply) → IsReply shape s c word r → IsReply shape t c word r)
    × DiffersInVector ((effect shape s c word).state) ((effect shape t c word).state)

-- each legal entry keeps soundness, where the shape lets a group have a qubit
abbrev pub LegalEntriesKeepSoundness : Type 0
LegalEntriesKeepSoundness = (shape : Shape) (s : Network) (e : Entry) → 1 ≤ shape.limit → IsSound shape s → IsLegalEntry shape s e → IsSound shape (advance shape s e)

-- every legal history ends in a sound state, where the shape lets a group have a qubit
abbrev pub LegalHistoriesAreSound : Type 0
LegalHistoriesAreSound = (shape : Shape) (h : List Entry) → 1 ≤ shape.limit → IsLegal shape h → IsSound shape (after shape h)

-- a slot that fits and that a legal entry does not touch fits after the entry
abbrev pub UntouchedSlotsFit : Type 0
UntouchedSlotsFit = (shape : Shape) (s : Network) (home : ℕ → ℕ) (e : Entry) (slot : ℕ) (r : Register)
    → IsSound shape s → IsLegalEntry shape s e → FitsSlot shape s home slot r → touches_slot s home e slot ≡ false
    → FitsSlot shape (advance shape s e) (homes_step s home e) slot r

-- a node that fits and that a legal entry does not touch fits after the entry
abbrev pub UntouchedNodesFit : Type 0
UntouchedNodesFit = (shape : Shape) (s : Network) (e : Entry) (node : ℕ) (held : ℕ → ℕ → Option ℕ) (arrived : ℕ → Line → List (ℕ × Option PairInfo))
    → IsSound shape s → IsLegalEntry shape s e → FitsNode s node held arrived → touches_node shape e node ≡ false
    → FitsNode (advance shape s e) node held arrived

-- a pool that fits and that a legal entry does not touch fits after the entry
abbrev pub UntouchedPoolFits : Type 0
UntouchedPoolFits = (shape : Shape) (s : Network) (home : ℕ → ℕ) (e : Entry) (numbers slots : List ℕ) (pairs : ℕ)
    → IsSound shape s → IsHoused s home → IsLegalEntry shape s e → FitsPool shape s home numbers slots pairs → touches_pool s e ≡ false
    → FitsPool shape (advance shape s e) (homes_step s home e) numbers slots pairs

-- each legal entry keeps that groups have homes of their own
abbrev pub LegalEntriesKeepHomes : Type 0
LegalEntriesKeepHomes = (shape : Shape) (s : Network) (home : ℕ → ℕ) (e : Entry) → IsSound shape s → IsLegalEntry shape s e → IsHoused s home → IsHoused (advance shape s e) (homes_step s home e)

-- after every legal history groups have homes of their own
abbrev pub LegalHistoriesAreHoused : Type 0
LegalHistoriesAreHoused = (shape : Shape) (h : List Entry) → 1 ≤ shape.limit → IsLegal shape h → IsHoused (after shape h) (homes_after shape h)

-- a slot that fits after a legal history and that the next entry does not touch fits after it
abbrev pub SlotsFitLegalHistories : Type 0
SlotsFitLegalHistories = (shape : Shape) (h : List Entry) (e : Entry) (slot : ℕ) (r : Register)
    → 1 ≤ shape.limit → IsLegal shape (h ++ e ∷ []) → FitsSlot shape (after shape h) (homes_after shape h) slot r → touches_slot (after shape h) (homes_after shape h) e slot ≡ false
    → FitsSlot shape (after shape (h ++ e ∷ [])) (homes_after shape (h ++ e ∷ [])) slot r

-- a node that fits after a legal history and that the next entry does not touch fits after it
abbrev pub NodesFitLegalHistories : Type 0
NodesFitLegalHistories = (shape : Shape) (h : List Entry) (e : Entry) (node : ℕ) (held : ℕ → ℕ → Option ℕ) (arrived : ℕ → Line → List (ℕ × Option PairInfo))
    → 1 ≤ shape.limit → IsLegal shape (h ++ e ∷ []) → FitsNode (after shape h) node held arrived → touches_node shape e node ≡ false
    → FitsNode (after shape (h ++ e ∷ [])) node held arrived

-- a pool that fits after a legal history and that the next entry does not touch fits after it
abbrev pub PoolFitsLegalHistories : Type 0
PoolFitsLegalHistories = (shape : Shape) (h : List Entry) (e : Entry) (numbers slots : List ℕ) (pairs : ℕ)
    → 1 ≤ shape.limit → IsLegal shape (h ++ e ∷ []) → FitsPool shape (after shape h) (homes_after shape h) numbers slots pairs → touches_pool (after shape h) e ≡ false
    → FitsPool shape (after shape (h ++ e ∷ [])) (homes_after shape (h ++ e ∷ [])) numbers slots pairs

-- a call has at most one reply
abbrev pub RepliesAreUnique : Type 0
RepliesAreUnique = (shape : Shape) (s : Network) (c : Call) (word : ℕ) (r t : CoreReply) → IsReply shape s c word r → IsReply shape s c word t → r ≡ t
