-- Replies and prepared steps, by what was done.
use Rattle.std.specs.Prelude.{ℕ, Bool, cond, [], ◌∷◌, Result, Ok, Err, Option, None, Some, option_map}
use Rattle.amplitude_register.specs.declared.register.TooLarge.{TooLarge}
use Rattle.cqc_model.specs.declared.Fault.TheVariants.{General}
use Rattle.network_model.specs.declared.Call.{Call}
use Rattle.network_model.specs.declared.CoreReply.{CoreReply}
use Rattle.network_model.specs.declared.CoreReply.TheVariants as reply
use Rattle.core_cells.specs.declared.names.CellName.TheVariants.{Node, Pool, Slot}
use Rattle.factored_core.specs.declared.prepared.Prepared.{Prepared}

-- the reply to a gate on one qubit
abbrev pub gate_reply : Result Unit TooLarge → CoreReply
gate_reply (Ok u) = reply.Silent
gate_reply (Err e) = reply.Error General

-- a step that changes no more than the own node and one slot
abbrev pub in_one_slot : Call → Option ℕ → CoreReply → ℕ → Prepared
in_one_slot c word r slot = record { entry = record { call = c; word = word; reply = r }; touched = Some (Node c.node) ∷ Some (Slot slot) ∷ None ∷ None ∷ [] }

-- a step that changes no more than the own node, two slots, and the pool or not
abbrev pub in_two_slots : Call → CoreReply → Bool → ℕ → ℕ → Prepared
in_two_slots c r pool one two = record { entry = record { call = c; word = None; reply = r }; touched = Some (Node c.node) ∷ Some (Slot one) ∷ Some (Slot two) ∷ cond pool (Some Pool) None ∷ [] }

-- a step that changes no more than the own node and another one, if there is one
abbrev pub in_nodes : Call → CoreReply → Option ℕ → Prepared
in_nodes c r other = record { entry = record { call = c; word = None; reply = r }; touched = Some (Node c.node) ∷ option_map Node other ∷ None ∷ None ∷ [] }

-- a step that puts new qubits into a slot
abbrev pub in_new_slot : Call → CoreReply → Option ℕ → ℕ → Prepared
in_new_slot c r other slot = record { entry = record { call = c; word = None; reply = r }; touched = Some (Node c.node) ∷ Some (Slot slot) ∷ Some Pool ∷ option_map Node other ∷ [] }
