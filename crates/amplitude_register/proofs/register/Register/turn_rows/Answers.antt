use Rattle.std.proofs.Common.{map, take, refl}
use Rattle.amplitude_register.proofs.Fields.{block_room, place_below, has_place, present_range, stepped, gate_step, list_of, turned_stage, turned_scale}
use Rattle.amplitude_register.specs.Held.{amplitudes_of}
use Rattle.state_model.specs.declared.Gate.TheVariants.{RotZ}
use Rattle.state_model.specs.Gate.{matrix}
use Rattle.omega_ring.specs.Views.{omega_value}
use Rattle.state_model.proofs.GateLists.{turned_weight}
use Rattle.amplitude_register.proofs.Placed.{next_placed, same_block}
use Rattle.amplitude_register.proofs.register.Register.turn_rows.Goals as goal

pub turn_front-requires-clause-rows : goal.turn_front-requires-clause-rows
turn_front-requires-clause-rows c = let i = c.self.invariant in block_room c.self.inside.limit c.self.inside.next i.next

pub turn_front-requires-clause-place : goal.turn_front-requires-clause-place
turn_front-requires-clause-place c = let i = c.self.invariant in has_place c.self.inside.limit c.args.place c.self.inside.next i.most i.next (place_below c.args.self.now c.self.inside.limit (amplitudes_of c.self.inside.value) c.self.inside.stage c.self.inside.next c.args.place i.most i.next c.self.view_is c.requires.present c.requires.place)

pub turn_front-requires-clause-range : goal.turn_front-requires-clause-range
turn_front-requires-clause-range c = present_range c.args.self.now c.self.inside.limit (amplitudes_of c.self.inside.value) c.self.inside.stage c.self.inside.next c.self.view_is c.requires.present c.requires.small

pub invariant_of-self : goal.invariant_of-self
invariant_of-self c = let i = c.self.invariant in next_placed c.self.inside _ _ i (same_block _ _ _ refl refl refl c.turn_front.ensures.room i.next) (turned_stage (RotZ c.args.eighths) c.args.place c.self.inside.stage c.self.inside.next record { qubits = c.self.inside.next.qubits; count = c.self.inside.next.count; rows = c.self.inside.next.rows; weight = c.self.inside.next.weight; entries = c.turn_front.new.entries } (turned_scale c.args.eighths) refl refl refl c.turn_front.ensures.list (stepped (matrix (RotZ c.args.eighths)) 1 c.args.place c.self.inside.limit c.self.inside.next c.turn_front.new.entries.items i.next (place_below c.args.self.now c.self.inside.limit (amplitudes_of c.self.inside.value) c.self.inside.stage c.self.inside.next c.args.place i.most i.next c.self.view_is c.requires.present c.requires.place) c.turn_front.ensures.room (turned_weight c.args.eighths) c.turn_front.ensures.list) i.stage)

pub returns : goal.returns
returns c =
    let i = c.self.invariant in
    let k = stepped (matrix (RotZ c.args.eighths)) 1 c.args.place c.self.inside.limit c.self.inside.next c.turn_front.new.entries.items i.next (place_below c.args.self.now c.self.inside.limit (amplitudes_of c.self.inside.value) c.self.inside.stage c.self.inside.next c.args.place i.most i.next c.self.view_is c.requires.present c.requires.place) c.turn_front.ensures.room (turned_weight c.args.eighths) c.turn_front.ensures.list in
    gate_step (matrix (RotZ c.args.eighths)) c.args.place 1 c.args.self.now c.self.inside.limit (amplitudes_of c.self.inside.value) c.self.inside.stage (take c.self.inside.next.count c.self.inside.next.qubits) (list_of c.self.inside.next) (map omega_value (take c.self.inside.next.rows c.turn_front.new.entries.items)) c.self.view_is c.requires.present k.rows c.turn_front.ensures.list k.weight
