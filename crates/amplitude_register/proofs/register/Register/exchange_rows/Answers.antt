use Rattle.std.proofs.Common.{map, take, refl}
use Rattle.amplitude_register.proofs.Fields.{block_room, place_below, has_place, stepped, gate_step, list_of, turned_stage, exchanged_scale}
use Rattle.amplitude_register.specs.Held.{amplitudes_of}
use Rattle.state_model.specs.declared.Gate.TheVariants.{X}
use Rattle.state_model.specs.Gate.{matrix}
use Rattle.omega_ring.specs.Views.{omega_value}
use Rattle.state_model.proofs.GateLists.{exchanged_weight}
use Rattle.amplitude_register.proofs.Placed.{next_placed, same_block}
use Rattle.amplitude_register.proofs.register.Register.exchange_rows.Goals as goal

pub exchange_front-requires-clause-rows : goal.exchange_front-requires-clause-rows
exchange_front-requires-clause-rows c = let i = c.self.invariant in block_room c.self.inside.limit c.self.inside.next i.next

pub exchange_front-requires-clause-place : goal.exchange_front-requires-clause-place
exchange_front-requires-clause-place c = let i = c.self.invariant in has_place c.self.inside.limit c.args.place c.self.inside.next i.most i.next (place_below c.args.self.now c.self.inside.limit (amplitudes_of c.self.inside.value) c.self.inside.stage c.self.inside.next c.args.place i.most i.next c.self.view_is c.requires.present c.requires.place)

pub invariant_of-self : goal.invariant_of-self
invariant_of-self c = let i = c.self.invariant in next_placed c.self.inside _ _ i (same_block _ _ _ refl refl refl c.exchange_front.ensures.room i.next) (turned_stage X c.args.place c.self.inside.stage c.self.inside.next record { qubits = c.self.inside.next.qubits; count = c.self.inside.next.count; rows = c.self.inside.next.rows; weight = c.self.inside.next.weight; entries = c.exchange_front.new.entries } exchanged_scale refl refl refl c.exchange_front.ensures.list (stepped (matrix X) 1 c.args.place c.self.inside.limit c.self.inside.next c.exchange_front.new.entries.items i.next (place_below c.args.self.now c.self.inside.limit (amplitudes_of c.self.inside.value) c.self.inside.stage c.self.inside.next c.args.place i.most i.next c.self.view_is c.requires.present c.requires.place) c.exchange_front.ensures.room exchanged_weight c.exchange_front.ensures.list) i.stage)

pub returns : goal.returns
returns c =
    let i = c.self.invariant in
    let k = stepped (matrix X) 1 c.args.place c.self.inside.limit c.self.inside.next c.exchange_front.new.entries.items i.next (place_below c.args.self.now c.self.inside.limit (amplitudes_of c.self.inside.value) c.self.inside.stage c.self.inside.next c.args.place i.most i.next c.self.view_is c.requires.present c.requires.place) c.exchange_front.ensures.room exchanged_weight c.exchange_front.ensures.list in
    gate_step (matrix X) c.args.place 1 c.args.self.now c.self.inside.limit (amplitudes_of c.self.inside.value) c.self.inside.stage (take c.self.inside.next.count c.self.inside.next.qubits) (list_of c.self.inside.next) (map omega_value (take c.self.inside.next.rows c.exchange_front.new.entries.items)) c.self.view_is c.requires.present k.rows c.exchange_front.ensures.list k.weight
