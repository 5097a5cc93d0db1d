use Rattle.std.proofs.Common.{refl}
use Rattle.state_model.specs.declared.Gate.TheVariants.{RotZ}
use Rattle.state_model.proofs.GateLists.{turned_weight}
use Rattle.amplitude_register.specs.Held.{amplitudes_of, next_of}
use Rattle.amplitude_register.proofs.Fields.{has_place, turned_scale}
use Rattle.amplitude_register.proofs.FromValues.{value_place, value_range, turned_register, turned_step}
use Rattle.amplitude_register.proofs.register.Register.prepare_turned.Goals as goal

pub turn_front_into-requires-clause-place : goal.turn_front_into-requires-clause-place
turn_front_into-requires-clause-place c = let i = c.self.invariant in has_place c.self.inside.limit c.args.place c.self.inside.value i.most i.value (value_place c.args.self.now c.self.inside.limit c.self.inside.value (next_of c.self.inside.stage (amplitudes_of c.self.inside.next)) c.args.place i.most i.value c.self.view_is c.requires.place)

pub turn_front_into-requires-clause-range : goal.turn_front_into-requires-clause-range
turn_front_into-requires-clause-range c = let i = c.self.invariant in value_range c.self.inside.value i.kept

pub invariant_of-self : goal.invariant_of-self
invariant_of-self c = let i = c.self.invariant in turned_register (RotZ c.args.eighths) c.args.place c.self.inside c.take_head.new.self record { qubits = c.self.inside.value.qubits; count = c.self.inside.value.count; rows = c.self.inside.value.rows; weight = c.take_head.new.self.weight; entries = c.turn_front_into.new.entries } i c.take_head.ensures (value_place c.args.self.now c.self.inside.limit c.self.inside.value (next_of c.self.inside.stage (amplitudes_of c.self.inside.next)) c.args.place i.most i.value c.self.view_is c.requires.place) c.turn_front_into.ensures.room refl (turned_scale c.args.eighths) (turned_weight c.args.eighths) c.turn_front_into.ensures.list

pub returns : goal.returns
returns c = let i = c.self.invariant in turned_step (RotZ c.args.eighths) c.args.place c.args.self.now c.self.inside c.take_head.new.self record { qubits = c.self.inside.value.qubits; count = c.self.inside.value.count; rows = c.self.inside.value.rows; weight = c.take_head.new.self.weight; entries = c.turn_front_into.new.entries } c.self.view_is i c.take_head.ensures (value_place c.args.self.now c.self.inside.limit c.self.inside.value (next_of c.self.inside.stage (amplitudes_of c.self.inside.next)) c.args.place i.most i.value c.self.view_is c.requires.place) c.turn_front_into.ensures.room (turned_weight c.args.eighths) c.turn_front_into.ensures.list
