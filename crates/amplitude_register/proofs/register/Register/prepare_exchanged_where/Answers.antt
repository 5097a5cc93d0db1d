use Rattle.std.proofs.Common.{refl}
use Rattle.state_model.specs.declared.Two.TheVariants.{Cnot}
use Rattle.amplitude_register.specs.Held.{amplitudes_of, next_of}
use Rattle.amplitude_register.proofs.Fields.{has_place}
use Rattle.amplitude_register.proofs.FromValues.{value_place, value_low, both_register, both_step}
use Rattle.amplitude_register.proofs.register.Register.prepare_exchanged_where.Goals as goal

pub exchange_front_into-requires-clause-low : goal.exchange_front_into-requires-clause-low
exchange_front_into-requires-clause-low c = let i = c.self.invariant in value_low c.args.self.now c.self.inside.limit c.self.inside.value (next_of c.self.inside.stage (amplitudes_of c.self.inside.next)) c.args.control i.most i.value c.self.view_is c.requires.control

pub exchange_front_into-requires-clause-place : goal.exchange_front_into-requires-clause-place
exchange_front_into-requires-clause-place c = let i = c.self.invariant in has_place c.self.inside.limit c.args.target c.self.inside.value i.most i.value (value_place c.args.self.now c.self.inside.limit c.self.inside.value (next_of c.self.inside.stage (amplitudes_of c.self.inside.next)) c.args.target i.most i.value c.self.view_is c.requires.target)

pub invariant_of-self : goal.invariant_of-self
invariant_of-self c = let i = c.self.invariant in both_register Cnot c.args.control c.args.target c.self.inside c.take_head.new.self record { qubits = c.self.inside.value.qubits; count = c.self.inside.value.count; rows = c.self.inside.value.rows; weight = c.take_head.new.self.weight; entries = c.exchange_front_into.new.entries } i c.take_head.ensures c.requires.apart (value_place c.args.self.now c.self.inside.limit c.self.inside.value (next_of c.self.inside.stage (amplitudes_of c.self.inside.next)) c.args.target i.most i.value c.self.view_is c.requires.target) c.exchange_front_into.ensures.room refl c.exchange_front_into.ensures.list

pub returns : goal.returns
returns c = let i = c.self.invariant in both_step Cnot c.args.control c.args.target c.args.self.now c.self.inside c.take_head.new.self record { qubits = c.self.inside.value.qubits; count = c.self.inside.value.count; rows = c.self.inside.value.rows; weight = c.take_head.new.self.weight; entries = c.exchange_front_into.new.entries } c.self.view_is i c.take_head.ensures c.requires.apart (value_place c.args.self.now c.self.inside.limit c.self.inside.value (next_of c.self.inside.stage (amplitudes_of c.self.inside.next)) c.args.target i.most i.value c.self.view_is c.requires.target) c.exchange_front_into.ensures.room c.exchange_front_into.ensures.list
