use Rattle.std.proofs.Common.{refl}
use Rattle.amplitude_register.proofs.Fields.{block_room, has_place}
use Rattle.amplitude_register.proofs.PreparedRows.{ready_place, ready_low, two_register, two_result}
use Rattle.amplitude_register.specs.Held.{amplitudes_of}
use Rattle.state_model.specs.declared.Two.TheVariants.{Cnot}
use Rattle.amplitude_register.proofs.register.Register.exchange_rows_where.Goals as goal

pub exchange_where_front-requires-clause-rows : goal.exchange_where_front-requires-clause-rows
exchange_where_front-requires-clause-rows c = let i = c.self.invariant in block_room c.self.inside.limit c.self.inside.next i.next

pub exchange_where_front-requires-clause-low : goal.exchange_where_front-requires-clause-low
exchange_where_front-requires-clause-low c = let i = c.self.invariant in ready_low c.args.self.now c.self.inside.limit (amplitudes_of c.self.inside.value) c.self.inside.stage c.self.inside.next c.args.control i.most i.next c.self.view_is c.requires.prepared c.requires.control

pub exchange_where_front-requires-clause-place : goal.exchange_where_front-requires-clause-place
exchange_where_front-requires-clause-place c = let i = c.self.invariant in has_place c.self.inside.limit c.args.target c.self.inside.next i.most i.next (ready_place c.args.self.now c.self.inside.limit (amplitudes_of c.self.inside.value) c.self.inside.stage c.self.inside.next c.args.target i.most i.next c.self.view_is c.requires.prepared c.requires.target)

pub invariant_of-self : goal.invariant_of-self
invariant_of-self c = two_register Cnot c.args.control c.args.target c.args.self.now c.self.inside record { qubits = c.self.inside.next.qubits; count = c.self.inside.next.count; rows = c.self.inside.next.rows; weight = c.self.inside.next.weight; entries = c.exchange_where_front.new.entries } c.self.view_is c.self.invariant c.requires.prepared c.requires.apart c.requires.target refl refl refl refl c.exchange_where_front.ensures.room c.exchange_where_front.ensures.list

pub returns : goal.returns
returns c = two_result Cnot c.args.control c.args.target c.args.self.now c.self.inside record { qubits = c.self.inside.next.qubits; count = c.self.inside.next.count; rows = c.self.inside.next.rows; weight = c.self.inside.next.weight; entries = c.exchange_where_front.new.entries } c.self.view_is c.self.invariant c.requires.prepared c.requires.apart c.requires.target c.exchange_where_front.ensures.room c.exchange_where_front.ensures.list
