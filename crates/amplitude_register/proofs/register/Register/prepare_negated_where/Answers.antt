use Rattle.std.proofs.Common.{refl}
use Rattle.state_model.specs.declared.Two.TheVariants.{Cphase}
use Rattle.amplitude_register.specs.Held.{amplitudes_of, next_of}
use Rattle.amplitude_register.proofs.FromValues.{value_place, value_low, both_register, both_step, value_range}
use Rattle.amplitude_register.proofs.register.Register.prepare_negated_where.Goals as goal

pub negate_front_into-requires-clause-one : goal.negate_front_into-requires-clause-one
negate_front_into-requires-clause-one c = let i = c.self.invariant in value_low c.args.self.now c.self.inside.limit c.self.inside.value (next_of c.self.inside.stage (amplitudes_of c.self.inside.next)) c.args.one i.most i.value c.self.view_is c.requires.one

pub negate_front_into-requires-clause-two : goal.negate_front_into-requires-clause-two
negate_front_into-requires-clause-two c = let i = c.self.invariant in value_low c.args.self.now c.self.inside.limit c.self.inside.value (next_of c.self.inside.stage (amplitudes_of c.self.inside.next)) c.args.two i.most i.value c.self.view_is c.requires.two

pub negate_front_into-requires-clause-range : goal.negate_front_into-requires-clause-range
negate_front_into-requires-clause-range c = let i = c.self.invariant in value_range c.self.inside.value i.kept

pub invariant_of-self : goal.invariant_of-self
invariant_of-self c = let i = c.self.invariant in both_register Cphase c.args.one c.args.two c.self.inside c.take_head.new.self record { qubits = c.self.inside.value.qubits; count = c.self.inside.value.count; rows = c.self.inside.value.rows; weight = c.take_head.new.self.weight; entries = c.negate_front_into.new.entries } i c.take_head.ensures c.requires.apart (value_place c.args.self.now c.self.inside.limit c.self.inside.value (next_of c.self.inside.stage (amplitudes_of c.self.inside.next)) c.args.two i.most i.value c.self.view_is c.requires.two) c.negate_front_into.ensures.room refl c.negate_front_into.ensures.list

pub returns : goal.returns
returns c = let i = c.self.invariant in both_step Cphase c.args.one c.args.two c.args.self.now c.self.inside c.take_head.new.self record { qubits = c.self.inside.value.qubits; count = c.self.inside.value.count; rows = c.self.inside.value.rows; weight = c.take_head.new.self.weight; entries = c.negate_front_into.new.entries } c.self.view_is i c.take_head.ensures c.requires.apart (value_place c.args.self.now c.self.inside.limit c.self.inside.value (next_of c.self.inside.stage (amplitudes_of c.self.inside.next)) c.args.two i.most i.value c.self.view_is c.requires.two) c.negate_front_into.ensures.room c.negate_front_into.ensures.list
