use Rattle.amplitude_register.specs.Held.{amplitudes_of, next_of}
use Rattle.amplitude_register.proofs.Fields.{has_place}
use Rattle.amplitude_register.proofs.FromValues.{value_place, value_range, value_weight, mixed_register, mixed_step}
use Rattle.amplitude_register.proofs.register.Register.begin_mixed.Goals as goal

pub doubled-self-inside-requires : goal.doubled-self-inside-requires
doubled-self-inside-requires c = let i = c.self.invariant in value_weight c.self.inside.value i.weighed i.kept

pub mix_front_into-requires-clause-place : goal.mix_front_into-requires-clause-place
mix_front_into-requires-clause-place c = let i = c.self.invariant in has_place c.self.inside.limit c.args.place c.self.inside.value i.most i.value (value_place c.args.self.now c.self.inside.limit c.self.inside.value (next_of c.self.inside.stage (amplitudes_of c.self.inside.next)) c.args.place i.most i.value c.self.view_is c.requires)

pub mix_front_into-requires-clause-range : goal.mix_front_into-requires-clause-range
mix_front_into-requires-clause-range c = let i = c.self.invariant in value_range c.self.inside.value i.kept

pub invariant_of-self : goal.invariant_of-self
invariant_of-self c = let i = c.self.invariant in mixed_register c.args.place c.self.inside c.take_head.new.self record { qubits = c.self.inside.value.qubits; count = c.self.inside.value.count; rows = c.self.inside.value.rows; weight = c.doubled-self-inside.result; entries = c.mix_front_into.new.entries } i c.take_head.ensures (value_place c.args.self.now c.self.inside.limit c.self.inside.value (next_of c.self.inside.stage (amplitudes_of c.self.inside.next)) c.args.place i.most i.value c.self.view_is c.requires) c.mix_front_into.ensures.room c.doubled-self-inside.ensures c.mix_front_into.ensures.list

pub returns : goal.returns
returns c = let i = c.self.invariant in mixed_step c.args.place c.args.self.now c.self.inside c.take_head.new.self record { qubits = c.self.inside.value.qubits; count = c.self.inside.value.count; rows = c.self.inside.value.rows; weight = c.doubled-self-inside.result; entries = c.mix_front_into.new.entries } c.self.view_is i c.take_head.ensures (value_place c.args.self.now c.self.inside.limit c.self.inside.value (next_of c.self.inside.stage (amplitudes_of c.self.inside.next)) c.args.place i.most i.value c.self.view_is c.requires) c.mix_front_into.ensures.room c.mix_front_into.ensures.list
