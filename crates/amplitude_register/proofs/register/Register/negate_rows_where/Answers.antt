use Rattle.std.proofs.Common.{refl}
use Rattle.amplitude_register.proofs.Fields.{block_room, kept_range}
use Rattle.amplitude_register.proofs.PreparedRows.{ready_low, two_register, two_result}
use Rattle.amplitude_register.specs.Held.{amplitudes_of}
use Rattle.state_model.specs.declared.Two.TheVariants.{Cphase}
use Rattle.amplitude_register.proofs.register.Register.negate_rows_where.Goals as goal

pub negate_where_front-requires-clause-rows : goal.negate_where_front-requires-clause-rows
negate_where_front-requires-clause-rows c = let i = c.self.invariant in block_room c.self.inside.limit c.self.inside.next i.next

pub negate_where_front-requires-clause-one : goal.negate_where_front-requires-clause-one
negate_where_front-requires-clause-one c = let i = c.self.invariant in ready_low c.args.self.now c.self.inside.limit (amplitudes_of c.self.inside.value) c.self.inside.stage c.self.inside.next c.args.one i.most i.next c.self.view_is c.requires.prepared c.requires.one

pub negate_where_front-requires-clause-two : goal.negate_where_front-requires-clause-two
negate_where_front-requires-clause-two c = let i = c.self.invariant in ready_low c.args.self.now c.self.inside.limit (amplitudes_of c.self.inside.value) c.self.inside.stage c.self.inside.next c.args.two i.most i.next c.self.view_is c.requires.prepared c.requires.two

pub negate_where_front-requires-clause-range : goal.negate_where_front-requires-clause-range
negate_where_front-requires-clause-range c = let i = c.self.invariant in λ row. kept_range c.args.self.now c.self.inside.limit (amplitudes_of c.self.inside.value) c.self.inside.stage c.self.inside.next row c.self.view_is c.requires.prepared i.stage

pub invariant_of-self : goal.invariant_of-self
invariant_of-self c = two_register Cphase c.args.one c.args.two c.args.self.now c.self.inside record { qubits = c.self.inside.next.qubits; count = c.self.inside.next.count; rows = c.self.inside.next.rows; weight = c.self.inside.next.weight; entries = c.negate_where_front.new.entries } c.self.view_is c.self.invariant c.requires.prepared c.requires.apart c.requires.two refl refl refl refl c.negate_where_front.ensures.room c.negate_where_front.ensures.list

pub returns : goal.returns
returns c = two_result Cphase c.args.one c.args.two c.args.self.now c.self.inside record { qubits = c.self.inside.next.qubits; count = c.self.inside.next.count; rows = c.self.inside.next.rows; weight = c.self.inside.next.weight; entries = c.negate_where_front.new.entries } c.self.view_is c.self.invariant c.requires.prepared c.requires.apart c.requires.two c.negate_where_front.ensures.room c.negate_where_front.ensures.list
