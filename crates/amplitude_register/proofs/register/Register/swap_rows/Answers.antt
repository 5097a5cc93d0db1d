use Rattle.std.proofs.Common.{take, slice_set, refl, ◌∙◌, arith}
use Rattle.std.proofs.lemmas.List.{get_or_read, length-set}
use Rattle.amplitude_register.specs.Held.{amplitudes_of}
use Rattle.omega_ring.proofs.Entries.{zero_omega}
use Rattle.amplitude_register.proofs.Fields.{block_room, below_front}
use Rattle.amplitude_register.proofs.PreparedRows.{prepared_stage, ready_row, swapped_is, swapped_stage}
use Rattle.std.specs.Vec.{with_item}
use Rattle.amplitude_register.proofs.Placed.{next_placed, same_block}
use Rattle.amplitude_register.proofs.register.Register.swap_rows.Goals as goal

pub invariant_of-self : goal.invariant_of-self
invariant_of-self c = let i = c.self.invariant in next_placed c.self.inside _ _ i (same_block _ _ _ refl refl refl (length-set (slice_set c.self.inside.next.entries.items c.args.one c.index.result.now) c.args.two c.index-first.result.now ∙ length-set c.self.inside.next.entries.items c.args.one c.index.result.now) i.next) (swapped_stage c.self.inside.stage c.self.inside.next record { qubits = c.self.inside.next.qubits; count = c.self.inside.next.count; rows = c.self.inside.next.rows; weight = c.self.inside.next.weight; entries = with_item (with_item c.self.inside.next.entries c.args.one c.index.result.now) c.args.two c.index-first.result.now } c.args.one c.args.two c.index.result.now c.index-first.result.now (prepared_stage c.args.self.now c.self.inside.limit (amplitudes_of c.self.inside.value) c.self.inside.stage (amplitudes_of c.self.inside.next) c.self.view_is c.requires.prepared) refl refl refl (ready_row c.args.self.now c.self.inside.limit (amplitudes_of c.self.inside.value) c.self.inside.stage (take c.self.inside.next.count c.self.inside.next.qubits) c.self.inside.next.entries.items c.self.inside.next.rows c.args.one c.self.view_is c.requires.prepared c.requires.one) (ready_row c.args.self.now c.self.inside.limit (amplitudes_of c.self.inside.value) c.self.inside.stage (take c.self.inside.next.count c.self.inside.next.qubits) c.self.inside.next.entries.items c.self.inside.next.rows c.args.two c.self.view_is c.requires.prepared c.requires.two) (get_or_read c.self.inside.next.entries.items c.args.two c.index.result.now (let i = c.self.invariant in let m = block_room c.self.inside.limit c.self.inside.next i.next in let b = below_front c.self.inside.next.entries.items c.self.inside.next.rows c.args.two (ready_row c.args.self.now c.self.inside.limit (amplitudes_of c.self.inside.value) c.self.inside.stage (take c.self.inside.next.count c.self.inside.next.qubits) c.self.inside.next.entries.items c.self.inside.next.rows c.args.two c.self.view_is c.requires.prepared c.requires.two) in omega (arith, m, b)) c.index.ensures zero_omega) (get_or_read c.self.inside.next.entries.items c.args.one c.index-first.result.now (let i = c.self.invariant in let m = block_room c.self.inside.limit c.self.inside.next i.next in let b = below_front c.self.inside.next.entries.items c.self.inside.next.rows c.args.one (ready_row c.args.self.now c.self.inside.limit (amplitudes_of c.self.inside.value) c.self.inside.stage (take c.self.inside.next.count c.self.inside.next.qubits) c.self.inside.next.entries.items c.self.inside.next.rows c.args.one c.self.view_is c.requires.prepared c.requires.one) in omega (arith, m, b)) c.index-first.ensures zero_omega) i.stage)

pub returns : goal.returns
returns c = swapped_is c.args.self.now c.self.inside.limit (amplitudes_of c.self.inside.value) c.self.inside.stage (take c.self.inside.next.count c.self.inside.next.qubits) c.self.inside.next.entries.items c.self.inside.next.rows c.args.one c.args.two c.index.result.now c.index-first.result.now c.self.view_is c.requires.prepared c.requires.one c.requires.two (get_or_read c.self.inside.next.entries.items c.args.two c.index.result.now (let i = c.self.invariant in let m = block_room c.self.inside.limit c.self.inside.next i.next in let b = below_front c.self.inside.next.entries.items c.self.inside.next.rows c.args.two (ready_row c.args.self.now c.self.inside.limit (amplitudes_of c.self.inside.value) c.self.inside.stage (take c.self.inside.next.count c.self.inside.next.qubits) c.self.inside.next.entries.items c.self.inside.next.rows c.args.two c.self.view_is c.requires.prepared c.requires.two) in omega (arith, m, b)) c.index.ensures zero_omega) (get_or_read c.self.inside.next.entries.items c.args.one c.index-first.result.now (let i = c.self.invariant in let m = block_room c.self.inside.limit c.self.inside.next i.next in let b = below_front c.self.inside.next.entries.items c.self.inside.next.rows c.args.one (ready_row c.args.self.now c.self.inside.limit (amplitudes_of c.self.inside.value) c.self.inside.stage (take c.self.inside.next.count c.self.inside.next.qubits) c.self.inside.next.entries.items c.self.inside.next.rows c.args.one c.self.view_is c.requires.prepared c.requires.one) in omega (arith, m, b)) c.index-first.ensures zero_omega)
