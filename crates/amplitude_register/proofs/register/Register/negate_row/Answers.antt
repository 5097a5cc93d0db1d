use Rattle.std.proofs.Common.{◌^◌, take, refl, sym, ap, subst, ◌∙◌, arith}
use Rattle.std.proofs.lemmas.List.{get_or_read, length-set}
use Rattle.state_model.specs.Coefficient.{Coefficient, negated}
use Rattle.omega_ring.specs.Views.{omega_value}
use Rattle.omega_ring.specs.Range.{CoordinatesBelow}
use Rattle.amplitude_register.specs.Held.{amplitudes_of}
use Rattle.omega_ring.proofs.Entries.{zero_omega}
use Rattle.amplitude_register.proofs.Fields.{block_room, below_front, front_row, kept_range}
use Rattle.amplitude_register.proofs.RowPairs.{wider}
use Rattle.amplitude_register.proofs.PreparedRows.{prepared_stage, ready_row, negated_is, negated_stage}
use Rattle.std.specs.Vec.{with_item}
use Rattle.amplitude_register.proofs.Placed.{next_placed, same_block}
use Rattle.amplitude_register.proofs.register.Register.negate_row.Goals as goal

pub negated-requires : goal.negated-requires
negated-requires c = let i = c.self.invariant in wider (omega_value _) (subst (λ (t : Coefficient). CoordinatesBelow (2 ^ 61) t) (front_row c.self.inside.next.entries.items c.self.inside.next.rows c.args.row (ready_row c.args.self.now c.self.inside.limit (amplitudes_of c.self.inside.value) c.self.inside.stage (take c.self.inside.next.count c.self.inside.next.qubits) c.self.inside.next.entries.items c.self.inside.next.rows c.args.row c.self.view_is c.requires.prepared c.requires.row) ∙ ap omega_value (sym (get_or_read c.self.inside.next.entries.items c.args.row c.index.result.now (let i = c.self.invariant in let m = block_room c.self.inside.limit c.self.inside.next i.next in let b = below_front c.self.inside.next.entries.items c.self.inside.next.rows c.args.row (ready_row c.args.self.now c.self.inside.limit (amplitudes_of c.self.inside.value) c.self.inside.stage (take c.self.inside.next.count c.self.inside.next.qubits) c.self.inside.next.entries.items c.self.inside.next.rows c.args.row c.self.view_is c.requires.prepared c.requires.row) in omega (arith, m, b)) c.index.ensures zero_omega))) (kept_range c.args.self.now c.self.inside.limit (amplitudes_of c.self.inside.value) c.self.inside.stage c.self.inside.next c.args.row c.self.view_is c.requires.prepared i.stage))

pub invariant_of-self : goal.invariant_of-self
invariant_of-self c = let i = c.self.invariant in next_placed c.self.inside _ _ i (same_block _ _ _ refl refl refl (length-set c.self.inside.next.entries.items c.args.row c.negated.result) i.next) (negated_stage c.self.inside.stage c.self.inside.next record { qubits = c.self.inside.next.qubits; count = c.self.inside.next.count; rows = c.self.inside.next.rows; weight = c.self.inside.next.weight; entries = with_item c.self.inside.next.entries c.args.row c.negated.result } c.args.row c.negated.result (prepared_stage c.args.self.now c.self.inside.limit (amplitudes_of c.self.inside.value) c.self.inside.stage (amplitudes_of c.self.inside.next) c.self.view_is c.requires.prepared) refl refl refl (ready_row c.args.self.now c.self.inside.limit (amplitudes_of c.self.inside.value) c.self.inside.stage (take c.self.inside.next.count c.self.inside.next.qubits) c.self.inside.next.entries.items c.self.inside.next.rows c.args.row c.self.view_is c.requires.prepared c.requires.row) (c.negated.ensures ∙ ap negated (ap omega_value (get_or_read c.self.inside.next.entries.items c.args.row c.index.result.now (let i = c.self.invariant in let m = block_room c.self.inside.limit c.self.inside.next i.next in let b = below_front c.self.inside.next.entries.items c.self.inside.next.rows c.args.row (ready_row c.args.self.now c.self.inside.limit (amplitudes_of c.self.inside.value) c.self.inside.stage (take c.self.inside.next.count c.self.inside.next.qubits) c.self.inside.next.entries.items c.self.inside.next.rows c.args.row c.self.view_is c.requires.prepared c.requires.row) in omega (arith, m, b)) c.index.ensures zero_omega))) i.stage)

pub returns : goal.returns
returns c = negated_is c.args.self.now c.self.inside.limit (amplitudes_of c.self.inside.value) c.self.inside.stage (take c.self.inside.next.count c.self.inside.next.qubits) c.self.inside.next.entries.items c.self.inside.next.rows c.args.row c.negated.result c.self.view_is c.requires.prepared c.requires.row (c.negated.ensures ∙ ap negated (ap omega_value (get_or_read c.self.inside.next.entries.items c.args.row c.index.result.now (let i = c.self.invariant in let m = block_room c.self.inside.limit c.self.inside.next i.next in let b = below_front c.self.inside.next.entries.items c.self.inside.next.rows c.args.row (ready_row c.args.self.now c.self.inside.limit (amplitudes_of c.self.inside.value) c.self.inside.stage (take c.self.inside.next.count c.self.inside.next.qubits) c.self.inside.next.entries.items c.self.inside.next.rows c.args.row c.self.view_is c.requires.prepared c.requires.row) in omega (arith, m, b)) c.index.ensures zero_omega)))
