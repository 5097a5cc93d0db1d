use Rattle.std.proofs.Common.{map, take, refl}
use Rattle.amplitude_register.proofs.Fields.{block_room, draft_present, place_below, has_place, draft_range, weighed_small, stepped, gate_step, list_of, mixed_stage, not_prepared}
use Rattle.amplitude_register.specs.Held.{amplitudes_of}
use Rattle.state_model.specs.declared.Gate.TheVariants.{H}
use Rattle.state_model.specs.Gate.{matrix}
use Rattle.omega_ring.specs.Views.{omega_value}
use Rattle.state_model.proofs.GateLists.{mixed_weight}
use Rattle.amplitude_register.proofs.Placed.{next_placed, same_block}
use Rattle.amplitude_register.proofs.register.Register.mix_rows.Goals as goal

pub mix_front-requires-clause-rows : goal.mix_front-requires-clause-rows
mix_front-requires-clause-rows c = let i = c.self.invariant in block_room c.self.inside.limit c.self.inside.next i.next

pub mix_front-requires-clause-place : goal.mix_front-requires-clause-place
mix_front-requires-clause-place c = let i = c.self.invariant in has_place c.self.inside.limit c.args.place c.self.inside.next i.most i.next (place_below c.args.self.now c.self.inside.limit (amplitudes_of c.self.inside.value) c.self.inside.stage c.self.inside.next c.args.place i.most i.next c.self.view_is (draft_present c.args.self.now.next c.requires.open) c.requires.place)

pub mix_front-requires-clause-range : goal.mix_front-requires-clause-range
mix_front-requires-clause-range c = draft_range c.args.self.now c.self.inside.limit (amplitudes_of c.self.inside.value) c.self.inside.stage c.self.inside.next c.self.view_is c.requires.open c.requires.small

pub next_weight-self-inside-requires : goal.next_weight-self-inside-requires
next_weight-self-inside-requires c = λ e. let i = c.self.invariant in weighed_small c.args.self.now c.self.inside.limit (amplitudes_of c.self.inside.value) c.self.inside.stage c.self.inside.next c.self.view_is c.requires.open c.requires.small i.stage e

pub invariant_of-self : goal.invariant_of-self
invariant_of-self c = let i = c.self.invariant in next_placed c.self.inside _ _ i (same_block _ _ _ refl refl refl c.mix_front.ensures.room i.next) (mixed_stage c.self.inside.stage c.self.inside.next record { qubits = c.self.inside.next.qubits; count = c.self.inside.next.count; rows = c.self.inside.next.rows; weight = c.next_weight-self-inside.result; entries = c.mix_front.new.entries } (not_prepared c.args.self.now c.self.inside.limit (amplitudes_of c.self.inside.value) c.self.inside.stage (amplitudes_of c.self.inside.next) c.self.view_is c.requires.open) c.next_weight-self-inside.ensures (stepped (matrix H) 2 c.args.place c.self.inside.limit c.self.inside.next c.mix_front.new.entries.items i.next (place_below c.args.self.now c.self.inside.limit (amplitudes_of c.self.inside.value) c.self.inside.stage c.self.inside.next c.args.place i.most i.next c.self.view_is (draft_present c.args.self.now.next c.requires.open) c.requires.place) c.mix_front.ensures.room mixed_weight c.mix_front.ensures.list) i.stage)

pub returns : goal.returns
returns c =
    let i = c.self.invariant in
    let k = stepped (matrix H) 2 c.args.place c.self.inside.limit c.self.inside.next c.mix_front.new.entries.items i.next (place_below c.args.self.now c.self.inside.limit (amplitudes_of c.self.inside.value) c.self.inside.stage c.self.inside.next c.args.place i.most i.next c.self.view_is (draft_present c.args.self.now.next c.requires.open) c.requires.place) c.mix_front.ensures.room mixed_weight c.mix_front.ensures.list in
    gate_step (matrix H) c.args.place 2 c.args.self.now c.self.inside.limit (amplitudes_of c.self.inside.value) c.self.inside.stage (take c.self.inside.next.count c.self.inside.next.qubits) (list_of c.self.inside.next) (map omega_value (take c.self.inside.next.rows c.mix_front.new.entries.items)) c.self.view_is (draft_present c.args.self.now.next c.requires.open) k.rows c.mix_front.ensures.list k.weight
