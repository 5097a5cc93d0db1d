use mir.Syntax.{w128}
use Rattle.std.proofs.Common.{rules, FitsSigned, ◌≤ℤ◌, ◌<ℤ◌, ◌<◌, ◌≡◌, ◌^◌, pos, sym, ap, ◌∙◌, arith}
use Rattle.std.proofs.lemmas.Int.{to_z-of_z, ints}
use Rattle.state_model.specs.Coefficient.{Weight}
use Rattle.omega_ring.proofs.Stored.{long}
use Rattle.amplitude_register.specs.Held.{amplitudes_of, next_of}
use Rattle.amplitude_register.specs.declared.block.Block.{Block}
use Rattle.amplitude_register.proofs.FromValues.{value_place}
use Rattle.amplitude_register.proofs.MixedRegister.{mixed_placed, mixed_sealed, mixed_refused}
use Rattle.amplitude_register.proofs.register.Register.prepare_mixed.Goals as goal

pub invariant_of-self : goal.invariant_of-self
invariant_of-self c =
    let i = c.self.invariant in let h = c.mix_normal_front-self-inside.ensures in
    let d : Block = record { qubits = c.self.inside.value.qubits; count = c.self.inside.value.count; rows = c.self.inside.value.rows; weight = c.mix_normal_front-self-inside.result; entries = c.mix_normal_front-self-inside.new.entries } in
    let s : c.mix_normal_front-self-inside.result.x <ℤ pos (2 ^ 60) = omega (arith, ints, c.if-self-lt-SIZE_LIMIT.true) in
    mixed_placed c.args.place c.self.inside c.take_head.new.self d i c.take_head.ensures h.room h.mixed h.weight s

pub returns-then-self-lt-SIZE_LIMIT : goal.returns-then-self-lt-SIZE_LIMIT
returns-then-self-lt-SIZE_LIMIT c =
    let i = c.self.invariant in let h = c.mix_normal_front-self-inside.ensures in
    let d : Block = record { qubits = c.self.inside.value.qubits; count = c.self.inside.value.count; rows = c.self.inside.value.rows; weight = c.mix_normal_front-self-inside.result; entries = c.mix_normal_front-self-inside.new.entries } in
    let l : c.args.place < c.self.inside.value.count = value_place c.args.self.now c.self.inside.limit c.self.inside.value (next_of c.self.inside.stage (amplitudes_of c.self.inside.next)) c.args.place i.most i.value c.self.view_is c.requires in
    let s : c.mix_normal_front-self-inside.result.x <ℤ pos (2 ^ 60) = omega (arith, ints, c.if-self-lt-SIZE_LIMIT.true) in
    mixed_sealed c.args.place c.args.self.now c.self.inside c.take_head.new.self d c.self.view_is i c.take_head.ensures l h.mixed h.weight s

pub returns-else-self-lt-SIZE_LIMIT : goal.returns-else-self-lt-SIZE_LIMIT
returns-else-self-lt-SIZE_LIMIT c =
    let i = c.self.invariant in let h = c.mix_normal_front-self-inside.ensures in
    let d : Block = record { qubits = c.self.inside.value.qubits; count = c.self.inside.value.count; rows = c.self.inside.value.rows; weight = c.mix_normal_front-self-inside.result; entries = c.mix_normal_front-self-inside.new.entries } in
    let l : c.args.place < c.self.inside.value.count = value_place c.args.self.now c.self.inside.limit c.self.inside.value (next_of c.self.inside.stage (amplitudes_of c.self.inside.next)) c.args.place i.most i.value c.self.view_is c.requires in
    let fits : FitsSigned w128 c.mix_normal_front-self-inside.result.x = search rules in
    let e : c.mix_normal_front-self-inside.result.x ≡ long c.mix_normal_front-self-inside.result.x = sym (to_z-of_z w128 c.mix_normal_front-self-inside.result.x fits) in
    let k : pos (2 ^ 60) ≤ℤ long c.mix_normal_front-self-inside.result.x = omega (arith, ints, c.if-self-lt-SIZE_LIMIT.false) in
    mixed_refused c.args.place c.args.self.now c.self.inside c.take_head.new.self d (long c.mix_normal_front-self-inside.result.x) c.self.view_is i c.take_head.ensures l h.room h.mixed (sym (ap (λ (t : Weight). t.x) h.weight) ∙ e) k
