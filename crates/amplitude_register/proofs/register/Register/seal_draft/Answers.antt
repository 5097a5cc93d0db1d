use mir.Syntax.{w128}
use Rattle.std.proofs.lemmas.Int.{to_z-of_z, ints}
use Rattle.omega_ring.proofs.Stored.{long}
use Rattle.std.proofs.Common.{rules, FitsSigned, ◌≤ℤ◌, ◌≡◌, ◌^◌, pos, map, take, refl, sym, ap, subst, ◌∙◌, arith}
use Rattle.amplitude_register.proofs.Fields.{block_room, block_rows, open_value, list_of}
use Rattle.amplitude_register.specs.Held.{amplitudes_of}
use Rattle.amplitude_register.proofs.Fields.{sealed_ok, sealed_kept, refused, open_nonzero, same_front}
use Rattle.state_model.specs.CoefficientList.{HasDeltaDivisors}
use Rattle.state_model.specs.Amplitudes.{Amplitudes}
use Rattle.omega_ring.specs.Views.{omega_value, weight_value}
use Rattle.state_model.specs.Coefficient.{Weight}
use Rattle.state_model.proofs.RegisterSizes.{normal_least}
use Rattle.amplitude_register.proofs.Placed.{next_placed, same_block}
use Rattle.amplitude_register.proofs.register.Register.seal_draft.Goals as goal

pub normalize_front-self-inside-requires-clause-rows : goal.normalize_front-self-inside-requires-clause-rows
normalize_front-self-inside-requires-clause-rows c = let i = c.self.invariant in block_room c.self.inside.limit c.self.inside.next i.next

pub normalize_front-self-inside-requires-clause-divisors : goal.normalize_front-self-inside-requires-clause-divisors
normalize_front-self-inside-requires-clause-divisors c = subst (λ (a : Amplitudes). HasDeltaDivisors a.list) (open_value c.args.self.now c.self.inside.limit (amplitudes_of c.self.inside.value) c.self.inside.stage (amplitudes_of c.self.inside.next) c.self.view_is c.requires.open) c.requires.divisors

pub invariant_of-self : goal.invariant_of-self
invariant_of-self c = let i = c.self.invariant in let h = c.normalize_front-self-inside.ensures in next_placed c.self.inside _ _ i (same_block _ _ _ refl refl refl h.room i.next) ((h.weight, sealed_kept record { qubits = take c.self.inside.next.count c.self.inside.next.qubits; list = map omega_value (take c.self.inside.next.rows c.normalize_front-self-inside.new.entries.items) } (weight_value c.normalize_front-self-inside.result) h.weight h.normal (omega (arith, ints, c.if-self-lt-SIZE_LIMIT.true))))

pub returns-then-self-lt-SIZE_LIMIT : goal.returns-then-self-lt-SIZE_LIMIT
returns-then-self-lt-SIZE_LIMIT c =
    let h = c.normalize_front-self-inside.ensures in
    sealed_ok c.args.self.now c.self.inside.limit (amplitudes_of c.self.inside.value) c.self.inside.stage (amplitudes_of c.self.inside.next) record { qubits = take c.self.inside.next.count c.self.inside.next.qubits; list = map omega_value (take c.self.inside.next.rows c.normalize_front-self-inside.new.entries.items) } c.self.view_is c.requires.open refl h.scaled (sealed_kept record { qubits = take c.self.inside.next.count c.self.inside.next.qubits; list = map omega_value (take c.self.inside.next.rows c.normalize_front-self-inside.new.entries.items) } (weight_value c.normalize_front-self-inside.result) h.weight h.normal (omega (arith, ints, c.if-self-lt-SIZE_LIMIT.true)))

pub returns-else-self-lt-SIZE_LIMIT : goal.returns-else-self-lt-SIZE_LIMIT
returns-else-self-lt-SIZE_LIMIT c =
    let i = c.self.invariant in let h = c.normalize_front-self-inside.ensures in
    let fits : FitsSigned w128 c.normalize_front-self-inside.result.x = search rules in
    let e : c.normalize_front-self-inside.result.x ≡ long c.normalize_front-self-inside.result.x = sym (to_z-of_z w128 c.normalize_front-self-inside.result.x fits) in
    let k : pos (2 ^ 60) ≤ℤ long c.normalize_front-self-inside.result.x = omega (arith, ints, c.if-self-lt-SIZE_LIMIT.false) in
    refused c.args.self.now c.self.inside.limit (amplitudes_of c.self.inside.value) c.self.inside.stage (amplitudes_of c.self.inside.next) (long c.normalize_front-self-inside.result.x) c.self.view_is c.requires.open
    (block_rows c.self.inside.limit c.self.inside.next i.most i.next)
    (open_nonzero c.args.self.now c.self.inside.limit (amplitudes_of c.self.inside.value) c.self.inside.stage (amplitudes_of c.self.inside.next) c.self.view_is c.requires.open c.requires.nonzero)
    (normal_least (list_of c.self.inside.next) (map omega_value (take c.self.inside.next.rows c.normalize_front-self-inside.new.entries.items)) _ (same_front c.normalize_front-self-inside.new.entries.items c.self.inside.next.entries.items c.self.inside.next.rows h.room) h.scaled h.normal (sym (ap (λ (t : Weight). t.x) h.weight) ∙ e))
    k
