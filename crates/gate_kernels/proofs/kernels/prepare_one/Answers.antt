use Rattle.state_model.specs.declared.Gate.TheVariants.{K, RotX, RotY}
use Rattle.gate_kernels.proofs.Made.{moved_scale, mixed_answer, sealed_as, seal_nonzero, seal_divisors}
use Rattle.amplitude_register.specs.declared.register.TooLarge.{TooLarge}
use Rattle.gate_kernels.proofs.kernels.prepare_one.Goals as goal

pub seal-requires-clause-nonzero : goal.seal-requires-clause-nonzero
seal-requires-clause-nonzero c = seal_nonzero K 2 c.args.place c.args.reg.now c.mix_turned.new.reg c.facts.ensures.kept c.mix_turned.ensures

pub seal-requires-clause-divisors : goal.seal-requires-clause-divisors
seal-requires-clause-divisors c = seal_divisors K 2 c.args.place c.args.reg.now c.mix_turned.new.reg c.facts.ensures.kept c.mix_turned.ensures

pub returns-in-K : goal.returns-in-K
returns-in-K c = sealed_as (λ (e : TooLarge). e.size) c.args.gate K 2 c.args.place c.args.reg.now c.mix_turned.new.reg c.seal.new.self c.seal.result c.in-K.is c.facts.ensures.rows c.requires.place c.mix_turned.ensures c.seal.ensures

pub seal-requires-in-RotX-clause-nonzero : goal.seal-requires-in-RotX-clause-nonzero
seal-requires-in-RotX-clause-nonzero c = seal_nonzero (RotX c.in-RotX.eighths) 4 c.args.place c.args.reg.now c.turn_mixed.new.reg c.facts.ensures.kept c.turn_mixed.ensures

pub seal-requires-in-RotX-clause-divisors : goal.seal-requires-in-RotX-clause-divisors
seal-requires-in-RotX-clause-divisors c = seal_divisors (RotX c.in-RotX.eighths) 4 c.args.place c.args.reg.now c.turn_mixed.new.reg c.facts.ensures.kept c.turn_mixed.ensures

pub returns-in-RotX : goal.returns-in-RotX
returns-in-RotX c = sealed_as (λ (e : TooLarge). e.size) c.args.gate (RotX c.in-RotX.eighths) 4 c.args.place c.args.reg.now c.turn_mixed.new.reg c.seal-in-RotX.new.self c.seal-in-RotX.result c.in-RotX.is c.facts.ensures.rows c.requires.place c.turn_mixed.ensures c.seal-in-RotX.ensures

pub seal-requires-in-RotY-clause-nonzero : goal.seal-requires-in-RotY-clause-nonzero
seal-requires-in-RotY-clause-nonzero c = seal_nonzero (RotY c.in-RotY.eighths) 4 c.args.place c.args.reg.now c.turn_mixed_turned.new.reg c.facts.ensures.kept c.turn_mixed_turned.ensures

pub seal-requires-in-RotY-clause-divisors : goal.seal-requires-in-RotY-clause-divisors
seal-requires-in-RotY-clause-divisors c = seal_divisors (RotY c.in-RotY.eighths) 4 c.args.place c.args.reg.now c.turn_mixed_turned.new.reg c.facts.ensures.kept c.turn_mixed_turned.ensures

pub returns-in-RotY : goal.returns-in-RotY
returns-in-RotY c = sealed_as (λ (e : TooLarge). e.size) c.args.gate (RotY c.in-RotY.eighths) 4 c.args.place c.args.reg.now c.turn_mixed_turned.new.reg c.seal-in-RotY.new.self c.seal-in-RotY.result c.in-RotY.is c.facts.ensures.rows c.requires.place c.turn_mixed_turned.ensures c.seal-in-RotY.ensures

pub returns-in-H : goal.returns-in-H
returns-in-H c = mixed_answer (λ (e : TooLarge). e.size) c.args.gate c.args.place c.args.reg.now c.prepare_mixed.new.self c.prepare_mixed.result c.in-H.is c.facts.ensures.rows c.requires.place c.prepare_mixed.ensures

pub returns-in-I : goal.returns-in-I
returns-in-I c = c.prepare_moved.ensures (moved_scale c.args.gate c.in-I.is)
