use Rattle.gate_kernels.proofs.TwoSteps.{two_applied}
use Rattle.gate_kernels.proofs.twos.prepare_two.Goals as goal

pub returns : goal.returns
returns c = two_applied c.args.gate c.args.p c.args.q c.args.reg.now c.apply.new.reg c.facts.ensures.rows c.facts.ensures.next c.requires.one c.requires.two c.apply.ensures c.facts-2.ensures.next
