use Rattle.amplitude_register.specs.Held.{amplitudes_of}
use Rattle.amplitude_register.proofs.Fields.{prepared_some, block_count}
use Rattle.amplitude_register.proofs.register.Register.prepared.Goals as goal

pub returns-in-Prepared : goal.returns-in-Prepared
returns-in-Prepared c = let i = c.self.invariant in prepared_some c.args.self.now c.self.inside.limit (amplitudes_of c.self.inside.value) c.self.inside.stage (amplitudes_of c.self.inside.next) c.self.inside.next.count c.self.view_is c.in-Prepared.is (block_count c.self.inside.limit c.self.inside.next i.most i.next)
