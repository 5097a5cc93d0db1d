use Rattle.amplitude_register.proofs.Fields.{block_room}
use Rattle.amplitude_register.proofs.FromValues.{headed_fit}
use Rattle.amplitude_register.proofs.register.Register.prepare_same.Goals as goal

pub copy_front-requires-clause-to : goal.copy_front-requires-clause-to
copy_front-requires-clause-to c = let i = c.self.invariant in headed_fit c.self.inside.limit c.self.inside.value c.self.inside.next c.take_head.new.self i.value i.next c.take_head.ensures

pub copy_front-requires-clause-from : goal.copy_front-requires-clause-from
copy_front-requires-clause-from c = let i = c.self.invariant in block_room _ _ i.value
