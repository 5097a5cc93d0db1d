use Rattle.qron_link.proofs.Rests.{rest_on}
use Rattle.qron_link.proofs.Doorways.{one_out}
use Rattle.qron_link.proofs.mem_door.MemDoorDoor.next.Goals as goal

pub invariant_of-self-in-Some : goal.invariant_of-self-in-Some
invariant_of-self-in-Some c = rest_on _ _ _ c.in-Some.link c.self.invariant c.in-Some.ensures.items

pub returns-in-Some-clause-led : goal.returns-in-Some-clause-led
returns-in-Some-clause-led c =
    one_out c.args.self.now _ _ _ c.in-Some.link _ _ _ _ _ c.self.view_is c.self.invariant c.in-Some.ensures.items
