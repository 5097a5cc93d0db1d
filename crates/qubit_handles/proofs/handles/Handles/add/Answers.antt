use Rattle.std.proofs.Common.{◌≡◌, None, subst, sym}
use Rattle.qubit_handles.specs.Handle.{AreDistinct, number_of}
use Rattle.qubit_handles.proofs.HandleLemmas.{added_distinct}
use Rattle.qubit_handles.proofs.handles.Handles.add.Goals as goal

pub invariant_of-self : goal.invariant_of-self
invariant_of-self c = subst AreDistinct (sym c.push.ensures.items)
    (added_distinct c.self.inside.list.items c.args.handle c.self.invariant (subst (λ l. number_of l c.args.handle.app c.args.handle.id ≡ None) (sym c.self.view_is) c.requires.free))
