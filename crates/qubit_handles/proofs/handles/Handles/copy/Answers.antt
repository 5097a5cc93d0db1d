use Rattle.std.proofs.Common.{subst, sym, ◌≡◌, refl}
use Rattle.qubit_handles.specs.Handle.{AreDistinct}
use Rattle.qubit_handles.proofs.handles.Handles.copy.Goals as goal

-- the copied list is the handles'
same : (c : goal.In-Ok) → c.try_extend_from_slice.new.self.items ≡ c.self.inside.list.items
same c = rw (c.in-Ok.ensures.ok, c.new-list.ensures, c.as_slice.ensures.value) refl

pub invariant_of-result : goal.invariant_of-result
invariant_of-result c = subst AreDistinct (sym (same c)) c.self.invariant
