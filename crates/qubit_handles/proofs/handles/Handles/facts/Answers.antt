use Rattle.qubit_handles.specs.Handle.{AreDistinct}
use Rattle.std.proofs.Common.{subst}
use Rattle.qubit_handles.proofs.handles.Handles.facts.Goals as goal

pub returns : goal.returns
returns c = subst AreDistinct c.self.view_is c.self.invariant
