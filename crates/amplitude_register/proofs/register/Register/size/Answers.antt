use Rattle.std.proofs.lemmas.Int.{to_z-of_z}
use mir.Syntax.{w128}
use Rattle.std.proofs.Common.{rules, FitsSigned, nat_abs, subst, sym, ap}
use Rattle.amplitude_register.specs.States.{RegisterState}
use Rattle.amplitude_register.specs.Held.{amplitudes_of}
use Rattle.amplitude_register.proofs.Fields.{block_rows, kept_size}
use Rattle.state_model.specs.Coefficient.{Weight}
use Rattle.state_model.specs.Amplitudes.{vector_of}
use Rattle.state_model.specs.StateVector.{IsSize}
use Rattle.amplitude_register.proofs.register.Register.size.Goals as goal

pub returns-clause-least : goal.returns-clause-least
returns-clause-least c =
    let i = c.self.invariant in
    let fits : FitsSigned w128 c.self.inside.value.weight.x = search rules in
    rw (to_z-of_z w128 c.self.inside.value.weight.x fits) (subst (λ (t : RegisterState). IsSize (vector_of t.value) t.value.qubits (nat_abs c.self.inside.value.weight.x)) c.self.view_is
    (kept_size (amplitudes_of c.self.inside.value) c.self.inside.value.weight.x (block_rows c.self.inside.limit c.self.inside.value i.most i.value) i.kept (sym (ap (λ (w : Weight). w.x) i.weighed))))
