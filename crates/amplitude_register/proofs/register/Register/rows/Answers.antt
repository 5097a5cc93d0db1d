use Rattle.std.proofs.Common.{List, length, sym, ap, arith}
use Rattle.std.proofs.lemmas.List.{length-take-le}
use Rattle.omega_ring.specs.declared.coefficients.Omega.{Omega}
use Rattle.amplitude_register.proofs.Fields.{block_room}
use Rattle.amplitude_register.proofs.register.Register.rows.Goals as goal

pub slice_bounds-result-end : goal.slice_bounds-result-end
slice_bounds-result-end c =
    let i = c.self.invariant in
    let b = block_room c.self.inside.limit c.self.inside.value i.value in
    let e = ap (λ (t : List Omega). length t) c.deref.ensures.value in
    sym (length-take-le c.self.inside.value.rows c.deref.result.now (omega (arith, b, e)))
