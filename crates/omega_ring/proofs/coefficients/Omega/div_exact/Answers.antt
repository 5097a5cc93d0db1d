use Rattle.std.proofs.Common.{◌^◌, sym, ap, subst, ◌∙◌, arith}
use Rattle.state_model.specs.Coefficient.{Coefficient, ◌⊗◌}
use Rattle.state_model.specs.Divisors.{norm}
use Rattle.omega_ring.specs.Range.{CoordinatesBelow}
use Rattle.omega_ring.specs.Steps.{IsReady, IsNearest, numerator}
use Rattle.omega_ring.specs.Views.{omega_value, wide_value}
use Rattle.omega_ring.proofs.Exact.{exact_quotient}
use Rattle.omega_ring.proofs.Rounding.{within_up}
use Rattle.omega_ring.proofs.coefficients.Omega.div_exact.Goals as goal

pub quotient-requires-clause-left : goal.quotient-requires-clause-left
quotient-requires-clause-left c = subst (CoordinatesBelow (2 ^ 31)) (sym c.wide.ensures) c.requires.range

pub quotient-requires-clause-right : goal.quotient-requires-clause-right
quotient-requires-clause-right c = subst IsReady (sym c.wide-2.ensures) c.requires.ready

pub quotient-requires-clause-nonzero : goal.quotient-requires-clause-nonzero
quotient-requires-clause-nonzero c = λ e. c.requires.nonzero (sym c.wide-2.ensures ∙ e)

pub returns : goal.returns
returns c =
    let n : IsNearest (norm (omega_value c.args.u)) (numerator (omega_value c.args.self) (omega_value c.args.u)) (wide_value c.quotient.result) =
    subst (λ (t : Coefficient). IsNearest (norm (omega_value c.args.u)) (numerator t (omega_value c.args.u)) (wide_value c.quotient.result)) c.wide.ensures
    (subst (λ (t : Coefficient). IsNearest (norm t) (numerator (wide_value c.wide.result) t) (wide_value c.quotient.result)) c.wide-2.ensures c.quotient.ensures.nearest) in
    exact_quotient (omega_value c.args.self) (omega_value c.args.u) (wide_value c.quotient.result) c.requires.nonzero n c.requires.divides
    ∙ ap (λ (t : Coefficient). t ⊗ omega_value c.args.u) (sym c.short.ensures)

pub short-requires : goal.short-requires
short-requires c = within_up (2 ^ 36) (2 ^ 63) (wide_value c.quotient.result) c.quotient.ensures.small (omega arith)
