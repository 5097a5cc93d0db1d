use Rattle.std.proofs.Common.{subst}
use Rattle.amplitude_register.specs.States.{RegisterState, IsNextKept}
use Rattle.amplitude_register.proofs.Fields.{block_rows, next_kept}
use Rattle.state_model.specs.Amplitudes.{HasRows}
use Rattle.amplitude_register.proofs.register.Register.facts.Goals as goal

pub returns-clause-rows : goal.returns-clause-rows
returns-clause-rows c = let i = c.self.invariant in subst (λ (t : RegisterState). HasRows t.value) c.self.view_is (block_rows c.self.inside.limit c.self.inside.value i.most i.value)

pub returns-clause-next : goal.returns-clause-next
returns-clause-next c = let i = c.self.invariant in subst (λ (t : RegisterState). IsNextKept t.next) c.self.view_is (next_kept c.self.inside.limit c.self.inside.stage c.self.inside.next i.most i.next i.stage)
