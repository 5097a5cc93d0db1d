use Rattle.std.proofs.Common.{refl, ap, ◌∙◌}
use Rattle.state_model.specs.CoefficientList.{total_weight}
use Rattle.state_model.specs.Amplitudes.{Amplitudes}
use Rattle.amplitude_register.specs.Held.{amplitudes_of}
use Rattle.amplitude_register.proofs.Fields.{open_state, open_value}
use Rattle.amplitude_register.proofs.Placed.{next_placed, same_block}
use Rattle.amplitude_register.proofs.register.Register.weigh.Goals as goal

pub invariant_of-self : goal.invariant_of-self
invariant_of-self c = let i = c.self.invariant in next_placed c.self.inside _ _ i (same_block _ _ _ refl refl refl refl i.next) (c.requires.weight ∙ ap (λ (a : Amplitudes). total_weight a.list) (open_value c.args.self.now c.self.inside.limit (amplitudes_of c.self.inside.value) c.self.inside.stage (amplitudes_of c.self.inside.next) c.self.view_is c.requires.open))

pub returns : goal.returns
returns c = open_state c.args.self.now c.self.inside.limit (amplitudes_of c.self.inside.value) c.self.inside.stage (amplitudes_of c.self.inside.next) c.self.view_is c.requires.open
