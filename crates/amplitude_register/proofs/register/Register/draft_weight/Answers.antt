use Rattle.std.proofs.Common.{◌^◌, ◌<ℤ◌, pos, subst}
use Rattle.amplitude_register.proofs.Fields.{block_room, open_value}
use Rattle.amplitude_register.specs.Held.{amplitudes_of}
use Rattle.state_model.specs.CoefficientList.{total_weight}
use Rattle.state_model.specs.Amplitudes.{Amplitudes}
use Rattle.amplitude_register.proofs.register.Register.draft_weight.Goals as goal

pub front_weight-requires : goal.front_weight-requires
front_weight-requires c =
    let i = c.self.invariant in
    record {
      rows = block_room c.self.inside.limit c.self.inside.next i.next;
      small = subst (λ (t : Amplitudes). (total_weight t.list).x <ℤ pos (2 ^ 122)) (open_value c.args.self.now c.self.inside.limit (amplitudes_of c.self.inside.value) c.self.inside.stage (amplitudes_of c.self.inside.next) c.self.view_is c.requires.open) c.requires.small;
    }
