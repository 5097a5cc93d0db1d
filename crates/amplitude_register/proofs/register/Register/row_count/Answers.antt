use Rattle.std.proofs.Common.{◌≡◌, length, sym, subst}
use Rattle.amplitude_register.specs.States.{RegisterState}
use Rattle.amplitude_register.proofs.Fields.{block_room, front_length}
use Rattle.amplitude_register.proofs.register.Register.row_count.Goals as goal

pub returns-clause-rows : goal.returns-clause-rows
returns-clause-rows c =
    let i = c.self.invariant in
    subst (λ (t : RegisterState). c.self.inside.value.rows ≡ length t.value.list) c.self.view_is
    (sym (front_length c.self.inside.value.entries.items c.self.inside.value.rows (block_room c.self.inside.limit c.self.inside.value i.value)))
