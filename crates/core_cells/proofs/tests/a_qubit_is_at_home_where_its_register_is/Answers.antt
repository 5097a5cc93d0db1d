use Rattle.std.proofs.Common.{◌≡◌, rules, IsSome, slice_get, ap, ◌∙◌, arith}
use Rattle.state_model.specs.Row.{is_listed}
use Rattle.amplitude_register.specs.States.{RegisterState}
use Rattle.core_cells.specs.Cells.{Cells}
use Rattle.core_cells.specs.Owned.{cells_of}
use Rattle.core_cells.proofs.Within.{has, there}
use Rattle.core_cells.proofs.CellLemmas.{slot_put, slot_beside}
use Rattle.core_cells.proofs.tests.a_qubit_is_at_home_where_its_register_is.Goals as goal

pub home-requires : goal.home-requires
unfolding is_listed
home-requires g c =
    let before : IsSome (slice_get c.expect-cells.result.slots 2) = search rules in
    let x = has _ before in
    let run = c.on_slot.ensures x.0 x.1 in
    (2, run.0, ap (λ (cs : Cells). cs.slot 2) run.2 ∙ slot_put (cells_of c.expect-cells.result) 2 run.0, ap (λ (r : RegisterState). is_listed r.value.qubits 5) run.1.0)

pub on_two-requires-clause-there : goal.on_two-requires-clause-there
on_two-requires-clause-there g c =
    let before : IsSome (slice_get c.expect-cells.result.slots 2) = search rules in
    let beside : IsSome (slice_get c.expect-cells.result.slots 3) = search rules in
    let x = has _ before in
    let y = has _ beside in
    let run = c.on_slot.ensures x.0 x.1 in
    let is : cells_of c.home.new.self ≡ _ = ap cells_of c.home.ensures.same ∙ run.2 in (
      λ e. omega arith,
      there _ y.0 (ap (λ (cs : Cells). cs.slot 3) is ∙ slot_beside (cells_of c.expect-cells.result) 2 3 run.0 (λ e. omega arith) ∙ y.1),
      there _ run.0 (ap (λ (cs : Cells). cs.slot 2) is ∙ slot_put (cells_of c.expect-cells.result) 2 run.0),
    )

pub home-requires-2 : goal.home-requires-2
unfolding is_listed
home-requires-2 g c =
    let before : IsSome (slice_get c.expect-cells.result.slots 2) = search rules in
    let beside : IsSome (slice_get c.expect-cells.result.slots 3) = search rules in
    let x = has _ before in
    let y = has _ beside in
    let run = c.on_slot.ensures x.0 x.1 in
    let is : cells_of c.home.new.self ≡ _ = ap cells_of c.home.ensures.same ∙ run.2 in
    let at_3 = ap (λ (cs : Cells). cs.slot 3) is ∙ slot_beside (cells_of c.expect-cells.result) 2 3 run.0 (λ e. omega arith) ∙ y.1 in
    let at_2 = ap (λ (cs : Cells). cs.slot 2) is ∙ slot_put (cells_of c.expect-cells.result) 2 run.0 in
    let moved = c.on_two.ensures y.0 run.0 at_3 at_2 in (
      3,
      moved.0,
      ap (λ (cs : Cells). cs.slot 3) moved.3 ∙ slot_beside _ 2 3 moved.1 (λ e. omega arith) ∙ slot_put (cells_of c.home.new.self) 3 moved.0,
      ap (λ (r : RegisterState). is_listed r.value.qubits 5) (moved.2.0 ∙ run.1.0),
    )
