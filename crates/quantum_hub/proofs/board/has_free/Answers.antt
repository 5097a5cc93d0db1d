use Rattle.std.proofs.Common.{◌≡◌, ℕ, IsSome, sym, subst, ◌∙◌}
use Rattle.core_cells.specs.Marks.{IsLeastListed}
use Rattle.core_cells.specs.Pool.{Pool}
use Rattle.held_board.specs.Held.{held_cells}
use Rattle.quantum_hub.proofs.Boards.{pool_is, least_is_one}
use Rattle.quantum_hub.proofs.board.has_free.Goals as goal

pub returns-in-Some-least_free_slot-clause-free : goal.returns-in-Some-least_free_slot-clause-free
returns-in-Some-least_free_slot-clause-free c e needed w t at least =
    let mine : IsLeastListed w.now.slots c.in-Some-least_free_slot.slot = subst (λ (p : Pool). IsLeastListed p.slots c.in-Some-least_free_slot.slot) (pool_is (held_cells c.args.board.now).pool c.in-Some.pool.now w c.in-Some.ensures at) c.in-Some-least_free_slot.ensures in
    let same : c.in-Some-least_free_slot.slot ≡ t = least_is_one w.now.slots c.in-Some-least_free_slot.slot t mine least in
    subst (λ (n : ℕ). IsSome ((held_cells c.args.board.now).slot n)) same (sym c.has_slot.ensures ∙ e)
