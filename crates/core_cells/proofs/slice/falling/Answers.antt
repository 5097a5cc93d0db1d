use Rattle.std.proofs.Common.{refl}
use Rattle.core_cells.proofs.Two.{set_both_back, get_both}
use Rattle.core_cells.proofs.slice.falling.Goals as goal

pub returns : goal.returns
returns g c =
    let parts = c.split_at_mut-b.ensures in
    let both = get_both c.args.s.now _ _ c.args.j c.args.i _ _ parts.front parts.back c.requires.0 c.requires.1 c.index-b-j.is c.index-a-0.is in (
      ((refl, refl), λ x y. set_both_back c.args.s.now _ _ c.args.i c.args.j x y parts.front parts.back c.requires.0 c.requires.1),
      record { writes_back = tt; value = (both.1, both.0) },
    )
