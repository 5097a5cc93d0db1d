use Rattle.std.proofs.Common.{refl}
use Rattle.core_cells.proofs.Two.{set_both, get_both}
use Rattle.core_cells.proofs.slice.rising.Goals as goal

pub returns : goal.returns
returns g c =
    let parts = c.split_at_mut-a.ensures in (
      ((refl, refl), λ x y. set_both c.args.s.now _ _ c.args.i c.args.j x y parts.front parts.back c.requires.0 c.requires.1),
      record { writes_back = tt; value = get_both c.args.s.now _ _ c.args.i c.args.j _ _ parts.front parts.back c.requires.0 c.requires.1 c.index-a-i.is c.index-b-0.is },
    )
