use Rattle.std.proofs.Common.{sym, ◌∙◌, ap, arith, length}
use Rattle.history_front.proofs.Keeps.{appends}
use Rattle.history_front.proofs.pen.Pen.append.Goals as goal

pub compare_exchange_with-requires : goal.compare_exchange_with-requires
compare_exchange_with-requires g c =
    let h = c.args.history.now in (
      c.self.invariant.0 ∙ sym h.named,
      (let one = h.one_word in omega arith),
      appends _ c.self.inside.seat.id c.self.inside.seat.me c.from-length.result c.args.entry.now c.self.invariant.2 (omega (arith, c.self.invariant.3, c.from-length.ensures)) (omega (arith, c.requires, c.self.view_is, ap length c.self.view_is, c.self.invariant.3, c.from-length.ensures)),
    )
