use Rattle.std.proofs.Common.{sym, ◌∙◌, arith}
use Rattle.history_front.proofs.Keeps.{joins, loads}
use Rattle.history_front.proofs.history.History.join.Goals as goal

pub join_seat-requires : goal.join_seat-requires
join_seat-requires g c =
    let h = c.args.self.now in (
      c.requires.tables.0 ∙ sym h.named,
      c.requires.tables.1 ∙ sym h.named,
      c.requires.other.0,
      (let one = h.one_word in omega arith),
      joins _ _ _ _ c.requires.other.1,
    )

pub load-requires : goal.load-requires
load-requires g c =
    let h = c.args.self.now in (
      c.join_seat.ensures.0 ∙ (c.requires.tables.0 ∙ sym h.named),
      (let one = h.one_word in omega arith),
      loads _ _ _,
    )
