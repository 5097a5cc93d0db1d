use Rattle.std.proofs.Common.{sym, ◌∙◌, arith}
use Rattle.history_front.proofs.Keeps.{copies}
use Rattle.history_front.proofs.history.History.front.Goals as goal

pub split_seat-requires : goal.split_seat-requires
split_seat-requires g c =
    let h = c.args.self.now in (
      c.requires.0 ∙ sym h.named,
      (let one = h.one_word in omega arith),
      copies _ _,
    )
