-- What a boxed value ends as, where it is lent.
use Rattle.std.specs.Borrow.{Lends, MutBor, Fml, RattleType}
use Rattle.cell_box.specs.contracts.cell_box.CellBox.{the_row}

-- it ends as its borrower left it
abbrev pub LendsValue : (R : RattleType) → MutBor R.Denot → MutBor R.Denot → Fml
LendsValue R s r = Lends (the_row R) R s r (λ w. w)
