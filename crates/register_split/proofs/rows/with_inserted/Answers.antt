use Rattle.register_split.proofs.Inserted.{inserted_one, inserted_none}
use Rattle.register_split.proofs.rows.with_inserted.Goals as goal

pub returns-then-bit : goal.returns-then-bit
returns-then-bit c = inserted_one c.args.place c.args.bit c.args.row c.requires.place c.if-bit.true

pub returns-else-bit : goal.returns-else-bit
returns-else-bit c = inserted_none c.args.place c.args.bit c.args.row c.requires.place c.if-bit.false
