use Rattle.std.proofs.Common.{sym}
use Rattle.amplitude_register.proofs.RowPairs.{swapped}
use Rattle.amplitude_register.proofs.rows.exchange_two.Goals as goal

pub returns : goal.returns
returns c = sym (swapped c.args.list.now c.args.one c.args.two c.requires.one c.requires.two)
