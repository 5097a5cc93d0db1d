use Rattle.std.proofs.Common.{arith}
use Rattle.cqc_wire.proofs.Rooms.{put_piece}
use Rattle.cqc_wire.proofs.bytes.put.Goals as goal

pub returns : goal.returns
returns c = put_piece c.args.out.now c.args.bytes.now c.copy_from_slice.new.self c.args.at _ c.copy_from_slice.ensures.after (omega arith) c.requires
