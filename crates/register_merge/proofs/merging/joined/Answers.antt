use Rattle.register_merge.proofs.JoinedNumbers.{joined_is}
use Rattle.register_merge.proofs.merging.joined.Goals as goal

pub returns : goal.returns
returns c = joined_is c.args.first.now c.args.second.now c.copy_from_slice.new.self c.copy_from_slice-2.new.self _ _ c.copy_from_slice.ensures.after c.copy_from_slice-2.ensures.after
