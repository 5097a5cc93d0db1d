use Rattle.std.proofs.Common.{◌+◌, ◌*◌, length}
use Rattle.register_merge.specs.Merging.{IsWritten}
use Rattle.register_merge.proofs.rows.write_block.Given as goal

abbrev pub invariant-loop-low : goal.invariant-loop-low
invariant-loop-low l = IsWritten (length l.fn.one.value.list * l.high + l.low) l.two.value.list l.fn.one l.one
