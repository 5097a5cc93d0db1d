use Rattle.std.proofs.Common.{◌*◌, length}
use Rattle.register_merge.specs.Merging.{IsWritten}
use Rattle.register_merge.proofs.rows.write_rows.Given as goal

abbrev pub invariant-loop-high : goal.invariant-loop-high
invariant-loop-high l = IsWritten (length l.fn.one.value.list * l.high) l.two.value.list l.fn.one l.one
