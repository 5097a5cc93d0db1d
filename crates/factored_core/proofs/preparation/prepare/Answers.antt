use Rattle.std.proofs.Common.{sym, ◌∙◌}
use Rattle.factored_core.proofs.RefusalLines.{unrolled_is}
use Rattle.factored_core.proofs.preparation.prepare.Goals as goal

pub unreachable-requires : goal.unreachable-requires
unreachable-requires g c = let a = c.requires.allowed in a.instr (unrolled_is _ (sym c.kind_of.ensures ∙ c.in-Unrolled.is))
