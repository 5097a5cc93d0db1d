use Rattle.std.proofs.Common.{◌≡◌, drop}
use Rattle.core_cells.specs.Names.{AreThere, done_by, on_named}
use Rattle.core_cells.proofs.lent.end_all.Given as goal

-- what is left to be done makes the same of the cells as they are by now as all makes of those at the start
abbrev pub invariant-loop-name : goal.invariant-loop-name
invariant-loop-name g l =
    AreThere (g.B.Board.cells l.board) (drop l.name-index l.names)
    × (on_named (done_by l.ending) (drop l.name-index l.names) (g.B.Board.cells l.board) ≡ on_named (done_by l.ending) l.names (g.B.Board.cells l.initial.board))
