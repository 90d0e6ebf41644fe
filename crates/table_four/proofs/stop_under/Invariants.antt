use Rattle.table_four.proofs.Loops.{Clear}
use Rattle.table_four.proofs.stop_under.Given as goal

abbrev pub invariant-loop-row : goal.invariant-loop-row
invariant-loop-row l = Clear l.n l.cells l.clamp l.row
