use Rattle.levels.specs.Open.{open_in}
use Rattle.rows.proofs.Turns.{Painted}
use Rattle.rows.proofs.paint_open.Given as goal

abbrev pub invariant-loop-j : goal.invariant-loop-j
invariant-loop-j l = Painted l.n l.fn.rows (open_in l.levels l.d) 68 l.map l.initial.map l.j
