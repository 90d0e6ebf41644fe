use Rattle.rows.specs.Levels.{Narrowed}
use Rattle.rows.proofs.Node.narrow.Given as goal

abbrev pub invariant-loop-j : goal.invariant-loop-j
invariant-loop-j l = Narrowed l.frame l.v l.d (record { lo = l.fn.self.rows.lo; hi = l.j }) l.initial.levels l.levels
