use Rattle.filling.proofs.Rows.{Filled}
use Rattle.filling.proofs.fill_square.Given as goal

abbrev pub invariant-loop-j : goal.invariant-loop-j
invariant-loop-j l = Filled l.n l.map l.initial.map l.c l.w l.r l.j l.b
