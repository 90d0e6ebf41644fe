use Rattle.std.proofs.Common.{length, ◌-◌}
use Rattle.rows.proofs.Loops.{Sofar}
use Rattle.rows.proofs.draw_tree.Given as goal

abbrev pub invariant-loop-at : goal.invariant-loop-at
invariant-loop-at l = Sofar l.frame l.high l.part l.initial.map l.map l.levels l.bands l.d l.at

abbrev pub decreases-loop-at : goal.decreases-loop-at
decreases-loop-at l = length l.initial.part - l.at
