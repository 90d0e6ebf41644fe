use Rattle.drawing.specs.ByRows.{RowsOpen}
use Rattle.drawing.proofs.Raises.{Sofar}
use Rattle.drawing.proofs.draw_trees.Given as goal

abbrev pub invariant-loop-a : goal.invariant-loop-a
invariant-loop-a l = record { ready : RowsOpen l.frame l.map l.levels; drawn : Sofar l.store l.places l.frame l.initial.map l.map l.a-index }
