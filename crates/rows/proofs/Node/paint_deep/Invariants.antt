use Rattle.std.proofs.Common.{◌&&◌}
use Rattle.levels.specs.Open.{open_in}
use Rattle.columns.specs.Views.{inside_in}
use Rattle.rows.proofs.Turns.{Painted}
use Rattle.rows.proofs.Node.paint_deep.Given as goal

abbrev pub invariant-loop-j : goal.invariant-loop-j
invariant-loop-j l = Painted l.frame.n (record { lo = l.initial.j; hi = l.j-end }) (λ i y. open_in l.levels l.d i y && inside_in l.frame l.v i y) 73 l.map l.initial.map l.j
