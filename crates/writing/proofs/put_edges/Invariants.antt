-- What the loop of `writing::put_edges` keeps: e edges are written, and there is room for the rest.
use Rattle.writing.proofs.Lines.{Going}
use Rattle.writing.proofs.put_edges.Given as goal

abbrev pub invariant-loop-e : goal.invariant-loop-e
invariant-loop-e l = Going l.marks l.places l.initial.out l.at l.out l.next l.e
