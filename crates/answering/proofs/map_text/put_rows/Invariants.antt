-- What the loop of `answering::map_text::put_rows` keeps: j rows are written.
use Rattle.answering.proofs.MapText.{Rows}
use Rattle.answering.proofs.map_text.put_rows.Given as goal

abbrev pub invariant-loop-j : goal.invariant-loop-j
invariant-loop-j l = Rows l.initial.out l.out l.at l.next l.cells l.n l.j
