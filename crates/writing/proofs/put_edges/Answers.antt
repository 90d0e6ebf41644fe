-- A turn of the loop of `writing::put_edges` writes one more edge.
use Rattle.std.proofs.Common.{rules}
use Rattle.writing.proofs.Lines as lines
use Rattle.writing.proofs.put_edges.Goals as goal

pub put_edge-next-requires-clause-small : goal.put_edge-next-requires-clause-small
put_edge-next-requires-clause-small c = search (rules, lines.from_small)

pub loop-e-preserved : goal.loop-e-preserved
loop-e-preserved c = search (rules, lines.edge_on)

pub returns-clause-answer : goal.returns-clause-answer
returns-clause-answer c = search (rules, lines.edges_end)

pub returns-clause-bound : goal.returns-clause-bound
returns-clause-bound c = search (rules, lines.edges_by)
