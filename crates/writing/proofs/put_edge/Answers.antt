-- The form of an edge's line, by its mark.
use Rattle.std.proofs.Common.{rules}
use Rattle.model.specs.Sheets.{edge_form, line_form}
use Rattle.writing.proofs.Lines as lines
use Rattle.writing.proofs.put_edge.Goals as goal

pub returns-then-cubic : goal.returns-then-cubic
unfolding edge_form
returns-then-cubic c = search (rules, lines.cubic_put, lines.zero_mark)

pub returns-else-cubic : goal.returns-else-cubic
unfolding line_form
returns-else-cubic c = search (rules, lines.line_put)
