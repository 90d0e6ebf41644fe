use Rattle.std.proofs.Common.{rules}
use Rattle.answering.proofs.MapText as steps
use Rattle.answering.proofs.map_text.put_row.Goals as goal

pub returns : goal.returns
returns c = search (rules, steps.row_put)
