use Rattle.std.proofs.Common.{◌∙◌}
use Rattle.mapping.proofs.MapEntry.{side_of}
use Rattle.mapping.proofs.cells_a_side.Goals as goal

pub returns-clause-side : goal.returns-clause-side
returns-clause-side c = c.unwrap_or.ensures ∙ side_of c.args.job c.grid.result c.grid.ensures.answer
