use Rattle.std.proofs.Common.{rules}
use Rattle.mapping.proofs.MapEntry.{grid_refused, grid_drawn}
use Rattle.mapping.proofs.grid.Goals as goal

pub returns-in_err-judge-clause-answer : goal.returns-in_err-judge-clause-answer
returns-in_err-judge-clause-answer c = grid_refused c.args.job c.from_residual.result c.in_err-judge.field-0.0 (search rules) c.in_err-judge.ensures.answer

pub returns-clause-answer : goal.returns-clause-answer
returns-clause-answer c = grid_drawn c.args.job c.columns_of-side.result c.in_ok-judge.ensures.answer c.columns_of-side.ensures.side
