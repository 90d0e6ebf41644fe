use Rattle.judging.proofs.Cells.{cell_fits, cell_yes}
use Rattle.judging.proofs.celled.Goals as goal

pub overflow_sub-result : goal.overflow_sub-result
overflow_sub-result c = cell_fits c.args.job c.requires.allowed

pub returns-then-job : goal.returns-then-job
returns-then-job c = record { answer = cell_yes c.args.job c.requires.allowed c.if-job.true }
