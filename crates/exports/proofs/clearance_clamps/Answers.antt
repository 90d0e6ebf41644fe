use Rattle.table_four.specs.declared.Placed.TheVariants.{Go, Stopped}
use Rattle.exports.proofs.Calls.{place_told, place_kept}
use Rattle.exports.proofs.clearance_clamps.Goals as goal

pub returns-in-Ok-Go-clause-numbers : goal.returns-in-Ok-Go-clause-numbers
returns-in-Ok-Go-clause-numbers c = place_told c.job_from.result _ c.job_from.ensures.job c.args.cells.now c.args.clamps.now c.args.placed.now Go (rw c.in-Ok-Go.field-0-is at c.in-Ok-Go.ensures.answer)

pub returns-in-Ok-Stopped-clause-numbers : goal.returns-in-Ok-Stopped-clause-numbers
returns-in-Ok-Stopped-clause-numbers c = place_told c.job_from.result _ c.job_from.ensures.job c.args.cells.now c.args.clamps.now c.args.placed.now (Stopped c.in-Ok-Stopped.stop) (rw c.in-Ok-Stopped.field-0-is at c.in-Ok-Stopped.ensures.answer)

pub returns-in-Err-clause-numbers : goal.returns-in-Err-clause-numbers
returns-in-Err-clause-numbers c = place_kept c.job_from.result _ c.job_from.ensures.job c.args.cells.now c.args.clamps.now c.args.placed.now c.in-Err.refusal c.in-Err.ensures.answer
