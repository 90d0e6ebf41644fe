use Rattle.exports.proofs.Calls.{few_edges, row_put, row_kept}
use Rattle.exports.proofs.clearance_read.Goals as goal

pub put_job-requires : goal.put_job-requires
put_job-requires c = record { few = few_edges c.args.sheet.now c.args.job.now c.in-Ok.found c.in-Ok.ensures.answer }

pub returns-in-Ok-clause-row : goal.returns-in-Ok-clause-row
returns-in-Ok-clause-row c = row_put c.args.sheet.now c.args.job.now c.in-Ok.found c.in-Ok.ensures.answer c.put_job.new.numbers c.put_job.ensures.wrote

pub returns-in-Err-clause-row : goal.returns-in-Err-clause-row
returns-in-Err-clause-row c = row_kept c.args.sheet.now c.args.job.now c.in-Err.refusal c.in-Err.ensures.answer
