use Rattle.exports.proofs.Calls.{bytes_told, bytes_kept}
use Rattle.exports.proofs.clearance_write.Goals as goal

pub returns-in-Ok-clause-count : goal.returns-in-Ok-clause-count
returns-in-Ok-clause-count c = bytes_told c.job_from.result _ c.job_from.ensures.job c.args.out.now c.args.bytes.now c.in-Ok.written c.in-Ok.ensures.answer

pub returns-in-Err-clause-count : goal.returns-in-Err-clause-count
returns-in-Err-clause-count c = bytes_kept c.job_from.result _ c.job_from.ensures.job c.args.out.now c.args.bytes.now c.in-Err.refusal c.in-Err.ensures.answer
