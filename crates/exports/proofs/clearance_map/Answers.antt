use Rattle.exports.proofs.Calls.{nodes_told, nodes_kept}
use Rattle.exports.proofs.clearance_map.Goals as goal

pub returns-in-Ok-clause-count : goal.returns-in-Ok-clause-count
returns-in-Ok-clause-count c = nodes_told c.job_from.result _ c.job_from.ensures.job c.args.store.now c.args.cells.now c.args.nodes.now c.in-Ok.built c.in-Ok.ensures.answer

pub returns-in-Err-clause-count : goal.returns-in-Err-clause-count
returns-in-Err-clause-count c = nodes_kept c.job_from.result _ c.job_from.ensures.job c.args.store.now c.args.cells.now c.args.nodes.now c.in-Err.refusal c.in-Err.ensures.answer
