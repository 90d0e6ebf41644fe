use Rattle.clearance.proofs.Accepted.{points_hold}
use Rattle.clearance.proofs.points.Goals as goal

pub returns-clause-bounds : goal.returns-clause-bounds
returns-clause-bounds c = points_hold c.args.job c.args.spots.now c.args.store.now c.args.reply.now _ c.points.result c.points.ensures.answer c.points.ensures.lent
