use mir.Facts.{to_z-of_z}
use Rattle.clearance.proofs.Accepted.{point_true}
use Rattle.clearance.proofs.point.Goals as goal

pub returns-clause-bounds : goal.returns-clause-bounds
returns-clause-bounds c = point_true c.args.job c.args.x c.args.y c.args.store.now c.point.result (rw (to_z-of_z c.ranges.x, to_z-of_z c.ranges.y) at c.point.ensures.answer)
