use Rattle.std.proofs.Common.{subst}
use Rattle.model.specs.declared.Job.{Job}
use Rattle.model.specs.Promises.{PointsHold}
use Rattle.exports.proofs.clearance_points.Goals as goal

pub returns-in-Ok-clause-bounds : goal.returns-in-Ok-clause-bounds
returns-in-Ok-clause-bounds c = λ z. subst (λ (i : Job). PointsHold i c.args.spots.now c.points.new.reply) c.job_from.ensures.job c.in-Ok.ensures.bounds
