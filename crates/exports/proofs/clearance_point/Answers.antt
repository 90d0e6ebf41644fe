use Rattle.std.proofs.Common.{rules, arith, ◌≡◌}
use mir.Facts.{to_z-of_z}
use mir.Syntax.{w64}
use mir.Val.{to_z, of_z}
use Rattle.exports.proofs.Calls.{edge_read, edge_small, point_told, point_kept}
use Rattle.exports.proofs.clearance_point.Goals as goal

pub overflow_cast-edge : goal.overflow_cast-edge
overflow_cast-edge c = record { sfits = omega (arith, edge_small c.job_from.result _ c.job_from.ensures.job _ _ c.args.store.now c.args.nearest.now c.in-Ok.found c.in-Ok.ensures.answer) }

pub returns-in-Ok-clause-numbers : goal.returns-in-Ok-clause-numbers
returns-in-Ok-clause-numbers c =
    let e = rw (to_z-of_z c.ranges.x, to_z-of_z c.ranges.y) at c.in-Ok.ensures.answer in
    let small = edge_small c.job_from.result _ c.job_from.ensures.job _ _ c.args.store.now c.args.nearest.now c.in-Ok.found c.in-Ok.ensures.answer in
    let low : to_z w64 (of_z w64 c.in-Ok.found.lo) ≡ c.in-Ok.found.lo = search rules in
    let high : to_z w64 (of_z w64 c.in-Ok.found.hi) ≡ c.in-Ok.found.hi = search rules in
    rw (low, high, edge_read c.in-Ok.found.edge small) (point_told c.job_from.result _ c.job_from.ensures.job c.args.x c.args.y c.args.store.now c.args.nearest.now c.in-Ok.found e)

pub returns-in-Err-clause-numbers : goal.returns-in-Err-clause-numbers
returns-in-Err-clause-numbers c = point_kept c.job_from.result _ c.job_from.ensures.job c.args.x c.args.y c.args.store.now c.args.nearest.now c.in-Err.refusal (rw (to_z-of_z c.ranges.x, to_z-of_z c.ranges.y) at c.in-Err.ensures.answer)
