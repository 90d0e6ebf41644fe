use Rattle.std.proofs.Common.{pos, ◌*ℤ◌}
use Rattle.boxes.specs.Ranges.{point_at}
use Rattle.distance.specs.States.{state}
use Rattle.distance.proofs.Edges.{Walk}
use Rattle.distance.proofs.nearest.Given as goal

abbrev pub invariant-loop-edge : goal.invariant-loop-edge
invariant-loop-edge l = Walk (point_at (pos 16 *ℤ l.x) (pos 16 *ℤ l.y)) l.count l.store (state l.found) l.rest l.edge
