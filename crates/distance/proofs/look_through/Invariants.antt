use Rattle.std.proofs.Common.{length}
use Rattle.boxes.specs.Ranges.{point_at}
use Rattle.distance.specs.States.{state}
use Rattle.distance.proofs.Walks.{Walk}
use Rattle.distance.proofs.look_through.Given as goal

abbrev pub invariant-loop-rest : goal.invariant-loop-rest
invariant-loop-rest l = Walk (point_at l.x l.y) l.edge l.part (state l.initial.found) (state l.found) l.rest

abbrev pub decreases-loop-rest : goal.decreases-loop-rest
decreases-loop-rest l = length l.rest
