-- What the loop of `reading::edges_at` keeps: what is read of the edges so far, and each turn leaves fewer bytes.
use Rattle.std.proofs.Common.{◌-◌, length}
use Rattle.reading.proofs.EdgeLines.{Going}
use Rattle.reading.proofs.edges_at.Given as goal

abbrev pub invariant-loop-edge : goal.invariant-loop-edge
invariant-loop-edge l = Going l.s l.at l.value l.next

abbrev pub decreases-loop-edge : goal.decreases-loop-edge
decreases-loop-edge l = length l.s - l.next
