use Rattle.std.proofs.Common.{◌≡◌, ◌-◌, ◌*◌, drop}
use Rattle.model.specs.Jobs.{marked}
use Rattle.judging.proofs.marked.Given as goal

abbrev pub invariant-loop-i : goal.invariant-loop-i
invariant-loop-i l = marked l.n l.marks l.places ≡ marked (l.n - l.i) (drop l.i l.marks) (drop (8 * l.i) l.places)
