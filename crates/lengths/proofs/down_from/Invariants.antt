use Rattle.std.proofs.Common.{◌*◌, ◌≤◌}
use Rattle.lengths.proofs.down_from.Given as goal

abbrev pub invariant-loop-less : goal.invariant-loop-less
invariant-loop-less l = l.v ≤ l.less * l.less
