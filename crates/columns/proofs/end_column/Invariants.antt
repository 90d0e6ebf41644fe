use Rattle.std.proofs.Common.{ℕ, ◌≤◌, ◌<◌, false}
use Rattle.columns.proofs.end_column.Given as goal

abbrev pub invariant-loop-last : goal.invariant-loop-last
invariant-loop-last g l = (i : ℕ) → l.lo ≤ i → l.last ≤ i → i < l.hi → goal.F-post g l.holds i false
