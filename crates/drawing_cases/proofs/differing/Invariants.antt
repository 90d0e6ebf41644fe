use Rattle.std.proofs.Common.{◌≤◌}
use Rattle.drawing_cases.proofs.differing.Given as goal

-- no more bytes differ than were looked at
abbrev pub invariant-loop-i : goal.invariant-loop-i
invariant-loop-i l = l.r ≤ l.i
