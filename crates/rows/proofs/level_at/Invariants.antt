use Rattle.std.proofs.Common.{ℕ, ◌≤◌}
use Rattle.rows.specs.Bands.{ends_of}
use Rattle.rows.proofs.level_at.Given as goal

abbrev pub invariant-loop-k : goal.invariant-loop-k
invariant-loop-k l = (k : ℕ) → l.k ≤ k → k ≤ l.d → ends_of l.bands k ≤ l.at
