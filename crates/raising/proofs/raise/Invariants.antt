use Rattle.std.proofs.Common.{◌≡◌, ℕ, ◌≤◌, ◌<◌, max, get_or}
use Rattle.raising.proofs.raise.Given as goal

abbrev pub invariant-loop-x : goal.invariant-loop-x
invariant-loop-x l = record {
  raised : (k : ℕ) → k < l.x-index → get_or l.s k 0 ≡ max (get_or l.initial.s k 0) l.b;
  kept : (k : ℕ) → l.x-index ≤ k → get_or l.s k 0 ≡ get_or l.initial.s k 0;
}
