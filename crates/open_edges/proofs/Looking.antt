-- The walk over open edges at its end, and the tree at one of its places. Assumes nothing.
use mathlib.Core.Path.{refl}
use mathlib.Core.List.{List}
use Prim.Native.Nat.{ℕ, ◌≤◌, ◌<◌}
use lib.IntN.{ℤ}
use lib.ListN.{length, get_or}
use Rattle.model.specs.Strips.{Strip}
use Rattle.model.specs.Explore.{Answer}
use Rattle.open_edges.specs.Starts.{TreeAt, Forest, StillOpen}
use Rattle.open_edges.specs.Looked.{Looked, tree_at, finish}

pub tree_in : {store : List ℤ} {ps : List ℕ} → Forest store ps → (k : ℕ) → k < length ps → TreeAt store (get_or ps k 0)
tree_in {store} {ps} f k h = tree_at store (λ _. Answer.away) ps k (get_or ps k 0) h refl f

pub all_looked : (store : List ℤ) (v : Strip → Answer) (ps kp : List ℕ) (kept k : ℕ) → Looked store v ps kp kept k → length ps ≤ k → kept ≤ length ps → StillOpen v store ps (length ps) kept kp
all_looked store v ps kp kept k h l few = record {
  fewer = few;
  not_inside = λ ts s. (finish store v ps kp kept k l h ts s).0;
  still = λ ts s. (finish store v ps kp kept k l h ts s).1;
}
