-- The model's test `begins` of a store, and a list that begins with trees, say the same. Assumes nothing.
use Rattle.std.specs.Prelude.{◌≡◌, true, List, ◌++◌, ℕ, ◌*◌, ℤ, drop}
use Rattle.std.proofs.Common.{ap, ◌∙◌}
use Rattle.model.specs.Trees.{Tree}
use Rattle.model.specs.Store.{width, sizes, flatten_all, begins}
use Rattle.ranges.specs.Equal.{begins_is, begins_self}
use Rattle.subtrees.specs.Preorder.{BeginsAll, length_all}

pub begins_all : (ts : List Tree) (s : List ℤ) → begins s (flatten_all ts) ≡ true → BeginsAll ts s
begins_all ts s e = begins_is s (flatten_all ts) e ∙ ap (λ (n : ℕ). flatten_all ts ++ drop n s) (length_all ts)

pub all_begins : (ts : List Tree) (s : List ℤ) → BeginsAll ts s → begins s (flatten_all ts) ≡ true
all_begins ts s e = ap (λ (z : List ℤ). begins z (flatten_all ts)) e ∙ begins_self (flatten_all ts) (drop (width * sizes ts) s)
