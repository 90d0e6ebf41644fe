-- Edge e of the marks ms and the places l, with grain g: numbers in range, a tree that is not long, and room for it among m numbers. Assumes nothing.
use Rattle.std.specs.Prelude.{◌≡◌, false, List, ℕ, ◌*◌, ◌≤◌, ◌<◌, ℤ, nat_abs}
use Rattle.model.specs.Jobs.{edge_at}
use Rattle.model.specs.Trees.{tree, is_long}
use Rattle.model.specs.Store.{width, size}
use Rattle.ranges.specs.Sizes.{grain_most}
use Rattle.ranges.specs.Jobs.{Limits}

pub record Ready (g : ℤ) (ms l : List ℤ) (e m : ℕ) : Type 0 where
  pub limits : Limits l
  pub within : e < 64
  pub grain_size : nat_abs g ≤ grain_most
  pub short : is_long (tree g (edge_at ms l e)) ≡ false
  pub fits : width * size (tree g (edge_at ms l e)) ≤ m
