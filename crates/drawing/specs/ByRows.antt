-- What drawing by rows asks for, and what a tree and several leave of a cell. Assumes nothing.
use Rattle.std.specs.Prelude.{cond, List, [], ◌∷◌, ℕ, ◌*◌, ◌≤◌, max, ltb, ℤ, length}
use Rattle.model.specs.Trees.{Tree, deepest}
use Rattle.model.specs.Explore.{Answer, explore, explore_all}
use Rattle.subtrees.specs.At.{At}
use Rattle.open_edges.specs.Starts.{Starts}
use Rattle.columns.specs.declared.Frame.{Frame}
use Rattle.columns.specs.Limits.{FrameSized}
use Rattle.rows.specs.Weights.{weight}
use Rattle.rows.specs.Waiting.{depth}
use Rattle.levels.specs.declared.Levels.{Levels}
use Rattle.levels.specs.Open.{Fits}
use Rattle.rows.specs.Levels.{AllOpen}
use Rattle.drawing.specs.Letters.{asked}

-- ---- trees that are no deeper than the walk by rows has levels for
abbrev pub Shallow : Tree → Type 0
Shallow t = depth t ≤ deepest

abbrev pub EachShallow : List Tree → Type 0
EachShallow [] = Unit {0}
EachShallow (t ∷ ts) = Shallow t × EachShallow ts

pub record ShallowAt (store : List ℤ) (a : ℕ) : Type 0 where
  pub tree : Tree
  pub at : At store a tree
  pub shallow : Shallow tree

-- these places are where such trees start
pub record ShallowTrees (store : List ℤ) (places : List ℕ) : Type 0 where
  pub trees : List Tree
  pub starts : Starts store places trees
  pub shallow : EachShallow trees

-- ---- the n rows of a map, all of whose columns are open at level 0
pub record RowsOpen (f : Frame) (map : List ℕ) (levels : Levels) : Type 0 where
  pub frame_sized : FrameSized f
  pub room : f.n * f.n ≤ length map
  pub fits : Fits f.n levels
  pub all_open : AllOpen f.n f.n levels

-- ---- a cell of these rows is raised to what is answered for it, and any other stays as it was
abbrev pub raised_to : Frame → (ℕ → ℕ → Answer) → ℕ → ℕ → ℕ → ℕ
raised_to f a i j x = cond (ltb j f.n) (max x (weight (a i j))) x

abbrev pub tree_says : Frame → Tree → ℕ → ℕ → Answer
tree_says f t i j = explore (asked f i j 1) t

abbrev pub trees_say : Frame → List Tree → ℕ → ℕ → Answer
trees_say f ts i j = explore_all (asked f i j 1) ts
