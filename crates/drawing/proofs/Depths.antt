-- No tree of a job is deeper than an edge may be halved. Assumes nothing.
use mathlib.Core.Bool.{Bool, true, false}
use mathlib.Core.List.{List, [], ◌∷◌}
use Prim.Native.Nat.{ℕ, zero, suc, ◌+◌, ◌*◌, ◌≤◌}
use native.Mathlib.Omega.{arith}
use lib.IntN.{ℤ}
use Rattle.model.specs.declared.Job.{Job}
use Rattle.model.specs.Jobs.{Edge, outline}
use Rattle.model.specs.Strips.{Strip, strip, short}
use Rattle.model.specs.Trees.{Tree, leaf, long, node, pieces, deepest, tree, trees}
use Rattle.model.specs.Store.{forest}
use Rattle.rows.specs.Waiting.{depth}
use Rattle.drawing.specs.ByRows.{EachShallow}

pieces_depth : (T : ℤ) (s : ℕ → ℕ → Strip) (left d k : ℕ) → depth (pieces T s left d k) ≤ left
unfolding pieces
pieces_depth T s zero d k = go (short T (s d k))
  where
    go : (b : Bool) → depth (elim b [ true ↦ leaf (s d k) | false ↦ long (s d k) ]) ≤ 0
    go true = omega arith
    go false = omega arith
pieces_depth T s (suc left) d k = go (short T (s d k)) (pieces T s left (d + 1) (2 * k)) (pieces T s left (d + 1) (2 * k + 1)) (pieces_depth T s left (d + 1) (2 * k)) (pieces_depth T s left (d + 1) (2 * k + 1))
  where
    go : (b : Bool) (l r : Tree) → depth l ≤ left → depth r ≤ left → depth (elim b [ true ↦ leaf (s d k) | false ↦ node (s d k) l r ]) ≤ suc left
    go true l r g h = omega arith
    go false l r g h = omega arith

trees_shallow : (T : ℤ) (es : List Edge) → EachShallow (trees T es)
unfolding tree
trees_shallow T [] = tt
trees_shallow T (e ∷ es) = (pieces_depth T (strip e) deepest 0 0, trees_shallow T es)

pub forest_shallow : (j : Job) → EachShallow (forest j)
unfolding forest
forest_shallow j = trees_shallow j.grain (outline j)
