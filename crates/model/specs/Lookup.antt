-- RULES, "Lookup": the nodes that a lookup of a point reads, and what it has found after each. Assumes nothing.
use Rattle.std.specs.Prelude.{Bool, cond, List, [], ◌∷◌, ℕ, suc, ◌^◌, ℤ, pos}
use Rattle.std.specs.Int.Signed.{le_z, lt_z}
use Rattle.model.specs.Trees.{Tree, leaf, long, node}
use Rattle.model.specs.Boxes.{Box, upright, lesser, around, box_of}
use Rattle.model.specs.Explore.{Cell}
use Rattle.model.specs.Distance.{spot, near², far²}

-- ---- the bounds so far, the first edge that attains hi, and how many nodes were read
pub record State : Type 0 where
  pub lo : ℤ
  pub hi : ℤ
  pub edge : ℕ
  pub reads : ℕ

-- before the first leaf there are no bounds. A number stands for them that is above the least bounds of every tree of a legal job, for a point in
-- range (`least_below`)
abbrev pub none : ℤ
none = pos (2 ^ 62)

abbrev pub start : State
start = record { lo = none; hi = none; edge = 0; reads = 0 }

-- ---- one node
abbrev pub looked : State → State
looked st = record { lo = st.lo; hi = st.hi; edge = st.edge; reads = suc st.reads }

-- a node is skipped, and all below it, where its box is no nearer than hi
abbrev pub skipped : Cell → Box → State → Bool
skipped p b st = le_z st.hi (near² p b)

-- the bounds of a leaf of edge e with those so far
abbrev pub taken : Cell → ℕ → Box → State → State
taken p e b st = record { lo = lesser st.lo (near² p b); hi = lesser st.hi (far² p b); edge = cond (lt_z (far² p b) st.hi) e st.edge; reads = st.reads }

-- ---- the nodes of a tree of edge e, in the store's order, and of several edges' trees
unfoldable pub visit : Cell → ℕ → Tree → State → State
visit p e (leaf s) st = cond (skipped p (upright s) st) (looked st) (taken p e (upright s) (looked st))
visit p e (long s) st = cond (skipped p (upright s) st) (looked st) (taken p e (upright s) (looked st))
visit p e (node s l r) st = cond (skipped p (around (box_of l) (box_of r)) st) (looked st) (visit p e r (visit p e l (looked st)))

unfoldable pub visit_all : Cell → ℕ → List Tree → State → State
visit_all p e [] st = st
visit_all p e (t ∷ ts) st = visit_all p (suc e) ts (visit p e t st)

-- ---- of the point (x, y)
abbrev pub lookup : List Tree → ℤ → ℤ → State
lookup ts x y = visit_all (spot x y) 0 ts start
