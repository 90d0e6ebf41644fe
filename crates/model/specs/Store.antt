-- RULES, "Store": a job's trees as numbers, eleven a node, in preorder. Assumes nothing.
use Rattle.std.specs.Prelude.{Bool, true, false, ◌&&◌, List, [], ◌∷◌, ◌++◌, ℕ, suc, ◌+◌, ℤ, pos}
use Rattle.model.specs.declared.Job.{Job}
use Rattle.model.specs.Jobs.{outline}
use Rattle.model.specs.Sheets.{same}
use Rattle.model.specs.Strips.{Strip}
use Rattle.model.specs.Trees.{Tree, leaf, long, node, trees}
use Rattle.model.specs.Boxes.{Box, upright, around, box_of}

-- the numbers of a node
abbrev pub width : ℕ
width = 11

-- ---- the nodes of a tree, itself included, and of several
abbrev pub size : Tree → ℕ
size (leaf s) = 1
size (long s) = 1
size (node s l r) = suc (size l + size r)

abbrev pub sizes : List Tree → ℕ
sizes [] = 0
sizes (t ∷ ts) = size t + sizes ts

-- ---- the numbers of a node with n nodes in its subtree and b around its leaves, and then the rest
abbrev pub numbers : Strip → ℕ → Box → List ℤ → List ℤ
numbers s n b rest =
    s.x.centre ∷ s.y.centre ∷ s.x.axis ∷ s.y.axis ∷ s.x.box ∷ s.y.box ∷ pos n
    ∷ b.x.least ∷ b.y.least ∷ b.x.greatest ∷ b.y.greatest
    ∷ rest

-- a node, then its left half's subtree, then its right half's
abbrev pub flatten : Tree → List ℤ
flatten (leaf s) = numbers s 1 (upright s) []
flatten (long s) = numbers s 1 (upright s) []
flatten (node s l r) = numbers s (suc (size l + size r)) (around (box_of l) (box_of r)) (flatten l ++ flatten r)

-- one tree after the other
abbrev pub flatten_all : List Tree → List ℤ
flatten_all [] = []
flatten_all (t ∷ ts) = flatten t ++ flatten_all ts

-- ---- of a job
unfoldable pub forest : Job → List Tree
forest j = trees j.grain (outline j)

abbrev pub nodes_of : Job → ℕ
nodes_of j = sizes (forest j)

abbrev pub store_of : Job → List ℤ
store_of j = flatten_all (forest j)

-- refusal 8: a store whose first numbers are not these
unfoldable pub begins : List ℤ → List ℤ → Bool
begins s [] = true
begins [] (n ∷ ns) = false
begins (z ∷ s) (n ∷ ns) = same z n && begins s ns
