-- What the open trees, at the places of list, tell of a block. Assumes nothing.
use Rattle.std.specs.Prelude.{◌≡◌, List, ℕ, ℤ, length}
use Rattle.model.specs.Trees.{Tree}
use Rattle.inheritance.specs.Edges.{EachInherits}
use Rattle.open_edges.specs.Starts.{Starts, StillOpen}
use Rattle.filling.specs.Squares.{In}
use Rattle.columns.specs.declared.Frame.{Frame}
use Rattle.drawing.specs.Letters.{way_of, asked, own_letter}
use Rattle.drawing.specs.declared.Block.{Block}
use Rattle.drawing.specs.declared.Told.{Told}
use Rattle.drawing.specs.declared.Told.TheVariants.{Settled, Open}

-- the letter of each of its cells; or that it is not a smallest cell, and the places of the trees that are not away are the first `kept` of keep
abbrev pub Tells : List ℤ → List ℕ → List ℕ → Frame → Block → Told → Type 0
Tells store list keep f b (Settled letter) = (ts : List Tree) → Starts store list ts → EachInherits (way_of f) ts → (i j : ℕ) → In b.c b.r b.w i j → letter ≡ own_letter f ts i j
Tells store list keep f b (Open kept) = (b.w ≡ 1 → ⊥) × StillOpen (asked f b.c b.r b.w) store list (length list) kept keep
