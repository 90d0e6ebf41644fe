-- Trees in a store, by the places where they start. Assumes nothing.
use Rattle.std.specs.Prelude.{◌≡◌, List, [], ◌∷◌, ℕ, ◌≤◌, ℤ, take}
use Rattle.model.specs.Strips.{Strip}
use Rattle.model.specs.Trees.{Tree}
use Rattle.model.specs.Explore.{Answer, inside, explore_all}
use Rattle.subtrees.specs.At.{At}
use Rattle.inheritance.specs.Edges.{opened}

pub record TreeAt (store : List ℤ) (a : ℕ) : Type 0 where
  pub tree : Tree
  pub at : At store a tree

-- the places' trees, in order
pub data Starts (store : List ℤ) : List ℕ → List Tree → Type 0 where
  none : Starts store [] []
  more : {a : ℕ} {t : Tree} {ps : List ℕ} {ts : List Tree} → At store a t → Starts store ps ts → Starts store (a ∷ ps) (t ∷ ts)

pub record Forest (store : List ℤ) (ps : List ℕ) : Type 0 where
  pub trees : List Tree
  pub starts : Starts store ps trees

-- ---- what the trees at places ps tell, judged by v
-- they are inside
pub record AllInside (v : Strip → Answer) (store : List ℤ) (ps : List ℕ) : Type 0 where
  pub is_inside : (ts : List Tree) → Starts store ps ts → explore_all v ts ≡ inside

-- they are not, and the first `kept` of `keep`, at most `count`, are the places of those that are not away
pub record StillOpen (v : Strip → Answer) (store : List ℤ) (ps : List ℕ) (count kept : ℕ) (keep : List ℕ) : Type 0 where
  pub fewer : kept ≤ count
  pub not_inside : (ts : List Tree) → Starts store ps ts → explore_all v ts ≡ inside → ⊥
  pub still : (ts : List Tree) → Starts store ps ts → Starts store (take kept keep) (opened v ts)
