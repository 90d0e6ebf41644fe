-- What drawing asks for: a block of a frame, a store with the open trees. Assumes nothing.
use Rattle.std.specs.Prelude.{◌≡◌, List, ℕ, ◌+◌, ◌^◌, ◌≤◌, ℤ, length}
use Rattle.model.specs.declared.Job.{Job}
use Rattle.model.specs.Jobs.{judge}
use Rattle.model.specs.Store.{forest}
use Rattle.model.specs.Plates.{cells_of}
use Rattle.ranges.specs.Sizes.{EachSized}
use Rattle.subtrees.specs.Preorder.{BeginsAll}
use Rattle.open_edges.specs.Starts.{Forest}
use Rattle.columns.specs.declared.Frame.{Frame}
use Rattle.columns.specs.Limits.{FrameSized}
use Rattle.drawing.specs.declared.Block.{Block}

pub record PowerOfTwo (w : ℕ) : Type 0 where
  pub level : ℕ
  pub is : w ≡ 2 ^ level

-- a block of the frame, and the places of the open trees
pub record Ready (store : List ℤ) (list : List ℕ) (f : Frame) (b : Block) : Type 0 where
  pub few : length list ≤ 64
  pub trees : Forest store list
  pub frame_sized : FrameSized f
  pub power : PowerOfTwo b.w
  pub columns_fit : b.c + b.w ≤ f.n
  pub rows_fit : b.r + b.w ≤ f.n

-- a legal job with its trees at the front of the store and room for its map
pub record MapReady (j : Job) (cells : List ℕ) (store : List ℤ) : Type 0 where
  pub accepted : judge j ≡ 0
  pub begins : BeginsAll (forest j) store
  pub sized : EachSized (forest j)
  pub room : cells_of j ≤ length cells
