-- A point in fine units, and how near and how far it is in one coordinate. Assumes nothing.
use Rattle.std.specs.Prelude.{◌≡◌, ◌≤◌, ℤ, pos, nat_abs}
use Rattle.model.specs.Boxes.{Span}
use Rattle.model.specs.Explore.{Cell}
use Rattle.model.specs.Distance.{near, far}
use Rattle.boxes.specs.declared.Range.{Range}

abbrev pub point_at : ℤ → ℤ → Cell
point_at x y = record { cx = x; cy = y; s = pos 0 }

-- in one coordinate, of the point c and a box
pub record RangeOf (c : ℤ) (b : Span) (r : Range) : Type 0 where
  pub near_is : r.near ≡ near c b
  pub far_is : r.far ≡ far c b
  pub near_size : nat_abs r.near ≤ 1223959552
  pub far_size : nat_abs r.far ≤ 1223959552
