-- The sizes that the numbers of a strip are kept within. They are crude, a power of two above what the bounds on the power form give at once,
-- and still small enough that no step of a search leaves 64 bits: with |w| ≤ 2^30, |axis| ≤ 2^29 and box ≤ 2^27 the cross product stays
-- below 2^61, p² + q² below 2^60 and the sum of squares of the inside test below 2^63. Assumes nothing.
use Rattle.std.specs.Prelude.{List, [], ◌∷◌, ℕ, ◌≤◌, T, ℤ, nat_abs}
use Rattle.std.specs.Int.Signed.{non_neg}
use Rattle.model.specs.Jobs.{Component, cubic, line}
use Rattle.model.specs.Strips.{Side, Strip}
use Rattle.model.specs.Trees.{Tree, leaf, long, node}
use Rattle.model.specs.Boxes.{Span, Box}

-- ---- the control numbers and the ends of an edge are coordinates
abbrev pub control_most : ℕ
control_most = 1000000

pub record CubicSized (b0 b1 b2 b3 : ℤ) : Type 0 where
  pub b0_size : nat_abs b0 ≤ control_most
  pub b1_size : nat_abs b1 ≤ control_most
  pub b2_size : nat_abs b2 ≤ control_most
  pub b3_size : nat_abs b3 ≤ control_most

pub record LineSized (a b : ℤ) : Type 0 where
  pub a_size : nat_abs a ≤ control_most
  pub b_size : nat_abs b ≤ control_most

abbrev pub ControlSized : Component → Type 0
ControlSized (cubic b0 b1 b2 b3) = CubicSized b0 b1 b2 b3
ControlSized (line a b) = LineSized a b

-- ---- a grain
abbrev pub grain_most : ℕ
grain_most = 100000

-- ---- a strip, and every strip of a tree
pub record SideSized (s : Side) : Type 0 where
  pub centre_size : nat_abs s.centre ≤ 536870912
  pub axis_size : nat_abs s.axis ≤ 536870912
  pub box_size : nat_abs s.box ≤ 134217728
  pub box_above : T (non_neg s.box)

pub record Sized (S : Strip) : Type 0 where
  pub x_sized : SideSized S.x
  pub y_sized : SideSized S.y

abbrev pub AllSized : Tree → Type 0
AllSized (leaf s) = Sized s
AllSized (long s) = Sized s
AllSized (node s l r) = Sized s × AllSized l × AllSized r

abbrev pub EachSized : List Tree → Type 0
EachSized [] = Unit {0}
EachSized (t ∷ ts) = AllSized t × EachSized ts

-- ---- an upright box: centre, axis and box together come to 2^29 + 2^29 + 2^27
abbrev pub span_most : ℕ
span_most = 1207959552

pub record SpanSized (s : Span) : Type 0 where
  pub least_size : nat_abs s.least ≤ span_most
  pub greatest_size : nat_abs s.greatest ≤ span_most

pub record BoxSized (b : Box) : Type 0 where
  pub x_sized : SpanSized b.x
  pub y_sized : SpanSized b.y
