-- RULES, "Boxes": the upright box of a strip, and the box around the leaves of a tree. Assumes nothing.
use Rattle.std.specs.Prelude.{cond, ℤ, ◌+ℤ◌, ◌-ℤ◌}
use Rattle.std.specs.Int.Signed.{lt_z}
use Rattle.basics.specs.Numbers.{absℤ}
use Rattle.model.specs.Strips.{Side, Strip}
use Rattle.model.specs.Trees.{Tree, leaf, long, node}

-- all from the least to the greatest in one coordinate, in fine units
pub record Span : Type 0 where
  pub least : ℤ
  pub greatest : ℤ

pub record Box : Type 0 where
  pub x : Span
  pub y : Span

-- ---- of a strip: as far to either side of the centre as axis and box reach together
abbrev pub span_of : Side → Span
span_of s = record { least = s.centre -ℤ (absℤ s.axis +ℤ s.box); greatest = s.centre +ℤ (absℤ s.axis +ℤ s.box) }

abbrev pub upright : Strip → Box
upright s = record { x = span_of s.x; y = span_of s.y }

-- ---- around two: the least of both, and the greatest
abbrev pub lesser : ℤ → ℤ → ℤ
lesser a b = cond (lt_z b a) b a

abbrev pub greater : ℤ → ℤ → ℤ
greater a b = cond (lt_z a b) b a

abbrev pub spanning : Span → Span → Span
spanning a b = record { least = lesser a.least b.least; greatest = greater a.greatest b.greatest }

abbrev pub around : Box → Box → Box
around a b = record { x = spanning a.x b.x; y = spanning a.y b.y }

-- ---- of a tree: around its leaves, and no larger (`BoxSmallest`). The strips above them do not count, for a half may stick out of its whole
abbrev pub box_of : Tree → Box
box_of (leaf s) = upright s
box_of (long s) = upright s
box_of (node s l r) = around (box_of l) (box_of r)
