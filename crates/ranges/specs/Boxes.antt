-- The box around the leaves of a tree whose strips are sized is sized. Assumes nothing.
use Rattle.std.specs.Prelude.{Bool, true, false, cond, ℕ, ◌≤◌, ℤ, nat_abs, neg_ℤ, ◌+ℤ◌}
use Rattle.std.proofs.Common.{arith}
use Rattle.std.specs.Int.Signed.{lt_z}
use Rattle.integers.specs.Absolute.{absℤ, abs_size}
use Rattle.integers.specs.Signed.{nat_abs_neg, nat_abs_add}
use Rattle.model.specs.Strips.{Side, Strip}
use Rattle.model.specs.Trees.{Tree, leaf, long, node}
use Rattle.model.specs.Boxes.{Span, Box, span_of, upright, spanning, around, box_of}
use Rattle.ranges.specs.Sizes.{SideSized, Sized, AllSized, SpanSized, BoxSized}

-- ---- of a strip
reach_sized : (s : Side) → SideSized s → nat_abs (absℤ s.axis +ℤ s.box) ≤ 671088640
reach_sized s h = omega (arith, nat_abs_add (absℤ s.axis) s.box, abs_size s.axis, h.axis_size, h.box_size)

span_sized : (s : Side) → SideSized s → SpanSized (span_of s)
span_sized s h =
    let r = absℤ s.axis +ℤ s.box in
    record {
      least_size = omega (arith, nat_abs_add s.centre (neg_ℤ r), nat_abs_neg r, h.centre_size, reach_sized s h);
      greatest_size = omega (arith, nat_abs_add s.centre r, h.centre_size, reach_sized s h);
    }

upright_sized : (S : Strip) → Sized S → BoxSized (upright S)
upright_sized S h = record { x_sized = span_sized S.x h.x_sized; y_sized = span_sized S.y h.y_sized }

-- ---- around two
pub one_of : {M : ℕ} (b : Bool) (y z : ℤ) → nat_abs y ≤ M → nat_abs z ≤ M → nat_abs (cond b y z) ≤ M
one_of true y z h k = h
one_of false y z h k = k

spanning_sized : (a b : Span) → SpanSized a → SpanSized b → SpanSized (spanning a b)
spanning_sized a b h k = record {
  least_size = one_of (lt_z b.least a.least) b.least a.least k.least_size h.least_size;
  greatest_size = one_of (lt_z a.greatest b.greatest) b.greatest a.greatest k.greatest_size h.greatest_size;
}

around_sized : (a b : Box) → BoxSized a → BoxSized b → BoxSized (around a b)
around_sized a b h k = record { x_sized = spanning_sized a.x b.x h.x_sized k.x_sized; y_sized = spanning_sized a.y b.y h.y_sized k.y_sized }

-- ---- around a tree's leaves
pub box_sized : (t : Tree) → AllSized t → BoxSized (box_of t)
box_sized (leaf s) f = upright_sized s f
box_sized (long s) f = upright_sized s f
box_sized (node s l r) f = around_sized (box_of l) (box_of r) (box_sized l f.1) (box_sized r f.2)
