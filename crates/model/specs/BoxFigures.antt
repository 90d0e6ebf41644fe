-- Figures of boxes and of the lookup: each end of a box, a point on either side of it, and what is skipped, taken and named where two are alike.
-- Everything is computed. Assumes nothing.
use Rattle.std.specs.Prelude.{◌≡◌, refl, Bool, true, false, List, [], ◌∷◌, ℕ, ℤ, pos, negsuc}
use Rattle.basics.specs.Numbers.{absℤ}
use Rattle.model.specs.declared.Job.{Job}
use Rattle.model.specs.Jobs.{is_zero, edges_from, outline}
use Rattle.model.specs.Strips.{Side, Strip, curved, straight, side_at, strip}
use Rattle.model.specs.Trees.{Tree, leaf, long, node, pieces, tree}
use Rattle.model.specs.Boxes.{Span, Box, span_of, around, box_of}
use Rattle.model.specs.Store.{forest}
use Rattle.model.specs.Explore.{Cell}
use Rattle.model.specs.Distance.{near, far, near², far²}
use Rattle.model.specs.Lookup.{State, skipped, visit, visit_all, lookup}
use Rattle.model.specs.FigureTables.{AllHold, ◌and◌, side, mixed_job}

pub data Figure : Type 0 where
  -- a strip's span in one coordinate
  span_of_is : Side → Span → Figure
  -- the box around two, and around the leaves of a tree
  around_of : Box → Box → Box → Figure
  box_of_is : Tree → Box → Figure
  -- how near and how far a point is in one coordinate, and squared
  ranges : ℤ → Span → ℤ → ℤ → Figure
  ranges² : Cell → Box → ℤ → ℤ → Figure
  -- whether a box is skipped from this hi on
  skips : ℤ → Cell → Box → Bool → Figure
  -- what a lookup over a job's trees gives
  looked_up : Job → ℤ → ℤ → State → Figure
  -- and over these trees
  looked_over : List Tree → ℤ → ℤ → State → Figure

-- ---- shorthands
abbrev pub span : ℤ → ℤ → Span
span a b = record { least = a; greatest = b }

abbrev pub box : ℤ → ℤ → ℤ → ℤ → Box
box a b c d = record { x = span a c; y = span b d }

abbrev pub point : ℤ → ℤ → Cell
point x y = record { cx = x; cy = y; s = pos 0 }

-- lo, hi, edge and reads
abbrev pub found : ℤ → ℤ → ℕ → ℕ → State
found l h e n = record { lo = l; hi = h; edge = e; reads = n }

-- a strip at (x, y) that reaches p to either side in x, q in y
abbrev pub strip_at : ℤ → ℤ → ℤ → ℤ → Strip
strip_at x y p q = record { x = side x p (pos 0); y = side y (pos 0) q }

-- a plate of one cell at grain 4, with lines
abbrev pub ruled : ℕ → List ℤ → List ℤ → Job
ruled n vs ms = mixed_job (pos 0) (pos 0) (pos 0) (pos 0) (pos 1) (pos 4) n vs ms

abbrev pub Holds : Figure → Type 0
Holds (span_of_is s b) = span_of s ≡ b
Holds (around_of a b c) = around a b ≡ c
Holds (box_of_is t b) = box_of t ≡ b
Holds (ranges c b n f) = (near c b ≡ n) × (far c b ≡ f)
Holds (ranges² p b n f) = (near² p b ≡ n) × (far² p b ≡ f)
Holds (skips h p b t) = skipped p b (found (pos 0) h 0 0) ≡ t
Holds (looked_up j x y st) = lookup (forest j) x y ≡ st
Holds (looked_over ts x y st) = lookup ts x y ≡ st

-- ---- the table
abbrev pub box_figures : List Figure
box_figures =
    -- an axis of either sign, with a box and without
    span_of_is (side (pos 10) (pos 4) (pos 3)) (span (pos 3) (pos 17))
    ∷ span_of_is (side (pos 10) (negsuc 3) (pos 3)) (span (pos 3) (pos 17))
    ∷ span_of_is (side (negsuc 9) (pos 0) (pos 3)) (span (negsuc 12) (negsuc 6))
    -- each of the four ends is the first box's, and then the second's
    ∷ around_of (box (pos 1) (pos 2) (pos 9) (pos 8)) (box (pos 3) (pos 4) (pos 5) (pos 6)) (box (pos 1) (pos 2) (pos 9) (pos 8))
    ∷ around_of (box (pos 3) (pos 4) (pos 5) (pos 6)) (box (pos 1) (pos 2) (pos 9) (pos 8)) (box (pos 1) (pos 2) (pos 9) (pos 8))
    ∷ around_of (box (negsuc 2) (pos 4) (pos 5) (pos 9)) (box (pos 1) (negsuc 6) (pos 7) (pos 8)) (box (negsuc 2) (negsuc 6) (pos 7) (pos 9))
    -- the strips above the leaves do not count, whether they reach farther or not so far; a long end counts as a leaf
    ∷ box_of_is (node (strip_at (pos 0) (pos 0) (pos 99) (pos 99)) (leaf (strip_at (pos 1) (pos 2) (pos 3) (pos 4))) (long (strip_at (pos 5) (pos 6) (pos 1) (pos 2)))) (box (negsuc 1) (negsuc 1) (pos 6) (pos 8))
    ∷ box_of_is (node (strip_at (pos 0) (pos 0) (pos 0) (pos 0)) (node (strip_at (pos 0) (pos 0) (pos 50) (pos 0)) (leaf (strip_at (pos 7) (pos 7) (pos 1) (pos 1))) (leaf (strip_at (pos 9) (pos 5) (pos 1) (pos 1)))) (leaf (strip_at (pos 8) (pos 8) (pos 0) (pos 3))))
    (box (pos 6) (pos 4) (pos 10) (pos 11))
    -- before a span, at its ends, within it, in its middle and past it
    ∷ ranges (pos 1) (span (pos 4) (pos 10)) (pos 3) (pos 9)
    ∷ ranges (pos 4) (span (pos 4) (pos 10)) (pos 0) (pos 6)
    ∷ ranges (pos 5) (span (pos 4) (pos 10)) (pos 0) (pos 5)
    ∷ ranges (pos 7) (span (pos 4) (pos 10)) (pos 0) (pos 3)
    ∷ ranges (pos 10) (span (pos 4) (pos 10)) (pos 0) (pos 6)
    ∷ ranges (pos 12) (span (pos 4) (pos 10)) (pos 2) (pos 8)
    ∷ ranges (negsuc 4) (span (negsuc 2) (pos 1)) (pos 2) (pos 6)
    -- x and y each have their own
    ∷ ranges² (point (pos 1) (pos 30)) (box (pos 4) (pos 5) (pos 10) (pos 26)) (pos 25) (pos 706)
    ∷ ranges² (point (pos 30) (pos 1)) (box (pos 4) (pos 5) (pos 10) (pos 26)) (pos 416) (pos 1301)
    -- a box at 5: hi just above, the same and just below
    ∷ skips (pos 26) (point (pos 1) (pos 30)) (box (pos 4) (pos 5) (pos 10) (pos 26)) false
    ∷ skips (pos 25) (point (pos 1) (pos 30)) (box (pos 4) (pos 5) (pos 10) (pos 26)) true
    ∷ skips (pos 24) (point (pos 1) (pos 30)) (box (pos 4) (pos 5) (pos 10) (pos 26)) true
    -- a dot at (10, 0), then a line from (−10, −5) up, of three nodes: asked at (0, 0) its box is exactly as near as hi, and it is skipped
    ∷ looked_up (ruled 2 (pos 10 ∷ pos 0 ∷ pos 10 ∷ pos 0 ∷ pos 0 ∷ pos 0 ∷ pos 0 ∷ pos 0 ∷ negsuc 9 ∷ negsuc 4 ∷ negsuc 9 ∷ pos 5 ∷ []) (pos 1 ∷ pos 1 ∷ [])) (pos 0) (pos 0) (found (pos 25600) (pos 25600) 0 2)
    -- asked a little to the left the line is nearer: its halves are read, the first names the edge and the second is as near
    ∷ looked_up (ruled 2 (pos 10 ∷ pos 0 ∷ pos 10 ∷ pos 0 ∷ pos 0 ∷ pos 0 ∷ pos 0 ∷ pos 0 ∷ negsuc 9 ∷ negsuc 4 ∷ negsuc 9 ∷ pos 5 ∷ []) (pos 1 ∷ pos 1 ∷ [])) (negsuc 1) (pos 0) (found (pos 16384) (pos 22784) 1 4)
    -- two dots that are as near: the first is named
    ∷ looked_up (ruled 2 (pos 10 ∷ pos 0 ∷ pos 10 ∷ pos 0 ∷ pos 0 ∷ pos 0 ∷ pos 0 ∷ pos 0 ∷ negsuc 9 ∷ pos 0 ∷ negsuc 9 ∷ pos 0 ∷ []) (pos 1 ∷ pos 1 ∷ [])) (pos 0) (pos 0) (found (pos 25600) (pos 25600) 0 2)
    -- what one edge has found is handed on: the third is skipped for the second's hi
    ∷ looked_up (ruled 3 (pos 30 ∷ pos 0 ∷ pos 30 ∷ pos 0 ∷ pos 0 ∷ pos 0 ∷ pos 0 ∷ pos 0 ∷ pos 10 ∷ pos 0 ∷ pos 10 ∷ pos 0 ∷ pos 0 ∷ pos 0 ∷ pos 0 ∷ pos 0 ∷ negsuc 19 ∷ negsuc 4 ∷ negsuc 19 ∷ pos 5 ∷ []) (pos 1 ∷ pos 1 ∷ pos 1 ∷ [])) (pos 0) (pos 0) (found (pos 25600) (pos 25600) 1 3)
    -- no edge at all: what a lookup starts from
    ∷ looked_over [] (pos 0) (pos 0) (found (pos 4611686018427387904) (pos 4611686018427387904) 0 0)
    -- a dot as far as two coordinates may be apart, both ways
    ∷ looked_up (ruled 1 (negsuc 999999 ∷ negsuc 999999 ∷ negsuc 999999 ∷ negsuc 999999 ∷ []) (pos 1 ∷ [])) (pos 1000000) (pos 1000000) (found (pos 2048000000000000) (pos 2048000000000000) 0 1)
    -- a line at the point, a dot that is nearer than its far end and is named, and a line at the point whose far end is as far as the dot and is not
    ∷ looked_up (ruled 3 (pos 0 ∷ pos 0 ∷ negsuc 7 ∷ pos 0 ∷ pos 0 ∷ pos 0 ∷ pos 0 ∷ pos 0 ∷ pos 5 ∷ pos 0 ∷ pos 5 ∷ pos 0 ∷ pos 0 ∷ pos 0 ∷ pos 0 ∷ pos 0 ∷ pos 0 ∷ pos 0 ∷ pos 0 ∷ pos 5 ∷ []) (pos 1 ∷ pos 1 ∷ pos 1 ∷ [])) (pos 0) (pos 0) (found (pos 0) (pos 6400) 1 3)
    -- a node is skipped by its leaves' box where its own strip reaches nearer, and read where only its right half is near
    ∷ looked_up (mixed_job (pos 0) (pos 0) (pos 0) (pos 0) (pos 1) (pos 7) 3 (negsuc 6 ∷ pos 0 ∷ negsuc 6 ∷ pos 0 ∷ pos 0 ∷ pos 0 ∷ pos 0 ∷ pos 0 ∷ pos 0 ∷ pos 0 ∷ pos 0 ∷ pos 4 ∷ pos 4 ∷ pos 8 ∷ pos 12 ∷ pos 12 ∷ negsuc 3 ∷ pos 20 ∷ negsuc 3 ∷ pos 1 ∷ []) (pos 1 ∷ pos 0 ∷ pos 1 ∷ [])) (negsuc 3) (pos 0) (found (pos 256) (pos 2304) 0 5)
    -- long ends are read, skipped, taken and named as leaves are
    ∷ looked_over (leaf (strip_at (pos 100) (pos 0) (pos 0) (pos 0)) ∷ long (strip_at (pos 50) (pos 0) (pos 3) (pos 4)) ∷ node (strip_at (pos 0) (pos 0) (pos 0) (pos 0)) (long (strip_at (negsuc 59) (pos 0) (pos 1) (pos 1))) (long (strip_at (negsuc 39) (pos 0) (pos 2) (pos 3))) ∷ []) (pos 0) (pos 0) (found (pos 1444) (pos 1773) 2 5)
    ∷ []

pub boxes_hold : AllHold Holds box_figures
unfolding curved straight side_at tree pieces strip absℤ forest outline edges_from is_zero visit visit_all
boxes_hold =
    refl and refl and refl and refl and refl and refl and refl and refl
    and (refl, refl) and (refl, refl) and (refl, refl) and (refl, refl) and (refl, refl) and (refl, refl) and (refl, refl) and (refl, refl) and (refl, refl)
    and refl and refl and refl and refl and refl and refl and refl and refl and refl and refl and refl and refl
    and tt
