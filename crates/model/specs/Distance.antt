-- RULES, "Distance": the bounds of a point's squared distance, in fine units, and the edge that is named. Assumes nothing.
use Rattle.std.specs.Prelude.{◌≡◌, cond, List, [], ◌∷◌, ◌++◌, ◌⊎◌, ℕ, zero, suc, ℤ, pos, ◌-ℤ◌, ◌*ℤ◌}
use Rattle.model.specs.Sheets.{same}
use Rattle.model.specs.Strips.{Strip}
use Rattle.model.specs.Trees.{Tree, leaf, long, node}
use Rattle.model.specs.Boxes.{Span, Box, lesser, greater}
use Rattle.model.specs.Explore.{Cell, at_least0, squares, farthest², closest²}

-- a point as the cell of half side 0 in fine units
abbrev pub spot : ℤ → ℤ → Cell
spot x y = record { cx = pos 16 *ℤ x; cy = pos 16 *ℤ y; s = pos 0 }

-- ---- the strips of the leaves, in the store's order
unfoldable pub leaves : Tree → List Strip
leaves (leaf s) = s ∷ []
leaves (long s) = s ∷ []
leaves (node s l r) = leaves l ++ leaves r

unfoldable pub leaves_all : List Tree → List Strip
leaves_all [] = []
leaves_all (t ∷ ts) = leaves t ++ leaves_all ts

-- ---- the least value of f; a list that is empty has none, and gives 0
unfoldable pub least : (Strip → ℤ) → List Strip → ℤ
least f [] = pos 0
least f (s ∷ []) = f s
least f (s ∷ t ∷ ss) = lesser (f s) (least f (t ∷ ss))

-- ---- the bounds: the least over the leaves of the least distance to the upright box, and of the greatest
abbrev pub lo : List Tree → ℤ → ℤ → ℤ
lo ts x y = least (closest² (spot x y)) (leaves_all ts)

abbrev pub hi : List Tree → ℤ → ℤ → ℤ
hi ts x y = least (farthest² (spot x y)) (leaves_all ts)

-- ---- the edge named: counted from 0, the first of the trees whose own least value is the upper bound; where there is no tree, 0
unfoldable pub first_at : (Strip → ℤ) → ℤ → List Tree → ℕ
first_at f z [] = 0
first_at f z (t ∷ ts) = cond (same (least f (leaves t)) z) 0 (suc (first_at f z ts))

abbrev pub named : List Tree → ℤ → ℤ → ℕ
named ts x y = first_at (farthest² (spot x y)) (hi ts x y) ts

-- ---- the edges of which some leaf attains the upper bound; that the edge named is the first of them is a promise
unfoldable pub leaves_at : List Tree → ℕ → List Strip
leaves_at [] e = []
leaves_at (t ∷ ts) zero = leaves t
leaves_at (t ∷ ts) (suc e) = leaves_at ts e

abbrev pub Some : (Strip → Type 0) → List Strip → Type 0
Some P [] = ⊥
Some P (s ∷ ss) = P s ⊎ Some P ss

abbrev pub Attains : List Tree → ℤ → ℤ → ℕ → Type 0
Attains ts x y e = Some (λ s. farthest² (spot x y) s ≡ hi ts x y) (leaves_at ts e)

-- ---- how near a point is to an upright box, and how far from it, in fine units: in one coordinate and then squared
abbrev pub near : ℤ → Span → ℤ
near c b = at_least0 (greater (b.least -ℤ c) (c -ℤ b.greatest))

abbrev pub far : ℤ → Span → ℤ
far c b = greater (c -ℤ b.least) (b.greatest -ℤ c)

abbrev pub near² : Cell → Box → ℤ
near² p b = squares (near p.cx b.x) (near p.cy b.y)

abbrev pub far² : Cell → Box → ℤ
far² p b = squares (far p.cx b.x) (far p.cy b.y)
