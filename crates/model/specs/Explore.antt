-- RULES, "Explore": what one strip says of a cell, and what a tree and several edges say. Assumes nothing.
use Rattle.std.specs.Prelude.{Bool, true, false, not, ◌&&◌, ◌||◌, List, [], ◌∷◌, ℤ, pos, negsuc, nat_abs, ◌+ℤ◌, ◌-ℤ◌, ◌*ℤ◌}
use Rattle.std.specs.Int.Signed.{le_z, lt_z}
use Rattle.basics.specs.Numbers.{absℤ}
use Rattle.model.specs.Jobs.{is_zero}
use Rattle.model.specs.Strips.{Side, Strip}
use Rattle.model.specs.Trees.{Tree, leaf, long, node}
use Rattle.model.specs.Roots.{root}

-- a cell by its centre and half side, in fine units. A point is a cell of half side 0
pub record Cell : Type 0 where
  pub cx : ℤ
  pub cy : ℤ
  pub s : ℤ

-- ---- in one coordinate, of a cell from c − s to c + s and a strip's upright box: how far apart their points can be, and how far they must be
abbrev pub farthest : ℤ → ℤ → Side → ℤ
farthest c s S = absℤ (c -ℤ S.centre) +ℤ absℤ S.axis +ℤ (S.box +ℤ s)

abbrev pub room : ℤ → ℤ → Side → ℤ
room c s S = absℤ (c -ℤ S.centre) -ℤ absℤ S.axis -ℤ (S.box +ℤ s)

abbrev pub at_least0 : ℤ → ℤ
at_least0 (pos n) = pos n
at_least0 (negsuc n) = pos 0

abbrev pub closest : ℤ → ℤ → Side → ℤ
closest c s S = at_least0 (room c s S)

abbrev pub squares : ℤ → ℤ → ℤ
squares x y = x *ℤ x +ℤ y *ℤ y

-- the greatest and the least squared distance between the cell and the strip's upright box
abbrev pub farthest² : Cell → Strip → ℤ
farthest² c S = squares (farthest c.cx c.s S.x) (farthest c.cy c.s S.y)

abbrev pub closest² : Cell → Strip → ℤ
closest² c S = squares (closest c.cx c.s S.x) (closest c.cy c.s S.y)

-- ---- the tests, with r the reach in fine units
unfoldable pub is_inside : ℤ → Cell → Strip → Bool
is_inside r c S = lt_z (farthest² c S) (r *ℤ r)

-- away by the upright boxes; what lies at the reach exactly is away
unfoldable pub is_away₁ : ℤ → Cell → Strip → Bool
is_away₁ r c S = le_z (r *ℤ r) (closest² c S)

-- the axis' length, rounded up
abbrev pub length_of : Strip → ℤ
length_of S = pos (root (nat_abs (squares S.x.axis S.y.axis)))

-- the axis is not (0, 0), so that it has a line
abbrev pub has_axis : Strip → Bool
has_axis S = not (is_zero S.x.axis && is_zero S.y.axis)

-- away across the axis: the distance of the cell's centre from the axis' line, times the axis' length, less what the boxes can take off.
-- Of an axis (0, 0) both sides would be 0 and every cell away
unfoldable pub is_away₂ : ℤ → Cell → Strip → Bool
is_away₂ r c S =
    let wx : ℤ = c.cx -ℤ S.x.centre in
    let wy : ℤ = c.cy -ℤ S.y.centre in
    let p : ℤ = S.x.axis in
    let q : ℤ = S.y.axis in
    let A : ℤ = S.x.box +ℤ c.s in
    let B : ℤ = S.y.box +ℤ c.s in
    has_axis S && le_z (r *ℤ length_of S) (absℤ (wx *ℤ q -ℤ wy *ℤ p) -ℤ A *ℤ absℤ q -ℤ B *ℤ absℤ p)

-- ---- answers
pub data Answer : Type 0 where
  inside away maybe : Answer

-- what a strip says by itself, for a cell: inside where that test passes, away where either of those does
abbrev pub by_tests : Bool → Bool → Answer
by_tests true a = inside
by_tests false true = away
by_tests false false = maybe

abbrev pub judged : ℤ → Cell → Strip → Answer
judged r c S = by_tests (is_inside r c S) (is_away₁ r c S || is_away₂ r c S)

-- two answers as one: inside wins, away needs both
abbrev pub join : Answer → Answer → Answer
join inside b = inside
join away b = b
join maybe inside = inside
join maybe away = maybe
join maybe maybe = maybe

-- a node that is inside or away answers so, and any other as its halves do
abbrev pub settle : Answer → Answer → Answer
settle inside b = inside
settle away b = away
settle maybe b = b

-- a tree's answer, for any way v to judge a strip
unfoldable pub explore : (Strip → Answer) → Tree → Answer
explore v (leaf S) = v S
explore v (long S) = v S
explore v (node S l r) = let halves : Answer = join (explore v l) (explore v r) in settle (v S) halves

-- edges join as halves do
unfoldable pub explore_all : (Strip → Answer) → List Tree → Answer
explore_all v [] = away
explore_all v (t ∷ ts) = join (explore v t) (explore_all v ts)
