-- RULES, "Plates": the plate's quartering and the finished map. Assumes nothing.
use Rattle.std.specs.Prelude.{Bool, true, false, List, ℕ, zero, suc, ◌-◌, ◌*◌, ◌^◌, ltb, ℤ, pos, ◌+ℤ◌, ◌*ℤ◌}
use Rattle.basics.specs.Lists.{row_major}
use Rattle.model.specs.declared.Job.{Job}
use Rattle.model.specs.Jobs.{plate_log, cell_log}
use Rattle.model.specs.Strips.{Strip}
use Rattle.model.specs.Trees.{Tree}
use Rattle.model.specs.Store.{forest}
use Rattle.model.specs.Explore.{Cell, Answer, inside, away, maybe, judged, explore_all}

-- a map gives the first three, the exact verdict is the first, the second or the last: doubtful and mixed are two things
pub data Verdict : Type 0 where
  clear within doubtful mixed : Verdict

-- a verdict's byte in a map: C, I or D. Mixed stands in none
abbrev pub letter : Verdict → ℕ
letter clear = 67
letter within = 73
letter doubtful = 68
letter mixed = 0

-- ---- quartering
-- the square of side n with its lower left corner at (X, Y), as a cell
abbrev pub square : ℤ → ℤ → ℕ → Cell
square X Y n = record { cx = pos 16 *ℤ X +ℤ pos (8 * n); cy = pos 16 *ℤ Y +ℤ pos (8 * n); s = pos (8 * n) }

-- the first or the second half of a side: where it begins, and a column's number in it
abbrev pub half_corner : Bool → ℤ → ℕ → ℤ
half_corner true X n = X
half_corner false X n = X +ℤ pos n

abbrev pub half_index : Bool → ℕ → ℕ → ℕ
half_index true i h = i
half_index false i h = i - h

-- away and inside settle every smallest cell of a square, and otherwise it is as its quarter says
abbrev pub settled : Answer → Verdict → Verdict
settled inside v = within
settled away v = clear
settled maybe v = v

-- the verdict on smallest cell (i, j), column before row, of a square of 2^n columns of side 2^M, with its corner at (X, Y), for any way v to
-- judge a strip for a cell
unfoldable pub drawn : (Cell → Strip → Answer) → List Tree → ℕ → ℕ → ℤ → ℤ → ℕ → ℕ → Verdict
drawn v ts M zero X Y i j = settled (explore_all (v (square X Y (2 ^ M * 2 ^ 0))) ts) doubtful
drawn v ts M (suc n) X Y i j =
    let h : ℕ = 2 ^ n in
    let left : Bool = ltb i h in
    let lower : Bool = ltb j h in
    let quarter : Verdict = drawn v ts M n (half_corner left X (2 ^ M * h)) (half_corner lower Y (2 ^ M * h)) (half_index left i h) (half_index lower j h) in
    settled (explore_all (v (square X Y (2 ^ M * 2 ^ suc n))) ts) quarter

-- ---- the map of a job
-- cells a side
abbrev pub columns : Job → ℕ
columns j = 2 ^ (plate_log j - cell_log j)

-- the verdict in column i and row k, and the bytes of all, row by row from the lowest
unfoldable pub mapped : Job → ℕ → ℕ → Verdict
mapped j i k = drawn (judged (pos 16 *ℤ j.reach)) (forest j) (cell_log j) (plate_log j - cell_log j) j.x j.y i k

abbrev pub cells_of : Job → ℕ
cells_of j = columns j * columns j

unfoldable pub map_of : Job → List ℕ
map_of j = row_major (columns j) (columns j) (λ i k. letter (mapped j i k))
