-- Worked figures of the clamps, one table and one statement: those of the request, and figures on either side of each number and comparison of `Table`,
-- of what lies under a clamp, and of the order of the refusals. Assumes nothing.
use Rattle.std.specs.Prelude.{◌≡◌, refl, Bool, true, false, List, [], ◌∷◌, ◌++◌, ℕ, eqb, ℤ, pos, negsuc, get_or}
use Rattle.std.proofs.Common.{arith}
use Rattle.model.specs.declared.Job.{Job}
use Rattle.model.specs.Bytes.{bytes}
use Rattle.model.specs.Refusals.{accepted}
use Rattle.model.specs.Jobs.{between, coordinate, is_zero, placed, is_one, spare, kind, marked, counted, ranged, celled, judge}
use Rattle.model.specs.Fractions.{Point, whole}
use Rattle.model.specs.FigureTables.{AllHold, ◌and◌, job}
use Rattle.model.specs.Figures.{sample}
use Rattle.model.specs.PointFigures.{over, point, spot, Is}
use Rattle.model.specs.CaseFigures.{order}
use Rattle.table_four.specs.declared.Clamp.{Clamp}
use Rattle.table_four.specs.Answers.{Placed}
use Rattle.table_four.specs.Table.{leading, every, clamp_at, lies, on_plate, letter_byte, turned_away, gone, place_refusal, placed_by, place}
use Rattle.table_four.specs.Cases.{UnderCell, place_table}
use Rattle.table_four.specs.Promises.{Under}

pub data Figure : Type 0 where
  -- a job, its map's bytes, 16 numbers, and the answer
  answers : Job → List ℕ → List ℕ → Placed → Figure
  -- of so many numbers from a place on: how many are 1 before the first that is not, and whether all are
  ones : List ℕ → ℕ → ℕ → ℕ → Bool → Figure
  -- the k-th clamp of 16 numbers
  clamped : List ℕ → ℕ → Clamp → Figure
  -- whether so many from a first one on lie below n
  lying : ℕ → ℕ → ℕ → Bool → Figure
  -- whether a clamp is on a map of n cells a side
  on_plate_is : ℕ → Clamp → Bool → Figure
  -- whether a byte is a letter
  lettered : ℕ → Bool → Figure
  -- whether a cell is under a clamp
  cell_under : Clamp → ℕ → ℕ → Bool → Figure
  -- whether a point is
  point_under : Job → Clamp → Point → Bool → Figure

abbrev pub Holds : Figure → Type 0
Holds (answers j cells cs p) = place j cells cs ≡ p
Holds (ones xs k i n b) = (leading (λ p. eqb (get_or xs p 0) 1) k i ≡ n) × (every (λ p. eqb (get_or xs p 0) 1) k i ≡ b)
Holds (clamped cs k c) = clamp_at cs k ≡ c
Holds (lying n i k b) = lies n i k ≡ b
Holds (on_plate_is n c b) = on_plate n c ≡ b
Holds (lettered x b) = letter_byte x ≡ b
Holds (cell_under c i k t) = Is t (UnderCell c i k)
Holds (point_under j c Q t) = Is t (Under j c Q)

-- ---- shorthands
abbrev clamp : ℕ → ℕ → ℕ → ℕ → Clamp
clamp i r w h = record { column = i; row = r; columns = w; rows = h }

abbrev four : Clamp → Clamp → Clamp → Clamp → List ℕ
four a b c d = numbers a ++ (numbers b ++ (numbers c ++ numbers d))
  where
    numbers : Clamp → List ℕ
    numbers c = c.column ∷ c.row ∷ c.columns ∷ c.rows ∷ []

-- the same clamp four times
abbrev same : Clamp → List ℕ
same c = four c c c c

abbrev stop : ℕ → ℕ → ℕ → Placed
stop k i r = record { refusal = 0; go = false; clamp = k; column = i; row = r }

-- the sample's map, and it without its last row
abbrev most : List ℕ
most = bytes "CCCCCCCCCCCCCCCCCCDDDDCCCCDIIDCCCCDIIDCCCCDDDDCCCCCCCCCC"

abbrev letters : List ℕ
letters = most ++ bytes "CCCCCCCC"

-- the map of a line from (14, 2) to (2, 14), at a reach of 1 and cells of side 2: `deep_figures` computes it
abbrev pub slanted : List ℕ
slanted = bytes "CCCCCCDDCCCCCDDDCCCCDDDCCCCDDDCCCCDDDCCCCDDDCCCCDDDCCCCCDDCCCCCC"

-- a point edge on a plate of 2^(n − m) cells a side, with a count of edges
abbrev plate : ℤ → ℤ → ℕ → Job
plate n m k = job (pos 0) (pos 0) n m (pos 9) (pos 10) k []

-- one cell
abbrev single : Job
single = plate (pos 3) (pos 3) 1

-- the greatest number of 64 bits
abbrev huge : ℕ
huge = 18446744073709551615

-- ---- the request's
abbrev pub asked_figures : List Figure
asked_figures =
    answers sample letters (four (clamp 0 0 8 2) (clamp 0 0 8 2) (clamp 0 0 8 2) (clamp 0 6 8 2)) gone
    ∷ answers sample letters (four (clamp 6 2 2 4) (clamp 0 2 2 4) (clamp 0 0 8 2) (clamp 0 6 8 2)) gone
    ∷ answers sample letters (four (clamp 0 0 8 2) (clamp 0 0 8 2) (clamp 0 0 8 2) (clamp 1 3 4 2)) (stop 3 2 3)
    ∷ answers sample letters (four (clamp 0 2 8 3) (clamp 3 3 1 1) (clamp 0 0 1 1) (clamp 0 0 1 1)) (stop 0 2 2)
    ∷ answers sample letters (four (clamp 3 3 1 1) (clamp 0 2 8 3) (clamp 0 0 1 1) (clamp 0 0 1 1)) (stop 0 3 3)
    ∷ answers sample letters (four (clamp 0 0 8 2) (clamp 0 0 8 2) (clamp 0 0 8 2) (clamp 1 3 8 2)) (turned_away 10)
    -- the lowest comes before the leftmost
    ∷ answers sample slanted (same (clamp 1 1 6 3)) (stop 0 5 1)
    ∷ answers sample slanted (four (clamp 0 0 3 3) (clamp 5 5 3 3) (clamp 0 0 3 3) (clamp 5 5 3 3)) gone
    ∷ []

-- ---- which refusal, of any two that apply
abbrev pub refused_figures : List Figure
refused_figures =
    answers (plate (pos 21) (pos 22) 0) [] [] (turned_away 2)
    ∷ answers (plate (pos 21) (pos 22) 1) [] [] (turned_away 3)
    ∷ answers (plate (pos 9) (pos 0) 1) [] [] (turned_away 4)
    ∷ answers sample (most ++ bytes "CCCCCCC") (same (clamp 1 3 8 2)) (turned_away 7)
    ∷ answers sample (most ++ bytes "CCCCCCC") (same (clamp 0 0 1 1)) (turned_away 7)
    ∷ answers sample (most ++ bytes "CCCCCCCE") (four (clamp 0 0 0 1) (clamp 0 0 8 2) (clamp 0 0 8 2) (clamp 0 0 1 1)) (turned_away 10)
    ∷ answers sample (most ++ bytes "CCCCCCCE") (same (clamp 0 0 1 1)) (turned_away 11)
    ∷ answers sample (bytes "E" ++ (most ++ bytes "CCCCCCC")) (same (clamp 7 7 1 1)) (turned_away 11)
    -- behind the map's bytes none is looked at, nor a number behind the sixteenth
    ∷ answers sample (letters ++ bytes "E") (same (clamp 7 7 1 1)) gone
    ∷ answers sample letters (same (clamp 7 7 1 1) ++ (0 ∷ 0 ∷ 0 ∷ 0 ∷ [])) gone
    -- of the four each may be off
    ∷ answers single (bytes "C") (four (clamp 1 0 1 1) (clamp 0 0 1 1) (clamp 0 0 1 1) (clamp 0 0 1 1)) (turned_away 10)
    ∷ answers single (bytes "C") (four (clamp 0 0 1 1) (clamp 0 1 1 1) (clamp 0 0 1 1) (clamp 0 0 1 1)) (turned_away 10)
    ∷ answers single (bytes "C") (four (clamp 0 0 1 1) (clamp 0 0 1 1) (clamp 0 0 2 1) (clamp 0 0 1 1)) (turned_away 10)
    ∷ answers single (bytes "C") (four (clamp 0 0 1 1) (clamp 0 0 1 1) (clamp 0 0 1 1) (clamp 0 0 1 2)) (turned_away 10)
    ∷ answers single (bytes "C") (four (clamp 0 0 1 1) (clamp 0 0 1 1) (clamp 0 0 1 1) (clamp 0 0 1 0)) (turned_away 10)
    -- a sum that would wrap to 0
    ∷ answers single (bytes "C") (same (clamp huge 0 1 1)) (turned_away 10)
    ∷ answers single (bytes "C") (same (clamp 0 1 1 huge)) (turned_away 10)
    ∷ []

-- ---- which clamp and which cell
abbrev pub placed_figures : List Figure
placed_figures =
    answers single (bytes "C") (same (clamp 0 0 1 1)) gone
    ∷ answers single (bytes "D") (same (clamp 0 0 1 1)) (stop 0 0 0)
    ∷ answers single (bytes "I") (same (clamp 0 0 1 1)) (stop 0 0 0)
    -- the first of two that are not clear, and each place of the four
    ∷ answers sample letters (four (clamp 0 0 1 1) (clamp 5 4 1 2) (clamp 2 2 1 1) (clamp 2 2 1 1)) (stop 1 5 4)
    ∷ answers sample letters (four (clamp 0 0 1 1) (clamp 0 0 1 1) (clamp 1 4 2 1) (clamp 2 2 1 1)) (stop 2 2 4)
    -- a clamp's last column, and its last row
    ∷ answers sample letters (same (clamp 0 3 3 1)) (stop 0 2 3)
    ∷ answers sample letters (same (clamp 2 0 1 3)) (stop 0 2 2)
    -- one cell before, one row before, and the map's last cell
    ∷ answers sample letters (four (clamp 0 3 2 1) (clamp 2 0 1 2) (clamp 7 7 1 1) (clamp 6 0 2 8)) gone
    ∷ answers sample (most ++ bytes "CCCCCCCD") (same (clamp 0 0 8 8)) (stop 0 2 2)
    ∷ answers sample (most ++ bytes "CCCCCCCD") (same (clamp 6 6 2 2)) (stop 0 7 7)
    ∷ []

-- ---- the parts
abbrev pub part_figures : List Figure
part_figures =
    ones (1 ∷ 1 ∷ 0 ∷ 1 ∷ []) 4 0 2 false
    ∷ ones (1 ∷ 1 ∷ 0 ∷ 1 ∷ []) 2 0 2 true
    ∷ ones (1 ∷ 1 ∷ 0 ∷ 1 ∷ []) 2 1 1 false
    ∷ ones (1 ∷ 1 ∷ 0 ∷ 1 ∷ []) 1 3 1 true
    ∷ ones (1 ∷ 1 ∷ 0 ∷ 1 ∷ []) 1 2 0 false
    ∷ ones (1 ∷ 1 ∷ 0 ∷ 1 ∷ []) 0 2 0 true
    ∷ clamped (10 ∷ 11 ∷ 12 ∷ 13 ∷ 14 ∷ 15 ∷ 16 ∷ 17 ∷ []) 0 (clamp 10 11 12 13)
    ∷ clamped (10 ∷ 11 ∷ 12 ∷ 13 ∷ 14 ∷ 15 ∷ 16 ∷ 17 ∷ []) 1 (clamp 14 15 16 17)
    -- some, from 0 and up to the last
    ∷ lying 8 0 8 true
    ∷ lying 8 0 9 false
    ∷ lying 8 7 1 true
    ∷ lying 8 7 2 false
    ∷ lying 8 8 1 false
    ∷ lying 8 9 1 false
    ∷ lying 8 8 0 false
    ∷ lying 8 3 0 false
    ∷ lying 8 3 5 true
    ∷ lying 8 3 6 false
    ∷ on_plate_is 8 (clamp 7 0 1 8) true
    ∷ on_plate_is 8 (clamp 0 7 8 1) true
    ∷ on_plate_is 8 (clamp 7 0 2 8) false
    ∷ on_plate_is 8 (clamp 0 7 8 2) false
    -- C is 67, D 68 and I 73
    ∷ lettered 66 false
    ∷ lettered 67 true
    ∷ lettered 68 true
    ∷ lettered 69 false
    ∷ lettered 72 false
    ∷ lettered 73 true
    ∷ lettered 74 false
    ∷ lettered 0 false
    ∷ lettered 99 false
    ∷ []

-- ---- what is under a clamp: columns 1 to 4, rows 3 and 4; with cells of side 2 from (−8, −8) on, x from −6 to 2, y from −2 to 2
abbrev pub under_figures : List Figure
under_figures =
    cell_under (clamp 1 3 4 2) 1 3 true
    ∷ cell_under (clamp 1 3 4 2) 4 4 true
    ∷ cell_under (clamp 1 3 4 2) 0 3 false
    ∷ cell_under (clamp 1 3 4 2) 5 3 false
    ∷ cell_under (clamp 1 3 4 2) 1 2 false
    ∷ cell_under (clamp 1 3 4 2) 1 5 false
    ∷ point_under sample (clamp 1 3 4 2) (spot (negsuc 5) (negsuc 1)) true
    ∷ point_under sample (clamp 1 3 4 2) (spot (pos 2) (pos 2)) true
    ∷ point_under sample (clamp 1 3 4 2) (spot (negsuc 5) (pos 2)) true
    ∷ point_under sample (clamp 1 3 4 2) (point (over (negsuc 10) 1) (over (pos 1) 2)) true
    ∷ point_under sample (clamp 1 3 4 2) (point (over (negsuc 6000) 999) (whole (pos 0))) false
    ∷ point_under sample (clamp 1 3 4 2) (point (over (pos 2001) 999) (whole (pos 0))) false
    ∷ point_under sample (clamp 1 3 4 2) (point (whole (pos 0)) (over (negsuc 2000) 999)) false
    ∷ point_under sample (clamp 1 3 4 2) (point (whole (pos 0)) (over (pos 2001) 999)) false
    ∷ []

abbrev pub figures : List Figure
figures = asked_figures ++ refused_figures ++ placed_figures ++ part_figures ++ under_figures

pub figures_hold : AllHold Holds figures
unfolding place place_refusal placed_by leading accepted judge counted ranged celled between coordinate is_zero placed is_one spare kind marked
figures_hold =
    refl and refl and refl and refl and refl and refl and refl and refl
    and refl and refl and refl and refl and refl and refl and refl and refl and refl and refl and refl and refl and refl and refl and refl and refl and refl
    and refl and refl and refl and refl and refl and refl and refl and refl and refl and refl
    and (refl, refl) and (refl, refl) and (refl, refl) and (refl, refl) and (refl, refl) and (refl, refl)
    and refl and refl and refl and refl and refl and refl and refl and refl and refl and refl and refl and refl and refl and refl and refl and refl
    and refl and refl and refl and refl and refl and refl and refl and refl and refl
    and record { left = omega arith; right = omega arith; low = omega arith; high = omega arith }
    and record { left = omega arith; right = omega arith; low = omega arith; high = omega arith }
    and (λ h. absurd (omega (arith, h.left)))
    and (λ h. absurd (omega (arith, h.right)))
    and (λ h. absurd (omega (arith, h.low)))
    and (λ h. absurd (omega (arith, h.high)))
    and record { column = record { from = record { le = tt }; to = record { le = tt } }; row = record { from = record { le = tt }; to = record { le = tt } } }
    and record { column = record { from = record { le = tt }; to = record { le = tt } }; row = record { from = record { le = tt }; to = record { le = tt } } }
    and record { column = record { from = record { le = tt }; to = record { le = tt } }; row = record { from = record { le = tt }; to = record { le = tt } } }
    and record { column = record { from = record { le = tt }; to = record { le = tt } }; row = record { from = record { le = tt }; to = record { le = tt } } }
    and (λ h. h.column.from.le)
    and (λ h. h.column.to.le)
    and (λ h. h.row.from.le)
    and (λ h. h.row.to.le)
    and tt

-- ---- the order of the refusals
pub place_order : (j : Job) (cells cs : List ℕ) → order (place_table j cells cs) ≡ 2 ∷ 3 ∷ 4 ∷ 7 ∷ 10 ∷ 11 ∷ []
place_order j cells cs = refl
