-- Figures on either side of each number and each comparison that a result shows, of a job's ranges, and its outline. Everything is computed.
-- Assumes nothing.
use Rattle.std.specs.Prelude.{◌≡◌, refl, List, [], ◌∷◌, ◌++◌, ℕ, ℤ, pos, negsuc, replicate}
use Rattle.model.specs.declared.Job.{Job}
use Rattle.model.specs.Jobs.{Edge, between, coordinate, is_zero, placed, is_one, spare, kind, marked, counted, ranged, celled, judge, edges_from, outline}
use Rattle.model.specs.FigureTables.{AllHold, ◌and◌, cubic, line, edge, job, mixed_job}

pub data Figure : Type 0 where
  -- a job and its refusal
  judged : Job → ℕ → Figure
  -- a job and its edges
  outlined : Job → List Edge → Figure

abbrev pub Holds : Figure → Type 0
Holds (judged j k) = judge j ≡ k
Holds (outlined j es) = outline j ≡ es

-- ---- jobs: a point edge at 0 on a plate of one cell, with other numbers in turn
abbrev pub corner : ℤ → ℤ → Job
corner x y = job x y (pos 0) (pos 0) (pos 1) (pos 1) 1 []

abbrev pub sized : ℤ → ℤ → Job
sized n m = job (pos 0) (pos 0) n m (pos 1) (pos 1) 1 []

abbrev pub measured : ℤ → ℤ → Job
measured r t = job (pos 0) (pos 0) (pos 0) (pos 0) r t 1 []

-- v at place i of the 512, with k edges
abbrev pub numbered : ℕ → ℕ → ℤ → Job
numbered k i v = job (pos 0) (pos 0) (pos 0) (pos 0) (pos 1) (pos 1) k (replicate i (pos 0) ++ (v ∷ []))

-- two edges, of the numbers 1 to 8 and of −1 to −8
abbrev pub twice : Job
twice = job (pos 0) (pos 0) (pos 0) (pos 0) (pos 1) (pos 1) 2 (pos 1 ∷ pos 2 ∷ pos 3 ∷ pos 4 ∷ pos 5 ∷ pos 6 ∷ pos 7 ∷ pos 8 ∷ negsuc 0 ∷ negsuc 1 ∷ negsuc 2 ∷ negsuc 3 ∷ negsuc 4 ∷ negsuc 5 ∷ negsuc 6 ∷ negsuc 7 ∷ [])

-- v at place i of the 64 marks, with k edges
abbrev pub stamped : ℕ → ℕ → ℤ → Job
stamped k i v = mixed_job (pos 0) (pos 0) (pos 0) (pos 0) (pos 1) (pos 1) k [] (replicate i (pos 0) ++ (v ∷ []))

-- one edge with these marks, and no numbers
abbrev pub bare : List ℤ → Job
bare ms = record { x = pos 0; y = pos 0; n = pos 0; m = pos 0; reach = pos 1; grain = pos 1; count = 1; places = []; marks = ms }

-- two lines, with v at place i of the 512
abbrev pub lined : ℕ → ℤ → Job
lined i v = mixed_job (pos 0) (pos 0) (pos 0) (pos 0) (pos 1) (pos 1) 2 (replicate i (pos 0) ++ (v ∷ [])) (pos 1 ∷ pos 1 ∷ [])

-- a cubic's numbers, 1 to 8, and a line's, −1 to −4
abbrev pub twelve : List ℤ
twelve = pos 1 ∷ pos 2 ∷ pos 3 ∷ pos 4 ∷ pos 5 ∷ pos 6 ∷ pos 7 ∷ pos 8 ∷ negsuc 0 ∷ negsuc 1 ∷ negsuc 2 ∷ negsuc 3 ∷ []

abbrev pub job_figures : List Figure
job_figures =
    -- coordinates: the corner's two, and the first and the last of an edge
    judged (corner (pos 1000000) (pos 0)) 0
    ∷ judged (corner (pos 1000001) (pos 0)) 3
    ∷ judged (corner (negsuc 999999) (pos 0)) 0
    ∷ judged (corner (negsuc 1000000) (pos 0)) 3
    ∷ judged (corner (pos 0) (pos 1000000)) 0
    ∷ judged (corner (pos 0) (pos 1000001)) 3
    ∷ judged (corner (pos 0) (negsuc 999999)) 0
    ∷ judged (corner (pos 0) (negsuc 1000000)) 3
    ∷ judged (numbered 1 0 (pos 1000000)) 0
    ∷ judged (numbered 1 0 (pos 1000001)) 3
    ∷ judged (numbered 1 7 (negsuc 999999)) 0
    ∷ judged (numbered 1 7 (negsuc 1000000)) 3
    -- the first number past the count, and the last of all
    ∷ judged (numbered 1 8 (pos 1)) 3
    ∷ judged (numbered 1 8 (negsuc 0)) 3
    ∷ judged (numbered 2 8 (pos 1)) 0
    ∷ judged (numbered 63 511 (pos 1)) 3
    ∷ judged (numbered 64 511 (pos 1)) 0
    ∷ judged (numbered 64 511 (pos 1000001)) 3
    -- N and M, each by itself and one against the other
    ∷ judged (sized (negsuc 0) (pos 0)) 3
    ∷ judged (sized (pos 0) (pos 0)) 0
    ∷ judged (sized (pos 20) (pos 12)) 0
    ∷ judged (sized (pos 20) (pos 11)) 4
    ∷ judged (sized (pos 21) (pos 13)) 3
    ∷ judged (sized (pos 0) (negsuc 0)) 3
    ∷ judged (sized (pos 20) (pos 20)) 0
    ∷ judged (sized (pos 20) (pos 21)) 3
    ∷ judged (sized (pos 21) (pos 21)) 3
    ∷ judged (sized (pos 0) (pos 1)) 4
    ∷ judged (sized (pos 8) (pos 0)) 0
    ∷ judged (sized (pos 9) (pos 0)) 4
    -- reach and grain
    ∷ judged (measured (pos 0) (pos 1)) 3
    ∷ judged (measured (pos 1) (pos 1)) 0
    ∷ judged (measured (pos 1000000) (pos 1)) 0
    ∷ judged (measured (pos 1000001) (pos 1)) 3
    ∷ judged (measured (pos 1) (pos 0)) 3
    ∷ judged (measured (pos 1) (pos 100000)) 0
    ∷ judged (measured (pos 1) (pos 100001)) 3
    -- the count
    ∷ judged (numbered 0 0 (pos 0)) 2
    ∷ judged (numbered 64 0 (pos 0)) 0
    ∷ judged (numbered 65 0 (pos 0)) 2
    -- an edge's mark, the first and the last of all
    ∷ judged (stamped 1 0 (pos 1)) 0
    ∷ judged (stamped 1 0 (pos 2)) 3
    ∷ judged (stamped 1 0 (negsuc 0)) 3
    ∷ judged (stamped 1 0 (negsuc 1)) 3
    ∷ judged (stamped 64 63 (pos 1)) 0
    ∷ judged (stamped 64 63 (pos 2)) 3
    -- the first mark past the count, and the last of all
    ∷ judged (stamped 1 1 (pos 1)) 3
    ∷ judged (stamped 1 1 (negsuc 0)) 3
    ∷ judged (stamped 2 1 (pos 1)) 0
    ∷ judged (stamped 63 63 (pos 1)) 3
    ∷ judged (stamped 1 63 (pos 1)) 3
    -- a line's numbers: the fourth and the fifth, the eighth, and the same of a second line
    ∷ judged (lined 3 (pos 1)) 0
    ∷ judged (lined 4 (pos 1)) 3
    ∷ judged (lined 5 (pos 1)) 3
    ∷ judged (lined 6 (pos 1)) 3
    ∷ judged (lined 7 (negsuc 0)) 3
    ∷ judged (lined 8 (pos 1)) 0
    ∷ judged (lined 11 (pos 1)) 0
    ∷ judged (lined 12 (pos 1)) 3
    ∷ judged (lined 15 (pos 1)) 3
    ∷ judged (lined 16 (pos 1)) 3
    ∷ judged (lined 3 (pos 1000001)) 3
    -- two at once: the lower number
    ∷ judged (stamped 0 0 (pos 2)) 2
    ∷ judged (stamped 65 0 (negsuc 0)) 2
    ∷ judged (numbered 0 0 (pos 1)) 2
    ∷ judged (job (pos 0) (pos 0) (pos 0) (pos 1) (pos 0) (pos 1) 1 []) 3
    ∷ judged (job (pos 0) (pos 0) (pos 0) (pos 1) (pos 1) (pos 1) 0 []) 2
    -- the numbers of a place: x and y in turn
    ∷ outlined twice
    (edge (cubic (pos 1) (pos 3) (pos 5) (pos 7)) (cubic (pos 2) (pos 4) (pos 6) (pos 8))
    ∷ edge (cubic (negsuc 0) (negsuc 2) (negsuc 4) (negsuc 6)) (cubic (negsuc 1) (negsuc 3) (negsuc 5) (negsuc 7)) ∷ [])
    -- a line takes the first four, and only the marked edge is one
    ∷ outlined (mixed_job (pos 0) (pos 0) (pos 0) (pos 0) (pos 1) (pos 1) 2 twelve (pos 0 ∷ pos 1 ∷ []))
    (edge (cubic (pos 1) (pos 3) (pos 5) (pos 7)) (cubic (pos 2) (pos 4) (pos 6) (pos 8)) ∷ edge (line (negsuc 0) (negsuc 2)) (line (negsuc 1) (negsuc 3)) ∷ [])
    -- a number that is not there is 0
    ∷ judged (bare (pos 1 ∷ [])) 0
    ∷ outlined (bare []) (edge (cubic (pos 0) (pos 0) (pos 0) (pos 0)) (cubic (pos 0) (pos 0) (pos 0) (pos 0)) ∷ [])
    ∷ outlined (bare (pos 1 ∷ [])) (edge (line (pos 0) (pos 0)) (line (pos 0) (pos 0)) ∷ [])
    ∷ []

pub jobs_hold : AllHold Holds job_figures
unfolding judge counted ranged celled between coordinate is_zero placed is_one spare kind marked outline edges_from
jobs_hold =
    refl and refl and refl and refl and refl and refl and refl and refl and refl and refl and refl and refl and refl and refl and refl and refl
    and refl and refl and refl and refl and refl and refl and refl and refl and refl and refl and refl and refl and refl and refl and refl and refl
    and refl and refl and refl and refl and refl and refl and refl and refl and refl and refl and refl and refl and refl
    and refl and refl and refl and refl and refl and refl and refl and refl and refl and refl and refl and refl and refl and refl and refl and refl
    and refl and refl and refl and refl and refl and refl and refl and refl and refl and refl and refl
    and tt
