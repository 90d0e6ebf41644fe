-- Figures on either side of each number and each comparison that a result shows, of exploring, the plate and the distance of a point.
-- Everything is computed. Assumes nothing.
use Rattle.std.specs.Prelude.{◌≡◌, refl, Bool, true, false, ◌&&◌, ◌⊎◌, List, [], ◌∷◌, ◌++◌, ℕ, zero, suc, T, ℤ, pos, negsuc, replicate}
use Rattle.std.proofs.Common.{inl, inr}
use Prim.Native.String.{String}
use Rattle.std.specs.Int.Signed.{lt_z}
use Rattle.basics.specs.Lists.{table, row_major}
use Rattle.basics.specs.Numbers.{absℤ}
use Rattle.model.specs.declared.Job.{Job}
use Rattle.model.specs.Jobs.{edges_from, outline, is_zero}
use Rattle.model.specs.Bytes.{bytes}
use Rattle.model.specs.Sheets.{same}
use Rattle.model.specs.Strips.{Strip, curved, straight, side_at, strip}
use Rattle.model.specs.Trees.{Tree, leaf, long, node, pieces, tree}
use Rattle.model.specs.Store.{forest}
use Rattle.model.specs.Roots.{root_by, root}
use Rattle.model.specs.Explore.{Cell, Answer, inside, away, maybe, is_inside, is_away₁, is_away₂, by_tests, judged, join, explore, explore_all}
use Rattle.model.specs.Plates.{Verdict, clear, within, doubtful, mixed, letter, drawn, mapped, map_of}
use Rattle.model.specs.Distance.{leaves, leaves_all, leaves_at, least, lo, hi, first_at, named, Attains}
use Rattle.model.specs.FigureTables.{AllHold, ◌and◌, unequal, side, strip_of, mixed_job, job}

pub data Figure : Type 0 where
  -- the three tests of a cell and a strip at reach r: inside, away by the boxes, away across the axis
  tests : ℤ → Cell → Strip → Bool → Bool → Bool → Figure
  -- what a strip says of a cell
  says : ℤ → Cell → Strip → Answer → Figure
  -- the answer of a strip for which the test of inside and one of away give these
  answers : Bool → Bool → Answer → Figure
  -- two answers joined
  joins : Answer → Answer → Answer → Figure
  -- trees whose strips say what `told` gives
  explores : List Tree → Answer → Figure
  letters : Verdict → ℕ → Figure
  -- the verdict on smallest cell (i, j) of a square of 2^n columns of side 2^M with its corner at (X, Y), where one cell is inside and any
  -- other neither
  draws : ℕ → ℕ → ℤ → ℤ → ℕ → ℕ → Cell → Verdict → Figure
  -- a job's map, row after row from the lowest
  maps : Job → String → Figure
  -- a job's verdict in column i and row k
  mapped_at : Job → ℕ → ℕ → Verdict → Figure
  -- the leaves of some trees
  ends : List Tree → List ℤ → Figure
  -- the least centre of some strips
  least_of : List ℤ → ℤ → Figure
  -- the bounds of a point's distance
  bounds : Job → ℤ → ℤ → ℤ → ℤ → Figure
  -- an edge with a leaf that attains the greater bound, and one without
  attains : Job → ℤ → ℤ → ℕ → Figure
  not_attains : Job → ℤ → ℤ → ℕ → Figure
  -- the edge that is named
  names : Job → ℤ → ℤ → ℕ → Figure

-- ---- shorthands
abbrev pub cell : ℤ → ℤ → ℤ → Cell
cell x y s = record { cx = x; cy = y; s = s }

-- a strip that is known by its centre
abbrev pub at : ℤ → Strip
at c = strip_of (side c (pos 0) (pos 2)) (side (pos 0) (pos 0) (pos 2))

-- at 0 inside, at 1 away, elsewhere neither
abbrev pub told : ℤ → Answer
told (pos n) = elim n [ zero ↦ inside | suc k ↦ elim k [ zero ↦ away | suc l ↦ maybe ] ]
told (negsuc n) = maybe

-- inside for the first cell alone
abbrev pub at_cell : Cell → Cell → Answer
at_cell c d = elim (same c.cx d.cx && (same c.cy d.cy && same c.s d.s)) [ true ↦ inside | false ↦ maybe ]

abbrev pub strips : List ℤ → List Strip
strips [] = []
strips (c ∷ cs) = at c ∷ strips cs

abbrev pub Holds : Figure → Type 0
Holds (tests r c S i a b) = (is_inside r c S ≡ i) × (is_away₁ r c S ≡ a) × (is_away₂ r c S ≡ b)
Holds (says r c S a) = judged r c S ≡ a
Holds (answers i a b) = by_tests i a ≡ b
Holds (joins a b c) = join a b ≡ c
Holds (explores ts a) = explore_all (λ S. told S.x.centre) ts ≡ a
Holds (letters v b) = letter v ≡ b
Holds (draws M n X Y i j c v) = drawn (λ d S. at_cell c d) (leaf (at (pos 0)) ∷ []) M n X Y i j ≡ v
Holds (maps j s) = map_of j ≡ bytes s
Holds (mapped_at j i k v) = mapped j i k ≡ v
Holds (ends ts cs) = leaves_all ts ≡ strips cs
Holds (least_of cs c) = least (λ S. S.x.centre) (strips cs) ≡ c
Holds (bounds j x y l h) = (lo (forest j) x y ≡ l) × (hi (forest j) x y ≡ h)
Holds (attains j x y e) = Attains (forest j) x y e
Holds (not_attains j x y e) = Attains (forest j) x y e → ⊥
Holds (names j x y e) = named (forest j) x y ≡ e

abbrev pub I : Tree
I = leaf (at (pos 0))

abbrev pub A : Tree
A = leaf (at (pos 1))

abbrev pub M : Tree
M = leaf (at (pos 2))

-- point edges at (0, 0) and (10, 7), and at (0, 0) and (10, 0)
abbrev pub two : Job
two = job (negsuc 3) (pos 0) (pos 4) (pos 2) (pos 6) (pos 1) 2 (pos 0 ∷ pos 0 ∷ pos 0 ∷ pos 0 ∷ pos 0 ∷ pos 0 ∷ pos 0 ∷ pos 0 ∷ pos 10 ∷ pos 7 ∷ pos 10 ∷ pos 7 ∷ pos 10 ∷ pos 7 ∷ pos 10 ∷ pos 7 ∷ [])

abbrev pub level : Job
level = job (pos 0) (pos 0) (pos 0) (pos 0) (pos 1) (pos 1) 2 (pos 0 ∷ pos 0 ∷ pos 0 ∷ pos 0 ∷ pos 0 ∷ pos 0 ∷ pos 0 ∷ pos 0 ∷ pos 10 ∷ pos 0 ∷ pos 10 ∷ pos 0 ∷ pos 10 ∷ pos 0 ∷ pos 10 ∷ pos 0 ∷ [])

-- a point edge at (10, 7), and two at (0, 0)
abbrev pub twice : Job
twice = job (pos 0) (pos 0) (pos 0) (pos 0) (pos 1) (pos 1) 3 (pos 10 ∷ pos 7 ∷ pos 10 ∷ pos 7 ∷ pos 10 ∷ pos 7 ∷ pos 10 ∷ pos 7 ∷ [])

-- no edge at all
abbrev pub bare : Job
bare = job (pos 0) (pos 0) (pos 0) (pos 0) (pos 1) (pos 1) 0 []

-- 64 point edges, the last at (8, 0) and the others at (0, 0)
abbrev pub many : Job
many = job (pos 0) (pos 0) (pos 0) (pos 0) (pos 1) (pos 1) 64 (replicate 504 (pos 0) ++ (pos 8 ∷ pos 0 ∷ pos 8 ∷ pos 0 ∷ pos 8 ∷ pos 0 ∷ pos 8 ∷ pos 0 ∷ []))

-- a slanted edge, which is halved once
abbrev pub slanted : Job
slanted = job (pos 3) (pos 6) (pos 4) (pos 2) (pos 6) (pos 4) 1 (pos 11 ∷ pos 16 ∷ pos 6 ∷ pos 16 ∷ pos 12 ∷ pos 14 ∷ pos 13 ∷ pos 22 ∷ [])

-- a line by 6 and 8, of one strip
abbrev pub rising : Job
rising = mixed_job (pos 2) (negsuc 2) (pos 3) (pos 1) (pos 7) (pos 8) 1 (pos 0 ∷ pos 0 ∷ pos 6 ∷ pos 8 ∷ []) (pos 1 ∷ [])

-- a bowed edge of two leaves; a point edge at (10, 7), and after it the slanted one
abbrev pub bowed : Job
bowed = job (pos 0) (pos 0) (pos 0) (pos 0) (pos 1) (pos 4) 1 (pos 12 ∷ pos 9 ∷ pos 2 ∷ pos 0 ∷ pos 9 ∷ pos 10 ∷ pos 6 ∷ pos 7 ∷ [])

abbrev pub both : Job
both = job (pos 0) (pos 0) (pos 0) (pos 0) (pos 1) (pos 4) 2 (pos 10 ∷ pos 7 ∷ pos 10 ∷ pos 7 ∷ pos 10 ∷ pos 7 ∷ pos 10 ∷ pos 7 ∷ pos 11 ∷ pos 16 ∷ pos 6 ∷ pos 16 ∷ pos 12 ∷ pos 14 ∷ pos 13 ∷ pos 22 ∷ [])

abbrev pub here : Cell
here = cell (pos 10) (negsuc 19) (pos 7)

-- ---- exploring
abbrev pub explore_figures : List Figure
explore_figures =
    -- 30 and 40 at the farthest, so 50 in all: at the reach exactly is not inside
    tests (pos 50) here (strip_of (side (pos 17) (negsuc 10) (pos 5)) (side (negsuc 10) (pos 14) (pos 10))) false false false
    ∷ tests (pos 51) here (strip_of (side (pos 17) (negsuc 10) (pos 5)) (side (negsuc 10) (pos 14) (pos 10))) true false false
    -- 30 and 40 at the closest: at the reach exactly is away
    ∷ tests (pos 51) here (strip_of (side (pos 63) (negsuc 10) (pos 5)) (side (negsuc 90) (pos 14) (pos 10))) false false false
    ∷ tests (pos 50) here (strip_of (side (pos 63) (negsuc 10) (pos 5)) (side (negsuc 90) (pos 14) (pos 10))) false true false
    ∷ tests (pos 49) here (strip_of (side (pos 63) (negsuc 10) (pos 5)) (side (negsuc 90) (pos 14) (pos 10))) false true false
    -- where the boxes overlap in one coordinate, the other alone counts
    ∷ tests (pos 41) here (strip_of (side (pos 10) (negsuc 10) (pos 5)) (side (negsuc 90) (pos 14) (pos 10))) false false false
    ∷ tests (pos 40) here (strip_of (side (pos 10) (negsuc 10) (pos 5)) (side (negsuc 90) (pos 14) (pos 10))) false true false
    ∷ tests (pos 31) here (strip_of (side (pos 63) (negsuc 10) (pos 5)) (side (negsuc 19) (pos 14) (pos 10))) false false false
    ∷ tests (pos 30) here (strip_of (side (pos 63) (negsuc 10) (pos 5)) (side (negsuc 19) (pos 14) (pos 10))) false true false
    -- an axis (3, 4) of length 5: one below 10 · 5, at it and one above, on either side of the axis
    ∷ tests (pos 10) here (strip_of (side (negsuc 8) (pos 3) (pos 2)) (side (negsuc 6) (pos 4) (pos 3))) false false false
    ∷ tests (pos 10) here (strip_of (side (negsuc 9) (pos 3) (pos 2)) (side (negsuc 7) (pos 4) (pos 3))) false false true
    ∷ tests (pos 10) here (strip_of (side (negsuc 10) (pos 3) (pos 2)) (side (negsuc 8) (pos 4) (pos 3))) false false true
    ∷ tests (pos 10) here (strip_of (side (pos 29) (pos 3) (pos 2)) (side (negsuc 32) (pos 4) (pos 3))) false false false
    ∷ tests (pos 10) here (strip_of (side (pos 30) (pos 3) (pos 2)) (side (negsuc 31) (pos 4) (pos 3))) false false true
    ∷ tests (pos 10) here (strip_of (side (pos 31) (pos 3) (pos 2)) (side (negsuc 30) (pos 4) (pos 3))) false false true
    -- an axis (−3, 5) of length 6, rounded up
    ∷ tests (pos 10) here (strip_of (side (pos 29) (negsuc 2) (pos 2)) (side (negsuc 6) (pos 5) (pos 3))) false false false
    ∷ tests (pos 10) here (strip_of (side (pos 28) (negsuc 2) (pos 2)) (side (negsuc 4) (pos 5) (pos 3))) false false true
    -- an axis (3, −5) and wide boxes
    ∷ tests (pos 10) here (strip_of (side (negsuc 26) (pos 3) (pos 20)) (side (negsuc 59) (negsuc 4) (pos 30))) false false false
    ∷ tests (pos 10) here (strip_of (side (negsuc 25) (pos 3) (pos 20)) (side (negsuc 61) (negsuc 4) (pos 30))) false false true
    -- an axis (0, 0) has no line to be across: the boxes alone count. One axis number is enough for a line
    ∷ tests (pos 10) here (strip_of (side (pos 31) (pos 0) (pos 5)) (side (negsuc 19) (pos 0) (pos 3))) false false false
    ∷ tests (pos 10) here (strip_of (side (pos 32) (pos 0) (pos 5)) (side (negsuc 19) (pos 0) (pos 3))) false true false
    ∷ tests (pos 10) here (strip_of (side (pos 32) (pos 0) (pos 5)) (side (negsuc 19) (pos 4) (pos 3))) false true true
    ∷ tests (pos 10) here (strip_of (side (pos 10) (pos 4) (pos 5)) (side (pos 0) (pos 0) (pos 3))) false true true
    ∷ tests (pos 10) here (strip_of (side (pos 32) (pos 0) (pos 5)) (side (negsuc 19) (negsuc 0) (pos 3))) false true true
    ∷ tests (pos 10) here (strip_of (side (pos 10) (negsuc 0) (pos 5)) (side (pos 0) (pos 0) (pos 3))) false true true
    -- and so are two that cancel: an axis (3, −3) of length 5, rounded up
    ∷ tests (pos 10) here (strip_of (side (pos 28) (pos 3) (pos 2)) (side (negsuc 1) (negsuc 2) (pos 3))) false false true
    -- the square of the distance is 8, one below that of the reach: 2 and 2 at the farthest, and at the closest
    ∷ tests (pos 3) (cell (pos 0) (pos 0) (pos 0)) (strip_of (side (pos 1) (pos 1) (pos 0)) (side (pos 1) (pos 1) (pos 0))) true false false
    ∷ tests (pos 3) (cell (pos 0) (pos 0) (pos 0)) (strip_of (side (pos 3) (pos 1) (pos 0)) (side (pos 3) (pos 1) (pos 0))) false false false
    -- each test alone gives the answer
    ∷ says (pos 51) here (strip_of (side (pos 63) (negsuc 10) (pos 5)) (side (negsuc 90) (pos 14) (pos 10))) maybe
    ∷ says (pos 51) here (strip_of (side (pos 17) (negsuc 10) (pos 5)) (side (negsuc 10) (pos 14) (pos 10))) inside
    ∷ says (pos 50) here (strip_of (side (pos 63) (negsuc 10) (pos 5)) (side (negsuc 90) (pos 14) (pos 10))) away
    ∷ says (pos 10) here (strip_of (side (pos 28) (negsuc 2) (pos 2)) (side (negsuc 4) (pos 5) (pos 3))) away
    -- inside comes first
    ∷ answers true true inside
    ∷ answers true false inside
    ∷ answers false true away
    ∷ answers false false maybe
    ∷ joins inside inside inside
    ∷ joins inside away inside
    ∷ joins inside maybe inside
    ∷ joins away inside inside
    ∷ joins away away away
    ∷ joins away maybe maybe
    ∷ joins maybe inside inside
    ∷ joins maybe away maybe
    ∷ joins maybe maybe maybe
    -- a node's own answer, and its halves' where it has none
    ∷ explores [] away
    ∷ explores (node (at (pos 0)) I I ∷ []) inside
    ∷ explores (node (at (pos 0)) A A ∷ []) inside
    ∷ explores (node (at (pos 0)) A M ∷ []) inside
    ∷ explores (node (at (pos 1)) I M ∷ []) away
    ∷ explores (node (at (pos 2)) A A ∷ []) away
    ∷ explores (node (at (pos 2)) A M ∷ []) maybe
    ∷ explores (node (at (pos 2)) I A ∷ []) inside
    ∷ explores (node (at (pos 2)) A I ∷ []) inside
    ∷ explores (long (at (pos 0)) ∷ []) inside
    ∷ explores (A ∷ M ∷ A ∷ []) maybe
    ∷ explores (M ∷ A ∷ I ∷ []) inside
    ∷ explores (A ∷ A ∷ []) away
    ∷ []

-- ---- maps and points
abbrev pub plate_figures : List Figure
plate_figures =
    letters clear 67
    ∷ letters within 73
    ∷ letters doubtful 68
    ∷ letters mixed 0
    -- the square of side 8 from (−3, 5), its quarter of side 4 from (1, 5), and of that the smallest cell from (1, 7)
    ∷ draws 1 2 (negsuc 2) (pos 5) 2 1 (cell (pos 16) (pos 144) (pos 64)) within
    ∷ draws 1 2 (negsuc 2) (pos 5) 2 1 (cell (pos 48) (pos 112) (pos 32)) within
    ∷ draws 1 2 (negsuc 2) (pos 5) 2 1 (cell (pos 32) (pos 128) (pos 16)) within
    -- maps that no turn and no mirror leaves as they are
    ∷ maps (job (negsuc 2) (pos 5) (pos 3) (pos 0) (pos 2) (pos 1) 1 (negsuc 1 ∷ pos 11 ∷ negsuc 1 ∷ pos 11 ∷ negsuc 1 ∷ pos 11 ∷ negsuc 1 ∷ pos 11 ∷ [])) "CCCCCCCCCCCCCCCCCCCCCCCCCCCCCCCCDDDCCCCCIIDCCCCCIIDCCCCCDDDCCCCC"
    ∷ maps two "IIDDDDDICCDICCDD"
    -- a plate of four columns ends with the fourth: what is past it is drawn as it is
    ∷ mapped_at two 3 0 doubtful
    ∷ mapped_at two 5 0 doubtful
    -- the last cell of the lowest row is clear across the axis alone; with a reach of nothing others would be
    ∷ maps slanted "DDDCDDDDDIDDDDDD"
    -- and here it touches across the axis alone
    ∷ maps rising "DDDCDDDDDDDDIDDD"
    ∷ ends (node (at (pos 3)) I A ∷ long (at (pos 4)) ∷ M ∷ []) (pos 0 ∷ pos 1 ∷ pos 4 ∷ pos 2 ∷ [])
    ∷ least_of [] (pos 0)
    ∷ least_of (pos 4 ∷ []) (pos 4)
    ∷ least_of (pos 4 ∷ pos 5 ∷ pos 6 ∷ []) (pos 4)
    ∷ least_of (pos 5 ∷ pos 4 ∷ pos 6 ∷ []) (pos 4)
    ∷ least_of (pos 5 ∷ pos 6 ∷ negsuc 3 ∷ []) (negsuc 3)
    -- the nearer of two edges; where both are as near the first is named
    ∷ bounds two (pos 3) (pos 4) (pos 6400) (pos 6400)
    ∷ attains two (pos 3) (pos 4) 0
    ∷ not_attains two (pos 3) (pos 4) 1
    ∷ names two (pos 3) (pos 4) 0
    ∷ bounds two (pos 9) (pos 9) (pos 1280) (pos 1280)
    ∷ not_attains two (pos 9) (pos 9) 0
    ∷ attains two (pos 9) (pos 9) 1
    ∷ not_attains two (pos 9) (pos 9) 2
    ∷ names two (pos 9) (pos 9) 1
    ∷ attains level (pos 5) (pos 0) 0
    ∷ attains level (pos 5) (pos 0) 1
    ∷ names level (pos 5) (pos 0) 0
    ∷ attains twice (pos 1) (pos 2) 2
    ∷ names twice (pos 1) (pos 2) 1
    ∷ attains many (pos 8) (pos 0) 63
    ∷ names many (pos 8) (pos 0) 63
    ∷ names bare (pos 8) (pos 0) 0
    -- the halves count, and not the whole
    ∷ bounds slanted (pos 9) (pos 18) (pos 100) (pos 2677)
    ∷ bounds slanted (pos 14) (pos 16) (pos 100) (pos 8149)
    ∷ bounds slanted (pos 9) (pos 16) (pos 0) (pos 1205)
    -- the first leaf alone attains the greater bound
    ∷ names slanted (pos 9) (pos 18) 0
    -- the first leaf is the closest one, and the second alone attains the greater bound
    ∷ bounds bowed (pos 11) (pos 13) (pos 3844) (pos 21124)
    ∷ attains bowed (pos 11) (pos 13) 0
    ∷ names bowed (pos 11) (pos 13) 0
    -- the edge that attains the greater bound, and not the one that attains the lesser
    ∷ bounds both (pos 9) (pos 11) (pos 3349) (pos 4352)
    ∷ attains both (pos 9) (pos 11) 0
    ∷ not_attains both (pos 9) (pos 11) 1
    ∷ names both (pos 9) (pos 11) 0
    ∷ []

-- ---- the statements
-- the one strip of an edge is farther than the bound
apart : (a b : ℤ) → T (lt_z b a) → (a ≡ b) ⊎ ⊥ → ⊥
apart a b t (inl e) = unequal a b t e
apart a b t (inr h) = h

pub exploring_holds : AllHold Holds explore_figures
unfolding is_inside is_away₁ is_away₂ is_zero absℤ root root_by explore explore_all
exploring_holds =
    (refl, refl, refl) and (refl, refl, refl) and (refl, refl, refl) and (refl, refl, refl) and (refl, refl, refl) and (refl, refl, refl) and (refl, refl, refl)
    and (refl, refl, refl) and (refl, refl, refl) and (refl, refl, refl) and (refl, refl, refl) and (refl, refl, refl) and (refl, refl, refl) and (refl, refl, refl)
    and (refl, refl, refl) and (refl, refl, refl) and (refl, refl, refl) and (refl, refl, refl) and (refl, refl, refl) and (refl, refl, refl) and (refl, refl, refl)
    and (refl, refl, refl) and (refl, refl, refl) and (refl, refl, refl) and (refl, refl, refl) and (refl, refl, refl) and (refl, refl, refl) and (refl, refl, refl)
    and refl and refl and refl and refl
    and refl and refl and refl and refl
    and refl and refl and refl and refl and refl and refl and refl and refl and refl
    and refl and refl and refl and refl and refl and refl and refl and refl and refl and refl and refl and refl and refl
    and tt

pub plates_hold : AllHold Holds plate_figures
unfolding same map_of mapped row_major table drawn explore_all explore is_inside is_away₁ is_away₂ absℤ root root_by strip curved straight side_at tree pieces forest outline edges_from is_zero leaves leaves_all leaves_at least first_at
plates_hold =
    refl and refl and refl and refl and refl and refl and refl and refl and refl and refl and refl and refl and refl and refl and refl and refl and refl and refl and refl
    and (refl, refl) and inl refl and apart (pos 14848) (pos 6400) tt and refl
    and (refl, refl) and apart (pos 41472) (pos 1280) tt and inl refl and (λ h. h) and refl
    and inl refl and inl refl and refl and inl refl and refl and inl refl and refl and refl
    and (refl, refl) and (refl, refl) and (refl, refl) and refl
    and (refl, refl) and inr (inl refl) and refl
    and (refl, refl) and inl refl and (λ h. elim h [ inl e ↦ apart (pos 8381) (pos 4352) tt (inl e) | inr k ↦ apart (pos 36941) (pos 4352) tt k ]) and refl
    and tt
