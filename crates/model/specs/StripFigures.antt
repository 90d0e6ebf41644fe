-- Figures on either side of each number and each comparison that a result shows, of strips, trees, the store and the root. Everything is
-- computed. Assumes nothing.
use Rattle.std.specs.Prelude.{◌≡◌, refl, Bool, true, false, List, [], ◌∷◌, ℕ, ℤ, pos, negsuc}
use Rattle.basics.specs.Numbers.{◌^ℤ◌, absℤ}
use Rattle.model.specs.declared.Job.{Job}
use Rattle.model.specs.Jobs.{Edge, edges_from, outline, is_zero}
use Rattle.model.specs.Strips.{Side, Strip, pad_of, curved, straight, side_at, strip, short}
use Rattle.model.specs.Trees.{Tree, leaf, long, node, pieces, tree, any_long}
use Rattle.model.specs.Sheets.{same}
use Rattle.model.specs.Store.{flatten, forest, nodes_of, store_of, begins}
use Rattle.model.specs.Roots.{root_by, root}
use Rattle.model.specs.FigureTables.{AllHold, ◌and◌, cubic, edge, side, strip_of, job}

pub data Figure : Type 0 where
  -- a power
  power_of : ℤ → ℕ → ℤ → Figure
  -- the strip of piece k of depth d
  strip_of_is : Edge → ℕ → ℕ → Side → Side → Figure
  -- the pad for so many quotients that are not whole
  pad_of_is : ℕ → ℕ → Figure
  -- whether a strip is short at grain T
  short_at : ℤ → Strip → Bool → Figure
  -- the tree of piece k of depth d at grain T, which may still be halved so often, where the strips show depth and number
  pieces_of : ℤ → ℕ → ℕ → ℕ → Tree → Figure
  -- the numbers of an edge's tree at grain T, node after node
  tree_of : ℤ → Edge → List ℤ → Figure
  -- whether some tree has a long end
  long_of : List Tree → Bool → Figure
  -- a job's nodes and its store
  store_of_is : Job → ℕ → List ℤ → Figure
  -- whether the first numbers are the second
  begins_with : List ℤ → List ℤ → Bool → Figure
  root_of : ℕ → ℕ → Figure

-- ---- shorthands
-- no two coefficients are alike, and none is small against the quotients
abbrev pub uneven : Edge
uneven = edge (cubic (pos 17) (pos 1000) (negsuc 2999) (pos 5001)) (cubic (negsuc 999) (pos 4000) (negsuc 2499) (negsuc 6999))

-- it is halved on the right, again and again
abbrev pub leaning : Edge
leaning = edge (cubic (pos 0) (pos 0) (pos 3) (pos 40)) (cubic (pos 5) (pos 9) (pos 0) (negsuc 5))

-- a strip by its axes and boxes
abbrev pub span : ℤ → ℤ → ℤ → ℤ → Strip
span p q a b = strip_of (side (pos 0) p a) (side (pos 0) q b)

abbrev pub dot : Strip
dot = span (pos 0) (pos 0) (pos 2) (pos 2)

-- a strip that shows two numbers
abbrev pub shown : ℕ → ℕ → Strip
shown d k = span (pos d) (pos k) (pos 2) (pos 2)

abbrev pub Holds : Figure → Type 0
Holds (power_of z n p) = z ^ℤ n ≡ p
Holds (strip_of_is e d k x y) = strip e d k ≡ strip_of x y
Holds (pad_of_is r p) = pad_of r ≡ p
Holds (short_at T s b) = short T s ≡ b
Holds (pieces_of T left d k t) = pieces T shown left d k ≡ t
Holds (tree_of T e ns) = flatten (tree T e) ≡ ns
Holds (long_of ts b) = any_long ts ≡ b
Holds (store_of_is j n ns) = (nodes_of j ≡ n) × (store_of j ≡ ns)
Holds (begins_with s ns b) = begins s ns ≡ b
Holds (root_of n h) = root n ≡ h

-- ---- the table
abbrev pub strip_figures : List Figure
strip_figures =
    power_of (negsuc 2) 0 (pos 1)
    ∷ power_of (negsuc 2) 1 (negsuc 2)
    ∷ power_of (negsuc 2) 3 (negsuc 26)
    ∷ strip_of_is uneven 2 2 (side (pos 4787) (pos 8730) (pos 2247)) (side (negsuc 30038) (negsuc 24292) (pos 1255))
    ∷ strip_of_is uneven 3 5 (side (pos 8590) (pos 6527) (pos 647)) (side (negsuc 41924) (negsuc 13254) (pos 223))
    -- three of the four quotients are not whole in one coordinate, another three each time, and none in the other
    ∷ strip_of_is (edge (cubic (negsuc 17) (pos 2) (pos 6) (negsuc 5)) (cubic (negsuc 2) (pos 4) (pos 2) (negsuc 0))) 2 0 (side (negsuc 185) (pos 96) (pos 6)) (side (negsuc 14) (pos 29) (pos 5))
    ∷ strip_of_is (edge (cubic (pos 4) (negsuc 1) (negsuc 2) (pos 1)) (cubic (negsuc 17) (pos 2) (pos 6) (negsuc 5))) 2 1 (side (negsuc 7) (negsuc 12) (pos 4)) (side (negsuc 41) (pos 48) (pos 6))
    ∷ strip_of_is (edge (cubic (negsuc 17) (pos 2) (pos 6) (negsuc 5)) (cubic (pos 4) (negsuc 8) (pos 9) (negsuc 5))) 2 3 (side (negsuc 41) (negsuc 47) (pos 6)) (side (negsuc 37) (negsuc 47) (pos 11))
    ∷ strip_of_is (edge (cubic (pos 2) (negsuc 2) (negsuc 0) (pos 0)) (cubic (pos 6) (negsuc 1) (negsuc 1) (pos 6))) 2 1 (side (negsuc 15) (negsuc 4) (pos 4)) (side (pos 9) (negsuc 11) (pos 3))
    -- two of them, those of the centre and the second, of the axis and the third, of the centre and the axis
    ∷ strip_of_is (edge (cubic (negsuc 8) (pos 2) (pos 3) (negsuc 5)) (cubic (negsuc 17) (pos 2) (pos 6) (negsuc 5))) 2 2 (side (negsuc 4) (negsuc 8) (pos 5)) (side (pos 6) (pos 0) (pos 6))
    ∷ strip_of_is (edge (cubic (negsuc 17) (pos 2) (pos 6) (negsuc 5)) (cubic (negsuc 0) (pos 0) (negsuc 4) (pos 0))) 2 3 (side (negsuc 41) (negsuc 47) (pos 6)) (side (negsuc 19) (pos 17) (pos 4))
    ∷ strip_of_is (edge (cubic (pos 0) (pos 1) (pos 2) (pos 3)) (cubic (pos 0) (negsuc 0) (negsuc 1) (negsuc 2))) 4 9 (side (pos 29) (pos 2) (pos 1)) (side (negsuc 27) (negsuc 0) (pos 1))
    -- of the axis and the second, of the centre and the third, of the second and the third
    ∷ strip_of_is (edge (cubic (pos 0) (pos 1) (pos 66) (pos 195)) (cubic (pos 0) (pos 1) (pos 2) (pos 4099))) 4 3 (side (pos 159) (pos 44) (pos 3)) (side (pos 718) (pos 297) (pos 23))
    ∷ strip_of_is (edge (cubic (pos 0) (pos 1) (pos 66) (pos 4291)) (cubic (pos 0) (negsuc 0) (negsuc 65) (negsuc 4290))) 4 3 (side (pos 866) (pos 339) (pos 25)) (side (negsuc 865) (negsuc 338) (pos 23))
    -- all four, above zero and below
    ∷ strip_of_is (edge (cubic (pos 0) (pos 0) (pos 0) (negsuc 0)) (cubic (pos 0) (pos 0) (pos 0) (pos 1))) 1 1 (side (negsuc 7) (negsuc 6) (pos 3)) (side (pos 8) (pos 7) (pos 3))
    -- half of a count, rounded up
    ∷ pad_of_is 0 0
    ∷ pad_of_is 1 1
    ∷ pad_of_is 2 1
    ∷ pad_of_is 3 2
    ∷ pad_of_is 4 2
    -- 16 fine units are a grain of 1: just short, and not, in either coordinate
    ∷ short_at (pos 1) (span (negsuc 13) (pos 0) (pos 2) (pos 2)) true
    ∷ short_at (pos 1) (span (negsuc 14) (pos 0) (pos 2) (pos 2)) false
    ∷ short_at (pos 1) (span (pos 14) (pos 0) (pos 3) (pos 2)) false
    ∷ short_at (pos 1) (span (pos 0) (pos 14) (pos 2) (pos 2)) true
    ∷ short_at (pos 1) (span (pos 0) (pos 15) (pos 2) (pos 2)) false
    ∷ short_at (pos 1) (span (pos 0) (negsuc 13) (pos 2) (pos 3)) false
    ∷ short_at (pos 3) (span (pos 40) (pos 41) (pos 8) (pos 7)) true
    -- the end of halving, short and long, and one halving before it
    ∷ pieces_of (pos 1) 0 3 5 (leaf (shown 3 5))
    ∷ pieces_of (pos 1) 0 10 15 (long (shown 10 15))
    ∷ pieces_of (pos 1) 0 15 10 (long (shown 15 10))
    ∷ pieces_of (pos 1) 1 15 6 (node (shown 15 6) (long (shown 16 12)) (long (shown 16 13)))
    -- left halves before right ones, at each depth
    ∷ tree_of (pos 6) leaning
    (pos 209 ∷ pos 22 ∷ pos 305 ∷ negsuc 95 ∷ pos 128 ∷ pos 38 ∷ pos 11 ∷ negsuc 33 ∷ negsuc 97 ∷ pos 642 ∷ pos 110
    ∷ pos 33 ∷ pos 80 ∷ pos 47 ∷ negsuc 14 ∷ pos 20 ∷ pos 15 ∷ pos 1 ∷ negsuc 33 ∷ pos 50 ∷ pos 100 ∷ pos 110
    ∷ pos 330 ∷ negsuc 19 ∷ pos 269 ∷ negsuc 74 ∷ pos 43 ∷ pos 3 ∷ pos 9 ∷ pos 92 ∷ negsuc 97 ∷ pos 642 ∷ pos 55
    ∷ pos 186 ∷ pos 18 ∷ pos 96 ∷ negsuc 35 ∷ pos 10 ∷ pos 3 ∷ pos 3 ∷ pos 92 ∷ negsuc 20 ∷ pos 292 ∷ pos 55
    ∷ pos 136 ∷ pos 36 ∷ pos 40 ∷ negsuc 16 ∷ pos 4 ∷ pos 2 ∷ pos 1 ∷ pos 92 ∷ pos 17 ∷ pos 180 ∷ pos 55
    ∷ pos 232 ∷ pos 0 ∷ pos 56 ∷ negsuc 18 ∷ pos 4 ∷ pos 2 ∷ pos 1 ∷ pos 172 ∷ negsuc 20 ∷ pos 292 ∷ pos 21
    ∷ pos 454 ∷ negsuc 57 ∷ pos 175 ∷ negsuc 38 ∷ pos 13 ∷ pos 2 ∷ pos 5 ∷ pos 283 ∷ negsuc 97 ∷ pos 642 ∷ negsuc 16
    ∷ pos 364 ∷ negsuc 38 ∷ pos 76 ∷ negsuc 19 ∷ pos 5 ∷ pos 2 ∷ pos 1 ∷ pos 283 ∷ negsuc 60 ∷ pos 445 ∷ negsuc 16
    ∷ pos 538 ∷ negsuc 76 ∷ pos 99 ∷ negsuc 18 ∷ pos 5 ∷ pos 2 ∷ pos 3 ∷ pos 439 ∷ negsuc 97 ∷ pos 642 ∷ negsuc 55
    ∷ pos 488 ∷ negsuc 67 ∷ pos 46 ∷ negsuc 9 ∷ pos 3 ∷ pos 2 ∷ pos 1 ∷ pos 439 ∷ negsuc 79 ∷ pos 537 ∷ negsuc 55
    ∷ pos 587 ∷ negsuc 86 ∷ pos 52 ∷ negsuc 8 ∷ pos 3 ∷ pos 2 ∷ pos 1 ∷ pos 532 ∷ negsuc 97 ∷ pos 642 ∷ negsuc 75 ∷ [])
    -- one long end is enough, wherever it is
    ∷ long_of [] false
    ∷ long_of (node dot (leaf dot) (leaf dot) ∷ leaf dot ∷ []) false
    ∷ long_of (node dot (leaf dot) (long dot) ∷ leaf dot ∷ []) true
    ∷ long_of (leaf dot ∷ node dot (long dot) (leaf dot) ∷ []) true
    -- edges in their order, each with its own count
    ∷ store_of_is (job (pos 0) (pos 0) (pos 0) (pos 0) (pos 1) (pos 4) 2 (pos 10 ∷ pos 7 ∷ pos 10 ∷ pos 7 ∷ pos 10 ∷ pos 7 ∷ pos 10 ∷ pos 7 ∷ pos 11 ∷ pos 16 ∷ pos 6 ∷ pos 16 ∷ pos 12 ∷ pos 14 ∷ pos 13 ∷ pos 22 ∷ [])) 4
    (pos 160 ∷ pos 112 ∷ pos 0 ∷ pos 0 ∷ pos 0 ∷ pos 0 ∷ pos 1 ∷ pos 160 ∷ pos 112 ∷ pos 160 ∷ pos 112
    ∷ pos 174 ∷ pos 280 ∷ pos 24 ∷ pos 42 ∷ pos 26 ∷ pos 30 ∷ pos 3 ∷ pos 134 ∷ pos 233 ∷ pos 214 ∷ pos 355
    ∷ pos 156 ∷ pos 255 ∷ negsuc 8 ∷ negsuc 0 ∷ pos 13 ∷ pos 5 ∷ pos 1 ∷ pos 134 ∷ pos 249 ∷ pos 178 ∷ pos 261
    ∷ pos 184 ∷ pos 294 ∷ pos 27 ∷ pos 47 ∷ pos 3 ∷ pos 14 ∷ pos 1 ∷ pos 154 ∷ pos 233 ∷ pos 214 ∷ pos 355 ∷ [])
    -- a long end is a node too
    ∷ begins_with (flatten (node dot (long dot) (leaf dot))) (pos 0 ∷ pos 0 ∷ pos 0 ∷ pos 0 ∷ pos 2 ∷ pos 2 ∷ pos 3 ∷ negsuc 1 ∷ negsuc 1 ∷ pos 2 ∷ pos 2 ∷ pos 0 ∷ pos 0 ∷ pos 0 ∷ pos 0 ∷ pos 2 ∷ pos 2 ∷ pos 1 ∷ negsuc 1 ∷ negsuc 1 ∷ pos 2 ∷ pos 2 ∷ pos 0 ∷ []) true
    ∷ begins_with (flatten (long (shown 3 5))) (pos 0 ∷ pos 0 ∷ pos 3 ∷ pos 5 ∷ pos 2 ∷ pos 2 ∷ pos 1 ∷ negsuc 4 ∷ negsuc 6 ∷ pos 5 ∷ pos 7 ∷ []) true
    -- more may follow, and none may be missing or another, in its sign either
    ∷ begins_with (pos 5 ∷ negsuc 5 ∷ pos 7 ∷ []) (pos 5 ∷ negsuc 5 ∷ []) true
    ∷ begins_with (pos 5 ∷ negsuc 5 ∷ []) (pos 5 ∷ negsuc 5 ∷ []) true
    ∷ begins_with (pos 5 ∷ []) (pos 5 ∷ negsuc 5 ∷ []) false
    ∷ begins_with (pos 6 ∷ negsuc 5 ∷ []) (pos 5 ∷ negsuc 5 ∷ []) false
    ∷ begins_with (pos 5 ∷ negsuc 4 ∷ []) (pos 5 ∷ negsuc 5 ∷ []) false
    ∷ begins_with (pos 5 ∷ negsuc 6 ∷ []) (pos 5 ∷ negsuc 5 ∷ []) false
    ∷ begins_with (pos 5 ∷ pos 5 ∷ []) (pos 5 ∷ negsuc 5 ∷ []) false
    ∷ begins_with (negsuc 5 ∷ negsuc 5 ∷ []) (pos 5 ∷ negsuc 5 ∷ []) false
    ∷ begins_with (pos 5 ∷ pos 6 ∷ []) (pos 5 ∷ negsuc 5 ∷ []) false
    ∷ begins_with (negsuc 4 ∷ negsuc 5 ∷ []) (pos 5 ∷ negsuc 5 ∷ []) false
    ∷ begins_with [] [] true
    -- roots, rounded up
    ∷ root_of 0 0
    ∷ root_of 1 1
    ∷ root_of 2 2
    ∷ root_of 4 2
    ∷ root_of 5 3
    ∷ root_of 9 3
    ∷ root_of 10 4
    ∷ root_of 16 4
    ∷ root_of 17 5
    ∷ root_of 1522756 1234
    ∷ root_of 1522757 1235
    ∷ root_of 1525225 1235
    -- of 2^63, more than the squares of two axes come to
    ∷ root_of 9223372036854775808 3037000500
    ∷ []

pub strips_hold : AllHold Holds strip_figures
unfolding strip curved straight side_at absℤ tree pieces forest outline edges_from is_zero begins same root root_by
strips_hold =
    refl and refl and refl and refl and refl and refl and refl and refl and refl and refl and refl and refl and refl and refl and refl
    and refl and refl and refl and refl and refl and refl and refl and refl and refl and refl and refl and refl and refl and refl and refl and refl and refl
    and refl and refl and refl and refl
    and (refl, refl)
    and refl and refl and refl and refl and refl and refl and refl and refl and refl and refl and refl
    and refl and refl and refl and refl and refl and refl and refl and refl and refl and refl and refl and refl and refl and refl and refl
    and tt
