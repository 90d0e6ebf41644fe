-- What an answer raises a cell's byte to: nothing where it is away, else its letter. Letters only grow, C 67 < D 68 < I 73, so that painting is
-- taking the larger, and the order of nodes and of edges is free. Assumes nothing.
use Rattle.std.specs.Prelude.{◌≡◌, refl, Bool, true, false, not, cond, ◌&&◌, List, [], ◌∷◌, ℕ, ◌≤◌, max}
use Rattle.std.proofs.Common.{arith}
use Rattle.model.specs.Strips.{Strip}
use Rattle.model.specs.Trees.{Tree}
use Rattle.model.specs.Explore.{Answer, inside, away, maybe, by_tests, join, settle, explore, explore_all}
use Rattle.model.specs.Plates.{doubtful, letter, settled}
use Rattle.raising.specs.Raised.{raised}

abbrev pub weight : Answer → ℕ
weight away = 0
weight maybe = 68
weight inside = 73

pub weight_most : (a : Answer) → weight a ≤ 73
weight_most away = omega arith
weight_most maybe = omega arith
weight_most inside = omega arith

pub weight_join : (a b : Answer) → weight (join a b) ≡ max (weight a) (weight b)
weight_join away b = omega arith
weight_join maybe away = refl
weight_join maybe maybe = refl
weight_join maybe inside = refl
weight_join inside b = omega (arith, weight_most b)

-- over C it is the letter
pub letter_is : (a : Answer) → letter (settled a doubtful) ≡ max 67 (weight a)
letter_is away = refl
letter_is maybe = refl
letter_is inside = refl

-- ---- a strip that is tested where the cell is open: its answer by itself
pub leaf_paints : (o i w : Bool) (x : ℕ) → raised (o && not w) 68 (raised (o && i) 73 x) ≡ max x (cond o (weight (by_tests i w)) 0)
leaf_paints false i w x = omega arith
leaf_paints true true true x = refl
leaf_paints true true false x = omega arith
leaf_paints true false true x = omega arith
leaf_paints true false false x = refl

-- and one whose halves are asked where it is not away, with what they answer: I stays whatever they do
pub node_paints : (o i w : Bool) (x : ℕ) (h : Answer) → max (raised (o && i) 73 x) (cond (o && not w) (weight h) 0) ≡ max x (cond o (weight (settle (by_tests i w) h)) 0)
node_paints false i w x h = omega arith
node_paints true true true x h = omega arith
node_paints true true false x h = omega (arith, weight_most h)
node_paints true false true x h = refl
node_paints true false false x h = refl

-- ---- edges join as halves do
pub weight_more : (v : Strip → Answer) (t : Tree) (ts : List Tree) → weight (explore_all v (t ∷ ts)) ≡ max (weight (explore v t)) (weight (explore_all v ts))
unfolding explore_all
weight_more v t ts = weight_join (explore v t) (explore_all v ts)

pub weight_none : (v : Strip → Answer) → weight (explore_all v []) ≡ 0
unfolding explore_all
weight_none v = refl
