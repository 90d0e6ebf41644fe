-- A walk over an edge's part of the store with a level for each node that stands over the present one: the trees that wait, in store order, each
-- with its level, which ends where the subtree of that node does. Assumes nothing.
use Rattle.std.specs.Prelude.{◌≡◌, refl, Bool, cond, List, [], ◌∷◌, ℕ, suc, ◌+◌, ◌*◌, ◌≤◌, ◌<◌, max, ℤ}
use Rattle.std.proofs.Common.{ap₂, subst, arith}
use Rattle.std.proofs.Math.Decide.{dec_le}
use Rattle.model.specs.Strips.{Strip}
use Rattle.model.specs.Trees.{Tree, leaf, long, node}
use Rattle.model.specs.Store.{width, size, flatten}
use Rattle.model.specs.Explore.{Answer, explore}
use Rattle.ranges.specs.Sizes.{AllSized}
use Rattle.subtrees.specs.Preorder.{size_pos}
use Rattle.rows.specs.Weights.{weight}

-- halvings on the way to the deepest leaf
abbrev pub depth : Tree → ℕ
depth (leaf s) = 0
depth (long s) = 0
depth (node s l r) = suc (max (depth l) (depth r))

-- the part holds a tree whose strips are sized and which fits the levels
pub record ShallowTree (l : List ℤ) : Type 0 where
  pub tree : Tree
  pub is : l ≡ flatten tree
  pub sized : AllSized tree
  pub shallow : depth tree ≤ 10

pub record Waiting : Type 0 where
  pub tree : Tree
  pub level : ℕ

abbrev pub trees_of : List Waiting → List Tree
trees_of [] = []
trees_of (w ∷ ws) = w.tree ∷ trees_of ws

-- ---- a tree that starts at place `at`, where levels 0 to d are held and level k ends at `ends k`: its level is the last that has not ended
pub record At (ends : ℕ → ℕ) (d at : ℕ) (w : Waiting) : Type 0 where
  pub low : w.level ≤ d
  pub within : at + width * size w.tree ≤ ends w.level
  pub above : (k : ℕ) → w.level < k → k ≤ d → ends k ≤ at
  pub shallow : depth w.tree + w.level ≤ 10

abbrev pub Placed : (ℕ → ℕ) → ℕ → ℕ → List Waiting → Type 0
Placed ends d at [] = Unit {0}
Placed ends d at (w ∷ ws) = At ends d at w × Placed ends d (at + width * size w.tree) ws

-- levels that have ended are of no tree that waits
pub ended : (ends : ℕ → ℕ) (d e at : ℕ) (ws : List Waiting) → e ≤ d → ((k : ℕ) → e < k → k ≤ d → ends k ≤ at) → Placed ends d at ws → Placed ends e at ws
ended ends d e at [] l h p = tt
ended ends d e at (w ∷ ws) l h p = (
  record {
    low = elim (dec_le w.level e) [ yes m ↦ m | no n ↦ absurd (gone (omega arith)) ];
    within = p.0.within;
    above = λ k a b. p.0.above k a (omega arith);
    shallow = p.0.shallow;
  },
  ended ends d e (at + width * size w.tree) ws l (λ k a b. further k (h k a b)) p.1,
)
  where
    gone : e < w.level → ⊥
    gone m = omega (arith, p.0.within, size_pos w.tree, h w.level m p.0.low)

    further : (k : ℕ) → ends k ≤ at → ends k ≤ at + width * size w.tree
    further k m = omega arith

-- where the last level has not ended, the next tree is of it
pub of_last : (ends : ℕ → ℕ) (d at : ℕ) (w : Waiting) → At ends d at w → at < ends d → w.level ≡ d
of_last ends d at w p h = elim (dec_le d w.level) [ yes l ↦ omega (arith, p.low) | no n ↦ absurd (early (omega arith)) ]
  where
    early : w.level < d → ⊥
    early l = omega (arith, p.above d l (omega arith))

-- ---- a node's halves wait at a level more, which ends where the node's subtree does
module _ (ends more : ℕ → ℕ) (d : ℕ) (same : (k : ℕ) → k ≤ d → more k ≡ ends k) where
  -- the others stay where they were
  pub still : (at : ℕ) (ws : List Waiting) → more (suc d) ≤ at → Placed ends d at ws → Placed more (suc d) at ws
  still at [] h p = tt
  still at (w ∷ ws) h p = (
    record {
      low = omega (arith, p.0.low);
      within = omega (arith, p.0.within, same w.level p.0.low);
      above = λ k a b. elim (dec_le k d) [ yes l ↦ omega (arith, p.0.above k a l, same k l) | no n ↦ subst (λ (z : ℕ). more z ≤ at) (last k b (omega arith)) h ];
      shallow = p.0.shallow;
    },
    still (at + width * size w.tree) ws (omega arith) p.1,
  )
    where
      last : (k : ℕ) → k ≤ suc d → d < k → suc d ≡ k
      last k b c = omega arith

  pub halved : (at : ℕ) (s : Strip) (a b : Tree) (ws : List Waiting) → more (suc d) ≡ at + width * suc (size a + size b) → Placed ends d at (record { tree = node s a b; level = d } ∷ ws) → Placed more (suc d) (at + width) (record { tree = a; level = suc d } ∷ record { tree = b; level = suc d } ∷ ws)
  halved at s a b ws e p = (
    record { low = omega arith; within = omega (arith, e); above = λ k l m. absurd (omega arith); shallow = omega (arith, p.0.shallow) },
    (
      record { low = omega arith; within = omega (arith, e); above = λ k l m. absurd (omega arith); shallow = omega (arith, p.0.shallow) },
      subst (λ (z : ℕ). Placed more (suc d) z ws) (behind (size a) (size b)) (still (at + width * suc (size a + size b)) ws (omega (arith, e)) p.1),
    ),
  )
    where
      behind : (m n : ℕ) → at + width * suc (m + n) ≡ at + width + width * m + width * n
      behind m n = omega arith

-- ---- what the trees that wait raise a cell to, which level k leaves open where `o k` holds
module _ (v : Strip → Answer) where
  abbrev pub heaviest : (ℕ → Bool) → List Waiting → ℕ
  heaviest o [] = 0
  heaviest o (w ∷ ws) = max (cond (o w.level) (weight (explore v w.tree)) 0) (heaviest o ws)

  -- a level more changes nothing of those that wait below it
  pub heaviest_same : (o p : ℕ → Bool) (ends : ℕ → ℕ) (d at : ℕ) (ws : List Waiting) → ((k : ℕ) → k ≤ d → p k ≡ o k) → Placed ends d at ws → heaviest p ws ≡ heaviest o ws
  heaviest_same o p ends d at [] f h = refl
  heaviest_same o p ends d at (w ∷ ws) f h =
      ap₂ (λ (t : Bool) (m : ℕ). max (cond t (weight (explore v w.tree)) 0) m) (f w.level h.0.low) (heaviest_same o p ends d (at + width * size w.tree) ws f h.1)
