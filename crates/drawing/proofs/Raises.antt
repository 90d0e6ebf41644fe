-- Trees drawn one after the other: each raises the cells to its own answer, and together to the joined answer. Assumes nothing.
use mathlib.Core.Path.{◌≡◌, refl, sym, ap, ◌∙◌, subst}
use mathlib.Core.Bool.{Bool, true, false, cond}
use mathlib.Core.List.{List, [], ◌∷◌, ◌++◌}
use Prim.Native.Nat.{ℕ, zero, suc, ◌+◌, ◌*◌, ◌≤◌, ◌<◌, max}
use native.Mathlib.Decide.{dec_le}
use native.Mathlib.Numerals.{add-one}
use native.Mathlib.Omega.{arith}
use borrow.Author.Tests.{lt-ltb, le-ltb}
use lib.Dec.{ltb}
use lib.IntN.{ℤ}
use lib.ListN.{length, get_or, take}
use lib.Seq.{take_all}
use Rattle.model.specs.Trees.{Tree}
use Rattle.subtrees.specs.At.{At}
use Rattle.open_edges.specs.Starts.{Starts}
use Rattle.open_edges.specs.Looked.{Nth, nth, explore_append, explore_one, starts_long}
use Rattle.filling.specs.Squares.{In, over, Drawn}
use Rattle.filling.specs.Quarters.{over_in, over_out}
use Rattle.columns.specs.declared.Frame.{Frame}
use Rattle.rows.specs.Weights.{weight, weight_join, weight_none, letter_is}
use Rattle.drawing.specs.Letters.{asked, own_letter}
use Rattle.drawing.specs.ByRows.{Shallow, EachShallow, ShallowAt, raised_to, tree_says, trees_say}

-- ---- of trees none of which is deep the next is not deep either
first_shallow : (k : ℕ) (ts : List Tree) → EachShallow ts → EachShallow (take k ts)
first_shallow zero ts h = tt
first_shallow (suc k) [] h = tt
first_shallow (suc k) (t ∷ ts) h = (h.0, first_shallow k ts h.1)

last_shallow : (ts : List Tree) (t : Tree) → EachShallow (ts ++ (t ∷ [])) → Shallow t
last_shallow [] t h = h.0
last_shallow (u ∷ ts) t h = last_shallow ts t h.1

module _ (store : List ℤ) where
  next_shallow : (ts : List Tree) (k a : ℕ) → EachShallow ts → (n : Nth store ts k a) → Shallow n.tree
  next_shallow ts k a h n = last_shallow (take k ts) n.tree (subst EachShallow n.next (first_shallow (suc k) ts h))

  pub shallow_at : (ps : List ℕ) (ts : List Tree) (k a : ℕ) → Starts store ps ts → EachShallow ts → k < length ps → get_or ps k 0 ≡ a → ShallowAt store a
  shallow_at ps ts k a s h l e =
      let n = nth store k s l in
      subst (ShallowAt store) e (record { tree = n.tree; at = n.at; shallow = next_shallow ts k (get_or ps k 0) h n })

-- ---- the first k trees are drawn
pub record Sofar (store : List ℤ) (ps : List ℕ) (f : Frame) (old new : List ℕ) (k : ℕ) : Type 0 where
  pub drawn : (ts : List Tree) → Starts store ps ts → EachShallow ts → Drawn f.n new old (raised_to f (trees_say f (take k ts)))

module _ (store : List ℤ) (ps : List ℕ) (f : Frame) (old : List ℕ) where
  pub begin : Sofar store ps f old old 0
  begin = record { drawn = λ ts s e. record { cells = λ i j l. nothing (ltb j f.n) (get_or old (j * f.n + i) 0) (weight (trees_say f [] i j)) (weight_none (asked f i j 1)) } }
    where
      nothing : (b : Bool) (x w : ℕ) → w ≡ 0 → x ≡ cond b (max x w) x
      nothing true x w z = omega arith
      nothing false x w z = refl

  -- a tree more
  pub step : (mid new : List ℕ) (k a : ℕ) {n : ℕ} → k < length ps → get_or ps k 0 ≡ a → n ≡ k + 1
      → ((t : Tree) → At store a t → Shallow t → Drawn f.n new mid (raised_to f (tree_says f t))) → Sofar store ps f old mid k → Sofar store ps f old new n
  step mid new k a {n} l e i d h = record { drawn = λ ts s w. more_drawn ts (nth store k s l) w (h.drawn ts s w) }
    where
      twice : (b : Bool) (o v u : ℕ) → cond b (max (cond b (max o v) o) u) (cond b (max o v) o) ≡ cond b (max o (max v u)) o
      twice true o v u = omega arith
      twice false o v u = refl

      joined : (ts : List Tree) (x : Nth store ts k (get_or ps k 0)) (c j : ℕ) → weight (trees_say f (take n ts) c j) ≡ max (weight (trees_say f (take k ts) c j)) (weight (tree_says f x.tree c j))
      joined ts x c j =
          ap (λ (us : List Tree). weight (trees_say f us c j)) (ap (λ (m : ℕ). take m ts) (i ∙ add-one k) ∙ x.next)
          ∙ ap weight (explore_append (asked f c j 1) (take k ts) (x.tree ∷ []))
          ∙ weight_join (trees_say f (take k ts) c j) (trees_say f (x.tree ∷ []) c j)
          ∙ ap (λ z. max (weight (trees_say f (take k ts) c j)) (weight z)) (explore_one (asked f c j 1) x.tree)

      more_drawn : (ts : List Tree) → Nth store ts k (get_or ps k 0) → EachShallow ts → Drawn f.n mid old (raised_to f (trees_say f (take k ts))) → Drawn f.n new old (raised_to f (trees_say f (take n ts)))
      more_drawn ts x w g = record {
        cells = λ c j m.
            (d x.tree (subst (λ (b : ℕ). At store b x.tree) e x.at) (next_shallow store ts k (get_or ps k 0) w x)).cells c j m
            ∙ ap (λ (z : ℕ). raised_to f (tree_says f x.tree) c j z) (g.cells c j m)
            ∙ twice (ltb j f.n) (get_or old (j * f.n + c) 0) (weight (trees_say f (take k ts) c j)) (weight (tree_says f x.tree c j))
            ∙ ap (λ (z : ℕ). cond (ltb j f.n) (max (get_or old (j * f.n + c) 0) z) (get_or old (j * f.n + c) 0)) (sym (joined ts x c j));
      }

  pub finish : (new : List ℕ) (k : ℕ) → length ps ≤ k → Sofar store ps f old new k → (ts : List Tree) → Starts store ps ts → EachShallow ts → Drawn f.n new old (raised_to f (trees_say f ts))
  finish new k l h ts s w = subst (λ (us : List Tree). Drawn f.n new old (raised_to f (trees_say f us))) (take_all k ts (omega (arith, starts_long s))) (h.drawn ts s w)

-- ---- over C, the letters
pub over_clear : (f : Frame) (ts : List Tree) (old mid new : List ℕ) → Drawn f.n mid old (over (λ i j. 67) 0 0 f.n) → Drawn f.n new mid (raised_to f (trees_say f ts)) → Drawn f.n new old (over (own_letter f ts) 0 0 f.n)
over_clear f ts old mid new c d = record {
  cells = λ i j l. d.cells i j l ∙ ap (λ (z : ℕ). raised_to f (trees_say f ts) i j z) (c.cells i j l) ∙ elim (dec_le f.n j) [ yes h ↦ above i j h | no h ↦ inside i j l (omega arith) ];
}
  where
    above : (i j : ℕ) → f.n ≤ j → raised_to f (trees_say f ts) i j (over (λ i j. 67) 0 0 f.n i j (get_or old (j * f.n + i) 0)) ≡ over (own_letter f ts) 0 0 f.n i j (get_or old (j * f.n + i) 0)
    above i j h =
        let x = get_or old (j * f.n + i) 0 in
        ap (λ (z : ℕ). raised_to f (trees_say f ts) i j z) (over_out (λ i j. 67) 0 0 f.n i j x (omega arith))
        ∙ ap (λ (b : Bool). cond b (max x (weight (trees_say f ts i j))) x) (le-ltb j f.n h)
        ∙ sym (over_out (own_letter f ts) 0 0 f.n i j x (omega arith))

    inside : (i j : ℕ) → i < f.n → j < f.n → raised_to f (trees_say f ts) i j (over (λ i j. 67) 0 0 f.n i j (get_or old (j * f.n + i) 0)) ≡ over (own_letter f ts) 0 0 f.n i j (get_or old (j * f.n + i) 0)
    inside i j l h =
        let x = get_or old (j * f.n + i) 0 in
        let p : In 0 0 f.n i j = record { left = omega arith; right = omega arith; low = omega arith; high = omega arith } in
        ap (λ (z : ℕ). raised_to f (trees_say f ts) i j z) (over_in (λ i j. 67) 0 0 f.n i j x p)
        ∙ ap (λ (b : Bool). cond b (max 67 (weight (trees_say f ts i j))) 67) (lt-ltb j f.n h)
        ∙ sym (letter_is (trees_say f ts i j))
        ∙ sym (over_in (own_letter f ts) 0 0 f.n i j x p)
