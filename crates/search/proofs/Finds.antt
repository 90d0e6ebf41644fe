-- What a tree answers, by the numbers that stand for answers. Assumes nothing.
use mathlib.Core.Path.{◌≡◌, refl}
use Prim.Native.Nat.{ℕ, ◌≤◌, max}
use native.Mathlib.Omega.{arith}
use Rattle.model.specs.Strips.{Strip}
use Rattle.model.specs.Trees.{Tree, leaf, long, node}
use Rattle.model.specs.Explore.{Answer, inside, away, maybe, explore, join, settle}
use Rattle.model.specs.Store.{size}
use Rattle.ranges.specs.Sizes.{Sized, AllSized}
use Rattle.strip_tests.specs.PlainTests.{code}
use Rattle.subtrees.specs.Preorder.{size_pos, top}

-- joined, the larger holds
pub join_is : (a b : Answer) → code (join a b) ≡ max (code a) (code b)
join_is inside inside = refl
join_is inside away = refl
join_is inside maybe = refl
join_is away inside = refl
join_is away away = refl
join_is away maybe = refl
join_is maybe inside = refl
join_is maybe away = refl
join_is maybe maybe = refl

settled : (a b : Answer) → (code a ≡ 1 → ⊥) → code (settle a b) ≡ code a
settled inside b f = refl
settled away b f = refl
settled maybe b f = absurd (f refl)

pub open_is : (a b : Answer) → code a ≡ 1 → code (settle a b) ≡ code b
open_is inside b e = absurd (omega arith)
open_is away b e = absurd (omega arith)
open_is maybe b e = refl

settle_most : (a b : Answer) (e : ℕ) → code a ≤ e → code b ≤ e → code (settle a b) ≤ e
settle_most inside b e h k = h
settle_most away b e h k = h
settle_most maybe b e h k = k

module _ (v : Strip → Answer) where
  -- a first node that is inside or away answers for its tree
  pub closed : (t : Tree) → (code (v (top t)) ≡ 1 → ⊥) → code (explore v t) ≡ code (v (top t))
  unfolding explore
  closed (leaf s) f = refl
  closed (long s) f = refl
  closed (node s a b) f = settled (v s) (join (explore v a) (explore v b)) f

  -- and the only node of a tree does
  pub alone : (t : Tree) → size t ≡ 1 → code (explore v t) ≡ code (v (top t))
  unfolding explore
  alone (leaf s) e = refl
  alone (long s) e = refl
  alone (node s a b) e = absurd (omega (arith, size_pos a))

  -- no tree answers above what its nodes do
  pub most : (e : ℕ) → ((S : Strip) → Sized S → code (v S) ≤ e) → (t : Tree) → AllSized t → code (explore v t) ≤ e
  unfolding explore
  most e f (leaf s) k = f s k
  most e f (long s) k = f s k
  most e f (node s a b) k =
      let ha = most e f a k.1 in
      let hb = most e f b k.2 in
      settle_most (v s) (join (explore v a) (explore v b)) e (f s k.0) (omega (arith, ha, hb, join_is (explore v a) (explore v b)))
