-- The nodes of a tree, or 0 where it is long: no tree has 0 nodes, so one number says both. Assumes nothing.
use Rattle.std.specs.Prelude.{◌≡◌, refl, Bool, true, false, cond, ℕ, ◌+◌, ◌≤◌}
use Rattle.std.proofs.Common.{arith}
use Rattle.integers.specs.Tests.{or_yes}
use Rattle.model.specs.Strips.{Strip}
use Rattle.model.specs.Trees.{Tree, node, is_long}
use Rattle.model.specs.Store.{size}
use Rattle.subtrees.specs.Preorder.{size_pos}

abbrev pub count : Tree → ℕ
count t = cond (is_long t) 0 (size t)

pub sorted : (b : Bool) (n : ℕ) → (cond b 0 n ≡ 0 → ⊥) → (b ≡ false) × (cond b 0 n ≡ n)
sorted true n h = absurd (h refl)
sorted false n h = (refl, refl)

pub kept : (t : Tree) → (count t ≡ 0 → ⊥) → (is_long t ≡ false) × (count t ≡ size t)
kept t h = sorted (is_long t) (size t) h

pub none : (b : Bool) (n : ℕ) → 1 ≤ n → cond b 0 n ≡ 0 → b ≡ true
none true n h e = refl
none false n h e = absurd (omega arith)

pub lost : (t : Tree) → count t ≡ 0 → is_long t ≡ true
lost t e = none (is_long t) (size t) (size_pos t) e

pub count_left : (s : Strip) (l r : Tree) → count l ≡ 0 → count (node s l r) ≡ 0
count_left s l r e = rw (lost l e)

pub count_right : (s : Strip) (l r : Tree) → count r ≡ 0 → count (node s l r) ≡ 0
count_right s l r e = rw (lost r e, or_yes (is_long l))

pub count_both : (s : Strip) (l r : Tree) → (count l ≡ 0 → ⊥) → (count r ≡ 0 → ⊥) → count (node s l r) ≡ 1 + count l + count r
count_both s l r h k = let a = kept l h in let b = kept r k in rw (a.0, b.0) (omega arith)
