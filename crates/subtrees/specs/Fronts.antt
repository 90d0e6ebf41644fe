-- A list that begins with trees whose strips are sized, one after the other, and what can be read at its front. Assumes nothing.
use Rattle.std.specs.Prelude.{◌≡◌, List, ℕ, ◌*◌, ◌≤◌, T, ℤ, pos, nat_abs, length, get_or, take, drop}
use Rattle.std.proofs.Common.{ap, ◌∙◌, arith, length-append, take_at}
use Rattle.std.specs.Int.Signed.{non_neg}
use Rattle.model.specs.Trees.{Tree}
use Rattle.model.specs.Store.{width, size, flatten}
use Rattle.ranges.specs.Sizes.{EachSized}
use Rattle.nodes.specs.Places.{count_place}
use Rattle.subtrees.specs.Preorder.{length_flatten, Begins, BeginsAll, begins_count}

-- ---- the list begins with the k trees ts, and with some k trees
pub record Holds (l : List ℤ) (k : ℕ) (ts : List Tree) : Type 0 where
  pub many : length ts ≡ k
  pub begins : BeginsAll ts l
  pub sized : EachSized ts

pub record TreesOf (l : List ℤ) (k : ℕ) : Type 0 where
  pub trees : List Tree
  pub holds : Holds l k trees

-- ---- the first tree: its numbers, its count, its part
pub room : (t : Tree) (l : List ℤ) → Begins t l → width * size t ≤ length l
room t l b = omega (arith, ap length b, length-append (flatten t) (drop (width * size t) l), length_flatten t)

pub counted : (t : Tree) (l : List ℤ) → Begins t l → T (non_neg (get_or l count_place (pos 0)))
counted t l b = rw (begins_count t l b) tt

-- n is the first tree's count, as read
pub size_read : (t : Tree) (l : List ℤ) (n : ℕ) → Begins t l → n ≡ nat_abs (get_or l count_place (pos 0)) → n ≡ size t
size_read t l n b e = e ∙ ap nat_abs (begins_count t l b)

-- the part that ends where the count says
pub first_part : (t : Tree) (l : List ℤ) (m : ℕ) → Begins t l → m ≡ width * size t → take m l ≡ flatten t
first_part t l m b e = ap (λ (k : ℕ). take k l) e ∙ ap (λ (y : List ℤ). take (width * size t) y) b ∙ take_at (flatten t) (drop (width * size t) l) (width * size t) (length_flatten t)
