-- A tree at a place of a store: its count, its part, and the trees behind it. Assumes nothing.
use Rattle.std.specs.Prelude.{◌≡◌, List, ◌∷◌, ℕ, ◌+◌, ◌*◌, ◌-◌, ◌≤◌, ◌<◌, T, ℤ, pos, nat_abs, length, get_or, take, drop}
use Rattle.std.proofs.Common.{sym, ap, ◌∙◌, subst, arith, length-drop, drop-drop, get_or-drop}
use Rattle.std.specs.Int.Signed.{non_neg}
use Rattle.model.specs.Trees.{Tree}
use Rattle.model.specs.Store.{width, size, flatten}
use Rattle.nodes.specs.Places.{count_place}
use Rattle.ranges.specs.Sizes.{AllSized, EachSized}
use Rattle.subtrees.specs.Preorder.{size_pos, Begins, BeginsAll, all_first, all_others}
use Rattle.subtrees.specs.Fronts.{room, counted, size_read, first_part}

-- the tree t starts at place a
pub record At (store : List ℤ) (a : ℕ) (t : Tree) : Type 0 where
  pub begins : Begins t (drop a store)
  pub sized : AllSized t

-- ---- its count and its part, as they are read there
module _ (l : List ℤ) (a : ℕ) (t : Tree) (h : At l a t) where
  long_is : a + width * size t ≤ length l
  long_is = omega (arith, room t (drop a l) h.begins, length-drop a l, size_pos t)

  pub front : (a + count_place < length l) × T (non_neg (get_or l (a + count_place) (pos 0)))
  front = (omega (arith, long_is, size_pos t), subst (λ z. T (non_neg z)) (get_or-drop a l count_place (pos 0)) (counted t (drop a l) h.begins))

pub record Here (l : List ℤ) (a n : ℕ) (t : Tree) : Type 0 where
  pub n_is : n ≡ size t
  pub long : a + width * n ≤ length l
  pub part : take (a + width * n - a) (drop a l) ≡ flatten t

pub here : (l : List ℤ) (a n : ℕ) (t : Tree) → At l a t → n ≡ nat_abs (get_or l (a + count_place) (pos 0)) → Here l a n t
here l a n t h e =
    let i : n ≡ size t = size_read t (drop a l) n h.begins (e ∙ ap nat_abs (sym (get_or-drop a l count_place (pos 0)))) in
    record { n_is = i; long = omega (arith, long_is l a t h); part = first_part t (drop a l) (a + width * n - a) h.begins (omega arith) }

-- ---- from place a on the store holds the trees ts
pub record Ahead (store : List ℤ) (a : ℕ) (ts : List Tree) : Type 0 where
  pub begins : BeginsAll ts (drop a store)
  pub sized : EachSized ts

pub first_at : (store : List ℤ) (a : ℕ) (t : Tree) (ts : List Tree) → Ahead store a (t ∷ ts) → At store a t
first_at store a t ts h = record { begins = all_first t ts (drop a store) h.begins; sized = h.sized.0 }

pub next_ahead : (store : List ℤ) (a : ℕ) (t : Tree) (ts : List Tree) → Ahead store a (t ∷ ts) → Ahead store (a + width * size t) ts
next_ahead store a t ts h = record { begins = subst (BeginsAll ts) (drop-drop (width * size t) a store) (all_others t ts (drop a store) h.begins); sized = h.sized.1 }
