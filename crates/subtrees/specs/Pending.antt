-- A part of a store on a walk from its front: from a place on it is the trees that are still to be looked at, one after the other. Assumes nothing.
use Rattle.std.specs.Prelude.{◌≡◌, refl, List, [], ◌∷◌, ℕ, ◌+◌, ◌*◌, ◌≤◌, ◌<◌, ℤ, pos, length, get_or, drop}
use Rattle.std.proofs.Common.{sym, ap, ◌∙◌, append_assoc, append-nil, arith, drop-drop, get_or-drop}
use Rattle.model.specs.Strips.{Strip}
use Rattle.model.specs.Trees.{Tree, leaf, long, node}
use Rattle.model.specs.Store.{width, size, sizes, flatten, flatten_all}
use Rattle.model.specs.Boxes.{box_of}
use Rattle.ranges.specs.Sizes.{Sized, BoxSized, AllSized, EachSized}
use Rattle.ranges.specs.Boxes.{box_sized}
use Rattle.nodes.specs.Places.{count_place, strip_in, box_in}
use Rattle.subtrees.specs.Preorder.{size_pos, length_flatten, Begins, begun, later, top, begins_strip, begins_box, begins_count}

-- ---- the part holds a tree whose strips are sized
pub record TreeOf (l : List ℤ) : Type 0 where
  pub tree : Tree
  pub is : l ≡ flatten tree
  pub sized : AllSized tree

-- ---- from place `at` on it is these trees
pub record Rest (l : List ℤ) (at : ℕ) (ts : List Tree) : Type 0 where
  pub is : drop at l ≡ flatten_all ts
  pub long : length l ≡ at + width * sizes ts
  pub sized : EachSized ts

-- at the front the rest is the whole tree
pub whole : (l : List ℤ) (t : Tree) → l ≡ flatten t → AllSized t → Rest l 0 (t ∷ [])
whole l t e f = record { is = e ∙ sym (append-nil (flatten t)); long = omega (arith, ap length e, length_flatten t); sized = (f, tt) }

module _ (l : List ℤ) (at : ℕ) where
  -- past a node's own numbers the rest is its two halves and then the others
  pub into : (s : Strip) (a b : Tree) (ts : List Tree) → Rest l at (node s a b ∷ ts) → Rest l (at + width) (a ∷ b ∷ ts)
  into s a b ts r = record {
    is = sym (drop-drop width at l) ∙ ap (λ (z : List ℤ). drop width z) r.is ∙ append_assoc (flatten a) (flatten b) (flatten_all ts);
    long = omega (arith, r.long);
    sized = (r.sized.0.1, (r.sized.0.2, r.sized.1));
  }

  -- past a tree's whole stretch the rest is the others
  pub past : (t : Tree) (ts : List Tree) → Rest l at (t ∷ ts) → Rest l (at + width * size t) ts
  past t ts r = record {
    is = sym (drop-drop (width * size t) at l) ∙ later (drop at l) (flatten_all ts) t r.is;
    long = omega (arith, r.long);
    sized = r.sized.1;
  }

  -- a walk does not leave the part
  pub within : (ts : List Tree) → Rest l at ts → at ≤ length l
  within ts r = omega (arith, r.long)

  -- at the end there is none, and before it there is one
  pub done : (ts : List Tree) → Rest l at ts → length l ≤ at → ts ≡ []
  done [] r h = refl
  done (t ∷ ts) r h = absurd (omega (arith, r.long, size_pos t))

  pub record First (ts : List Tree) : Type 0 where
    pub tree : Tree
    pub others : List Tree
    pub are : ts ≡ tree ∷ others

  pub more : (ts : List Tree) → Rest l at ts → at < length l → First ts
  more [] r h = absurd (omega (arith, r.long))
  more (t ∷ ts) r h = record { tree = t; others = ts; are = refl }

-- ---- what is read of the first of them
top_sized : (t : Tree) → AllSized t → Sized (top t)
top_sized (leaf s) f = f
top_sized (long s) f = f
top_sized (node s a b) f = f.0

module _ {l : List ℤ} {at : ℕ} {t : Tree} {ts : List Tree} (r : Rest l at (t ∷ ts)) where
  begins : Begins t (drop at l)
  begins = begun (drop at l) (flatten_all ts) t r.is

  pub room : at + width * size t ≤ length l
  room = omega (arith, r.long)

  pub strip_is : strip_in (drop at l) ≡ top t
  strip_is = begins_strip t (drop at l) begins

  pub strip_sized : Sized (strip_in (drop at l))
  strip_sized = rw strip_is (top_sized t r.sized.0)

  pub count_is : get_or l (at + count_place) (pos 0) ≡ pos (size t)
  count_is = sym (get_or-drop at l count_place (pos 0)) ∙ begins_count t (drop at l) begins

  pub box_is : box_in (drop at l) ≡ box_of t
  box_is = begins_box t (drop at l) begins

  pub around_sized : BoxSized (box_in (drop at l))
  around_sized = rw box_is (box_sized t r.sized.0)
