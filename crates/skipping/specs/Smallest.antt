-- The box of a tree holds the upright box of each of its leaves, and lies in every box that does. Assumes nothing.
use Rattle.std.specs.Prelude.{refl, List, [], ◌∷◌, ◌++◌}
use Rattle.integers.specs.Order.{≼_refl}
use Rattle.integers.specs.Inequalities.{≼_trans}
use Rattle.model.specs.Strips.{Strip}
use Rattle.model.specs.Trees.{Tree, leaf, long, node}
use Rattle.model.specs.Boxes.{Box, upright, around, box_of}
use Rattle.model.specs.Distance.{leaves}
use Rattle.model.specs.Promises.{Within, Every, BoxSmallest}
use Rattle.skipping.specs.Extremes.{lesser_≼, ≼_greater, ≼_lesser, greater_≼}

-- ---- a box that lies in another
itself : (a : Box) → Within a a
itself a = record { left = ≼_refl refl; low = ≼_refl refl; right = ≼_refl refl; high = ≼_refl refl }

inside : {a b c : Box} → Within a b → Within b c → Within a c
inside h k = record { left = ≼_trans k.left h.left; low = ≼_trans k.low h.low; right = ≼_trans h.right k.right; high = ≼_trans h.high k.high }

-- ---- around two
first_in : (a b : Box) → Within a (around a b)
first_in a b = record {
  left = (lesser_≼ a.x.least b.x.least).0;
  low = (lesser_≼ a.y.least b.y.least).0;
  right = (≼_greater a.x.greatest b.x.greatest).0;
  high = (≼_greater a.y.greatest b.y.greatest).0;
}

second_in : (a b : Box) → Within b (around a b)
second_in a b = record {
  left = (lesser_≼ a.x.least b.x.least).1;
  low = (lesser_≼ a.y.least b.y.least).1;
  right = (≼_greater a.x.greatest b.x.greatest).1;
  high = (≼_greater a.y.greatest b.y.greatest).1;
}

both_in : {a b c : Box} → Within a c → Within b c → Within (around a b) c
both_in h k = record { left = ≼_lesser h.left k.left; low = ≼_lesser h.low k.low; right = greater_≼ h.right k.right; high = greater_≼ h.high k.high }

-- ---- all of a list
module _ (P : Strip → Type 0) where
  every_join : (a b : List Strip) → Every P a → Every P b → Every P (a ++ b)
  every_join [] b h k = k
  every_join (s ∷ a) b h k = (h.0, every_join a b h.1 k)

  every_split : (a b : List Strip) → Every P (a ++ b) → Every P a × Every P b
  every_split [] b h = (tt, h)
  every_split (s ∷ a) b h = let r = every_split a b h.1 in ((h.0, r.0), r.1)

every_map : (P Q : Strip → Type 0) → ((s : Strip) → P s → Q s) → (l : List Strip) → Every P l → Every Q l
every_map P Q f [] h = tt
every_map P Q f (s ∷ l) h = (f s h.0, every_map P Q f l h.1)

-- ---- around the leaves of a tree
holds : (t : Tree) → Every (λ s. Within (upright s) (box_of t)) (leaves t)
unfolding leaves
holds (leaf s) = (itself (upright s), tt)
holds (long s) = (itself (upright s), tt)
holds (node s l r) =
    every_join (λ s. Within (upright s) (around (box_of l) (box_of r))) (leaves l) (leaves r)
    (every_map (λ s. Within (upright s) (box_of l)) (λ s. Within (upright s) (around (box_of l) (box_of r))) (λ s h. inside h (first_in (box_of l) (box_of r))) (leaves l) (holds l))
    (every_map (λ s. Within (upright s) (box_of r)) (λ s. Within (upright s) (around (box_of l) (box_of r))) (λ s h. inside h (second_in (box_of l) (box_of r))) (leaves r) (holds r))

least_box : (t : Tree) (b : Box) → Every (λ s. Within (upright s) b) (leaves t) → Within (box_of t) b
unfolding leaves
least_box (leaf s) b h = h.0
least_box (long s) b h = h.0
least_box (node s l r) b h =
    let k = every_split (λ s. Within (upright s) b) (leaves l) (leaves r) h in
    both_in (least_box l b k.0) (least_box r b k.1)

pub box_smallest : BoxSmallest
box_smallest t = (holds t, least_box t)
