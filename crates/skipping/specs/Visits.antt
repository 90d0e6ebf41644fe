-- What a visit of a tree makes of the state: the bounds become the lesser of the state's and of the tree's leaves', and the edge is named where hi falls. So the nodes that it
-- skips change nothing. Assumes nothing.
use Rattle.std.specs.Prelude.{◌≡◌, refl, Bool, true, false, [], ◌∷◌, ℕ, ℤ, pos}
use Rattle.std.proofs.Common.{sym, ap₂, ◌∙◌}
use Rattle.std.proofs.Math.Path.{ap}
use Rattle.std.proofs.Math.Bool.{cond}
use Rattle.std.specs.Int.Signed.{lt_z}
use Rattle.integers.specs.Order.{◌≼◌}
use Rattle.integers.specs.Inequalities.{≼_trans}
use Rattle.integers.specs.Tests.{le_true, false_lt}
use Rattle.model.specs.Strips.{Strip}
use Rattle.model.specs.Trees.{Tree, leaf, long, node}
use Rattle.model.specs.Boxes.{upright, box_of, lesser}
use Rattle.model.specs.Explore.{Cell, farthest², closest²}
use Rattle.model.specs.Distance.{leaves, least, near², far²}
use Rattle.model.specs.Lookup.{State, looked, skipped, taken, visit}
use Rattle.ranges.specs.Sizes.{AllSized}
use Rattle.skipping.specs.Extremes.{lesser_first, lesser_mono, lesser_assoc, taken_twice}
use Rattle.skipping.specs.Nearness.{near_upright, far_upright, least_node, box_nearer, least_first}

module _ (x y : ℤ) (e : ℕ) where
  abbrev p : Cell
  p = record { cx = x; cy = y; s = pos 0 }

  abbrev pub low : Tree → ℤ
  low t = least (closest² p) (leaves t)

  abbrev pub high : Tree → ℤ
  high t = least (farthest² p) (leaves t)

  -- ---- from st to r by the leaves of t, all of them
  pub record Seen (t : Tree) (st r : State) : Type 0 where
    pub lo_is : r.lo ≡ lesser st.lo (low t)
    pub hi_is : r.hi ≡ lesser st.hi (high t)
    pub edge_is : r.edge ≡ cond (lt_z (high t) st.hi) e st.edge

  -- none of them changes anything where the box is no nearer than hi
  skip : (t : Tree) (st : State) → AllSized t → st.lo ≼ st.hi → st.hi ≼ near² p (box_of t) → Seen t st (looked st)
  skip t st f h k =
      let l : st.hi ≼ low t = ≼_trans k (box_nearer x y t) in
      let m : st.hi ≼ high t = ≼_trans l (least_first x y t f) in
      record { lo_is = sym (lesser_first (≼_trans h l)); hi_is = sym (lesser_first m); edge_is = ap (λ (b : Bool). cond b e st.edge) (sym (false_lt m)) }

  -- a leaf's bounds are its strip's
  take : (t : Tree) (s : Strip) (st : State) → leaves t ≡ s ∷ [] → Seen t st (taken p e (upright s) (looked st))
  unfolding least
  take t s st i =
      let l : near² p (upright s) ≡ low t = near_upright x y s ∙ ap (least (closest² p)) (sym i) in
      let h : far² p (upright s) ≡ high t = far_upright x y s ∙ ap (least (farthest² p)) (sym i) in
      record { lo_is = ap (lesser st.lo) l; hi_is = ap (lesser st.hi) h; edge_is = ap (λ (z : ℤ). cond (lt_z z st.hi) e st.edge) h }

  -- a node that was looked at and not skipped has changed no bound yet
  after : (t : Tree) (st r : State) → Seen t (looked st) r → Seen t st r
  after t st r a = record { lo_is = a.lo_is; hi_is = a.hi_is; edge_is = a.edge_is }

  -- one half after the other
  twice : (s : Strip) (l r : Tree) (st u v : State) → Seen l st u → Seen r u v → Seen (node s l r) st v
  twice s l r st u v a b = record {
    lo_is = b.lo_is ∙ ap (λ (z : ℤ). lesser z (low r)) a.lo_is ∙ sym (lesser_assoc st.lo (low l) (low r)) ∙ ap (lesser st.lo) (sym (least_node x y (closest² p) s l r));
    hi_is = b.hi_is ∙ ap (λ (z : ℤ). lesser z (high r)) a.hi_is ∙ sym (lesser_assoc st.hi (high l) (high r)) ∙ ap (lesser st.hi) (sym (least_node x y (farthest² p) s l r));
    edge_is =
        b.edge_is
        ∙ ap₂ (λ (z : ℤ) (f : ℕ). cond (lt_z (high r) z) e f) a.hi_is a.edge_is
        ∙ taken_twice (high l) (high r) st.hi e st.edge
        ∙ ap (λ (z : ℤ). cond (lt_z z st.hi) e st.edge) (sym (least_node x y (farthest² p) s l r));
  }

  -- lo stays below hi
  pub still : (t : Tree) (st r : State) → AllSized t → st.lo ≼ st.hi → Seen t st r → r.lo ≼ r.hi
  still t st r f h a = rw (a.lo_is, a.hi_is) (lesser_mono h (least_first x y t f))

  -- skipped or not, all leaves are seen
  either : (t : Tree) (st r : State) → AllSized t → st.lo ≼ st.hi → Seen t st r → Seen t st (cond (skipped p (box_of t) st) (looked st) r)
  either t st r f h a = go (skipped p (box_of t) st) refl
    where
      go : (b : Bool) → skipped p (box_of t) st ≡ b → Seen t st (cond b (looked st) r)
      go true i = skip t st f h (le_true i)
      go false i = a

  pub visited : (t : Tree) (st : State) → AllSized t → st.lo ≼ st.hi → Seen t st (visit p e t st)
  unfolding visit leaves
  visited (leaf s) st f h = either (leaf s) st (taken p e (upright s) (looked st)) f h (take (leaf s) s st refl)
  visited (long s) st f h = either (long s) st (taken p e (upright s) (looked st)) f h (take (long s) s st refl)
  visited (node s l r) st f h =
      let u : State = visit p e l (looked st) in
      let a : Seen l (looked st) u = visited l (looked st) f.1 h in
      let b : Seen r u (visit p e r u) = visited r u f.2 (still l (looked st) u f.1 h a) in
      either (node s l r) st (visit p e r u) f h (twice s l r st u (visit p e r u) (after l st u a) b)
