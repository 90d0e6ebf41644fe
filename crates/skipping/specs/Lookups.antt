-- A lookup over the trees of several edges, one after the other: its bounds are those over all leaves, and its edge is the one named. Assumes nothing.
use Rattle.std.specs.Prelude.{◌≡◌, refl, Bool, cond, ℕ, suc, ◌+◌, ◌≤◌, ℤ, pos, nat_abs, ◌*ℤ◌, length}
use Rattle.std.proofs.Common.{sym, ap, ◌∙◌, subst, ⊎_elim, arith}
use mathlib.Core.List.{List, [], ◌∷◌}
use Rattle.integers.specs.Order.{◌≼◌, ◌≺◌, ≼_refl}
use Rattle.integers.specs.Inequalities.{≼_trans, ≼_≺_trans, weak}
use Rattle.integers.specs.Signed.{nat_abs_mul}
use Rattle.integers.specs.Tests.{true_lt, false_lt}
use Rattle.model.specs.Trees.{Tree}
use Rattle.model.specs.Boxes.{lesser}
use Rattle.model.specs.Store.{forest}
use Rattle.model.specs.Explore.{Cell, farthest², closest²}
use Rattle.model.specs.Distance.{leaves, leaves_all, least, first_at}
use Rattle.model.specs.Lookup.{State, none, start, visit, visit_all, lookup}
use Rattle.model.specs.Promises.{FoundBy, LookupTrue}
use Rattle.ranges.specs.Legal.{coordinate_true, coordinate_size, Legal, legal}
use Rattle.ranges.specs.Sizes.{EachSized}
use Rattle.ranges.specs.Jobs.{forest_sized}
use Rattle.subtrees.specs.Sizes.{forest_many}
use Rattle.skipping.specs.Extremes.{lesser_first, lesser_second, lesser_≼, lesser_assoc, ≺_lesser, either_way}
use Rattle.skipping.specs.Least.{least_one, least_more, no_more}
use Rattle.skipping.specs.Named.{first_here, first_later}
use Rattle.skipping.specs.Nearness.{least_first, least_below}
use Rattle.skipping.specs.Visits.{Seen, still, visited}

module _ (x y : ℤ) where
  abbrev p : Cell
  p = record { cx = x; cy = y; s = pos 0 }

  -- the bounds of some trees
  abbrev low : List Tree → ℤ
  low ts = least (closest² p) (leaves_all ts)

  abbrev high : List Tree → ℤ
  high ts = least (farthest² p) (leaves_all ts)

  -- ---- from st to r by the trees ts, of which the first is edge e's
  pub record Told (e : ℕ) (ts : List Tree) (st r : State) : Type 0 where
    pub lo_is : r.lo ≡ lesser st.lo (low ts)
    pub hi_is : r.hi ≡ lesser st.hi (high ts)
    pub kept : st.hi ≼ high ts → r.edge ≡ st.edge
    pub fell : high ts ≺ st.hi → r.edge ≡ e + first_at (farthest² p) (high ts) ts

  -- ---- one tree, and one before others
  alone : (e : ℕ) (t : Tree) (st r : State) → Seen x y e t st r → Told e (t ∷ []) st r
  alone e t st r a =
      let i = least_one (farthest² p) t in
      record {
        lo_is = a.lo_is ∙ ap (lesser st.lo) (sym (least_one (closest² p) t));
        hi_is = a.hi_is ∙ ap (lesser st.hi) (sym i);
        kept = λ h. a.edge_is ∙ ap (λ (b : Bool). cond b e st.edge) (false_lt (≼_trans h (≼_refl i)));
        fell = λ h. a.edge_is ∙ ap (λ (b : Bool). cond b e st.edge) (true_lt (≼_≺_trans (≼_refl (sym i)) h)) ∙ omega (arith, first_here (farthest² p) t [] (high (t ∷ [])) (sym i));
      }

  module _ (e : ℕ) (t u : Tree) (us : List Tree) (st m r : State) (a : Seen x y e t st m) (b : Told (suc e) (u ∷ us) m r) where
    -- the least of the first tree, of the others and of all
    abbrev A : ℤ
    A = least (farthest² p) (leaves t)

    abbrev B : ℤ
    B = high (u ∷ us)

    abbrev C : ℤ
    C = high (t ∷ u ∷ us)

    both : C ≡ lesser A B
    both = least_more (farthest² p) t u us

    keep : st.hi ≼ C → r.edge ≡ st.edge
    keep h =
        let l = lesser_≼ A B in
        let i : st.hi ≼ A = ≼_trans h (≼_trans (≼_refl both) l.0) in
        let j : st.hi ≼ B = ≼_trans h (≼_trans (≼_refl both) l.1) in
        b.kept (≼_trans (≼_refl (a.hi_is ∙ lesser_first i)) j) ∙ a.edge_is ∙ ap (λ (b : Bool). cond b e st.edge) (false_lt i)

    -- the least is the others', or the first tree's
    by_others : C ≺ st.hi → B ≺ A → r.edge ≡ e + first_at (farthest² p) C (t ∷ u ∷ us)
    by_others h d =
        let i : C ≡ B = both ∙ lesser_second (weak d) in
        let j : B ≺ m.hi = subst (λ (z : ℤ). B ≺ z) (sym a.hi_is) (≺_lesser (≼_≺_trans (≼_refl (sym i)) h) d) in
        let n = b.fell j ∙ ap (λ (z : ℤ). suc e + first_at (farthest² p) z (u ∷ us)) (sym i) in
        omega (arith, n, first_later (farthest² p) t (u ∷ us) C (≼_≺_trans (≼_refl i) d))

    by_first : C ≺ st.hi → A ≼ B → r.edge ≡ e + first_at (farthest² p) C (t ∷ u ∷ us)
    by_first h d =
        let i : C ≡ A = both ∙ lesser_first d in
        let j : A ≺ st.hi = ≼_≺_trans (≼_refl (sym i)) h in
        let n : r.edge ≡ e = b.kept (≼_trans (≼_refl (a.hi_is ∙ lesser_second (weak j))) d) ∙ a.edge_is ∙ ap (λ (b : Bool). cond b e st.edge) (true_lt j) in
        omega (arith, n, first_here (farthest² p) t (u ∷ us) C (sym i))

    joined : Told e (t ∷ u ∷ us) st r
    joined = record {
      lo_is = b.lo_is ∙ ap (λ (z : ℤ). lesser z (low (u ∷ us))) a.lo_is ∙ sym (lesser_assoc st.lo (least (closest² p) (leaves t)) (low (u ∷ us))) ∙ ap (lesser st.lo) (sym (least_more (closest² p) t u us));
      hi_is = b.hi_is ∙ ap (λ (z : ℤ). lesser z B) a.hi_is ∙ sym (lesser_assoc st.hi A B) ∙ ap (lesser st.hi) (sym both);
      kept = keep;
      fell = λ h. ⊎_elim (by_others h) (by_first h) (either_way A B);
    }

  told : (e : ℕ) (t : Tree) (us : List Tree) (st : State) → EachSized (t ∷ us) → st.lo ≼ st.hi → Told e (t ∷ us) st (visit_all p e (t ∷ us) st)
  unfolding visit_all
  told e t [] st f h = alone e t st (visit p e t st) (visited x y e t st f.0 h)
  told e t (u ∷ us) st f h =
      let m : State = visit p e t st in
      let a : Seen x y e t st m = visited x y e t st f.0 h in
      joined e t u us st m (visit_all p (suc e) (u ∷ us) m) a (told (suc e) u us m f.1 (still x y e t st m f.0 h a))

  -- ---- from the start, where nothing stands for the bounds
  module _ (h : nat_abs x ≤ 16000000) (k : nat_abs y ≤ 16000000) (t : Tree) (us : List Tree) (f : EachSized (t ∷ us)) where
    abbrev end : State
    end = visit_all p 0 (t ∷ us) start

    all : Told 0 (t ∷ us) start end
    all = told 0 t us start f (≼_refl refl)

    high_below : high (t ∷ us) ≺ none
    high_below = ≼_≺_trans (no_more (farthest² p) t us) (least_below x y t h k f.0)

    low_below : low (t ∷ us) ≺ none
    low_below = ≼_≺_trans (≼_trans (no_more (closest² p) t us) (least_first x y t f.0)) (least_below x y t h k f.0)

    lo_all : end.lo ≡ low (t ∷ us)
    lo_all = all.lo_is ∙ lesser_second (weak low_below)

    hi_all : end.hi ≡ high (t ∷ us)
    hi_all = all.hi_is ∙ lesser_second (weak high_below)

    edge_all : end.edge ≡ first_at (farthest² p) (high (t ∷ us)) (t ∷ us)
    edge_all = omega (arith, all.fell high_below)

-- ---- of a point
sixteen : (z : ℤ) → nat_abs z ≤ 1000000 → nat_abs (pos 16 *ℤ z) ≤ 16000000
sixteen z h = omega (arith, nat_abs_mul (pos 16) z)

pub lookup_is : (ts : List Tree) (x y : ℤ) → 1 ≤ length ts → EachSized ts → nat_abs x ≤ 1000000 → nat_abs y ≤ 1000000 → FoundBy ts x y (lookup ts x y)
lookup_is [] x y i f h k = absurd (omega arith)
lookup_is (t ∷ us) x y i f h k =
    let X = pos 16 *ℤ x in
    let Y = pos 16 *ℤ y in
    record {
      lo_is = lo_all X Y (sixteen x h) (sixteen y k) t us f;
      hi_is = hi_all X Y (sixteen x h) (sixteen y k) t us f;
      edge_is = edge_all X Y (sixteen x h) (sixteen y k) t us f;
    }

pub lookup_true : LookupTrue
lookup_true j h x y p q =
    let l : Legal j = legal j h in
    lookup_is (forest j) x y (omega (arith, l.some, forest_many j)) (forest_sized j l) (coordinate_size x (coordinate_true p)) (coordinate_size y (coordinate_true q))
