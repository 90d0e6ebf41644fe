-- The two bounds of a point's squared distance hold of the outline: a point is the cell of half side 0. Assumes nothing.
use Rattle.std.specs.Prelude.{◌≡◌, Bool, true, false, cond, ◌⊎◌, ℕ, zero, suc, ◌+◌, ◌≤◌, ℤ, pos, ◌-ℤ◌, ◌*ℤ◌}
use Rattle.std.proofs.Math.Path.{refl}
use Rattle.std.proofs.Common.{sym, ap, subst, inr, arith}
use mathlib.Core.List.{List, [], ◌∷◌, ◌++◌}
use Rattle.std.proofs.Math.Logic.{inl, ⊎_elim}
use Rattle.std.specs.Int.Signed.{lt_z}
use Rattle.integers.specs.RingSolver.{name₁, name₄, reify}
use Rattle.integers.specs.Order.{◌≼◌, ◌≺◌, ≼_refl, ◌⊠◌, gap}
use Rattle.integers.specs.Omega.{zarith}
use Rattle.integers.specs.Inequalities.{from, ◌&◌, weak, ≼_trans}
use Rattle.integers.specs.Within.{Within}
use Rattle.model.specs.declared.Job.{Job}
use Rattle.model.specs.Jobs.{outline, edges_from, edge_at, judge}
use Rattle.model.specs.Strips.{Strip}
use Rattle.model.specs.Trees.{Tree, leaf, long, node, tree, trees}
use Rattle.model.specs.Store.{forest}
use Rattle.model.specs.Fractions.{Point, dist²}
use Rattle.model.specs.Explore.{closest², farthest²}
use Rattle.model.specs.Exact.{Points}
use Rattle.model.specs.Distance.{spot, leaves, leaves_all, least, lo, hi, Some}
use Rattle.model.specs.Promises.{Bounds, whole_point, PointBounds}
use Rattle.enclosure.specs.Covers.{In, Covers, at_leaf, at_long, at_node, CoversAll, at_end, at_cons}
use Rattle.integers.specs.Tests.{lt_true, lt_false}
use Rattle.verdicts.specs.Apart.{InCell}
use Rattle.verdicts.specs.Tests.{at_most_farthest, at_least_closest}
use Rattle.ranges.specs.Legal.{legal}
use Rattle.verdicts.specs.DemandThree.{forest_covers}

-- ---- some strip of a list
some_left : (F : Strip → Type 0) (ss us : List Strip) → Some F ss → Some F (ss ++ us)
some_left F [] us h = absurd h
some_left F (s ∷ ss) us h = ⊎_elim (λ k. inl k) (λ k. inr (some_left F ss us k)) h

some_right : (F : Strip → Type 0) (ss us : List Strip) → Some F us → Some F (ss ++ us)
some_right F [] us h = h
some_right F (s ∷ ss) us h = inr (some_right F ss us h)

some_split : (F : Strip → Type 0) (ss us : List Strip) → Some F (ss ++ us) → Some F ss ⊎ Some F us
some_split F [] us h = inr h
some_split F (s ∷ ss) us h = ⊎_elim (λ k. inl (inl k)) (λ k. ⊎_elim (λ l. inl (inr l)) (λ l. inr l) (some_split F ss us k)) h

-- ---- the least value: none is smaller, and some strip has it
lesser_cases : (a b : ℤ) (c : Bool) → lt_z b a ≡ c → (cond c b a ≼ a) × (cond c b a ≼ b)
lesser_cases a b true e = (weak (lt_true e), ≼_refl refl)
lesser_cases a b false e = (≼_refl refl, lt_false e)

module _ (f : Strip → ℤ) where
  least_below : (F : Strip → Type 0) (ss : List Strip) → Some F ss → (s : Strip) × F s × (least f ss ≼ f s)
  unfolding least
  least_below F [] h = absurd h
  least_below F (s ∷ []) h = ⊎_elim (λ (k : F s). (s, k, ≼_refl refl)) (λ k. absurd k) h
  least_below F (s ∷ t ∷ ss) h =
      let c = lesser_cases (f s) (least f (t ∷ ss)) (lt_z (least f (t ∷ ss)) (f s)) refl in
      ⊎_elim
      (λ (k : F s). (s, k, c.0))
      (λ (k : Some F (t ∷ ss)). let x = least_below F (t ∷ ss) k in (x.0, x.1, ≼_trans c.1 x.2))
      h

  either : (z : ℤ) (s : Strip) (ss : List Strip) (b : Bool) → Some (λ t. f t ≡ z) ss → Some (λ t. f t ≡ cond b z (f s)) (s ∷ ss)
  either z s ss true h = inr h
  either z s ss false h = inl refl

  least_attained : (s : Strip) (ss : List Strip) → Some (λ t. f t ≡ least f (s ∷ ss)) (s ∷ ss)
  unfolding least
  least_attained s [] = inl refl
  least_attained s (t ∷ ss) = either (least f (t ∷ ss)) s (t ∷ ss) (lt_z (least f (t ∷ ss)) (f s)) (least_attained t ss)

-- ---- a tree that covers: each point lies in a leaf's strip, each leaf's strip has a point
leaf_of : {S : Points} {t : Tree} → Covers S t → (P : Point) → S P → Some (λ s. In s P) (leaves t)
unfolding leaves
leaf_of (at_leaf h P a) Q q = inl (h Q q)
leaf_of (at_long h P a) Q q = inl (h Q q)
leaf_of (at_node {l = l} {r = r} h A B c f g u v) Q q =
    let hl = leaf_of u in
    let hr = leaf_of v in
    ⊎_elim
    (λ (a : A Q). some_left (λ s. In s Q) (leaves l) (leaves r) (hl Q a))
    (λ (b : B Q). some_right (λ s. In s Q) (leaves l) (leaves r) (hr Q b))
    (c Q q)

-- the strip of a leaf with the property F, and a point of S in it
pub record Met (F : Strip → Type 0) (S : Points) : Type 0 where
  pub strip : Strip
  pub has : F strip
  pub point : Point
  pub member : S point
  pub lies : In strip point

met_more : {F : Strip → Type 0} {A S : Points} → ((P : Point) → A P → S P) → Met F A → Met F S
met_more f m = record { strip = m.strip; has = m.has; point = m.point; member = f m.point m.member; lies = m.lies }

point_of : (F : Strip → Type 0) {S : Points} {t : Tree} → Covers S t → Some F (leaves t) → Met F S
unfolding leaves
point_of F (at_leaf {s = s} h P a) k = record { strip = s; has = ⊎_elim (λ (x : F s). x) (λ x. absurd x) k; point = P; member = a; lies = h P a }
point_of F (at_long {s = s} h P a) k = record { strip = s; has = ⊎_elim (λ (x : F s). x) (λ x. absurd x) k; point = P; member = a; lies = h P a }
point_of F (at_node {l = l} {r = r} h A B c f g u v) k =
    let hl = point_of F u in
    let hr = point_of F v in
    ⊎_elim
    (λ (x : Some F (leaves l)). met_more f (hl x))
    (λ (x : Some F (leaves r)). met_more g (hr x))
    (some_split F (leaves l) (leaves r) k)

leaf_of_all : {S : Points} {ts : List Tree} → CoversAll S ts → (P : Point) → S P → Some (λ s. In s P) (leaves_all ts)
unfolding leaves_all
leaf_of_all (at_end z) P a = absurd (z P a)
leaf_of_all (at_cons {t = t} {ts = ts} A B c f g u v) P a =
    let rest = leaf_of_all v in
    ⊎_elim
    (λ (x : A P). some_left (λ s. In s P) (leaves t) (leaves_all ts) (leaf_of u P x))
    (λ (x : B P). some_right (λ s. In s P) (leaves t) (leaves_all ts) (rest P x))
    (c P a)

point_of_all : (F : Strip → Type 0) {S : Points} {ts : List Tree} → CoversAll S ts → Some F (leaves_all ts) → Met F S
unfolding leaves_all
point_of_all F (at_end z) k = absurd k
point_of_all F (at_cons {t = t} {ts = ts} A B c f g u v) k =
    let rest = point_of_all F v in
    ⊎_elim
    (λ (x : Some F (leaves t)). met_more f (point_of F u x))
    (λ (x : Some F (leaves_all ts)). met_more g (rest x))
    (some_split F (leaves t) (leaves_all ts) k)

-- ---- a tree has a leaf, and the trees of an outline that is not empty have one
pub record HasFirst (ss : List Strip) : Type 0 where
  pub first : Strip
  pub others : List Strip
  pub is : ss ≡ first ∷ others

first_append : {ss : List Strip} (us : List Strip) → HasFirst ss → HasFirst (ss ++ us)
first_append us h = record { first = h.first; others = h.others ++ us; is = ap (λ l. l ++ us) h.is }

leaves_first : (t : Tree) → HasFirst (leaves t)
unfolding leaves
leaves_first (leaf s) = record { first = s; others = []; is = refl }
leaves_first (long s) = record { first = s; others = []; is = refl }
leaves_first (node s l r) = first_append (leaves r) (leaves_first l)

trees_first : (ts : List Tree) → (t : Tree) (us : List Tree) → ts ≡ t ∷ us → HasFirst (leaves_all ts)
unfolding leaves_all
trees_first ts t us e = subst (λ x. HasFirst (leaves_all x)) (sym e) (first_append (leaves_all us) (leaves_first t))

forest_first : (j : Job) → (k : ℕ) → j.count ≡ suc k → HasFirst (leaves_all (forest j))
unfolding forest outline edges_from
forest_first j k e =
    trees_first (forest j) (tree j.grain (edge_at j.marks j.places 0)) (trees j.grain (edges_from j.marks j.places k (0 + 1)))
    (ap (λ n. trees j.grain (edges_from j.marks j.places n 0)) e)

-- ---- the point itself
itself : (x y : ℤ) → InCell (spot x y) (whole_point x y)
itself x y = record { in_x = still x; in_y = still y }
  where
    still : (x : ℤ) → Within (pos 16 *ℤ x -ℤ pos 16 *ℤ x *ℤ pos 1) (pos 0 *ℤ pos 1)
    still x = record {
      low = name₁ x λ σ p. simp (p, reify, σ) (omega zarith);
      high = name₁ x λ σ p. simp (p, reify, σ) (omega zarith);
    }

lower : (z f d t : ℤ) → pos 0 ≺ d → z ≼ f → f *ℤ d ≼ t *ℤ pos 256 → z *ℤ d ≼ t *ℤ pos 256
lower z f d t hd h k = from (k & weak hd ⊠ gap h) (name₄ z f d t λ σ p₁ p₂ p₃ p₄. simp (p₁, p₂, p₃, p₄, reify, σ) (omega zarith))

module _ (j : Job) (ok : judge j ≡ 0) (x y : ℤ) where
  near_leaf : HasFirst (leaves_all (forest j)) → Some (λ s. farthest² (spot x y) s ≡ hi (forest j) x y) (leaves_all (forest j))
  near_leaf h =
      subst (λ l. Some (λ s. farthest² (spot x y) s ≡ least (farthest² (spot x y)) l) l) (sym h.is) (least_attained (farthest² (spot x y)) h.first h.others)

  counted : (n : ℕ) → j.count ≡ n → 1 ≤ n → HasFirst (leaves_all (forest j))
  counted zero e h = absurd (omega arith)
  counted (suc k) e h = forest_first j k e

  bounds : Bounds j (whole_point x y) (lo (forest j) x y) (hi (forest j) x y)
  bounds = record {
    none_nearer = λ P a.
        let l = least_below (closest² (spot x y)) (λ s. In s P) (leaves_all (forest j)) (leaf_of_all (forest_covers j) P a) in
        lower (lo (forest j) x y) (closest² (spot x y) l.0) (dist² P (whole_point x y)).low (dist² P (whole_point x y)).top (dist² P (whole_point x y)).up l.2
        (at_least_closest (pos 0) (spot x y) l.0 P (whole_point x y) l.1 (itself x y));
    some_near =
        let m = point_of_all (λ s. farthest² (spot x y) s ≡ hi (forest j) x y) (forest_covers j) (near_leaf (counted j.count refl (legal j ok).some)) in (
          m.point,
          m.member,
          subst (λ z. (dist² m.point (whole_point x y)).top *ℤ pos 256 ≼ z *ℤ (dist² m.point (whole_point x y)).low) m.has
              (at_most_farthest (pos 0) (spot x y) m.strip m.point (whole_point x y) m.lies (itself x y)),
        );
  }

pub point_bounds : PointBounds
point_bounds j ok x y = bounds j ok x y
