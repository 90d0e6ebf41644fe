-- The edge named with a point, by which tree's leaves attain the least value of all: that it is the first of which a leaf does (`named_first`).
-- Assumes nothing.
use Rattle.std.specs.Prelude.{◌≡◌, Bool, List, [], ◌∷◌, leb, ℤ, length}
use Rattle.std.proofs.Math.Path.{refl, ap, subst}
use Rattle.std.proofs.Common.{sym, ◌∙◌, ⊎_elim, arith, leb-false}
use Rattle.std.proofs.Math.Bool.{true, false, cond}
use Prim.Native.Nat.{ℕ, zero, suc, ◌≤◌, ◌<◌}
use Rattle.std.specs.Int.Signed.{clash_ℤ}
use Rattle.integers.specs.Order.{◌≼◌, ◌≺◌, ≼_refl}
use Rattle.integers.specs.Inequalities.{≼_≺_trans, weak}
use Rattle.integers.specs.Tests.{le_of}
use Rattle.model.specs.Sheets.{same}
use Rattle.model.specs.Strips.{Strip}
use Rattle.model.specs.Trees.{Tree}
use Rattle.model.specs.Store.{forest}
use Rattle.model.specs.Explore.{farthest²}
use Rattle.model.specs.Distance.{spot, leaves, leaves_all, leaves_at, least, hi, first_at, named, Some}
use Rattle.model.specs.Promises.{NamedFirst, FirstOne}
use Rattle.ranges.specs.Equal.{same_is, same_self}
use Rattle.ranges.specs.Legal.{legal}
use Rattle.subtrees.specs.Sizes.{forest_many}
use Rattle.skipping.specs.Extremes.{lesser_first, lesser_second, either_way}
use Rattle.skipping.specs.Least.{attained, none_below, leaf_there, some_below, least_one, least_more}

module _ (f : Strip → ℤ) where
  -- ---- the first tree or a later one, by its least value
  pub first_here : (t : Tree) (us : List Tree) (z : ℤ) → least f (leaves t) ≡ z → first_at f z (t ∷ us) ≡ 0
  unfolding first_at
  first_here t us z e = ap (λ (b : Bool). cond b 0 (suc (first_at f z us))) (ap (λ (y : ℤ). same y z) e ∙ same_self z)

  pub first_later : (t : Tree) (us : List Tree) (z : ℤ) → z ≺ least f (leaves t) → first_at f z (t ∷ us) ≡ suc (first_at f z us)
  unfolding first_at
  first_later t us z h = go (same (least f (leaves t)) z) (λ e. clash_ℤ h (≼_refl (same_is (least f (leaves t)) z e)))
    where
      go : (b : Bool) → (b ≡ true → ⊥) → cond b 0 (suc (first_at f z us)) ≡ suc (first_at f z us)
      go true n = absurd (n refl)
      go false n = refl

  -- ---- tree k is the first of which a leaf is at z
  pub record Earliest (ts : List Tree) (z : ℤ) (k : ℕ) : Type 0 where
    pub attains : Some (λ s. f s ≡ z) (leaves_at ts k)
    pub first : (j : ℕ) → j < k → Some (λ s. f s ≡ z) (leaves_at ts j) → ⊥

  -- a tree whose least is z has a leaf there
  at_once : (t : Tree) (us : List Tree) (z : ℤ) → z ≡ least f (leaves t) → Earliest (t ∷ us) z 0
  unfolding leaves_at
  at_once t us z i = record {
    attains = subst (λ (z : ℤ). Some (λ s. f s ≡ z) (leaves t)) (sym i) (attained f (leaves t) (leaf_there t));
    first = λ j h w. absurd (omega (arith, h));
  }

  -- one tree more before those whose first is at z, with no leaf as low
  after : (t : Tree) (us : List Tree) (z : ℤ) (k : ℕ) → z ≺ least f (leaves t) → Earliest us z k → Earliest (t ∷ us) z (suc k)
  unfolding leaves_at
  after t us z k h a = record { attains = a.attains; first = before }
    where
      before : (j : ℕ) → j < suc k → Some (λ s. f s ≡ z) (leaves_at (t ∷ us) j) → ⊥
      before zero i w = clash_ℤ h (none_below f (leaves t) z w)
      before (suc j) i w = a.first j (omega arith) w

  -- ---- where there is a tree at all, the definition gives the first
  pub first_is : (t : Tree) (us : List Tree) (z : ℤ) → z ≡ least f (leaves_all (t ∷ us)) → Earliest (t ∷ us) z (first_at f z (t ∷ us))
  first_is t [] z e =
      let i : z ≡ least f (leaves t) = e ∙ least_one f t in
      subst (Earliest (t ∷ []) z) (sym (first_here t [] z (sym i))) (at_once t [] z i)
  first_is t (u ∷ us) z e = ⊎_elim (others (first_is u us z)) own (either_way A B)
    where
      A : ℤ
      A = least f (leaves t)

      B : ℤ
      B = least f (leaves_all (u ∷ us))

      others : (z ≡ B → Earliest (u ∷ us) z (first_at f z (u ∷ us))) → B ≺ A → Earliest (t ∷ u ∷ us) z (first_at f z (t ∷ u ∷ us))
      others rest d =
          let i : z ≡ B = e ∙ least_more f t u us ∙ lesser_second (weak d) in
          let h : z ≺ A = ≼_≺_trans (≼_refl i) d in
          subst (Earliest (t ∷ u ∷ us) z) (sym (first_later t (u ∷ us) z h)) (after t (u ∷ us) z (first_at f z (u ∷ us)) h (rest i))

      own : A ≼ B → Earliest (t ∷ u ∷ us) z (first_at f z (t ∷ u ∷ us))
      own d =
          let i : z ≡ A = e ∙ least_more f t u us ∙ lesser_first d in
          subst (Earliest (t ∷ u ∷ us) z) (sym (first_here t (u ∷ us) z (sym i))) (at_once t (u ∷ us) z i)

-- ---- of a job
module _ (x y : ℤ) where
  of_some : (ts : List Tree) → 1 ≤ length ts → Earliest (farthest² (spot x y)) ts (hi ts x y) (named ts x y)
  of_some [] h = absurd (omega arith)
  of_some (t ∷ us) h = first_is (farthest² (spot x y)) t us (hi (t ∷ us) x y) refl

pub named_first : NamedFirst
named_first j h x y =
    let a = of_some x y (forest j) (omega (arith, (legal j h).some, forest_many j)) in
    record { there = omega (arith, forest_many j, some_below (λ s. farthest² (spot x y) s ≡ hi (forest j) x y) (forest j) (named (forest j) x y) a.attains); attains = a.attains; first = a.first }

-- two first edges are one
pub first_one : FirstOne
first_one j x y d e a b = go (leb d e) (leb e d) refl refl
  where
    go : (p q : Bool) → leb d e ≡ p → leb e d ≡ q → d ≡ e
    go true true i k = omega (arith, le_of d e i, le_of e d k)
    go true false i k = absurd (b.first d (leb-false e d k) a.attains)
    go false q i k = absurd (a.first e (leb-false d e i) b.attains)
