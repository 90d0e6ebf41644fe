-- The replies to a row of points: how many numbers they have, that the k-th depends on the k-th point alone (`replies_at`), and how they grow by
-- one point. Assumes nothing.
use Rattle.std.specs.Prelude.{◌≡◌, refl, List, [], ◌∷◌, Bool, true, false, cond, ◌&&◌, ℕ, zero, suc, ◌+◌, ◌*◌, ◌≤◌, ◌<◌, leb, eqb, ℤ, pos, length, get_or}
use Rattle.std.proofs.Common.{sym, ap, ap₂, ◌∙◌, arith, eqb-true}
use Rattle.integers.specs.Tests.{both, le_of}
use Rattle.model.specs.Strips.{Strip}
use Rattle.model.specs.Trees.{Tree}
use Rattle.model.specs.Sheets.{same}
use Rattle.model.specs.Distance.{leaves, least, lo, hi, first_at, named}
use Rattle.model.specs.Entries.{spots_in, spots_fit, replies}
use Rattle.model.specs.Promises.{spot_x, spot_y, lo_at, hi_at, named_at}

-- ---- a row that fits
pub by_twos : (spots : List ℤ) → spots_fit spots ≡ true → (1 ≤ spots_in spots) × (spots_in spots ≤ 256) × (length spots ≡ 2 * spots_in spots)
unfolding spots_fit
by_twos spots e =
    let f = both (leb 1 (spots_in spots)) (leb (spots_in spots) 256 && eqb (length spots) (2 * spots_in spots)) e in
    let m = both (leb (spots_in spots) 256) (eqb (length spots) (2 * spots_in spots)) f.1 in
    (le_of 1 (spots_in spots) f.0, le_of (spots_in spots) 256 m.0, eqb-true (length spots) (2 * spots_in spots) m.1)

-- ---- three numbers a point
pub replies_long : (ts : List Tree) (spots : List ℤ) → length (replies ts spots) ≡ 3 * spots_in spots
unfolding replies
replies_long ts [] = refl
replies_long ts (x ∷ []) = refl
replies_long ts (x ∷ y ∷ spots) = omega (arith, replies_long ts spots)

-- ---- the k-th reply
pub record ReplyOf (ts : List Tree) (x y : ℤ) (reply : List ℤ) (k : ℕ) : Type 0 where
  pub lo_is : lo_at reply k ≡ lo ts x y
  pub hi_is : hi_at reply k ≡ hi ts x y
  pub edge_is : named_at reply k ≡ pos (named ts x y)

pub replies_at : (ts : List Tree) (spots : List ℤ) (k : ℕ) → k < spots_in spots → ReplyOf ts (spot_x spots k) (spot_y spots k) (replies ts spots) k
unfolding replies
replies_at ts [] k h = absurd (omega arith)
replies_at ts (x ∷ []) k h = absurd (omega arith)
replies_at ts (x ∷ y ∷ spots) zero h = record { lo_is = refl; hi_is = refl; edge_is = refl }
replies_at ts (x ∷ y ∷ spots) (suc k) h =
    let r = replies_at ts spots k (omega arith) in
    let row = lo ts x y ∷ hi ts x y ∷ pos (named ts x y) ∷ replies ts spots in
    let at : (n m : ℕ) → n ≡ suc (suc (suc m)) → get_or row n (pos 0) ≡ get_or (replies ts spots) m (pos 0) = λ n m e. ap (λ (i : ℕ). get_or row i (pos 0)) e in
    let of : (n m : ℕ) → n ≡ suc (suc m) → get_or (x ∷ y ∷ spots) n (pos 0) ≡ get_or spots m (pos 0) = λ n m e. ap (λ (i : ℕ). get_or (x ∷ y ∷ spots) i (pos 0)) e in
    let p = of (2 * suc k) (2 * k) (omega arith) in
    let q = of (2 * suc k + 1) (2 * k + 1) (omega arith) in
    record {
      lo_is = at (3 * suc k) (3 * k) (omega arith) ∙ r.lo_is ∙ sym (ap₂ (lo ts) p q);
      hi_is = at (3 * suc k + 1) (3 * k + 1) (omega arith) ∙ r.hi_is ∙ sym (ap₂ (hi ts) p q);
      edge_is = at (3 * suc k + 2) (3 * k + 2) (omega arith) ∙ r.edge_is ∙ sym (ap₂ (λ (a b : ℤ). pos (named ts a b)) p q);
    }

-- ---- no edge past the last is named
first_few : (f : Strip → ℤ) (z : ℤ) (ts : List Tree) → first_at f z ts ≤ length ts
unfolding first_at
first_few f z [] = omega arith
first_few f z (t ∷ ts) = go (same (least f (leaves t)) z) (first_few f z ts)
  where
    go : (b : Bool) → first_at f z ts ≤ length ts → cond b 0 (suc (first_at f z ts)) ≤ suc (length ts)
    go true h = omega arith
    go false h = omega arith

pub named_few : (ts : List Tree) (x y : ℤ) → named ts x y ≤ length ts
named_few ts x y = first_few _ (hi ts x y) ts
