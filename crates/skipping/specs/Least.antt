-- Laws of the least value over a list of strips: of two lists together, that some strip attains it, and of the leaves of trees. Assumes nothing.
use Rattle.std.specs.Prelude.{◌≡◌, Bool, ℕ, zero, suc, ◌≤◌, ◌<◌, ℤ, length}
use Rattle.std.proofs.Math.Path.{refl, ap}
use Rattle.std.proofs.Common.{◌∙◌, arith, length-append}
use Rattle.std.proofs.Math.Bool.{true, false, cond}
use mathlib.Core.List.{List, [], ◌∷◌, ◌++◌, append-nil}
use Rattle.std.proofs.Math.Logic.{inl, inr, ⊎_elim}
use Rattle.std.specs.Int.Signed.{lt_z}
use Rattle.integers.specs.Order.{◌≼◌, ≼_refl}
use Rattle.integers.specs.Inequalities.{≼_trans}
use Rattle.model.specs.Strips.{Strip}
use Rattle.model.specs.Trees.{Tree, leaf, long, node}
use Rattle.model.specs.Boxes.{lesser}
use Rattle.model.specs.Distance.{leaves, leaves_all, leaves_at, least, Some}
use Rattle.skipping.specs.Extremes.{lesser_≼, lesser_assoc}

-- ---- least values
module _ (f : Strip → ℤ) where
  pub least_append : (a b : List Strip) → 1 ≤ length a → 1 ≤ length b → least f (a ++ b) ≡ lesser (least f a) (least f b)
  unfolding least
  least_append [] b h k = absurd (omega arith)
  least_append (s ∷ a) [] h k = absurd (omega arith)
  least_append (s ∷ []) (t ∷ b) h k = refl
  least_append (s ∷ u ∷ a) (t ∷ b) h k =
      ap (lesser (f s)) (least_append (u ∷ a) (t ∷ b) (omega arith) k) ∙ lesser_assoc (f s) (least f (u ∷ a)) (least f (t ∷ b))

  -- some strip attains it
  pub attained : (l : List Strip) → 1 ≤ length l → Some (λ s. f s ≡ least f l) l
  unfolding least
  attained [] h = absurd (omega arith)
  attained (s ∷ []) h = inl refl
  attained (s ∷ u ∷ l) h = go (lt_z (least f (u ∷ l)) (f s)) (attained (u ∷ l) (omega arith))
    where
      go : (p : Bool) → Some (λ t. f t ≡ least f (u ∷ l)) (u ∷ l) → Some (λ t. f t ≡ cond p (least f (u ∷ l)) (f s)) (s ∷ u ∷ l)
      go true w = inr w
      go false w = inl refl

  -- and none is below it
  pub none_below : (l : List Strip) (z : ℤ) → Some (λ s. f s ≡ z) l → least f l ≼ z
  unfolding least
  none_below [] z w = absurd w
  none_below (s ∷ []) z w = ⊎_elim (λ e. ≼_refl e) (λ n. absurd n) w
  none_below (s ∷ u ∷ l) z w =
      let h = lesser_≼ (f s) (least f (u ∷ l)) in
      ⊎_elim (λ e. ≼_trans h.0 (≼_refl e)) (λ v. ≼_trans h.1 (none_below (u ∷ l) z v)) w

-- ---- every tree has a leaf
pub leaf_there : (t : Tree) → 1 ≤ length (leaves t)
unfolding leaves
leaf_there (leaf s) = omega arith
leaf_there (long s) = omega arith
leaf_there (node s l r) = omega (arith, length-append (leaves l) (leaves r), leaf_there l)

pub leaves_there : (t : Tree) (us : List Tree) → 1 ≤ length (leaves_all (t ∷ us))
unfolding leaves_all
leaves_there t us = omega (arith, length-append (leaves t) (leaves_all us), leaf_there t)

-- ---- the least value over one tree's leaves, and over one tree's and those of more
module _ (f : Strip → ℤ) where
  pub least_one : (t : Tree) → least f (leaves_all (t ∷ [])) ≡ least f (leaves t)
  unfolding leaves_all
  least_one t = ap (least f) (append-nil (leaves t))

  pub least_more : (t u : Tree) (us : List Tree) → least f (leaves_all (t ∷ u ∷ us)) ≡ lesser (least f (leaves t)) (least f (leaves_all (u ∷ us)))
  unfolding leaves_all
  least_more t u us = least_append f (leaves t) (leaves_all (u ∷ us)) (leaf_there t) (leaves_there u us)

  pub no_more : (t : Tree) (us : List Tree) → least f (leaves_all (t ∷ us)) ≼ least f (leaves t)
  no_more t [] = ≼_refl (least_one t)
  no_more t (u ∷ us) = ≼_trans (≼_refl (least_more t u us)) (lesser_≼ (least f (leaves t)) (least f (leaves_all (u ∷ us)))).0

-- an edge of which some leaf has a property is there
pub some_below : (P : Strip → Type 0) (ts : List Tree) (e : ℕ) → Some P (leaves_at ts e) → e < length ts
unfolding leaves_at
some_below P [] e w = absurd w
some_below P (t ∷ ts) zero w = omega arith
some_below P (t ∷ ts) (suc e) w = omega (arith, some_below P ts e w)
