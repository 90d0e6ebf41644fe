-- What the tests' numbers say of (x, y) over D, for a point in a strip and a point in a cell; in whole numbers. Assumes nothing.
use Rattle.std.specs.Prelude.{◌≡◌, ℤ, pos, neg_ℤ, ◌+ℤ◌, ◌-ℤ◌, ◌*ℤ◌}
use Rattle.std.proofs.Common.{⊎_elim}
use Rattle.integers.specs.RingSolver.{◌^ℤ◌, name₂, name₃, name₄, name₅, name₆, name₇, name₈, name₉, reify, close, ok}
use Rattle.integers.specs.Order.{◌≼◌, ◌≺◌, num, ◌⊞◌, ◌⊠◌, sq, gap, gap⁺}
use Rattle.integers.specs.Omega.{zarith}
use Rattle.integers.specs.Inequalities.{from, ◌&◌, weak, ◌⊠⁺◌, ≼_trans, ≼_*l_off, sq_≼, by_contra}
use Rattle.integers.specs.Absolute.{absℤ, abs_is, abs_sq, ≼_abs, neg≼_abs}
use Rattle.integers.specs.Within.{Within, own_abs, times, cancel, bound_nonneg}
use Rattle.verdicts.specs.Apart.{Spread}

-- ---- one coordinate
module _ (x D F E w p A : ℤ) (hD : pos 0 ≺ D) (hF : pos 0 ≺ F) (unit : Within E F) (h : Spread x D F E w p A) where
  -- 16 x is at most |w| + |p| + A
  at_most : (a b : ℤ) → Within w a → Within (p *ℤ E) (b *ℤ F) → Within (pos 16 *ℤ x) ((a +ℤ b +ℤ A) *ℤ D)
  at_most a b hw hp = cancel hF (record {
    low = from (h.low & weak hF ⊠ weak hD ⊠ gap hw.high & weak hD ⊠ gap hp.low) (name₉ x D F E w p A a b λ σ p₁ p₂ p₃ p₄ p₅ p₆ p₇ p₈ p₉. simp (p₁, p₂, p₃, p₄, p₅, p₆, p₇, p₈, p₉, reify, σ) (omega zarith));
    high = from (h.high & weak hF ⊠ weak hD ⊠ gap hw.low & weak hD ⊠ gap hp.high) (name₉ x D F E w p A a b λ σ p₁ p₂ p₃ p₄ p₅ p₆ p₇ p₈ p₉. simp (p₁, p₂, p₃, p₄, p₅, p₆, p₇, p₈, p₉, reify, σ) (omega zarith));
  })

  pub reach_bound : Within (pos 16 *ℤ x) ((absℤ w +ℤ absℤ p +ℤ A) *ℤ D)
  reach_bound = at_most (absℤ w) (absℤ p) (own_abs w) (times (own_abs p) unit)

  -- and at least |w| − |p| − A, on the side away from w
  at_least⁺ : (a b : ℤ) → a ≡ w → Within (p *ℤ E) (b *ℤ F) → (a -ℤ b -ℤ A) *ℤ D ≼ neg_ℤ (pos 16 *ℤ x)
  at_least⁺ a b e hp = ≼_*l_off hF
      (from (h.high & weak hD ⊠ gap hp.high & e) (rw e (name₈ x D F E w p A b λ σ p₁ p₂ p₃ p₄ p₅ p₆ p₇ p₈. simp (p₁, p₂, p₃, p₄, p₅, p₆, p₇, p₈, reify, σ) (omega zarith))))

  at_least⁻ : (a b : ℤ) → a ≡ neg_ℤ w → Within (p *ℤ E) (b *ℤ F) → (a -ℤ b -ℤ A) *ℤ D ≼ pos 16 *ℤ x
  at_least⁻ a b e hp = ≼_*l_off hF
      (from (h.low & weak hD ⊠ gap hp.low & e) (rw e (name₈ x D F E w p A b λ σ p₁ p₂ p₃ p₄ p₅ p₆ p₇ p₈. simp (p₁, p₂, p₃, p₄, p₅, p₆, p₇, p₈, reify, σ) (omega zarith))))

  pub gap_bound : (absℤ w -ℤ absℤ p -ℤ A) *ℤ D ≼ pos 16 *ℤ absℤ x
  gap_bound = ⊎_elim
      (λ (e : absℤ w ≡ w). ≼_trans (at_least⁺ (absℤ w) (absℤ p) e (times (own_abs p) unit)) (minus x (absℤ x) (neg≼_abs x)))
      (λ (e : absℤ w ≡ neg_ℤ w). ≼_trans (at_least⁻ (absℤ w) (absℤ p) e (times (own_abs p) unit)) (plus x (absℤ x) (≼_abs x)))
      (abs_is w)
    where
      minus : (x a : ℤ) → neg_ℤ x ≼ a → neg_ℤ (pos 16 *ℤ x) ≼ pos 16 *ℤ a
      minus x a = name₂ x a λ σ p q. simp (p, q, reify, σ) (omega zarith)

      plus : (x a : ℤ) → x ≼ a → pos 16 *ℤ x ≼ pos 16 *ℤ a
      plus x a = name₂ x a λ σ p q. simp (p, q, reify, σ) (omega zarith)

-- ---- both coordinates: K and H bound 16 |x| and 16 |y| over D from above
pub most_squared : (x y D K H : ℤ) → Within (pos 16 *ℤ x) (K *ℤ D) → Within (pos 16 *ℤ y) (H *ℤ D) → x ^ℤ 2 *ℤ pos 256 +ℤ y ^ℤ 2 *ℤ pos 256 ≼ (K *ℤ K +ℤ H *ℤ H) *ℤ D ^ℤ 2
most_squared x y D K H h k =
    from (gap h.low ⊠ gap h.high & gap k.low ⊠ gap k.high) (name₅ x y D K H λ σ p₁ p₂ p₃ p₄ p₅. simp (p₁, p₂, p₃, p₄, p₅, reify, σ) (omega zarith))

-- and from below, where they are not negative
least_square : (x D K : ℤ) → pos 0 ≺ D → pos 0 ≼ K → K *ℤ D ≼ pos 16 *ℤ absℤ x → K ^ℤ 2 *ℤ D ^ℤ 2 ≼ x ^ℤ 2 *ℤ pos 256
least_square x D K hD hK h = rw (← abs_sq x) (go (absℤ x) h)
  where
    go : (a : ℤ) → K *ℤ D ≼ pos 16 *ℤ a → K ^ℤ 2 *ℤ D ^ℤ 2 ≼ a *ℤ a *ℤ pos 256
    go a k = from (gap k ⊠ gap k & gap k ⊠ (hK ⊠ weak hD)) (name₃ a D K λ σ p q r. simp (p, q, r, reify, σ) (omega zarith))

pub least_squared : (x y D K H : ℤ) → pos 0 ≺ D → pos 0 ≼ K → pos 0 ≼ H → K *ℤ D ≼ pos 16 *ℤ absℤ x → H *ℤ D ≼ pos 16 *ℤ absℤ y → (K *ℤ K +ℤ H *ℤ H) *ℤ D ^ℤ 2 ≼ x ^ℤ 2 *ℤ pos 256 +ℤ y ^ℤ 2 *ℤ pos 256
least_squared x y D K H hD hK hH h k =
    from (least_square x D K hD hK h & least_square y D H hD hH k) (name₅ x y D K H λ σ p₁ p₂ p₃ p₄ p₅. simp (p₁, p₂, p₃, p₄, p₅, reify, σ) (omega zarith))

-- so a squared distance t over d that is at most f, or at least f, is on the same side of r² as f is
pub below : (t f d r : ℤ) → pos 0 ≺ d → t *ℤ pos 256 ≼ f *ℤ d → f ≺ r *ℤ r → t *ℤ pos 256 ≺ r *ℤ r *ℤ d
below t f d r hd h l = from (h & gap⁺ l ⊠⁺ hd) (name₄ t f d r λ σ p₁ p₂ p₃ p₄. simp (p₁, p₂, p₃, p₄, reify, σ) (omega zarith))

pub above : (t f d r : ℤ) → pos 0 ≺ d → f *ℤ d ≼ t *ℤ pos 256 → r *ℤ r ≼ f → r *ℤ r *ℤ d ≼ t *ℤ pos 256
above t f d r hd h l = from (h & gap l ⊠ weak hd) (name₄ t f d r λ σ p₁ p₂ p₃ p₄. simp (p₁, p₂, p₃, p₄, reify, σ) (omega zarith))

-- Away, second test. The e of the strip goes out of the cross product with the axis
cross : (x y D F E v w p q A B : ℤ) → (pos 16 *ℤ x *ℤ F +ℤ (v *ℤ F -ℤ p *ℤ E) *ℤ D) *ℤ q -ℤ (pos 16 *ℤ y *ℤ F +ℤ (w *ℤ F -ℤ q *ℤ E) *ℤ D) *ℤ p ≡ F *ℤ (pos 16 *ℤ (x *ℤ q -ℤ y *ℤ p) +ℤ (v *ℤ q -ℤ w *ℤ p) *ℤ D)
cross x y D F E v w p q A B = name₉ x y D F E v w p q λ σ p₁ p₂ p₃ p₄ p₅ p₆ p₇ p₈ p₉. simp (p₁, p₂, p₃, p₄, p₅, p₆, p₇, p₈, p₉, reify, σ) (close σ _ _ ok)

minus_within : (X Y a b c : ℤ) → Within X a → Within Y b → a +ℤ b ≡ c → Within (X -ℤ Y) c
minus_within X Y a b c h k e = record {
  low = from (h.low & k.high & e) (name₅ X Y a b c λ σ p q r s t. simp (p, q, r, s, t, reify, σ) (omega zarith));
  high = from (h.high & k.low & e) (name₅ X Y a b c λ σ p q r s t. simp (p, q, r, s, t, reify, σ) (omega zarith));
}

pub cross_bound : (x y D F E v w p q A B : ℤ) → pos 0 ≺ D → pos 0 ≺ F → Spread x D F E v p A → Spread y D F E w q B → Within (pos 16 *ℤ (x *ℤ q -ℤ y *ℤ p) +ℤ (v *ℤ q -ℤ w *ℤ p) *ℤ D) ((A *ℤ absℤ q +ℤ B *ℤ absℤ p) *ℤ D)
cross_bound x y D F E v w p q A B hD hF h k =
    cancel hF (rw (cross x y D F E v w p q A B) at (minus_within _ _ _ _ _ (times h (own_abs q)) (times k (own_abs p)) (sum A B F D (absℤ q) (absℤ p))))
  where
    sum : (A B F D a b : ℤ) → A *ℤ (F *ℤ D) *ℤ a +ℤ B *ℤ (F *ℤ D) *ℤ b ≡ F *ℤ ((A *ℤ a +ℤ B *ℤ b) *ℤ D)
    sum A B F D a b = name₆ A B F D a b λ σ p₁ p₂ p₃ p₄ p₅ p₆. simp (p₁, p₂, p₃, p₄, p₅, p₆, reify, σ) (close σ _ _ ok)

-- so 16 |cross| is at least |w × axis| − A |q| − B |p|
cross_least : (c k G D : ℤ) → Within (pos 16 *ℤ c +ℤ k *ℤ D) (G *ℤ D) → (absℤ k -ℤ G) *ℤ D ≼ pos 16 *ℤ absℤ c
cross_least c k G D h = ⊎_elim
    (λ (e : absℤ k ≡ k). rw e (up (absℤ c) (neg≼_abs c)))
    (λ (e : absℤ k ≡ neg_ℤ k). rw e (down (absℤ c) (≼_abs c)))
    (abs_is k)
  where
    up : (a : ℤ) → neg_ℤ c ≼ a → (k -ℤ G) *ℤ D ≼ pos 16 *ℤ a
    up a l = from (h.high & l) (name₅ c k G D a λ σ p q r s t. simp (p, q, r, s, t, reify, σ) (omega zarith))

    down : (a : ℤ) → c ≼ a → (neg_ℤ k -ℤ G) *ℤ D ≼ pos 16 *ℤ a
    down a l = from (h.low & l) (name₅ c k G D a λ σ p q r s t. simp (p, q, r, s, t, reify, σ) (omega zarith))

-- with k ≥ r L, where L² ≥ p² + q²: first (r L D)² ≤ (16 c)², c the cross product
beyond : (a k m D : ℤ) → pos 0 ≺ D → pos 0 ≼ m → m ≼ k → k *ℤ D ≼ pos 16 *ℤ a → m ^ℤ 2 *ℤ D ^ℤ 2 ≼ a *ℤ a *ℤ pos 256
beyond a k m D hD hm l h =
    from (gap h ⊠ gap h & gap h ⊠ (weak hD ⊠ (hm ⊞ gap l)) & (weak hD ⊠ weak hD) ⊠ (gap l ⊠ gap l) & (weak hD ⊠ weak hD) ⊠ (hm ⊠ gap l))
    (name₄ a k m D λ σ p q r s. simp (p, q, r, s, reify, σ) (omega zarith))

-- then Lagrange's identity
lagrange : (x y p q L : ℤ) → p *ℤ p +ℤ q *ℤ q ≼ L *ℤ L → (x *ℤ q -ℤ y *ℤ p) *ℤ (x *ℤ q -ℤ y *ℤ p) *ℤ pos 256 ≼ L ^ℤ 2 *ℤ (x ^ℤ 2 *ℤ pos 256 +ℤ y ^ℤ 2 *ℤ pos 256)
lagrange x y p q L h =
    from (sq (x *ℤ p +ℤ y *ℤ q) & gap h ⊠ (sq x ⊞ sq y)) (name₅ x y p q L λ σ p₁ p₂ p₃ p₄ p₅. simp (p₁, p₂, p₃, p₄, p₅, reify, σ) (omega zarith))

-- a square that is a factor goes, where it is not 0
drop_square : (L a b : ℤ) → pos 0 ≺ L → L ^ℤ 2 *ℤ a ≼ L ^ℤ 2 *ℤ b → a ≼ b
drop_square L a b hL h = ≼_*l_off (hL ⊠⁺ hL) (same L a b h)
  where
    same : (L a b : ℤ) → L ^ℤ 2 *ℤ a ≼ L ^ℤ 2 *ℤ b → L *ℤ L *ℤ a ≼ L *ℤ L *ℤ b
    same L a b = name₃ L a b λ σ p q r. simp (p, q, r, reify, σ) (omega zarith)

pub across_far : (x y D F E v w p q A B r L : ℤ) → pos 0 ≺ D → pos 0 ≺ F → pos 0 ≼ r → pos 0 ≺ L → p *ℤ p +ℤ q *ℤ q ≼ L *ℤ L → Spread x D F E v p A → Spread y D F E w q B → r *ℤ L ≼ absℤ (v *ℤ q -ℤ w *ℤ p) -ℤ A *ℤ absℤ q -ℤ B *ℤ absℤ p → r ^ℤ 2 *ℤ D ^ℤ 2 ≼ x ^ℤ 2 *ℤ pos 16 ^ℤ 2 +ℤ y ^ℤ 2 *ℤ pos 16 ^ℤ 2
across_far x y D F E v w p q A B r L hD hF hr hL hs h k l =
    let G : ℤ = A *ℤ absℤ q +ℤ B *ℤ absℤ p in
    let c : ℤ = x *ℤ q -ℤ y *ℤ p in
    let K : ℤ = v *ℤ q -ℤ w *ℤ p in
    let far : r *ℤ L ≼ absℤ K -ℤ G = regroup (r *ℤ L) (absℤ K) (A *ℤ absℤ q) (B *ℤ absℤ p) l in
    let b : (r *ℤ L) ^ℤ 2 *ℤ D ^ℤ 2 ≼ absℤ c *ℤ absℤ c *ℤ pos 256 = beyond (absℤ c) (absℤ K -ℤ G) (r *ℤ L) D hD (hr ⊠ weak hL) far (cross_least c K G D (cross_bound x y D F E v w p q A B hD hF h k)) in
    let b' : (r *ℤ L) ^ℤ 2 *ℤ D ^ℤ 2 ≼ c *ℤ c *ℤ pos 256 = rw (abs_sq c) at b in
    drop_square L (r ^ℤ 2 *ℤ D ^ℤ 2) (x ^ℤ 2 *ℤ pos 16 ^ℤ 2 +ℤ y ^ℤ 2 *ℤ pos 16 ^ℤ 2) hL
    (join r L D (c *ℤ c *ℤ pos 256) (L ^ℤ 2 *ℤ (x ^ℤ 2 *ℤ pos 256 +ℤ y ^ℤ 2 *ℤ pos 256)) b' (lagrange x y p q L hs))
  where
    regroup : (m a b c : ℤ) → m ≼ a -ℤ b -ℤ c → m ≼ a -ℤ (b +ℤ c)
    regroup m a b c = name₄ m a b c λ σ p q r s. simp (p, q, r, s, reify, σ) (omega zarith)

    join : (r L D c d : ℤ) → (r *ℤ L) ^ℤ 2 *ℤ D ^ℤ 2 ≼ c → c ≼ d → L ^ℤ 2 *ℤ (r ^ℤ 2 *ℤ D ^ℤ 2) ≼ d
    join r L D c d = name₅ r L D c d λ σ p₁ p₂ p₃ p₄ p₅. simp (p₁, p₂, p₃, p₄, p₅, reify, σ) (omega zarith)

-- ---- the band. A ball of radius g, grown by u in both coordinates, lies in one of radius g + 3u/2: a + b ≤ 3g/2, since (2(a + b))² ≤ 8(a² + b²) ≤ 8g²
half : (a b g : ℤ) → pos 0 ≼ g → a ^ℤ 2 +ℤ b ^ℤ 2 ≼ g ^ℤ 2 → pos 2 *ℤ (a +ℤ b) ≼ pos 3 *ℤ g
half a b g hg h = sq_≼ (num 3 ⊠ hg)
    (from (h & sq (a -ℤ b) & sq g) (name₃ a b g λ σ p q r. simp (p, q, r, reify, σ) (omega zarith)))

ball : (a b g u : ℤ) → pos 0 ≼ g → pos 0 ≼ u → a ^ℤ 2 +ℤ b ^ℤ 2 ≼ g ^ℤ 2 → pos 4 *ℤ ((a +ℤ u) ^ℤ 2 +ℤ (b +ℤ u) ^ℤ 2) ≼ (pos 2 *ℤ g +ℤ pos 3 *ℤ u) ^ℤ 2
ball a b g u hg hu h =
    from (h & hu ⊠ gap (half a b g hg h) & sq u) (name₄ a b g u λ σ p q r s. simp (p, q, r, s, reify, σ) (omega zarith))

ball⁺ : (a b g u : ℤ) → pos 0 ≼ g → pos 0 ≼ u → a ^ℤ 2 +ℤ b ^ℤ 2 ≺ g ^ℤ 2 → pos 4 *ℤ ((a +ℤ u) ^ℤ 2 +ℤ (b +ℤ u) ^ℤ 2) ≺ (pos 2 *ℤ g +ℤ pos 3 *ℤ u) ^ℤ 2
ball⁺ a b g u hg hu h =
    from (h & hu ⊠ gap (half a b g hg (weak h)) & sq u) (name₄ a b g u λ σ p q r s. simp (p, q, r, s, reify, σ) (omega zarith))

-- upper half: 16 |x| ≤ (K + u) D, 16 |y| ≤ (H + u) D, K² + H² ≤ r²
pub band_upper : (x y D K H r u : ℤ) → pos 0 ≼ r → pos 0 ≼ u → Within (pos 16 *ℤ x) ((K +ℤ u) *ℤ D) → Within (pos 16 *ℤ y) ((H +ℤ u) *ℤ D) → K *ℤ K +ℤ H *ℤ H ≼ r *ℤ r → x ^ℤ 2 *ℤ pos 32 ^ℤ 2 +ℤ y ^ℤ 2 *ℤ pos 32 ^ℤ 2 ≼ (pos 2 *ℤ r +ℤ pos 3 *ℤ u) ^ℤ 2 *ℤ D ^ℤ 2
band_upper x y D K H r u hr hu h k l =
    from (gap h.low ⊠ gap h.high & gap k.low ⊠ gap k.high & gap (ball K H r u hr hu l) ⊠ sq D)
    (name₇ x y D K H r u λ σ p₁ p₂ p₃ p₄ p₅ p₆ p₇. simp (p₁, p₂, p₃, p₄, p₅, p₆, p₇, reify, σ) (omega zarith))

-- lower half: K D ≤ 16 a + u D, where a is |x|, so (K D)² ≤ (16 a + u D)²; likewise H and y; r² ≤ K² + H²
square_≼ : (k m : ℤ) → pos 0 ≼ k → k ≼ m → k ^ℤ 2 ≼ m ^ℤ 2
square_≼ k m hk h = from (gap h ⊠ gap h & hk ⊠ gap h) (name₂ k m λ σ p q. simp (p, q, reify, σ) (omega zarith))

lower' : (a b D K H r u : ℤ) → pos 0 ≺ D → pos 0 ≼ u → pos 0 ≼ K *ℤ D → pos 0 ≼ H *ℤ D → K *ℤ D ≼ pos 16 *ℤ a +ℤ u *ℤ D → H *ℤ D ≼ pos 16 *ℤ b +ℤ u *ℤ D → r *ℤ r ≼ K *ℤ K +ℤ H *ℤ H → pos 3 *ℤ u ≼ pos 2 *ℤ r → (pos 2 *ℤ r -ℤ pos 3 *ℤ u) ^ℤ 2 *ℤ D ^ℤ 2 ≼ a *ℤ a *ℤ pos 32 ^ℤ 2 +ℤ b *ℤ b *ℤ pos 32 ^ℤ 2
lower' a b D K H r u hD hu nK nH h k l m = by_contra
    (λ (z : a *ℤ a *ℤ pos 32 ^ℤ 2 +ℤ b *ℤ b *ℤ pos 32 ^ℤ 2 ≺ (pos 2 *ℤ r -ℤ pos 3 *ℤ u) ^ℤ 2 *ℤ D ^ℤ 2).
    from (ball⁺ (pos 32 *ℤ a) (pos 32 *ℤ b) ((pos 2 *ℤ r -ℤ pos 3 *ℤ u) *ℤ D) (pos 2 *ℤ (u *ℤ D)) (gap m ⊠ weak hD) (num 2 ⊠ (hu ⊠ weak hD)) (grown z)
    & square_≼ (K *ℤ D) (pos 16 *ℤ a +ℤ u *ℤ D) nK h & square_≼ (H *ℤ D) (pos 16 *ℤ b +ℤ u *ℤ D) nH k & gap l ⊠ sq D)
    (name₇ a b D K H r u λ σ p₁ p₂ p₃ p₄ p₅ p₆ p₇. simp (p₁, p₂, p₃, p₄, p₅, p₆, p₇, reify, σ) (omega zarith)))
  where
    grown : a *ℤ a *ℤ pos 32 ^ℤ 2 +ℤ b *ℤ b *ℤ pos 32 ^ℤ 2 ≺ (pos 2 *ℤ r -ℤ pos 3 *ℤ u) ^ℤ 2 *ℤ D ^ℤ 2 → (pos 32 *ℤ a) ^ℤ 2 +ℤ (pos 32 *ℤ b) ^ℤ 2 ≺ ((pos 2 *ℤ r -ℤ pos 3 *ℤ u) *ℤ D) ^ℤ 2
    grown = name₅ a b D r u λ σ p₁ p₂ p₃ p₄ p₅. simp (p₁, p₂, p₃, p₄, p₅, reify, σ) (omega zarith)

pub band_lower : (x y D K H r u : ℤ) → pos 0 ≺ D → pos 0 ≼ u → Within (pos 16 *ℤ x) (K *ℤ D) → Within (pos 16 *ℤ y) (H *ℤ D) → K *ℤ D ≼ pos 16 *ℤ absℤ x +ℤ u *ℤ D → H *ℤ D ≼ pos 16 *ℤ absℤ y +ℤ u *ℤ D → r *ℤ r ≼ K *ℤ K +ℤ H *ℤ H → pos 3 *ℤ u ≼ pos 2 *ℤ r → (pos 2 *ℤ r -ℤ pos 3 *ℤ u) ^ℤ 2 *ℤ D ^ℤ 2 ≼ x ^ℤ 2 *ℤ pos 32 ^ℤ 2 +ℤ y ^ℤ 2 *ℤ pos 32 ^ℤ 2
band_lower x y D K H r u hD hu wx wy h k l m =
    rw (← (abs_sq x), ← (abs_sq y)) (lower' (absℤ x) (absℤ y) D K H r u hD hu (bound_nonneg (pos 16 *ℤ x) (K *ℤ D) wx) (bound_nonneg (pos 16 *ℤ y) (H *ℤ D) wy) h k l m)

-- a short strip: |p| + box ≤ 16 T. Then |w| + |p| + A is over |w| − |p| − A by u = 2 s + 32 T at most
pub grown_reach : (a b box s T D z : ℤ) → pos 0 ≼ D → b +ℤ box ≼ pos 16 *ℤ T → (a -ℤ b -ℤ (box +ℤ s)) *ℤ D ≼ z → (a +ℤ b +ℤ (box +ℤ s)) *ℤ D ≼ z +ℤ (pos 2 *ℤ s +ℤ pos 32 *ℤ T) *ℤ D
grown_reach a b box s T D z hD h k =
    from (k & hD ⊠ gap h) (name₇ a b box s T D z λ σ p₁ p₂ p₃ p₄ p₅ p₆ p₇. simp (p₁, p₂, p₃, p₄, p₅, p₆, p₇, reify, σ) (omega zarith))

pub grown_gap : (X a b box s T D g : ℤ) → pos 0 ≼ D → b +ℤ box ≼ pos 16 *ℤ T → a -ℤ b -ℤ (box +ℤ s) ≼ g → Within X ((a +ℤ b +ℤ (box +ℤ s)) *ℤ D) → Within X ((g +ℤ (pos 2 *ℤ s +ℤ pos 32 *ℤ T)) *ℤ D)
grown_gap X a b box s T D g hD h k w = record {
  low = from (w.low & hD ⊠ gap h & hD ⊠ gap k) (name₈ X a b box s T D g λ σ p₁ p₂ p₃ p₄ p₅ p₆ p₇ p₈. simp (p₁, p₂, p₃, p₄, p₅, p₆, p₇, p₈, reify, σ) (omega zarith));
  high = from (w.high & hD ⊠ gap h & hD ⊠ gap k) (name₈ X a b box s T D g λ σ p₁ p₂ p₃ p₄ p₅ p₆ p₇ p₈. simp (p₁, p₂, p₃, p₄, p₅, p₆, p₇, p₈, reify, σ) (omega zarith));
}
