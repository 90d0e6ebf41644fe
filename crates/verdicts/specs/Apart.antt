-- How far a point P in a strip and a point Q in a cell stand apart: (x, y) over D, and what is known of x and of y. Assumes nothing.
use Rattle.std.specs.Prelude.{◌≡◌, ℤ, pos, ◌+ℤ◌, ◌-ℤ◌, ◌*ℤ◌}
use Rattle.std.proofs.Common.{sym, subst}
use Rattle.std.proofs.Math.IntN.{*ℤ_comm}
use Rattle.integers.specs.RingSolver.{◌^ℤ◌, name₃, name₅, name₈, name₁₁, reify, close, ok}
use Rattle.integers.specs.Order.{◌≼◌, ◌≺◌, ◌⊠◌}
use Rattle.integers.specs.Omega.{zarith}
use Rattle.integers.specs.Inequalities.{from, ◌&◌, weak, ◌⊠⁺◌}
use Rattle.model.specs.Fractions.{Frac, Point, dist²}
use Rattle.model.specs.Strips.{Strip}
use Rattle.model.specs.Explore.{Cell}
use Rattle.integers.specs.Within.{Within, scale}
use Rattle.enclosure.specs.Covers.{In}

-- a point of a cell, in fine units
pub record InCell (c : Cell) (Q : Point) : Type 0 where
  pub in_x : Within (pos 16 *ℤ Q.x.top -ℤ c.cx *ℤ Q.x.low) (c.s *ℤ Q.x.low)
  pub in_y : Within (pos 16 *ℤ Q.y.top -ℤ c.cy *ℤ Q.y.low) (c.s *ℤ Q.y.low)

-- the difference of two fractions is `top` over `low`
abbrev diff_top : Frac → Frac → ℤ
diff_top a b = a.top *ℤ b.low -ℤ b.top *ℤ a.low

abbrev diff_low : Frac → Frac → ℤ
diff_low a b = a.low *ℤ b.low

-- of two points, over one denominator
abbrev pub apart_x : Point → Point → ℤ
apart_x P Q = diff_top P.x Q.x *ℤ diff_low P.y Q.y

abbrev pub apart_y : Point → Point → ℤ
apart_y P Q = diff_top P.y Q.y *ℤ diff_low P.x Q.x

abbrev pub apart_d : Point → Point → ℤ
apart_d P Q = diff_low P.x Q.x *ℤ diff_low P.y Q.y

pub apart_up : (P Q : Point) → pos 0 ≺ apart_d P Q
apart_up P Q = (P.x.up ⊠⁺ Q.x.up) ⊠⁺ (P.y.up ⊠⁺ Q.y.up)

-- ---- the squared distance, in those, against n over m: both sides multiplied out
top' : (a b g h m : ℤ) → (a *ℤ a *ℤ (h *ℤ h) +ℤ b *ℤ b *ℤ (g *ℤ g)) *ℤ m ≡ (a *ℤ h) ^ℤ 2 *ℤ m +ℤ (b *ℤ g) ^ℤ 2 *ℤ m
top' a b g h m = name₅ a b g h m λ σ p q r s t. simp (p, q, r, s, t, reify, σ) (close σ _ _ ok)

low' : (g h n : ℤ) → n *ℤ (g *ℤ g *ℤ (h *ℤ h)) ≡ n *ℤ (g *ℤ h) ^ℤ 2
low' g h n = name₃ g h n λ σ p q r. simp (p, q, r, reify, σ) (close σ _ _ ok)

module _ (P Q : Point) (n m : ℤ) where
  -- any relation of the two sides is one of the coordinates over D
  pub apart_is : (R : ℤ → ℤ → Type 0) → R (apart_x P Q ^ℤ 2 *ℤ m +ℤ apart_y P Q ^ℤ 2 *ℤ m) (n *ℤ apart_d P Q ^ℤ 2) → R ((dist² P Q).top *ℤ m) (n *ℤ (dist² P Q).low)
  apart_is R h =
      subst (λ u. R u (n *ℤ (dist² P Q).low)) (sym (top' (diff_top P.x Q.x) (diff_top P.y Q.y) (diff_low P.x Q.x) (diff_low P.y Q.y) m))
      (subst (λ v. R (apart_x P Q ^ℤ 2 *ℤ m +ℤ apart_y P Q ^ℤ 2 *ℤ m) v) (sym (low' (diff_low P.x Q.x) (diff_low P.y Q.y) n)) h)

-- ---- one coordinate: w is the cell's centre less the strip's, p the axis, A the box and the half side, e = E/F
abbrev pub Spread : ℤ → ℤ → ℤ → ℤ → ℤ → ℤ → ℤ → Type 0
Spread x D F E w p A = Within (pos 16 *ℤ x *ℤ F +ℤ (w *ℤ F -ℤ p *ℤ E) *ℤ D) (A *ℤ (F *ℤ D))

spread' : (pt pl qt ql E F z p c s b : ℤ) → pos 0 ≼ pl → pos 0 ≼ ql → pos 0 ≼ F → Within (pos 16 *ℤ pt *ℤ F -ℤ (z *ℤ F +ℤ p *ℤ E) *ℤ pl) (b *ℤ (pl *ℤ F)) → Within (pos 16 *ℤ qt -ℤ c *ℤ ql) (s *ℤ ql) → Spread (pt *ℤ ql -ℤ qt *ℤ pl) (pl *ℤ ql) F E (c -ℤ z) p (b +ℤ s)
spread' pt pl qt ql E F z p c s b hp hq hF h k = record {
  low = from ((scale hq h).low & (scale (hp ⊠ hF) k).high) (name₁₁ pt pl qt ql E F z p c s b λ σ p₁ p₂ p₃ p₄ p₅ p₆ p₇ p₈ p₉ pa pb. simp (p₁, p₂, p₃, p₄, p₅, p₆, p₇, p₈, p₉, pa, pb, reify, σ) (omega zarith));
  high = from ((scale hq h).high & (scale (hp ⊠ hF) k).low) (name₁₁ pt pl qt ql E F z p c s b λ σ p₁ p₂ p₃ p₄ p₅ p₆ p₇ p₈ p₉ pa pb. simp (p₁, p₂, p₃, p₄, p₅, p₆, p₇, p₈, p₉, pa, pb, reify, σ) (omega zarith));
}

-- over the common denominator
widen : (g x D F E w p A : ℤ) → pos 0 ≼ g → Spread x D F E w p A → Spread (x *ℤ g) (D *ℤ g) F E w p A
widen g x D F E w p A hg h = record {
  low = from (scale hg h).low (name₈ g x D F E w p A λ σ p₁ p₂ p₃ p₄ p₅ p₆ p₇ p₈. simp (p₁, p₂, p₃, p₄, p₅, p₆, p₇, p₈, reify, σ) (omega zarith));
  high = from (scale hg h).high (name₈ g x D F E w p A λ σ p₁ p₂ p₃ p₄ p₅ p₆ p₇ p₈. simp (p₁, p₂, p₃, p₄, p₅, p₆, p₇, p₈, reify, σ) (omega zarith));
}

module _ (S : Strip) (c : Cell) (P Q : Point) (i : In S P) (j : InCell c Q) where
  pub spread_x : Spread (apart_x P Q) (apart_d P Q) i.e.low i.e.top (c.cx -ℤ S.x.centre) S.x.axis (S.x.box +ℤ c.s)
  spread_x =
      widen (diff_low P.y Q.y) (diff_top P.x Q.x) (diff_low P.x Q.x) i.e.low i.e.top (c.cx -ℤ S.x.centre) S.x.axis (S.x.box +ℤ c.s) (weak P.y.up ⊠ weak Q.y.up)
      (spread' P.x.top P.x.low Q.x.top Q.x.low i.e.top i.e.low S.x.centre S.x.axis c.cx c.s S.x.box (weak P.x.up) (weak Q.x.up) (weak i.e.up) i.beside_x j.in_x)

  pub spread_y : Spread (apart_y P Q) (apart_d P Q) i.e.low i.e.top (c.cy -ℤ S.y.centre) S.y.axis (S.y.box +ℤ c.s)
  spread_y =
      subst (λ D. Spread (apart_y P Q) D i.e.low i.e.top (c.cy -ℤ S.y.centre) S.y.axis (S.y.box +ℤ c.s)) (*ℤ_comm (diff_low P.y Q.y) (diff_low P.x Q.x))
      (widen (diff_low P.x Q.x) (diff_top P.y Q.y) (diff_low P.y Q.y) i.e.low i.e.top (c.cy -ℤ S.y.centre) S.y.axis (S.y.box +ℤ c.s) (weak P.x.up ⊠ weak Q.x.up)
      (spread' P.y.top P.y.low Q.y.top Q.y.low i.e.top i.e.low S.y.centre S.y.axis c.cy c.s S.y.box (weak P.y.up) (weak Q.y.up) (weak i.e.up) i.beside_y j.in_y))
