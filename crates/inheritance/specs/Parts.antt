-- A cell that is a part of another: what a test says of the whole it says of the part. Assumes nothing.
use Rattle.std.specs.Prelude.{◌≡◌, Bool, true, false, negsuc, neg_ℤ, ◌+ℤ◌, ◌-ℤ◌, ◌*ℤ◌, nat_abs}
use Rattle.std.proofs.Common.{ap, ◌∙◌}
use Rattle.std.proofs.Math.Path.{ap₂, subst}
use Rattle.std.proofs.Math.Bool.{◌&&◌}
use Rattle.std.specs.Int.Signed.{le_z}
use Rattle.std.proofs.Math.IntN.{ℤ, pos}
use Rattle.integers.specs.RingSolver.{name₂, name₃, name₈, name₁₀, name₁₂, reify}
use Rattle.integers.specs.Order.{◌≼◌, ◌⊞◌, ◌⊠◌, gap}
use Rattle.integers.specs.Omega.{zarith}
use Rattle.integers.specs.Inequalities.{from, ◌&◌, ≼_trans, ≼_≺_trans, ≼_*, ≼_+}
use Rattle.integers.specs.Signed.{nat_abs_neg}
use Rattle.integers.specs.Absolute.{abs_+, absℤ, abs_nonneg, abs_≼}
use Rattle.model.specs.Strips.{Side, Strip}
use Rattle.model.specs.Explore.{Cell, squares, farthest, at_least0, room, closest, is_inside, is_away₁, is_away₂, length_of, has_axis}
use Rattle.integers.specs.Within.{Within, own_abs, times}
use Rattle.integers.specs.Tests.{lt_true, true_lt, le_true, true_le, both}
use Rattle.verdicts.specs.Tests.{at0_nonneg, at0_least}

-- d lies in c
pub record PartOf (d c : Cell) : Type 0 where
  pub half : pos 0 ≼ d.s
  pub along_x : absℤ (d.cx -ℤ c.cx) +ℤ d.s ≼ c.s
  pub along_y : absℤ (d.cy -ℤ c.cy) +ℤ d.s ≼ c.s

-- ---- from z to d is at most from z to c and from c to d; and the other way
step : (c d z : ℤ) → (c -ℤ z) +ℤ (d -ℤ c) ≡ d -ℤ z
step c d z = name₃ c d z λ σ p q r. simp (p, q, r, reify, σ) (omega zarith)

turn : (c d : ℤ) → c -ℤ d ≡ neg_ℤ (d -ℤ c)
turn c d = name₂ c d λ σ p q. simp (p, q, reify, σ) (omega zarith)

near : (c d z : ℤ) → absℤ (d -ℤ z) ≼ absℤ (c -ℤ z) +ℤ absℤ (d -ℤ c)
near c d z = subst (λ t. absℤ t ≼ absℤ (c -ℤ z) +ℤ absℤ (d -ℤ c)) (step c d z) (abs_+ (c -ℤ z) (d -ℤ c))

either_way : (c d : ℤ) → absℤ (c -ℤ d) ≡ absℤ (d -ℤ c)
unfolding absℤ
either_way c d = ap (λ z. pos (nat_abs z)) (turn c d) ∙ ap pos (nat_abs_neg (d -ℤ c))

far : (c d z : ℤ) → absℤ (c -ℤ z) ≼ absℤ (d -ℤ z) +ℤ absℤ (d -ℤ c)
far c d z = subst (λ e. absℤ (c -ℤ z) ≼ absℤ (d -ℤ z) +ℤ e) (either_way c d) (near d c z)

-- ---- one coordinate
reach_less : (c d s t : ℤ) (S : Side) → absℤ (d -ℤ c) +ℤ t ≼ s → farthest d t S ≼ farthest c s S
reach_less c d s t S h = go (absℤ (d -ℤ S.centre)) (absℤ (c -ℤ S.centre)) (absℤ (d -ℤ c)) (absℤ S.axis) S.box (near c d S.centre) h
  where
    go : (a b e p x : ℤ) → a ≼ b +ℤ e → e +ℤ t ≼ s → a +ℤ p +ℤ (x +ℤ t) ≼ b +ℤ p +ℤ (x +ℤ s)
    go a b e p x h k = from (h & k) (name₈ a b e p x s t t λ σ p₁ p₂ p₃ p₄ p₅ p₆ p₇ p₈. simp (p₁, p₂, p₃, p₄, p₅, p₆, p₇, reify, σ) (omega zarith))

room_more : (c d s t : ℤ) (S : Side) → absℤ (d -ℤ c) +ℤ t ≼ s → room c s S ≼ room d t S
room_more c d s t S h = go (absℤ (d -ℤ S.centre)) (absℤ (c -ℤ S.centre)) (absℤ (d -ℤ c)) (absℤ S.axis) S.box (far c d S.centre) h
  where
    go : (a b e p x : ℤ) → b ≼ a +ℤ e → e +ℤ t ≼ s → b -ℤ p -ℤ (x +ℤ s) ≼ a -ℤ p -ℤ (x +ℤ t)
    go a b e p x h k = from (h & k) (name₈ a b e p x s t t λ σ p₁ p₂ p₃ p₄ p₅ p₆ p₇ p₈. simp (p₁, p₂, p₃, p₄, p₅, p₆, p₇, reify, σ) (omega zarith))

reach_nonneg : (d t : ℤ) (S : Side) → pos 0 ≼ S.box → pos 0 ≼ t → pos 0 ≼ farthest d t S
reach_nonneg d t S hb ht = abs_nonneg (d -ℤ S.centre) ⊞ abs_nonneg S.axis ⊞ (hb ⊞ ht)

at0_more : (y z : ℤ) → y ≼ z → at_least0 y ≼ at_least0 z
at0_more (pos n) z h = ≼_trans h (at0_least z)
at0_more (negsuc n) z h = at0_nonneg z

-- ---- the tests
module _ (r : ℤ) (c d : Cell) (part : PartOf d c) (S : Strip) where
  pub inside_part : pos 0 ≼ S.x.box → pos 0 ≼ S.y.box → is_inside r c S ≡ true → is_inside r d S ≡ true
  unfolding is_inside
  inside_part hx hy e =
      let kx : farthest d.cx d.s S.x ≼ farthest c.cx c.s S.x = reach_less c.cx d.cx c.s d.s S.x part.along_x in
      let ky : farthest d.cy d.s S.y ≼ farthest c.cy c.s S.y = reach_less c.cy d.cy c.s d.s S.y part.along_y in
      let nx : pos 0 ≼ farthest d.cx d.s S.x = reach_nonneg d.cx d.s S.x hx part.half in
      let ny : pos 0 ≼ farthest d.cy d.s S.y = reach_nonneg d.cy d.s S.y hy part.half in
      true_lt (≼_≺_trans (≼_+ (≼_* nx kx nx kx) (≼_* ny ky ny ky)) (lt_true e))

  pub away₁_part : is_away₁ r c S ≡ true → is_away₁ r d S ≡ true
  unfolding is_away₁
  away₁_part e =
      let kx : closest c.cx c.s S.x ≼ closest d.cx d.s S.x = at0_more (room c.cx c.s S.x) (room d.cx d.s S.x) (room_more c.cx d.cx c.s d.s S.x part.along_x) in
      let ky : closest c.cy c.s S.y ≼ closest d.cy d.s S.y = at0_more (room c.cy c.s S.y) (room d.cy d.s S.y) (room_more c.cy d.cy c.s d.s S.y part.along_y) in
      let nx = at0_nonneg (room c.cx c.s S.x) in
      let ny = at0_nonneg (room c.cy c.s S.y) in
      let l : r *ℤ r ≼ squares (closest c.cx c.s S.x) (closest c.cy c.s S.y) = le_true e in
      true_le {a = r *ℤ r} (≼_trans l (≼_+ (≼_* nx kx nx kx) (≼_* ny ky ny ky)))

-- the cross product: the part's centre is off by (u, v), which the smaller half side makes good
turned : (x y u v p q : ℤ) → absℤ (x *ℤ q -ℤ y *ℤ p) ≼ absℤ ((x +ℤ u) *ℤ q -ℤ (y +ℤ v) *ℤ p) +ℤ absℤ u *ℤ absℤ q +ℤ absℤ v *ℤ absℤ p
turned x y u v p q =
    let k : ℤ = (x +ℤ u) *ℤ q -ℤ (y +ℤ v) *ℤ p in
    abs_≼ (x *ℤ q -ℤ y *ℤ p) (absℤ k +ℤ absℤ u *ℤ absℤ q +ℤ absℤ v *ℤ absℤ p)
    (low (absℤ k) (absℤ u *ℤ absℤ q) (absℤ v *ℤ absℤ p) (own_abs k) (times (own_abs u) (own_abs q)) (times (own_abs v) (own_abs p)))
    (high (absℤ k) (absℤ u *ℤ absℤ q) (absℤ v *ℤ absℤ p) (own_abs k) (times (own_abs u) (own_abs q)) (times (own_abs v) (own_abs p)))
  where
    low : (a b c : ℤ) → Within ((x +ℤ u) *ℤ q -ℤ (y +ℤ v) *ℤ p) a → Within (u *ℤ q) b → Within (v *ℤ p) c → neg_ℤ (a +ℤ b +ℤ c) ≼ x *ℤ q -ℤ y *ℤ p
    low a b c h k l = from (h.low & k.high & l.low) (name₁₀ x y u v p q a b c c λ σ p₁ p₂ p₃ p₄ p₅ p₆ p₇ p₈ p₉ pa. simp (p₁, p₂, p₃, p₄, p₅, p₆, p₇, p₈, p₉, reify, σ) (omega zarith))

    high : (a b c : ℤ) → Within ((x +ℤ u) *ℤ q -ℤ (y +ℤ v) *ℤ p) a → Within (u *ℤ q) b → Within (v *ℤ p) c → x *ℤ q -ℤ y *ℤ p ≼ a +ℤ b +ℤ c
    high a b c h k l = from (h.high & k.low & l.high) (name₁₀ x y u v p q a b c c λ σ p₁ p₂ p₃ p₄ p₅ p₆ p₇ p₈ p₉ pa. simp (p₁, p₂, p₃, p₄, p₅, p₆, p₇, p₈, p₉, reify, σ) (omega zarith))

made_good : (m K K' u v P Q b e s t : ℤ) → K ≼ K' +ℤ u *ℤ Q +ℤ v *ℤ P → pos 0 ≼ P → pos 0 ≼ Q → u +ℤ t ≼ s → v +ℤ t ≼ s → m ≼ K -ℤ (b +ℤ s) *ℤ Q -ℤ (e +ℤ s) *ℤ P → m ≼ K' -ℤ (b +ℤ t) *ℤ Q -ℤ (e +ℤ t) *ℤ P
made_good m K K' u v P Q b e s t h hP hQ hu hv l =
    from (h & gap hu ⊠ hQ & gap hv ⊠ hP & l) (name₁₂ m K K' u v P Q b e s t t λ σ p₁ p₂ p₃ p₄ p₅ p₆ p₇ p₈ p₉ pa pb pc. simp (p₁, p₂, p₃, p₄, p₅, p₆, p₇, p₈, p₉, pa, pb, reify, σ) (omega zarith))

module _ (r : ℤ) (c d : Cell) (part : PartOf d c) (S : Strip) where
  pub away₂_part : is_away₂ r c S ≡ true → is_away₂ r d S ≡ true
  unfolding is_away₂
  away₂_part e =
      let x : ℤ = c.cx -ℤ S.x.centre in
      let y : ℤ = c.cy -ℤ S.y.centre in
      let x' : ℤ = d.cx -ℤ S.x.centre in
      let y' : ℤ = d.cy -ℤ S.y.centre in
      let u : ℤ = d.cx -ℤ c.cx in
      let v : ℤ = d.cy -ℤ c.cy in
      let p : ℤ = S.x.axis in
      let q : ℤ = S.y.axis in
      let k = both (has_axis S) (le_z (r *ℤ length_of S) _) e in
      let h : absℤ (x *ℤ q -ℤ y *ℤ p) ≼ absℤ ((x +ℤ u) *ℤ q -ℤ (y +ℤ v) *ℤ p) +ℤ absℤ u *ℤ absℤ q +ℤ absℤ v *ℤ absℤ p = turned x y u v p q in
      let h₁ : absℤ (x *ℤ q -ℤ y *ℤ p) ≼ absℤ (x' *ℤ q -ℤ (y +ℤ v) *ℤ p) +ℤ absℤ u *ℤ absℤ q +ℤ absℤ v *ℤ absℤ p = subst (λ a. absℤ (x *ℤ q -ℤ y *ℤ p) ≼ absℤ (a *ℤ q -ℤ (y +ℤ v) *ℤ p) +ℤ absℤ u *ℤ absℤ q +ℤ absℤ v *ℤ absℤ p) (step c.cx d.cx S.x.centre) h in
      let h₂ : absℤ (x *ℤ q -ℤ y *ℤ p) ≼ absℤ (x' *ℤ q -ℤ y' *ℤ p) +ℤ absℤ u *ℤ absℤ q +ℤ absℤ v *ℤ absℤ p = subst (λ a. absℤ (x *ℤ q -ℤ y *ℤ p) ≼ absℤ (x' *ℤ q -ℤ a *ℤ p) +ℤ absℤ u *ℤ absℤ q +ℤ absℤ v *ℤ absℤ p) (step c.cy d.cy S.y.centre) h₁ in
      ap₂ ◌&&◌ k.0 (true_le (made_good (r *ℤ length_of S) (absℤ (x *ℤ q -ℤ y *ℤ p)) (absℤ (x' *ℤ q -ℤ y' *ℤ p)) (absℤ u) (absℤ v) (absℤ p) (absℤ q) S.x.box S.y.box c.s d.s h₂ (abs_nonneg p) (abs_nonneg q) part.along_x part.along_y (le_true k.1)))

-- ---- the four quarters of a cell of half side 2h: the centre goes by h either way
offset : (h u : ℤ) → pos 0 ≼ h → neg_ℤ h ≼ u → u ≼ h → absℤ u +ℤ h ≼ pos 2 *ℤ h
offset h u hh lo hi = go (absℤ u) (abs_≼ u h lo hi)
  where
    go : (a : ℤ) → a ≼ h → a +ℤ h ≼ pos 2 *ℤ h
    go a = name₂ a h λ σ p q. simp (p, q, reify, σ) (omega zarith)

abbrev pub quarter : Bool → ℤ → ℤ → ℤ
quarter true x h = x +ℤ h
quarter false x h = x -ℤ h

quarter_side : (b : Bool) (x h : ℤ) → pos 0 ≼ h → absℤ (quarter b x h -ℤ x) +ℤ h ≼ pos 2 *ℤ h
quarter_side true x h hh = offset h (x +ℤ h -ℤ x) hh (from hh (name₂ x h λ σ p q. simp (p, q, reify, σ) (omega zarith))) (from hh (name₂ x h λ σ p q. simp (p, q, reify, σ) (omega zarith)))
quarter_side false x h hh = offset h (x -ℤ h -ℤ x) hh (from hh (name₂ x h λ σ p q. simp (p, q, reify, σ) (omega zarith))) (from hh (name₂ x h λ σ p q. simp (p, q, reify, σ) (omega zarith)))

abbrev pub whole : ℤ → ℤ → ℤ → Cell
whole x y h = record { cx = x; cy = y; s = pos 2 *ℤ h }

abbrev pub quarter_of : Bool → Bool → ℤ → ℤ → ℤ → Cell
quarter_of right upper x y h = record { cx = quarter right x h; cy = quarter upper y h; s = h }

pub quarter_part : (right upper : Bool) (x y h : ℤ) → pos 0 ≼ h → PartOf (quarter_of right upper x y h) (whole x y h)
quarter_part right upper x y h hh = record { half = hh; along_x = quarter_side right x h hh; along_y = quarter_side upper y h hh }
