-- A strip in one coordinate as the first cell sees it, with its bounds. Assumes nothing.
use Rattle.std.specs.Prelude.{◌≡◌, ℤ, pos, nat_abs, ◌+ℤ◌, ◌-ℤ◌}
use Rattle.integers.specs.Signed.{Made, bits, plus, minus}
use Rattle.integers.specs.Absolute.{absℤ}
use Rattle.model.specs.Strips.{Side}
use Rattle.nodes.specs.Structs.{Known}
use Rattle.nodes.specs.declared.Extent.{Extent}
use Rattle.columns.specs.declared.Frame.{Frame}
use Rattle.columns.specs.declared.View.{View}
use Rattle.columns.specs.Frames.{half_made}
use Rattle.columns.specs.Limits.{FrameSized}
use Rattle.columns.proofs.Numbers.{abs_of}

module _ (f : Frame) (s : FrameSized f) {e : Extent} {S : Side} (k : Known e S) where
  pub centre : {c : ℤ} → Made c c 33554432 → Made (bits e.centre -ℤ bits (bits c +ℤ bits f.q)) (S.centre -ℤ (c +ℤ f.q)) 578813952
  centre m = minus k.centre (plus m (half_made f s) tt) tt

  pub box : Made (bits e.half +ℤ bits f.q) (S.box +ℤ f.q) 142606336
  box = plus k.half (half_made f s) tt

  pub upright : {r : ℤ} → r ≡ pos (nat_abs (bits e.axis)) → Made (bits r +ℤ bits (bits e.half +ℤ bits f.q)) (absℤ S.axis +ℤ (S.box +ℤ f.q)) 679477248
  upright h = plus (abs_of k.axis h tt) box tt

pub same_view : {x y p q a b s t x' y' p' q' a' b' s' t' : ℤ} → x ≡ x' → y ≡ y' → p ≡ p' → q ≡ q' → a ≡ a' → b ≡ b' → s ≡ s' → t ≡ t' → ◌≡◌ {A = View} (record { x = x; y = y; p = p; q = q; a = a; b = b; ex = s; ey = t }) (record { x = x'; y = y'; p = p'; q = q'; a = a'; b = b'; ex = s'; ey = t' })
same_view e₁ e₂ e₃ e₄ e₅ e₆ e₇ e₈ = cc
