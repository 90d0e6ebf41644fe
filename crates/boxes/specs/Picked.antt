-- One of two numbers, picked by a test of two, in whatever width: what is read back from its bits. Assumes nothing.
use Rattle.std.specs.Prelude.{◌≡◌, Bool, true, false, cond, ℤ}
use Rattle.std.proofs.Common.{sym, ap, ap₂, ◌∙◌, SFits, to_z, of_z, to_z-of_z}
use Rattle.std.specs.Int.Signed.{lt_z}
use Rattle.std.specs.Int.{Width}

tested : {w : Width} {a b : ℤ} {t : Bool} → SFits w a → SFits w b → lt_z (to_z w (of_z w a)) (to_z w (of_z w b)) ≡ t → lt_z a b ≡ t
tested p q e = ap₂ lt_z (sym (to_z-of_z p)) (sym (to_z-of_z q)) ∙ e

module _ {w : Width} {a b x y : ℤ} (p : SFits w a) (q : SFits w b) (f : SFits w x) (g : SFits w y) where
  pub first_picked : lt_z (to_z w (of_z w a)) (to_z w (of_z w b)) ≡ true → to_z w (of_z w x) ≡ cond (lt_z a b) x y
  first_picked e = to_z-of_z f ∙ ap (λ (t : Bool). cond t x y) (sym (tested p q e))

  pub second_picked : lt_z (to_z w (of_z w a)) (to_z w (of_z w b)) ≡ false → to_z w (of_z w y) ≡ cond (lt_z a b) x y
  second_picked e = to_z-of_z g ∙ ap (λ (t : Bool). cond t x y) (sym (tested p q e))
