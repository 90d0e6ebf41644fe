-- What the quotient's square tells is a law of `Roots`; here each number is read back from its bits.
use mathlib.Core.Path.{◌≡◌, refl, sym, ◌∙◌, ap}
use mathlib.Core.Bool.{Bool, true, false, not, ◌&&◌}
use lib.Dec.{T}
use lib.IntN.{ℤ, pos, negsuc, nat_abs, ◌*ℤ◌}
use lib.Signed.{lt_z, le_z, quot_z, non_neg, pos-nat_abs}
use native.Mathlib.Omega.{arith}
use mir.Syntax.{w64}
use mir.Val.{of_z}
use Rattle.std.proofs.lemmas.Bool.Decides.{nat_tests}
use Rattle.std.specs.Int.{int_min}
use Rattle.integers.specs.Signed.{Made, bits, called, held, arg_pos, times, over, back, test_lt}
use Rattle.model.specs.Jobs.{is_zero}
use Rattle.model.specs.Roots.{root}
use Rattle.strip_tests.specs.Limits.{CrossSized}
use Rattle.strip_tests.specs.PlainTests.{is_beyond}
use Rattle.strip_tests.proofs.Roots.{cap, Asked, asked, refused}
use Rattle.strip_tests.proofs.beyond.Goals as goal

-- both tests are needed
second_fails : (a b : Bool) → b ≡ false → (not a && b) ≡ false
second_fails true b e = refl
second_fails false b e = e

-- a number from 0 on is told from 0 by its bits
is_axis : (z : ℤ) → T (non_neg z) → (of_z w64 z ≡ 0 → ⊥) → is_zero z ≡ false
unfolding is_zero
is_axis (pos n) t f = grind (arith, nat_tests)
is_axis (negsuc n) t f = refl

is_none : (z : ℤ) → T (non_neg z) → of_z w64 z ≡ 0 → is_zero z ≡ true
unfolding is_zero
is_none (pos n) t e = grind (arith, nat_tests)
is_none (negsuc n) t e = absurd t

module _ {cross r low pp : ℤ} (s : CrossSized cross r low pp) where
  cross_made : Made cross cross 2305843009213693952
  cross_made = held cross s.cross_size tt

  r_made : Made r (pos (nat_abs r)) 16777216
  r_made = arg_pos s.cross_reach.r_nonneg s.cross_reach.r_size (held r s.cross_reach.r_size tt).fits

  low_made : Made low (pos (nat_abs low)) 1073741824
  low_made = arg_pos s.low_nonneg s.low_size (held low s.low_size tt).fits

  pp_made : Made pp pp 1152921504606846976
  pp_made = held pp s.pp_size tt

  -- r as it came
  as_came : {b : Bool} → b ≡ le_z (pos (nat_abs r) *ℤ pos (root (nat_abs pp))) cross → b ≡ le_z (r *ℤ pos (root (nat_abs pp))) cross
  as_came e = e ∙ ap (λ (t : ℤ). le_z (t *ℤ pos (root (nat_abs pp))) cross) (pos-nat_abs r s.cross_reach.r_nonneg)

  short : lt_z (bits cross) (bits (bits r *ℤ bits low)) ≡ true → is_beyond cross r pp ≡ false
  short e = second_fails (is_zero pp) _ (sym (as_came (sym (refused cross (nat_abs r) (nat_abs pp) (nat_abs low) s.low_under (test_lt cross_made (times r_made low_made tt) e)))))

  known : lt_z (bits cross) (bits (bits r *ℤ bits low)) ≡ false → Asked cross (nat_abs r) (nat_abs pp)
  known e = asked cross (nat_abs r) (nat_abs pp) (nat_abs low) s.cross_reach.r_above s.pp_size (test_lt cross_made (times r_made low_made tt) e)

  quotient : {k : ℤ} → lt_z (bits cross) (bits (bits r *ℤ bits low)) ≡ false → k ≡ int_min (bits (quot_z (bits cross) (bits r))) (pos 1073741824) → Made k (cap (quot_z cross (pos (nat_abs r)))) 1073741824
  quotient e f = called (rw (back (over cross_made r_made tt)) at f) (known e).size tt

  axis : {k : ℤ} → lt_z (bits cross) (bits (bits r *ℤ bits low)) ≡ false → k ≡ int_min (bits (quot_z (bits cross) (bits r))) (pos 1073741824) → (of_z w64 pp ≡ 0 → ⊥) → le_z (bits pp) (bits (bits k *ℤ bits k)) ≡ is_beyond cross r pp
  axis e f g =
      let q = quotient e f in
      rw (is_axis pp s.pp_nonneg g, back pp_made, back (times q q tt)) (as_came (ap (λ (z : ℤ). le_z z (cap (quot_z cross (pos (nat_abs r))) *ℤ cap (quot_z cross (pos (nat_abs r))))) (sym (pos-nat_abs pp s.pp_nonneg)) ∙ (known e).answer))

pub returns-then-cross-r : goal.returns-then-cross-r
returns-then-cross-r c = record { told = sym (short c.requires.sizes c.if-cross-r.true) }

pub overflow_mul-result : goal.overflow_mul-result
overflow_mul-result c = let k = quotient c.requires.sizes c.if-cross-r.false c.min-k.ensures.value in (times k k tt).fits

pub returns-then-not-no_axis : goal.returns-then-not-no_axis
returns-then-not-no_axis c = record { told = axis c.requires.sizes c.if-cross-r.false c.min-k.ensures.value c.if-not-no_axis.true }

pub returns-else-not-no_axis : goal.returns-else-not-no_axis
returns-else-not-no_axis c = record { told = rw (c.if-not-no_axis.false, is_none c.args.pp c.requires.sizes.pp_nonneg c.if-not-no_axis.false) }
