-- N and M of a job in its range are 0 to 20, so that their difference fits. Assumes nothing.
use mathlib.Core.Path.{◌≡◌, sym, ap, ap₂, ◌∙◌, subst}
use mathlib.Core.Bool.{Bool, true, false, cond, ◌&&◌}
use Prim.Native.Nat.{ℕ, zero, suc, ◌-◌, ◌≤◌}
use native.Mathlib.Omega.{arith}
use mir.Syntax.{w32}
use mir.Val.{SFits, to_z, of_z}
use mir.ValLaws.{to_z-of_z}
use lib.Dec.{ltb}
use lib.Signed.{le_z, pos-nat_abs}
use lib.IntN.{ℤ, pos, negsuc, nat_abs, ◌-ℤ◌}
use Rattle.model.specs.declared.Job.{Job}
use Rattle.model.specs.Jobs.{ranged, celled}
use Rattle.ranges.specs.Legal.{natural, is_ranged}

module _ (j : Job) (r : ranged j ≡ true) where
  small_sides : (a b : ℕ) × (j.n ≡ pos a) × (j.m ≡ pos b) × (a ≤ 20) × (b ≤ 20)
  small_sides =
      let s = is_ranged j r in
      let p = natural j.n s.n_in in
      let q = natural j.m s.m_in in
      (nat_abs j.n, nat_abs j.m, sym (pos-nat_abs j.n p.nonneg), sym (pos-nat_abs j.m q.nonneg), p.most, q.most)

  fits_small : (z : ℤ) (a : ℕ) → z ≡ pos a → a ≤ 20 → SFits w32 z
  fits_small z a e h = subst (SFits w32) (sym e) (record { sfits = omega arith })

  sides_read : (to_z w32 (of_z w32 j.n) ≡ j.n) × (to_z w32 (of_z w32 j.m) ≡ j.m)
  sides_read =
      let s = small_sides in
      (to_z-of_z w32 j.n (fits_small j.n s.0 s.2 s.4), to_z-of_z w32 j.m (fits_small j.m s.1 s.3 s.5))

  gap_fits : SFits w32 (j.n -ℤ j.m)
  gap_fits = let s = small_sides in subst (SFits w32) (sym (ap₂ ◌-ℤ◌ s.2 s.3)) (go s.0 s.1 s.4 s.5)
    where
      either : (t : Bool) (x y : ℕ) → x ≤ 20 → y ≤ 20 → SFits w32 (cond t (negsuc x) (pos y))
      either true x y h k = record { sfits = omega arith }
      either false x y h k = record { sfits = omega arith }

      go : (a b : ℕ) → a ≤ 20 → b ≤ 20 → SFits w32 (pos a -ℤ pos b)
      go a zero h k = record { sfits = omega arith }
      go a (suc b) h k = either (ltb a (suc b)) (suc b - suc a) (a - suc b) (omega arith) (omega arith)

  gap_read : to_z w32 (of_z w32 j.n) -ℤ to_z w32 (of_z w32 j.m) ≡ j.n -ℤ j.m
  gap_read = ap₂ ◌-ℤ◌ sides_read.0 sides_read.1

  pub cell_fits : SFits w32 (to_z w32 (of_z w32 j.n) -ℤ to_z w32 (of_z w32 j.m))
  cell_fits = subst (SFits w32) (sym gap_read) gap_fits

  cell_order : le_z (to_z w32 (of_z w32 j.m)) (to_z w32 (of_z w32 j.n)) ≡ le_z j.m j.n
  cell_order = ap₂ le_z sides_read.1 sides_read.0

  pub cell_yes : le_z (to_z w32 (of_z w32 j.m)) (to_z w32 (of_z w32 j.n)) ≡ true → le_z (to_z w32 (of_z w32 (to_z w32 (of_z w32 j.n) -ℤ to_z w32 (of_z w32 j.m)))) (pos 8) ≡ celled j
  unfolding celled
  cell_yes h =
      ap (λ z. le_z z (pos 8)) (ap (λ z. to_z w32 (of_z w32 z)) gap_read ∙ to_z-of_z w32 (j.n -ℤ j.m) gap_fits)
      ∙ sym (ap (λ t. t && le_z (j.n -ℤ j.m) (pos 8)) (sym cell_order ∙ h))
