-- The slanted test: when a view needs it, the room, and where it does not say away. Assumes nothing.
use Rattle.std.specs.Prelude.{◌≡◌, Bool, true, false, not, ◌&&◌, ◌||◌, ℕ, zero, suc, ◌+◌, ◌*◌, ◌<◌, T, ℤ, pos, negsuc, nat_abs, ◌-ℤ◌, ◌*ℤ◌}
use Rattle.std.proofs.Common.{refl, sym, ap, ◌∙◌, subst, arith, eq-eqb, of_z, w64}
use Rattle.std.proofs.lemmas.Bool.{ne_eqb}
use Rattle.std.specs.Int.Signed.{le_z, non_neg}
use Rattle.integers.specs.Signed.{Made, nonneg}
use Rattle.integers.specs.Absolute.{absℤ}
use Rattle.ranges.specs.Bits.{is_zero64}
use Rattle.model.specs.Jobs.{is_zero}
use Rattle.model.specs.Explore.{squares}
use Rattle.strip_tests.specs.PlainTests.{slanted_by}
use Rattle.row_laws.specs.Columns.{off}
use Rattle.row_laws.specs.Slanted.{shared, slanted_is}
use Rattle.row_laws.specs.Rows.{not_away}
use Rattle.columns.specs.declared.Frame.{Frame}
use Rattle.columns.specs.declared.View.{View}
use Rattle.columns.specs.Views.{across_at, away_in, near_at}
use Rattle.columns.specs.Limits.{FrameSized, ViewSized, RoomFor}

-- ---- numbers
pub nat_abs_squares : (p q : ℤ) → nat_abs p * nat_abs p + nat_abs q * nat_abs q ≡ nat_abs (squares p q)
nat_abs_squares (pos m) (pos n) = refl
nat_abs_squares (pos m) (negsuc n) = refl
nat_abs_squares (negsuc m) (pos n) = refl
nat_abs_squares (negsuc m) (negsuc n) = refl

pub abs_is_nonneg : (z : ℤ) → T (non_neg (absℤ z))
unfolding absℤ
abs_is_nonneg z = tt

pub abs_above : (z : ℤ) → is_zero z ≡ false → 0 < nat_abs (absℤ z)
unfolding is_zero absℤ
abs_above (pos zero) e = absurd (subst T e tt)
abs_above (pos (suc n)) e = omega arith
abs_above (negsuc n) e = omega arith

-- ---- tests for 0, of a number's bits
pub zero_taken : {z : ℤ} {B : ℕ} → Made z z B → of_z w64 z ≡ 0 → is_zero z ≡ true
zero_taken {z} m e = sym (is_zero64 z m.fits).0 ∙ eq-eqb (of_z w64 z) 0 e

pub zero_left : {z : ℤ} {B : ℕ} → Made z z B → (of_z w64 z ≡ 0 → ⊥) → is_zero z ≡ false
zero_left {z} m e = sym (is_zero64 z m.fits).0 ∙ ne_eqb (of_z w64 z) 0 e

-- ---- a view whose axis lies along x or y needs no room
clash : (a : Bool) {A : Type 0} → a ≡ true → a ≡ false → A
clash a e f = absurd (subst T (sym e ∙ f) tt)

module _ (f : Frame) (v : View) where
  pub no_room_p : is_zero v.p ≡ true → RoomFor f v (pos 0)
  no_room_p e = record { size = omega arith; is = λ h k. clash (is_zero v.p) e h }

  pub no_room_q : is_zero v.q ≡ true → RoomFor f v (pos 0)
  no_room_q e = record { size = omega arith; is = λ h k. clash (is_zero v.q) e k }

-- ---- the columns in which the slanted test does not say away
every_p : (a p q s : Bool) → p ≡ true → a ≡ (a && (p || (q || s)))
every_p true p q s e = rw e
every_p false p q s e = refl

every_q : (a p q s : Bool) → q ≡ true → a ≡ (a && (p || (q || s)))
every_q true true q s e = refl
every_q true false q s e = rw e
every_q false p q s e = refl

asked : (a p q s t : Bool) → p ≡ false → q ≡ false → s ≡ t → (a && t) ≡ (a && (p || (q || s)))
asked a p q s t e f g = rw (e, f, g)

module _ (f : Frame) (v : View) (w : ℤ) (i : ℕ) (a : Bool) where
  abbrev spared : Bool
  spared = not (slanted_by (off f.q v.x (pos i)) w v.p v.q v.a v.b f.reach)

  -- of an axis along x or y all
  pub all_p : is_zero v.p ≡ true → a ≡ (a && across_at f v w i)
  all_p = every_p a (is_zero v.p) (is_zero v.q) spared

  pub all_q : is_zero v.q ≡ true → a ≡ (a && across_at f v w i)
  all_q = every_q a (is_zero v.p) (is_zero v.q) spared

  -- of any other those whose place is within the room
  pub across_is : {b : Bool} (room : ℤ) → RoomFor f v room → is_zero v.p ≡ false → is_zero v.q ≡ false → b ≡ le_z (absℤ (pos 2 *ℤ f.q *ℤ absℤ v.q *ℤ pos i -ℤ shared w v.x v.p v.q)) room → (a && b) ≡ (a && across_at f v w i)
  across_is {b} room r e g h = asked a (is_zero v.p) (is_zero v.q) spared b e g
      (slanted_is f.q v.x w v.p v.q v.a v.b f.reach (pos i) g ∙ sym (h ∙ ap (le_z (absℤ (pos 2 *ℤ f.q *ℤ absℤ v.q *ℤ pos i -ℤ shared w v.x v.p v.q))) (r.is e g)))

-- ---- both tests
and_assoc : (a b c : Bool) → ((a && b) && c) ≡ (a && (b && c))
and_assoc true b c = refl
and_assoc false b c = refl

module _ (f : Frame) (s : FrameSized f) (v : View) (t : ViewSized v) (i j : ℕ) where
  abbrev x : ℤ
  x = off f.q v.x (pos i)

  abbrev y : ℤ
  y = off f.q v.y (pos j)

  both_tests : not (away_in f v i j) ≡ (across_at f v y i && near_at f v y i)
  both_tests = rw (t.ex_is, t.ey_is) (not_away x y v.p v.q v.a v.b f.reach (nonneg f.reach s.reach_sized.r_nonneg))

  -- of the columns that the slanted test leaves of a, those that the other leaves
  pub kept_is : {r m : Bool} (a : Bool) → m ≡ (a && across_at f v y i) → r ≡ (m && near_at f v y i) → r ≡ (a && not (away_in f v i j))
  kept_is a e g = g ∙ ap (λ b. b && near_at f v y i) e ∙ and_assoc a (across_at f v y i) (near_at f v y i) ∙ ap (λ b. a && b) (sym both_tests)
