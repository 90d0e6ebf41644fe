-- Signed machine arithmetic, one law an operation. A signed value is held as its bits, so that the checker shows each operand as
-- `to_z w64 (of_z w64 u)` and asks at each operation that the result fits. `Made v z B` says it all at once: v, as the machine's steps
-- give it, is the whole number z, z is at most B in size, and v fits 64 bits. Each law makes one of such a record from those of the operands.
-- Assumes nothing.
use Rattle.std.specs.Prelude.{◌≡◌, refl, Bool, true, false, cond, ℕ, zero, suc, ◌+◌, ◌*◌, ◌-◌, ◌/◌, ◌≤◌, ◌<◌, ◌^◌, T, ltb, leb, eqb, ℤ, pos, negsuc, neg_ℤ, nat_abs, ◌+ℤ◌, ◌-ℤ◌, ◌*ℤ◌}
use Rattle.std.proofs.Common.{sym, ap, ◌∙◌, subst, zero-le, le_refl, le_trans, lt_of_le_of_lt, mul-le-mul, add-le-add, zero-add, div-le_self, arith, ltb-true, le-ltb, eqb-true, ltb→lt, leb→le, SFits, to_z, of_z, to_z-of_z}
use Rattle.std.proofs.lemmas.Bool.{eqb-false}
use Rattle.std.proofs.Math.IntN.{sub_ℕ}
use Rattle.std.specs.Int.Signed.{mag, lt_z, non_neg, pos-nat_abs, quot_z, shr_z}
use Rattle.std.specs.Int.{w32, w64}
use Rattle.integers.specs.Order.{◌≼◌, num}

pub mag_le : (z : ℤ) → mag z ≤ nat_abs z
mag_le (pos n) = le_refl n
mag_le (negsuc n) = omega arith

pub nat_abs_neg : (z : ℤ) → nat_abs (neg_ℤ z) ≡ nat_abs z
nat_abs_neg (pos zero) = refl
nat_abs_neg (pos (suc n)) = refl
nat_abs_neg (negsuc n) = refl

sub_le' : (a b : ℕ) (t : Bool) → ltb a b ≡ t → nat_abs (cond t (negsuc (b - suc a)) (pos (a - b))) ≤ a + b
sub_le' a b true e = omega (arith, ltb-true a b e)
sub_le' a b false e = omega arith

sub_le : (a b : ℕ) → nat_abs (sub_ℕ a b) ≤ a + b
sub_le a b = sub_le' a b (ltb a b) refl

pub nat_abs_add : (x y : ℤ) → nat_abs (x +ℤ y) ≤ nat_abs x + nat_abs y
nat_abs_add (pos a) (pos b) = le_refl (a + b)
nat_abs_add (pos a) (negsuc b) = sub_le a (suc b)
nat_abs_add (negsuc a) (pos b) = omega (arith, sub_le b (suc a))
nat_abs_add (negsuc a) (negsuc b) = omega arith

pub nat_abs_mul : (x y : ℤ) → nat_abs (x *ℤ y) ≡ nat_abs x * nat_abs y
nat_abs_mul (pos a) (pos b) = refl
nat_abs_mul (pos a) (negsuc b) = nat_abs_neg (pos (a * suc b))
nat_abs_mul (negsuc a) (pos b) = nat_abs_neg (pos (suc a * b))
nat_abs_mul (negsuc a) (negsuc b) = refl

pub fits64 : {z : ℤ} {B : ℕ} → nat_abs z ≤ B → T (ltb B (2 ^ 63)) → SFits w64 z
fits64 {z} {B} h t = record { sfits = lt_of_le_of_lt (le_trans (mag_le z) h) (ltb→lt B (2 ^ 63) t) }

pub fits32 : {z : ℤ} {B : ℕ} → nat_abs z ≤ B → T (ltb B (2 ^ 31)) → SFits w32 z
fits32 {z} {B} h t = record { sfits = lt_of_le_of_lt (le_trans (mag_le z) h) (ltb→lt B (2 ^ 31) t) }

pub record Made (v z : ℤ) (B : ℕ) : Type 0 where
  pub is : v ≡ z
  pub within : nat_abs z ≤ B
  pub fits : SFits w64 v

-- a number through its bits, as the checker shows an operand
abbrev pub bits : ℤ → ℤ
bits u = to_z w64 (of_z w64 u)

-- the value read back from its bits
pub back : {v z : ℤ} {B : ℕ} → Made v z B → to_z w64 (of_z w64 v) ≡ z
back m = to_z-of_z m.fits ∙ m.is

make : {v z : ℤ} {B : ℕ} → v ≡ z → nat_abs z ≤ B → T (ltb B (2 ^ 63)) → Made v z B
make {v} {z} {B} e h t = record { is = e; within = h; fits = subst (SFits w64) (sym e) (fits64 h t) }

-- a parameter, or a call's result
pub arg : {x : ℤ} {B : ℕ} → nat_abs x ≤ B → SFits w64 x → Made x x B
arg h f = record { is = refl; within = h; fits = f }

-- a literal
pub lit : (n : ℕ) → T (ltb n (2 ^ 63)) → Made (pos n) (pos n) n
lit n t = make refl (le_refl n) t

-- a wider bound
pub widen : {v z : ℤ} {A : ℕ} (B : ℕ) → Made v z A → T (leb A B) → Made v z B
widen {A = A} B m t = record { is = m.is; within = le_trans m.within (leb→le A B t); fits = m.fits }

pub times : {u v x y : ℤ} {A B : ℕ} → Made u x A → Made v y B → T (ltb (A * B) (2 ^ 63)) → Made (to_z w64 (of_z w64 u) *ℤ to_z w64 (of_z w64 v)) (x *ℤ y) (A * B)
times {x = x} {y} a b t = make (ap₂' (back a) (back b)) (rw nat_abs_mul (mul-le-mul a.within b.within)) t
  where
    ap₂' : {p q r s : ℤ} → p ≡ r → q ≡ s → p *ℤ q ≡ r *ℤ s
    ap₂' e f = cc

pub plus : {u v x y : ℤ} {A B : ℕ} → Made u x A → Made v y B → T (ltb (A + B) (2 ^ 63)) → Made (to_z w64 (of_z w64 u) +ℤ to_z w64 (of_z w64 v)) (x +ℤ y) (A + B)
plus {x = x} {y} a b t = make (ap₂' (back a) (back b)) (le_trans (nat_abs_add x y) (add-le-add a.within b.within)) t
  where
    ap₂' : {p q r s : ℤ} → p ≡ r → q ≡ s → p +ℤ q ≡ r +ℤ s
    ap₂' e f = cc

pub minus : {u v x y : ℤ} {A B : ℕ} → Made u x A → Made v y B → T (ltb (A + B) (2 ^ 63)) → Made (to_z w64 (of_z w64 u) -ℤ to_z w64 (of_z w64 v)) (x -ℤ y) (A + B)
minus {x = x} {y} a b t = make (ap₂' (back a) (back b)) (le_trans (nat_abs_add x (neg_ℤ y)) (add-le-add a.within (rw nat_abs_neg b.within))) t
  where
    ap₂' : {p q r s : ℤ} → p ≡ r → q ≡ s → p -ℤ q ≡ r -ℤ s
    ap₂' e f = cc

-- ---- quotients, rounded toward zero, by a number above 0

pub nat_abs_quot : (x : ℤ) (d : ℕ) → nat_abs (quot_z x (pos d)) ≤ nat_abs x
nat_abs_quot (pos a) d = div-le_self a d
nat_abs_quot (negsuc a) d = rw nat_abs_neg (div-le_self (suc a) d)

pub over : {u v x : ℤ} {A B d : ℕ} → Made u x A → Made v (pos d) B → T (ltb A (2 ^ 63)) → Made (quot_z (to_z w64 (of_z w64 u)) (to_z w64 (of_z w64 v))) (quot_z x (pos d)) A
over {x = x} {d = d} a b t = make (rw (back a, back b) refl) (le_trans (nat_abs_quot x d) a.within) t

-- the divisor's bits are not 0
pub above_zero : {v : ℤ} {B d : ℕ} → Made v (pos d) B → 0 < d → 0 < of_z w64 v
above_zero {d = d} b h = rw b.is h

-- ---- tests

pub test_lt : {u v x y : ℤ} {A B : ℕ} {t : Bool} → Made u x A → Made v y B → lt_z (to_z w64 (of_z w64 u)) (to_z w64 (of_z w64 v)) ≡ t → lt_z x y ≡ t
test_lt a b e = rw (back a, back b) at e

pub test_eq : {u v x y : ℤ} {A B : ℕ} → Made u x A → Made v y B → eqb (of_z w64 u) (of_z w64 v) ≡ true → x ≡ y
test_eq {u} {v} a b e = sym (back a) ∙ ap (to_z w64) (eqb-true (of_z w64 u) (of_z w64 v) e) ∙ back b

pub test_ne : {u v x y : ℤ} {A B : ℕ} → Made u x A → Made v y B → eqb (of_z w64 u) (of_z w64 v) ≡ false → x ≡ y → ⊥
test_ne {u} {v} a b e f = eqb-false (of_z w64 u) (of_z w64 v) e (ap (of_z w64) (a.is ∙ f ∙ sym b.is))

pub neg_abs : (x : ℤ) → lt_z x (pos 0) ≡ true → pos 0 -ℤ x ≡ pos (nat_abs x)
neg_abs (pos n) e = absurd (omega (arith, ltb-true n 0 e))
neg_abs (negsuc n) e = ap pos (zero-add (suc n))

pub pos_abs : (x : ℤ) → lt_z x (pos 0) ≡ false → x ≡ pos (nat_abs x)
pos_abs (pos n) e = refl
pos_abs (negsuc n) e = cc

-- ---- rounded down: division toward zero does so from 0 on, and below 0 counted from −1 the other way
pub floor_law : (y : ℤ) (d : ℕ) → cond (lt_z y (pos 0)) (negsuc 0 -ℤ quot_z (negsuc 0 -ℤ y) (pos d)) (quot_z y (pos d)) ≡ shr_z y d
floor_law (pos a) d = rw (le-ltb a 0 zero-le)
floor_law (negsuc a) d = ap (λ (z : ℤ). negsuc 0 -ℤ quot_z z (pos d)) other ∙ turn (a / d)
  where
    other : negsuc 0 -ℤ negsuc a ≡ pos a
    other = rw (le-ltb (suc a) 1 (omega arith)) (ap pos (omega arith))

    turn : (q : ℕ) → negsuc 0 -ℤ pos q ≡ negsuc q
    turn zero = refl
    turn (suc q) = ap (λ (k : ℕ). negsuc (suc k)) (zero-add q)

-- a parameter that is not below 0
pub arg_pos : {x : ℤ} {B : ℕ} → T (non_neg x) → nat_abs x ≤ B → SFits w64 x → Made x (pos (nat_abs x)) B
arg_pos {x} t h f = record { is = sym (pos-nat_abs x t); within = h; fits = f }

pub lt_0_false : (x : ℤ) → lt_z x (pos 0) ≡ false → T (non_neg x)
lt_0_false (pos n) e = tt
lt_0_false (negsuc n) e = subst T e tt

-- a number within a bound that fits: a field of a struct, or a parameter
pub held : (x : ℤ) {B : ℕ} → nat_abs x ≤ B → T (ltb B (2 ^ 63)) → Made x x B
held x h t = make refl h t

-- ---- calls

-- what a call returns, by its contract
pub called : {v z : ℤ} {B : ℕ} → v ≡ z → nat_abs z ≤ B → T (ltb B (2 ^ 63)) → Made v z B
called {v} {z} {B} e h t = make e h t

-- what a call requires of an argument's size
pub sized : {u x : ℤ} {A : ℕ} (B : ℕ) → Made u x A → T (leb A B) → nat_abs (to_z w64 (of_z w64 u)) ≤ B
sized {u} {x} {A} B m t = rw (back m) (le_trans m.within (leb→le A B t))

-- ---- a value read back from its bits is itself: of a call's result r with `c.f.ok`, of an element with `c.x.given`

pub read32 : (z : ℤ) → mag z < 2 ^ 31 → to_z w32 (of_z w32 z) ≡ z
read32 z h = to_z-of_z {w = w32} (record { sfits = h })

pub read64 : (z : ℤ) → mag z < 2 ^ 63 → to_z w64 (of_z w64 z) ≡ z
read64 z h = to_z-of_z {w = w64} (record { sfits = h })

-- a test `y == z` tells that the bits are the same, and so are the numbers
pub same32 : (y z : ℤ) → mag y < 2 ^ 31 → mag z < 2 ^ 31 → of_z w32 y ≡ of_z w32 z → y ≡ z
same32 y z h k e = sym (read32 y h) ∙ ap (to_z w32) e ∙ read32 z k

pub same64 : (y z : ℤ) → mag y < 2 ^ 63 → mag z < 2 ^ 63 → of_z w64 y ≡ of_z w64 z → y ≡ z
same64 y z h k e = sym (read64 y h) ∙ ap (to_z w64) e ∙ read64 z k

-- a number whose sign says that it is not below 0
pub nonneg : (z : ℤ) → T (non_neg z) → pos 0 ≼ z
nonneg (pos n) t = num n
nonneg (negsuc n) t = absurd t
