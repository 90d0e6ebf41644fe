-- Tests that came out true or false, and what follows. Assumes nothing.
use Rattle.std.specs.Prelude.{◌≡◌, refl, Bool, true, false, not, ◌&&◌, ◌||◌, ◌⊎◌, ℕ, ◌≤◌, T, leb, ℤ, pos, negsuc}
use Rattle.std.proofs.Common.{sym, subst, inl, inr, leb→le}
use Rattle.std.specs.Int.Signed.{le_z, lt_z, le_z_yes, lt_z_yes, lt_z_no, clash_ℤ}
use Rattle.std.proofs.lemmas.Bool.{not-false}
use Rattle.integers.specs.Order.{◌≼◌, ◌≺◌}

-- ---- of booleans
pub is_true : (b : Bool) → T b → b ≡ true
is_true true t = refl
is_true false t = absurd t

-- two tests that hold in the same cases are one
pub alike : (a b : Bool) → (T a → T b) → (T b → T a) → a ≡ b
alike true true f g = refl
alike false false f g = refl
alike true false f g = absurd (f tt)
alike false true f g = absurd (g tt)

pub t_both : (a b : Bool) → T (a && b) → T a × T b
t_both true b t = (tt, t)
t_both false b t = absurd t

pub t_pair : (a b : Bool) → T a → T b → T (a && b)
t_pair true b s t = t
t_pair false b s t = absurd s

pub and_false : (a : Bool) → (a && false) ≡ false
and_false true = refl
and_false false = refl

pub negated : (b : Bool) → not b ≡ true → b ≡ false
negated false e = refl
negated true e = sym e

pub both : (a b : Bool) → (a && b) ≡ true → (a ≡ true) × (b ≡ true)
both true b e = (refl, e)
both false b e = (e, cc)

pub not_both : (a b : Bool) → not (a && b) ≡ true → (a ≡ false) ⊎ (b ≡ false)
not_both true b e = inr (negated b e)
not_both false b e = inl refl

pub or_true : (a b : Bool) → (a || b) ≡ true → (a ≡ true) ⊎ (b ≡ true)
or_true true b e = inl refl
or_true false b e = inr e

pub or_yes : (a : Bool) → (a || true) ≡ true
or_yes true = refl
or_yes false = refl

pub or_false : (a b : Bool) → (a || b) ≡ false → (a ≡ false) × (b ≡ false)
or_false true b e = (e, cc)
or_false false b e = (refl, e)

-- ---- of numbers
-- one is below zero or natural, so that a test of the sign, in whatever words, can be read at either
pub sign : (z : ℤ) → ((n : ℕ) × (z ≡ negsuc n)) ⊎ ((n : ℕ) × (z ≡ pos n))
sign (negsuc n) = inl (n, refl)
sign (pos n) = inr (n, refl)

pub le_of : (m n : ℕ) → leb m n ≡ true → m ≤ n
le_of m n e = leb→le m n (subst T (sym e) tt)

pub lt_true : {a b : ℤ} → lt_z a b ≡ true → a ≺ b
lt_true e = lt_z_yes (subst T (sym e) tt)

pub lt_false : {a b : ℤ} → lt_z a b ≡ false → b ≼ a
lt_false e = lt_z_no (subst (λ b. T (not b)) (sym e) tt)

pub le_true : {a b : ℤ} → le_z a b ≡ true → a ≼ b
le_true e = le_z_yes (subst T (sym e) tt)

pub le_false : {a b : ℤ} → le_z a b ≡ false → b ≺ a
le_false {a} {b} e = go (lt_z b a) refl
  where
    go : (t : Bool) → lt_z b a ≡ t → b ≺ a
    go true f = lt_true f
    go false f = let h : a ≼ b = lt_false f in absurd (subst T e h.le)

-- the same two in other words, for code that asks whether it is not at most
pub not_le_true : {a b : ℤ} → not (le_z a b) ≡ true → b ≺ a
not_le_true {a} {b} e = le_false (negated (le_z a b) e)

pub not_le_false : {a b : ℤ} → not (le_z a b) ≡ false → a ≼ b
not_le_false {a} {b} e = le_true (not-false (le_z a b) e)

pub true_le : {a b : ℤ} → a ≼ b → le_z a b ≡ true
true_le {a} {b} h = is_true (le_z a b) h.le

pub true_lt : {a b : ℤ} → a ≺ b → lt_z a b ≡ true
true_lt {a} {b} h = is_true (lt_z a b) h.lt

pub false_lt : {a b : ℤ} → b ≼ a → lt_z a b ≡ false
false_lt {a} {b} h = go (lt_z a b) refl
  where
    go : (t : Bool) → lt_z a b ≡ t → t ≡ false
    go true e = clash_ℤ (lt_true {a = a} {b = b} e) h
    go false e = refl
