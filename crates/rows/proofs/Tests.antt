-- Tests joined. Assumes nothing.
use Rattle.std.specs.Prelude.{◌≡◌, Bool, true, false, not, ◌&&◌, ℕ, ◌≤◌, ◌<◌, T, leb, ltb}
use Rattle.std.proofs.Common.{refl, sym, ap, ◌∙◌, subst, leb→le, ltb→lt}
use Rattle.integers.specs.Tests.{t_both}
use Rattle.spans.specs.declared.Span.{Span}
use Rattle.spans.specs.Among.{among}

-- a test that the last one brings is free
pub free : (a c t : Bool) → (T t → T c) → (a && c && t) ≡ (a && t)
free true true t f = refl
free true false true f = absurd (f tt)
free true false false f = refl
free false c t f = refl

-- a test that the first one brings is free
pub brought : (a c : Bool) → (T a → T c) → (a && c) ≡ a
brought true true f = refl
brought true false f = absurd (f tt)
brought false c f = refl

-- a third that the fourth brings is free
pub clip : (a c o t : Bool) → (T t → T c) → (a && c && o && t) ≡ (a && o && t)
clip true true o t f = refl
clip true false true true f = absurd (f tt)
clip true false true false f = refl
clip true false false t f = refl
clip false c o t f = refl

pub shut : (c t : Bool) → c ≡ false → (T t → T c) → t ≡ false
shut c true e f = absurd (subst T e (f tt))
shut c false e f = refl

pub turned : (t : Bool) → not t ≡ false → t ≡ true
turned true e = refl
turned false e = sym e

pub second : (a b : Bool) → a ≡ true → (a && b) ≡ false → b ≡ false
second a b e f = sym (ap (λ t. t && b) e) ∙ f

pub guarded : (a b c : Bool) → (T a → b ≡ c) → (a && b) ≡ (a && c)
guarded true b c f = f tt
guarded false b c f = refl

pub regroup : (a b c : Bool) → (a && (b && c)) ≡ (a && b && c)
regroup true b c = refl
regroup false b c = refl

-- ---- of a stretch
pub inside : (c : Span) (j : ℕ) → T (among c j) → (c.lo ≤ j) × (j < c.hi)
inside c j t = let p = t_both (leb c.lo j) (ltb j c.hi) t in (leb→le c.lo j p.0, ltb→lt j c.hi p.1)

pub empty : (c : Span) (j : ℕ) → (c.lo ≤ j → j < c.hi → ⊥) → among c j ≡ false
empty c j h = go (among c j) refl
  where
    go : (t : Bool) → among c j ≡ t → t ≡ false
    go false e = refl
    go true e = let p = inside c j (subst T (sym e) tt) in absurd (h p.0 p.1)
