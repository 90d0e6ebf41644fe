-- The columns of a row in which a test holds lie side by side, and two walks from the ends find exactly them. Assumes nothing.
use Rattle.std.specs.Prelude.{◌≡◌, refl, Bool, true, false, not, ◌&&◌, ◌⊎◌, ℕ, ◌-◌, ◌≤◌, ◌<◌, T, leb, ltb, ℤ, pos, neg_ℤ, ◌+ℤ◌, ◌-ℤ◌, ◌*ℤ◌}
use Rattle.std.proofs.Common.{sym, subst, inl, inr, ⊎_elim, arith, leb→le, le→leb, ltb→lt, lt→ltb}
use Rattle.std.proofs.Math.Decide.{dec_le}
use Rattle.integers.specs.RingSolver.{name₂, name₄, reify, close, ok}
use Rattle.integers.specs.Order.{◌≼◌, ◌⊠◌, gap, pos_≼}
use Rattle.integers.specs.Omega.{zarith}
use Rattle.integers.specs.Inequalities.{from, ≼_trans}
use Rattle.integers.specs.Absolute.{absℤ, abs_is, ≼_abs, neg≼_abs}
use Rattle.integers.specs.Tests.{alike, t_both, t_pair}
use Rattle.strip_tests.specs.PlainTests.{inside_by, apart_by}
use Rattle.inheritance.specs.Blocks.{middle}
use Rattle.row_laws.specs.Growth.{apart_farther, inside_nearer}

-- from z to the middle of column i, both seen from the middle of the first column, of columns with half side s
abbrev pub off : ℤ → ℤ → ℤ → ℤ
off s z i = pos 2 *ℤ s *ℤ i -ℤ z

-- the map's smallest cells: column i of half side s, from the corner X, and a strip's centre c
pub smallest_off : (X s c : ℤ) (i : ℕ) → middle X s i 1 -ℤ c ≡ off s (c -ℤ (X +ℤ s)) (pos i)
smallest_off X s c i = go (pos i)
  where
    go : (i : ℤ) → X +ℤ (pos 2 *ℤ i +ℤ pos 1) *ℤ s -ℤ c ≡ off s (c -ℤ (X +ℤ s)) i
    go i = name₄ X s c i λ σ p₁ p₂ p₃ p₄. simp (p₁, p₂, p₃, p₄, reify, σ) (close σ _ _ ok)

-- ---- of a column between two others, one of the two is at least as far from z
off_grows : (s z a b : ℤ) → pos 0 ≼ s → a ≼ b → off s z a ≼ off s z b
off_grows s z a b hs h = from (hs ⊠ gap h) (name₄ s z a b λ σ p₁ p₂ p₃ p₄. simp (p₁, p₂, p₃, p₄, reify, σ) (omega zarith))

neg_grows : (x y : ℤ) → x ≼ y → neg_ℤ y ≼ neg_ℤ x
neg_grows x y = name₂ x y λ σ p q. simp (p, q, reify) (omega zarith)

farther_end : (s z a i b : ℤ) → pos 0 ≼ s → a ≼ i → i ≼ b → (absℤ (off s z i) ≼ absℤ (off s z a)) ⊎ (absℤ (off s z i) ≼ absℤ (off s z b))
farther_end s z a i b hs h k = ⊎_elim
    (λ (e : absℤ (off s z i) ≡ off s z i). inr (subst (λ t. t ≼ absℤ (off s z b)) (sym e) (≼_trans (off_grows s z i b hs k) (≼_abs (off s z b)))))
    (λ (e : absℤ (off s z i) ≡ neg_ℤ (off s z i)). inl (subst (λ t. t ≼ absℤ (off s z a)) (sym e) (≼_trans (neg_grows (off s z a) (off s z i) (off_grows s z a i hs h)) (neg≼_abs (off s z a)))))
    (abs_is (off s z i))

-- ---- what holds at two columns holds between them
pub record SideBySide (P : ℕ → Bool) : Type 0 where
  pub between : (a i b : ℕ) → a ≤ i → i ≤ b → T (P a) → T (P b) → T (P i)

-- the tests in column i of the row y
abbrev pub is_near : ℤ → ℤ → ℤ → ℤ → ℤ → ℤ → ℤ → Bool
is_near s z y ex ey r i = not (apart_by (absℤ (off s z i)) (absℤ y) ex ey r)

abbrev pub is_in : ℤ → ℤ → ℤ → ℤ → ℤ → ℤ → ℤ → Bool
is_in s z y ex ey r i = inside_by (absℤ (off s z i)) (absℤ y) ex ey r

-- where one test brings another, its opposite is brought by the other's
turned : (a b : Bool) → (a ≡ true → b ≡ true) → T (not b) → T (not a)
turned true true f t = t
turned true false f t = absurd (subst T (sym (f refl)) tt)
turned false b f t = tt

held : (a b : Bool) → (a ≡ true → b ≡ true) → T a → T b
held true b f t = subst T (sym (f refl)) tt
held false b f t = absurd t

module _ (s z y ex ey r : ℤ) (hs : pos 0 ≼ s) where
  -- no column between two that are not apart is apart: were it, so were the end that is farther
  pub near_columns : SideBySide (λ i. is_near s z y ex ey r (pos i))
  near_columns = record {
    between = λ a i b h k ha hb. ⊎_elim
        (λ l. turned (apart_by (absℤ (off s z (pos i))) (absℤ y) ex ey r) (apart_by (absℤ (off s z (pos a))) (absℤ y) ex ey r) (apart_farther (off s z (pos i)) (off s z (pos a)) y ex ey r l) ha)
        (λ l. turned (apart_by (absℤ (off s z (pos i))) (absℤ y) ex ey r) (apart_by (absℤ (off s z (pos b))) (absℤ y) ex ey r) (apart_farther (off s z (pos i)) (off s z (pos b)) y ex ey r l) hb)
        (farther_end s z (pos a) (pos i) (pos b) hs (pos_≼ h) (pos_≼ k));
  }

  pub inside_columns : pos 0 ≼ ex → pos 0 ≼ ey → SideBySide (λ i. is_in s z y ex ey r (pos i))
  inside_columns hx hy = record {
    between = λ a i b h k ha hb. ⊎_elim
        (λ l. held (is_in s z y ex ey r (pos a)) (is_in s z y ex ey r (pos i)) (inside_nearer (off s z (pos i)) (off s z (pos a)) y ex ey r l hx hy) ha)
        (λ l. held (is_in s z y ex ey r (pos b)) (is_in s z y ex ey r (pos i)) (inside_nearer (off s z (pos i)) (off s z (pos b)) y ex ey r l hx hy) hb)
        (farther_end s z (pos a) (pos i) (pos b) hs (pos_≼ h) (pos_≼ k));
  }

-- ---- the columns from l to below h, found by walking in from both ends of those from lo to below hi while P does not hold
pub record Walked (P : ℕ → Bool) (lo hi l h : ℕ) : Type 0 where
  pub begins : lo ≤ l
  pub ends : h ≤ hi
  pub left : (i : ℕ) → lo ≤ i → i < l → T (P i) → ⊥
  pub right : (i : ℕ) → l ≤ i → h ≤ i → i < hi → T (P i) → ⊥
  pub first : l < h → T (P l)
  pub last : l < h → T (P (h - 1))

-- they are just those in which it holds
pub walked_is : (P : ℕ → Bool) → SideBySide P → (lo hi l h : ℕ) → Walked P lo hi l h → (i : ℕ) → (leb l i && ltb i h) ≡ (leb lo i && ltb i hi && P i)
walked_is P side lo hi l h w i = alike (leb l i && ltb i h) (leb lo i && ltb i hi && P i) there back
  where
    there : T (leb l i && ltb i h) → T (leb lo i && ltb i hi && P i)
    there t =
        let p = t_both (leb l i) (ltb i h) t in
        let a : l ≤ i = leb→le l i p.0 in
        let b : i < h = ltb→lt i h p.1 in
        let c : lo ≤ i = omega (arith, w.begins) in
        let d : i < hi = omega (arith, w.ends) in
        let e : i ≤ h - 1 = omega arith in
        let f : l < h = omega arith in
        t_pair (leb lo i && ltb i hi) (P i) (t_pair (leb lo i) (ltb i hi) (le→leb lo i c) (lt→ltb i hi d)) (side.between l i (h - 1) a e (w.first f) (w.last f))

    from_left : lo ≤ i → T (P i) → l ≤ i
    from_left c t = elim (dec_le l i) [ yes p ↦ p | no p ↦ absurd (w.left i c (omega arith) t) ]

    to_right : l ≤ i → i < hi → T (P i) → i < h
    to_right a d t = elim (dec_le h i) [ yes p ↦ absurd (w.right i a p d t) | no p ↦ omega arith ]

    back : T (leb lo i && ltb i hi && P i) → T (leb l i && ltb i h)
    back t =
        let p = t_both (leb lo i && ltb i hi) (P i) t in
        let q = t_both (leb lo i) (ltb i hi) p.0 in
        let a : l ≤ i = from_left (leb→le lo i q.0) p.1 in
        t_pair (leb l i) (ltb i h) (le→leb l i a) (lt→ltb i h (to_right a (ltb→lt i hi q.1) p.1))
