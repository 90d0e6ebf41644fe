-- The tests of two whole numbers for being the same, and of a row of them for beginning with another. Assumes nothing.
use Rattle.std.specs.Prelude.{◌≡◌, refl, true, List, [], ◌∷◌, ◌++◌, T, ℤ, pos, negsuc, length, drop}
use Rattle.std.proofs.Common.{sym, ap, ap₂, subst, eqb-true, eq-eqb}
use Rattle.integers.specs.Tests.{both}
use Rattle.model.specs.Sheets.{same}
use Rattle.model.specs.Store.{begins}

pub same_is : (y z : ℤ) → same y z ≡ true → y ≡ z
unfolding same
same_is (pos m) (pos n) e = ap pos (eqb-true m n e)
same_is (pos m) (negsuc n) e = absurd (subst T (sym e) tt)
same_is (negsuc m) (pos n) e = absurd (subst T (sym e) tt)
same_is (negsuc m) (negsuc n) e = ap negsuc (eqb-true m n e)

pub same_self : (z : ℤ) → same z z ≡ true
unfolding same
same_self (pos n) = eq-eqb n n refl
same_self (negsuc n) = eq-eqb n n refl

pub begins_is : (s ns : List ℤ) → begins s ns ≡ true → s ≡ ns ++ drop (length ns) s
unfolding begins
begins_is s [] e = refl
begins_is [] (n ∷ ns) e = absurd (subst T (sym e) tt)
begins_is (z ∷ s) (n ∷ ns) e =
    let h = both (same z n) (begins s ns) e in
    ap₂ {C = List ℤ} (λ (x : ℤ) (l : List ℤ). x ∷ l) (same_is z n h.0) (begins_is s ns h.1)

pub begins_self : (ns r : List ℤ) → begins (ns ++ r) ns ≡ true
unfolding begins
begins_self [] r = refl
begins_self (n ∷ ns) r = rw (same_self n) (begins_self ns r)
