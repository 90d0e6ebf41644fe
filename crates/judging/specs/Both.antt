-- What `a && b` gives in code, where b is asked only if a is true. Assumes nothing.
use Rattle.std.specs.Prelude.{◌≡◌, Bool, true, false, ◌&&◌, T}
use Rattle.std.proofs.Common.{sym, ◌∙◌, subst}

-- the tests A and T came out as a and r, and v is what is given
pub and_yes : (a r A T v : Bool) → a ≡ A → a ≡ true → r ≡ T → v ≡ r → v ≡ (A && T)
and_yes a r true t v h e k f = f ∙ k
and_yes a r false t v h e k f = absurd (subst T (sym e ∙ h) tt)

pub and_no : (a A T v : Bool) → a ≡ A → a ≡ false → v ≡ a → v ≡ (A && T)
and_no a true t v h e f = absurd (subst T (sym h ∙ e) tt)
and_no a false t v h e f = f ∙ h
