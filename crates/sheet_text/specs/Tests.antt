-- What follows where a test comes out true or false. Assumes nothing.
use Rattle.std.specs.Prelude.{◌≡◌, refl, Bool, true, false, ℕ}
use Rattle.std.proofs.Common.{sym, arith}

pub no_way {ℓ} : {X : Type ℓ} → false ≡ true → X
no_way e = absurd (let z : ◌≡◌ {A = ℕ} 0 1 = cc in omega arith)

pub yes : {A : Type 0} (t : Bool) (a b : A) → t ≡ true → elim t [ true ↦ a | false ↦ b ] ≡ a
yes true a b h = refl
yes false a b h = no_way h

pub no : {A : Type 0} (t : Bool) (a b : A) → t ≡ false → elim t [ true ↦ a | false ↦ b ] ≡ b
no true a b h = no_way (sym h)
no false a b h = refl
