-- std's `abs` of a number is the model's. Assumes nothing.
use Rattle.std.specs.Prelude.{◌≡◌, refl, ℤ, pos, nat_abs}
use Rattle.integers.specs.Absolute.{absℤ}

pub absolute : (x : ℤ) → pos (nat_abs x) ≡ absℤ x
unfolding absℤ
absolute x = refl
