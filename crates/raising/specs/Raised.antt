-- What raising leaves of a byte. Assumes nothing.
use Rattle.std.specs.Prelude.{Bool, cond, ℕ, max}

-- x, raised to b where the test holds
abbrev pub raised : Bool → ℕ → ℕ → ℕ
raised t b x = cond t (max x b) x
