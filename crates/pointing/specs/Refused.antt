-- The answer of a refused point. Assumes nothing.
use Rattle.std.specs.Prelude.{ℕ, pos}
use Rattle.model.specs.Answers.{Nearest}

abbrev pub refused_with : ℕ → Nearest
refused_with k = record { refusal = k; lo = pos 0; hi = pos 0; edge = 0 }
