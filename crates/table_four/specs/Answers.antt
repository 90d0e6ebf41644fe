-- RULES, "Clamps": what the clamps are answered, as numbers, and how the answer of the code tells it: a go, what stops them, or a refusal by its
-- number; zeros where nothing is named. Assumes nothing.
use Rattle.std.specs.Prelude.{Bool, true, false, ℕ, Result, Ok, Err}
use Rattle.model.specs.declared.Refusal.{Refusal}
use Rattle.model.specs.Answers.{number_of}
use Rattle.table_four.specs.declared.Placed.{Placed as Told}
use Rattle.table_four.specs.declared.Placed.TheVariants.{Go, Stopped}

pub record Placed : Type 0 where
  pub refusal : ℕ
  pub go : Bool
  pub clamp : ℕ
  pub column : ℕ
  pub row : ℕ

abbrev pub as_placed : Result Told Refusal → Placed
as_placed (Ok Go) = record { refusal = 0; go = true; clamp = 0; column = 0; row = 0 }
as_placed (Ok (Stopped s)) = record { refusal = 0; go = false; clamp = s.clamp; column = s.cell.column; row = s.cell.row }
as_placed (Err k) = record { refusal = number_of k; go = false; clamp = 0; column = 0; row = 0 }
