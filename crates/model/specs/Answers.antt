-- RULES, "Entries": what an entry answers, as numbers, and how the answers of the code tell it: a result is what was asked for, or a refusal, which
-- is told by its number and by zeros beside it. Assumes nothing.
use Rattle.std.specs.Prelude.{ℕ, ℤ, pos, Result, Ok, Err}
use Rattle.model.specs.declared.Job.{Job}
use Rattle.model.specs.declared.Nearest.{Nearest as Found}
use Rattle.model.specs.declared.Refusal.{Refusal}
use Rattle.model.specs.declared.Refusal.TheVariants.{Form, Edges, Range, Cell, Long, Store, Space, Stranger, Sheaf, OffPlate, Letter}
use Rattle.model.specs.Refusals as refused
use Rattle.model.specs.Jobs.{zero_job}

-- ---- the refusals
abbrev pub meant : Refusal → refused.Refusal
meant Form = refused.form
meant Edges = refused.edges
meant Range = refused.range
meant Cell = refused.cell
meant Long = refused.long
meant Store = refused.store
meant Space = refused.space
meant Stranger = refused.stranger
meant Sheaf = refused.sheaf
meant OffPlate = refused.off_plate
meant Letter = refused.letter

abbrev pub number_of : Refusal → ℕ
number_of k = refused.number (meant k)

-- the refusal's number, or 0
abbrev pub told : {A : Type 0} → Result A Refusal → ℕ
told (Ok a) = 0
told (Err k) = number_of k

-- ---- reading a sheet: the job, all zeros where it is refused
pub record Read : Type 0 where
  pub refusal : ℕ
  pub job : Job

abbrev pub as_read : Result Job Refusal → Read
as_read (Ok j) = record { refusal = 0; job = j }
as_read (Err k) = record { refusal = number_of k; job = zero_job }

-- ---- writing a job's sheet: the bytes written, 0 where it is refused
pub record Written : Type 0 where
  pub refusal : ℕ
  pub bytes : ℕ

abbrev pub as_written : Result ℕ Refusal → Written
as_written (Ok n) = record { refusal = 0; bytes = n }
as_written (Err k) = record { refusal = number_of k; bytes = 0 }

-- ---- a job by itself: the cells a side of its map, 0 where it is refused
pub record Grid : Type 0 where
  pub refusal : ℕ
  pub side : ℕ

abbrev pub as_grid : Result ℕ Refusal → Grid
as_grid (Ok n) = record { refusal = 0; side = n }
as_grid (Err k) = record { refusal = number_of k; side = 0 }

-- ---- drawing a map: the nodes of the store, 0 where it is refused
pub record Map : Type 0 where
  pub refusal : ℕ
  pub nodes : ℕ

abbrev pub as_map : Result ℕ Refusal → Map
as_map (Ok n) = record { refusal = 0; nodes = n }
as_map (Err k) = record { refusal = number_of k; nodes = 0 }

-- ---- asking for a point: the bounds of its squared distance in fine units, and the first edge that attains the upper one, all 0 where it is refused
pub record Nearest : Type 0 where
  pub refusal : ℕ
  pub lo : ℤ
  pub hi : ℤ
  pub edge : ℕ

abbrev pub as_nearest : Result Found Refusal → Nearest
as_nearest (Ok n) = record { refusal = 0; lo = n.lo; hi = n.hi; edge = n.edge }
as_nearest (Err k) = record { refusal = number_of k; lo = pos 0; hi = pos 0; edge = 0 }
