-- Figures of a job by itself: its own refusal, and the cells a side of its map. Everything is computed. Assumes nothing.
use Rattle.std.specs.Prelude.{◌≡◌, refl, List, [], ◌∷◌, ℤ, pos}
use Rattle.model.specs.declared.Job.{Job}
use Rattle.model.specs.Answers.{Grid}
use Rattle.model.specs.Refusals.{accepted}
use Rattle.model.specs.Jobs.{between, coordinate, is_zero, placed, is_one, spare, kind, marked, counted, ranged, celled, judge}
use Rattle.model.specs.Entries.{grid}
use Rattle.model.specs.FigureTables.{AllHold, ◌and◌, job}
use Rattle.model.specs.EntryFigures.{small, long, off}

pub data Figure : Type 0 where
  -- a job by itself
  grid_of : Job → Grid → Figure

abbrev pub Holds : Figure → Type 0
Holds (grid_of j g) = grid j ≡ g

-- with an N and an M
abbrev pub sized : ℤ → ℤ → Job
sized n m = job (pos 0) (pos 0) n m (pos 9) (pos 10) 1 []

abbrev pub grid_figures : List Figure
grid_figures =
    grid_of (sized (pos 3) (pos 3)) (record { refusal = 0; side = 1 })
    ∷ grid_of (sized (pos 4) (pos 1)) (record { refusal = 0; side = 8 })
    ∷ grid_of (sized (pos 20) (pos 12)) (record { refusal = 0; side = 256 })
    ∷ grid_of (sized (pos 9) (pos 0)) (record { refusal = 4; side = 0 })
    ∷ grid_of (sized (pos 21) (pos 20)) (record { refusal = 3; side = 0 })
    ∷ grid_of (small off 0 (pos 0)) (record { refusal = 2; side = 0 })
    -- a long edge has a grid
    ∷ grid_of (long (pos 0)) (record { refusal = 0; side = 2 })
    ∷ []

pub grids_hold : AllHold Holds grid_figures
unfolding grid judge accepted counted ranged celled between coordinate is_zero placed is_one spare kind marked
grids_hold = refl and refl and refl and refl and refl and refl and refl and tt
