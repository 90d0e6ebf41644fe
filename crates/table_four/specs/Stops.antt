-- What stops the clamps on a map of n cells a side: under a clamp the first cell that is not C, and the first clamp with one. Assumes nothing.
use Rattle.std.specs.Prelude.{◌≡◌, List, ℕ, ◌+◌, ◌<◌, length, slice_index_or}
use Rattle.table_four.specs.declared.Clamp.{Clamp}
use Rattle.table_four.specs.declared.Cell.{Cell}
use Rattle.table_four.specs.declared.Stop.{Stop}
use Rattle.table_four.specs.Table.{clear_cells, clear_rows}

-- the lowest that is not C, and of its row the leftmost
pub record FirstCell (n : ℕ) (cells : List ℕ) (c : Clamp) (cell : Cell) : Type 0 where
  pub some : clear_rows n cells c < c.rows
  pub row_is : cell.row ≡ c.row + clear_rows n cells c
  pub column_is : cell.column ≡ c.column + clear_cells n cells c cell.row

-- the first clamp with such a cell
pub record FirstStop (n : ℕ) (cells : List ℕ) (cs : List Clamp) (stop : Stop) : Type 0 where
  pub there : stop.clamp < length cs
  pub before : (k : ℕ) (d : Clamp) → k < stop.clamp → clear_rows n cells (slice_index_or cs k d) ≡ (slice_index_or cs k d).rows
  pub here : (d : Clamp) → FirstCell n cells (slice_index_or cs stop.clamp d) stop.cell
