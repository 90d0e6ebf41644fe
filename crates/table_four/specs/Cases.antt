-- RULES, "Clamps": the cases of refusals 10 and 11, said by themselves and without a test, and the table of the clamps' refusals. Assumes nothing.
use Rattle.std.specs.Prelude.{◌≡◌, ◌⊎◌, List, [], ◌++◌, ℕ, ◌+◌, ◌≤◌, ◌<◌, get_or}
use Rattle.model.specs.declared.Job.{Job}
use Rattle.model.specs.Refusals as refused
use Rattle.model.specs.Refusals.{Table, row}
use Rattle.model.specs.Plates.{columns, cells_of}
use Rattle.model.specs.Cases.{SpaceCase, own_rows}
use Rattle.table_four.specs.declared.Clamp.{Clamp}
use Rattle.table_four.specs.Table.{clamp_at}

-- the cell in column i and row k is under a clamp
pub record UnderCell (c : Clamp) (i k : ℕ) : Type 0 where
  pub left : c.column ≤ i
  pub right : i < c.column + c.columns
  pub low : c.row ≤ k
  pub high : k < c.row + c.rows

-- 10: some clamp has no column or no row, or a cell under it that is not on the map
abbrev pub OffPlateCase : Job → List ℕ → Type 0
OffPlateCase j cs =
    (m : ℕ) × (m < 4) × (((clamp_at cs m).columns ≡ 0) ⊎ (((clamp_at cs m).rows ≡ 0) ⊎ ((i : ℕ) × (k : ℕ) × UnderCell (clamp_at cs m) i k × ((columns j ≤ i) ⊎ (columns j ≤ k)))))

-- 11: some cell of the map has another byte than C, I or D
abbrev pub LetterCase : Job → List ℕ → Type 0
LetterCase j cells = (p : ℕ) × (p < cells_of j) × (get_or cells p 0 ≡ 67 → ⊥) × (get_or cells p 0 ≡ 73 → ⊥) × (get_or cells p 0 ≡ 68 → ⊥)

-- 7: the map has fewer bytes than cells
abbrev pub place_table : Job → List ℕ → List ℕ → Table
place_table j cells cs = own_rows j [] ++ row refused.space (SpaceCase (cells_of j) cells) ++ row refused.off_plate (OffPlateCase j cs) ++ row refused.letter (LetterCase j cells)
