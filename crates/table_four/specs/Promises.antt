-- RULES, "Clamps": what is promised of the clamps: each promise as a named statement. Assumes nothing.
use Rattle.std.specs.Prelude.{◌≡◌, true, false, ◌↔◌, List, ℕ, ◌+◌, ◌*◌, ◌^◌, ◌<◌, ℤ, pos, ◌+ℤ◌}
use Rattle.model.specs.declared.Job.{Job}
use Rattle.model.specs.Refusals.{Lowest}
use Rattle.model.specs.Jobs.{outline, cell_log}
use Rattle.model.specs.Plates.{columns}
use Rattle.model.specs.Fractions.{Frac, whole, Point, ◌≤ᶠ◌}
use Rattle.model.specs.Exact.{Outline, Clear}
use Rattle.model.specs.Entries as entries
use Rattle.model.specs.Promises.{MapHolds, byte_at}
use Rattle.table_four.specs.declared.Clamp.{Clamp}
use Rattle.table_four.specs.Answers.{Placed}
use Rattle.table_four.specs.Table.{clamp_at, place}
use Rattle.table_four.specs.Cases.{UnderCell, place_table}

-- ---- the refusal is the lowest of which the case applies
abbrev pub PlaceLowest : Type 0
PlaceLowest = (j : Job) (cells cs : List ℕ) → Lowest (place_table j cells cs) (place j cells cs).refusal

-- ---- accepted, it is a go exactly where every cell under every clamp is C
abbrev pub AllClear : Job → List ℕ → List ℕ → Type 0
AllClear j cells cs = (m : ℕ) → m < 4 → (i k : ℕ) → UnderCell (clamp_at cs m) i k → byte_at j cells i k ≡ 67

abbrev pub PlaceGo : Type 0
PlaceGo = (j : Job) (cells cs : List ℕ) → (place j cells cs).refusal ≡ 0 → ((place j cells cs).go ≡ true) ↔ AllClear j cells cs

-- ---- and otherwise it names the first clamp with a cell that is not C, and its lowest, then leftmost such cell
pub record Names (j : Job) (cells cs : List ℕ) (m i k : ℕ) : Type 0 where
  pub of_four : m < 4
  pub under : UnderCell (clamp_at cs m) i k
  pub not_clear : byte_at j cells i k ≡ 67 → ⊥
  pub earlier : (l : ℕ) → l < m → (a b : ℕ) → UnderCell (clamp_at cs l) a b → byte_at j cells a b ≡ 67
  pub lower : (a b : ℕ) → UnderCell (clamp_at cs m) a b → b < k → byte_at j cells a b ≡ 67
  pub leftward : (a : ℕ) → UnderCell (clamp_at cs m) a k → a < i → byte_at j cells a k ≡ 67

abbrev pub PlaceNames : Type 0
PlaceNames = (j : Job) (cells cs : List ℕ) → (place j cells cs).refusal ≡ 0 → (place j cells cs).go ≡ false → Names j cells cs (place j cells cs).clamp (place j cells cs).column (place j cells cs).row

-- that is one clamp and one cell
abbrev pub NamesOne : Type 0
NamesOne = (j : Job) (cells cs : List ℕ) (m i k l a b : ℕ) → Names j cells cs m i k → Names j cells cs l a b → (m ≡ l) × (i ≡ a) × (k ≡ b)

-- ---- a refusal is no go, and neither a refusal nor a go names anything
abbrev pub Nothing : Placed → Type 0
Nothing p = (p.clamp ≡ 0) × (p.column ≡ 0) × (p.row ≡ 0)

abbrev pub PlaceNothing : Type 0
PlaceNothing = (j : Job) (cells cs : List ℕ) → (((place j cells cs).refusal ≡ 0 → ⊥) → ((place j cells cs).go ≡ false) × Nothing (place j cells cs)) × ((place j cells cs).go ≡ true → Nothing (place j cells cs))

-- ---- the points under a clamp: from its first column's line to the one behind its last column, in y likewise, both lines included
pub record Across (X : ℤ) (i count n : ℕ) (a : Frac) : Type 0 where
  pub from : whole (X +ℤ pos (i * n)) ≤ᶠ a
  pub to : a ≤ᶠ whole (X +ℤ pos ((i + count) * n))

pub record Under (j : Job) (c : Clamp) (Q : Point) : Type 0 where
  pub column : Across j.x c.column c.columns (2 ^ cell_log j) Q.x
  pub row : Across j.y c.row c.rows (2 ^ cell_log j) Q.y

-- what a go means: whatever lies under a clamp keeps at least the reach from the outline
abbrev pub GoMeans : Job → List ℕ → Type 0
GoMeans j cs = (m : ℕ) → m < 4 → Clear (Outline (outline j)) (Under j (clamp_at cs m)) j.reach

-- of every map of which demand 3 holds
abbrev pub GoTrue : Type 0
GoTrue = (j : Job) (cells cs : List ℕ) → (place j cells cs).go ≡ true → MapHolds j cells → GoMeans j cs

-- and of bytes that have C only where such a map has it
abbrev pub ClearIn : Job → List ℕ → List ℕ → Type 0
ClearIn j cells drawn = (i k : ℕ) → i < columns j → k < columns j → byte_at j cells i k ≡ 67 → byte_at j drawn i k ≡ 67

abbrev pub GoWithin : Type 0
GoWithin = (j : Job) (cells drawn cs : List ℕ) → (place j cells cs).go ≡ true → ClearIn j cells drawn → MapHolds j drawn → GoMeans j cs

-- so of the map that the library draws for the job
abbrev pub DrawnGo : Type 0
DrawnGo = (j : Job) (store : List ℤ) (cells cs : List ℕ) → (entries.map j store cells).refusal ≡ 0 → (place j (entries.map_cells j store cells) cs).go ≡ true → GoMeans j cs
