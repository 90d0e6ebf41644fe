-- What a caller in C has of calls one after the other, each promise as a named statement; `Callers` proves them. A row, a store, a map, a
-- sheet and a count that stand here without more are what was there before a call. Assumes nothing.
use Rattle.std.specs.Prelude.{◌≡◌, true, List, [], ◌∷◌, ◌++◌, ℕ, ◌*◌, ◌≤◌, ◌<◌, ℤ, pos, length, take}
use Rattle.model.specs.declared.Job.{Job}
use Rattle.model.specs.Jobs.{coordinate, coordinates}
use Rattle.model.specs.Entries.{read, write, write_leaves, map, map_store, map_cells, point, spots_in, spots_fit, points_refusal, points_reply}
use Rattle.model.specs.Promises.{Kept, MapHolds, Bounds, whole_point, FirstEdge, spot_x, spot_y, lo_at, hi_at, named_at}
use Rattle.table_four.specs.Table.{place}
use Rattle.table_four.specs.Promises.{GoMeans}
use Rattle.flat_jobs.specs.FlatJobs.{job_from}
use Rattle.exports.specs.Rows.{read_leaves, bytes_left, lo_in, hi_in, edge_in, numbers_left, go_in, placed_left}

-- a sheet is accepted, or refused with 1 to 4
abbrev pub ReadNumbers : Type 0
ReadNumbers = (sheet : List ℕ) → (read sheet).refusal ≤ 4

-- the row that an accepted read leaves stands for the job that was read, whatever is lent with it behind its end
abbrev pub RowRead : Type 0
RowRead = (sheet : List ℕ) (row rest : List ℤ) → (read sheet).refusal ≡ 0 → job_from (read_leaves sheet row ++ rest) ≡ (read sheet).job

-- ---- the round trips
-- the bytes at the front of `out` that writing a row tells of
abbrev pub sheet_left : List ℤ → List ℕ → ℕ → List ℕ
sheet_left row out count = take (bytes_left (job_from row) out count) (write_leaves (job_from row) out)

-- a sheet read into a row and written again keeps its bytes, but for a line that states the default grain
abbrev pub SheetBack : Type 0
SheetBack = (sheet : List ℕ) (row : List ℤ) (out : List ℕ) (count : ℕ) → (read sheet).refusal ≡ 0 → (write (job_from (read_leaves sheet row)) out).refusal ≡ 0 → Kept sheet (sheet_left (read_leaves sheet row) out count)

-- what was written of a row is accepted, and the row that it is read into stands for the same job
abbrev pub RowBack : Type 0
RowBack = (row other : List ℤ) (out : List ℕ) (count : ℕ) → (write (job_from row) out).refusal ≡ 0 → ((read (sheet_left row out count)).refusal ≡ 0) × (job_from (read_leaves (sheet_left row out count) other) ≡ job_from row)

-- ---- a point
-- what an accepted call tells by its refusal and its three numbers: bounds of the distance, and the first edge that gives the upper one
pub record Told (j : Job) (x y : ℤ) (refusal : ℕ) (numbers : List ℤ) : Type 0 where
  pub given : refusal ≡ 0
  pub bounds : Bounds j (whole_point x y) (lo_in numbers) (hi_in numbers)
  pub edge : ℕ
  pub edge_is : edge_in numbers ≡ pos edge
  pub first : FirstEdge j x y edge

-- so does every call that is accepted, whatever the row and the store
abbrev pub PointTold : Type 0
PointTold = (row : List ℤ) (x y : ℤ) (store old : List ℤ) → (point (job_from row) x y store).refusal ≡ 0 → Told (job_from row) x y (point (job_from row) x y store).refusal (numbers_left (job_from row) x y store old)

-- ---- many points
-- what a call tells by its refusal and its reply: of each point the same
abbrev pub RowTold : Job → List ℤ → ℕ → List ℤ → Type 0
RowTold j spots refusal reply = (k : ℕ) → k < spots_in spots → Told j (spot_x spots k) (spot_y spots k) refusal (lo_at reply k ∷ hi_at reply k ∷ named_at reply k ∷ [])

abbrev pub PointsTold : Type 0
PointsTold = (row spots store reply : List ℤ) → points_refusal (job_from row) spots store reply ≡ 0 → RowTold (job_from row) spots (points_refusal (job_from row) spots store reply) (points_reply (job_from row) spots store reply)

-- ---- read, map, point
-- of a sheet that was read and the row then drawn, both accepted: demand 3 holds of the map for the job that was read; and asked with the
-- store that drawing left, each point in range has an answer, which tells of that job's outline, and so have 1 to 256 of them in one call
pub record DrawnFrom (sheet : List ℕ) (row store : List ℤ) (cells : List ℕ) : Type 0 where
  pub map_holds : MapHolds (read sheet).job (map_cells (job_from (read_leaves sheet row)) store cells)
  pub answered : (x y : ℤ) (old : List ℤ) → coordinate x ≡ true → coordinate y ≡ true → Told (read sheet).job x y (point (job_from (read_leaves sheet row)) x y (map_store (job_from (read_leaves sheet row)) store cells)).refusal (numbers_left (job_from (read_leaves sheet row)) x y (map_store (job_from (read_leaves sheet row)) store cells) old)
  pub answered_all : (spots reply : List ℤ) → coordinates spots ≡ true → spots_fit spots ≡ true → 3 * spots_in spots ≤ length reply → RowTold (read sheet).job spots (points_refusal (job_from (read_leaves sheet row)) spots (map_store (job_from (read_leaves sheet row)) store cells) reply) (points_reply (job_from (read_leaves sheet row)) spots (map_store (job_from (read_leaves sheet row)) store cells) reply)

abbrev pub ReadMapPoint : Type 0
ReadMapPoint = (sheet : List ℕ) (row store : List ℤ) (cells : List ℕ) → (read sheet).refusal ≡ 0 → (map (job_from (read_leaves sheet row)) store cells).refusal ≡ 0 → DrawnFrom sheet row store cells

-- ---- read, map, clamps
-- of a sheet that was read and the row then drawn, both accepted: an accepted call with the map that drawing left, whose first number is then 1, means
-- that whatever lies under a clamp keeps at least the reach of that sheet's job from its outline
abbrev pub ClampsTold : Type 0
ClampsTold =
    (sheet : List ℕ) (row store : List ℤ) (cells cs old : List ℕ) → (read sheet).refusal ≡ 0 → (map (job_from (read_leaves sheet row)) store cells).refusal ≡ 0
    → (place (job_from (read_leaves sheet row)) (map_cells (job_from (read_leaves sheet row)) store cells) cs).refusal ≡ 0
    → go_in (placed_left (job_from (read_leaves sheet row)) (map_cells (job_from (read_leaves sheet row)) store cells) cs old) ≡ 1
    → GoMeans (read sheet).job cs
