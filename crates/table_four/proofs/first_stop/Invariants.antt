use Rattle.std.proofs.Common.{◌≡◌, ◌<◌, ℕ, slice_index_or}
use Rattle.table_four.specs.declared.Clamp.{Clamp}
use Rattle.table_four.specs.Table.{clear_rows}
use Rattle.table_four.proofs.first_stop.Given as goal

-- the clamps so far are clear
abbrev pub invariant-loop-k : goal.invariant-loop-k
invariant-loop-k l = (m : ℕ) (d : Clamp) → m < l.k → clear_rows l.n l.cells (slice_index_or l.clamps m d) ≡ (slice_index_or l.clamps m d).rows
