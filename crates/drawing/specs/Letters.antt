-- What a block of the map asks, and the letter of one smallest cell by its own answer. Assumes nothing.
use Rattle.std.specs.Prelude.{List, ℕ, ◌+◌, ◌*◌, ◌^◌, pos, ◌+ℤ◌, ◌*ℤ◌}
use Rattle.model.specs.declared.Job.{Job}
use Rattle.model.specs.Jobs.{cell_log}
use Rattle.model.specs.Strips.{Strip}
use Rattle.model.specs.Trees.{Tree}
use Rattle.model.specs.Explore.{Cell, Answer, judged, explore_all}
use Rattle.model.specs.Plates.{doubtful, letter, settled, columns}
use Rattle.inheritance.specs.Blocks.{block}
use Rattle.columns.specs.declared.Frame.{Frame}

-- the frame of the rows of a job's map from one row on; from row 0 it is that of the whole map
abbrev pub frame_of : Job → ℕ → Frame
frame_of j row = record {
  n = columns j;
  x = pos 16 *ℤ j.x;
  y = pos 16 *ℤ j.y +ℤ pos (2 * row) *ℤ pos (8 * 2 ^ cell_log j);
  q = pos (8 * 2 ^ cell_log j);
  k = cell_log j + 4;
  reach = pos 16 *ℤ j.reach;
}

-- how a frame judges a strip for a cell; the laws of drawing take any way of which `Judges` holds
abbrev pub way_of : Frame → Cell → Strip → Answer
way_of f = judged f.reach

-- what the block of w by w smallest cells at column c and row r of the frame asks
abbrev pub asked : Frame → ℕ → ℕ → ℕ → Strip → Answer
asked f c r w = way_of f (block f.x f.y f.q c r w)

abbrev pub own_letter : Frame → List Tree → ℕ → ℕ → ℕ
own_letter f ts i j = letter (settled (explore_all (asked f i j 1) ts) doubtful)
