-- The levels of a walk over a tree: which cells each leaves open, and what a node makes of the next. Assumes nothing.
use Rattle.std.specs.Prelude.{◌≡◌, not, ◌&&◌, List, ℕ, suc, ◌≤◌, ◌<◌, T}
use Rattle.spans.specs.declared.Span.{Span}
use Rattle.spans.specs.Among.{among}
use Rattle.levels.specs.Open.{Fits, span_in, open_in}
use Rattle.columns.specs.declared.Frame.{Frame}
use Rattle.columns.specs.declared.View.{View}
use Rattle.columns.specs.Views.{away_in}

-- at level 0 every column of the first rows is open
abbrev pub AllOpen : ℕ → ℕ → List Span → Type 0
AllOpen n high l = (j : ℕ) → j < high → span_in l 0 j ≡ record { lo = 0; hi = n }

-- the next level, in these rows: open where level d is and the strip is not away. The levels up to d are as they were
pub record Narrowed (f : Frame) (v : View) (d : ℕ) (rows : Span) (l l' : List Span) : Type 0 where
  pub fits : Fits f.n l'
  pub kept : (i j : ℕ) → T (among rows j) → open_in l' (suc d) i j ≡ (open_in l d i j && not (away_in f v i j))
  pub same : (k j : ℕ) → k ≤ d → j < 256 → span_in l' k j ≡ span_in l k j
