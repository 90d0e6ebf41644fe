-- What a search is asked: the cell and the reach that judge each strip, and when it may stop. Assumes nothing.
use Rattle.std.specs.Prelude.{ℕ, ◌≤◌, T, ℤ, nat_abs}
use Rattle.std.specs.Int.Signed.{non_neg}
use Rattle.model.specs.Strips.{Strip}
use Rattle.model.specs.Explore.{Cell, Answer, judged}
use Rattle.ranges.specs.Sizes.{Sized}
use Rattle.strip_tests.specs.Limits.{ReachSized}
use Rattle.strip_tests.specs.Answers.{meaning}
use Rattle.strip_tests.specs.PlainTests.{code}
use Rattle.search.specs.declared.Probe.{Probe}

abbrev pub cell_at : ℤ → ℤ → ℤ → Cell
cell_at x y s = record { cx = x; cy = y; s = s }

-- how a probe judges a strip
abbrev pub judged_by : Probe → Strip → Answer
judged_by p = judged p.r (cell_at p.x p.y p.s)

-- a cell and a reach within which no test leaves 64 bits
pub record CellSized (x y s r : ℤ) : Type 0 where
  pub cx_size : nat_abs x ≤ 536870912
  pub cy_size : nat_abs y ≤ 536870912
  pub s_size : nat_abs s ≤ 134217728
  pub s_nonneg : T (non_neg s)
  pub reach_sized : ReachSized r

-- no node answers above e, so that a search may stop there
unfoldable pub Enough : ℤ → ℤ → ℤ → ℤ → ℕ → Type 0
Enough x y s r e = (S : Strip) → Sized S → code (judged r (cell_at x y s) S) ≤ e

-- what is asked of a probe
pub record Fair (p : Probe) : Type 0 where
  pub cell : CellSized p.x p.y p.s p.r
  pub stop : Enough p.x p.y p.s p.r (code (meaning p.enough))
