-- A job as a row of numbers: x, y, n, m, reach, grain, the count, the numbers of the places, and the marks. Assumes nothing.
use Rattle.std.specs.Prelude.{cond, List, [], ◌∷◌, ◌++◌, ℕ, ◌+◌, ℤ, pos, nat_abs, get_or}
use Rattle.std.specs.Int.Signed.{lt_z}
use Rattle.sequences.specs.Tables.{table}
use Rattle.model.specs.declared.Job.{Job}

-- where the places and the marks begin in a row, how many numbers they are, and how long the row is
abbrev pub places_at : ℕ
places_at = 7

abbrev pub places_long : ℕ
places_long = 512

abbrev pub marks_at : ℕ
marks_at = places_at + places_long

abbrev pub marks_long : ℕ
marks_long = 64

abbrev pub row_long : ℕ
row_long = marks_at + marks_long

-- a count below 0 is taken for 0, which is refused as any count of no edges
abbrev pub count_of : ℤ → ℕ
count_of z = cond (lt_z z (pos 0)) 0 (nat_abs z)

-- a stretch of a row: so many numbers from a place on
abbrev pub stretch : ℕ → ℕ → List ℤ → List ℤ
stretch at long vs = table long (λ i. get_or vs (at + i) (pos 0))

-- the job of a row, in which numbers that are missing at its end are 0 and numbers past its end are not looked at
unfoldable pub job_from : List ℤ → Job
job_from vs = record {
  x = get_or vs 0 (pos 0);
  y = get_or vs 1 (pos 0);
  n = get_or vs 2 (pos 0);
  m = get_or vs 3 (pos 0);
  reach = get_or vs 4 (pos 0);
  grain = get_or vs 5 (pos 0);
  count = count_of (get_or vs 6 (pos 0));
  places = stretch places_at places_long vs;
  marks = stretch marks_at marks_long vs;
}

-- the row of a job
abbrev pub head_of : Job → List ℤ
head_of j = j.x ∷ j.y ∷ j.n ∷ j.m ∷ j.reach ∷ j.grain ∷ pos j.count ∷ []

unfoldable pub numbers_of : Job → List ℤ
numbers_of j = (head_of j ++ j.places) ++ j.marks
