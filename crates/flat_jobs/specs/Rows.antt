-- A job's row has one length (`row_long_is`) and is read back as that job, whatever stands behind it (`row_kept`); and a row that ends with its
-- places, or before, marks no edge as a line (`unmarked`). Assumes nothing.
use Rattle.std.specs.Prelude.{◌≡◌, refl, List, ◌++◌, ℕ, ◌+◌, ◌≤◌, ◌<◌, ℤ, pos, length, get_or, replicate}
use Rattle.std.proofs.Common.{sym, ap, ap₂, ◌∙◌, append_assoc, zero-le, arith, length-append, ext_get_or, get_or-append-add, le-ltb}
use Rattle.std.proofs.lemmas.List.{length-replicate, get_or-replicate}
use Rattle.std.proofs.Math.ListN.{get_or-append, get_or-eq_default}
use Rattle.sequences.specs.Tables.{length_table, get_or_table}
use Rattle.model.specs.declared.Job.{Job}
use Rattle.model.specs.Promises.{Whole}
use Rattle.flat_jobs.specs.FlatJobs.{places_at, places_long, marks_at, marks_long, row_long, stretch, count_of, job_from, head_of, numbers_of}

-- ---- a stretch of a row
module _ (at long : ℕ) (vs : List ℤ) where
  pub stretch_long : length (stretch at long vs) ≡ long
  stretch_long = length_table long (λ i. get_or vs (at + i) (pos 0))

  pub stretch_get : (k : ℕ) → k < long → get_or (stretch at long vs) k (pos 0) ≡ get_or vs (at + k) (pos 0)
  stretch_get k h = get_or_table long (λ i. get_or vs (at + i) (pos 0)) k (pos 0) h

  -- it is a list of its length that has the row's numbers
  pub stretch_is : (l : List ℤ) → length l ≡ long → ((k : ℕ) → k < long → get_or vs (at + k) (pos 0) ≡ get_or l k (pos 0)) → stretch at long vs ≡ l
  stretch_is l e f =
      ext_get_or (pos 0) (stretch at long vs) l (stretch_long ∙ sym e)
      (λ k b.
      let h : k < long = omega (arith, stretch_long) in
      stretch_get k h ∙ f k h)

  -- past the row's end it is zeros
  pub stretch_past : length vs ≤ at → stretch at long vs ≡ replicate long (pos 0)
  stretch_past h =
      stretch_is (replicate long (pos 0)) (length-replicate long (pos 0))
      (λ k b. get_or-eq_default vs (pos 0) (let g : length vs ≤ at + k = omega arith in g) ∙ sym (get_or-replicate long k (pos 0) (pos 0) b))

-- where it was put it is found
pub stretch_back : (front part rest : List ℤ) → stretch (length front) (length part) (front ++ (part ++ rest)) ≡ part
stretch_back front part rest =
    stretch_is (length front) (length part) (front ++ (part ++ rest)) part refl
    (λ k h. get_or-append-add front (part ++ rest) k (pos 0) ∙ get_or-append part rest (pos 0) k h)

-- ---- a job's row
-- a job from a row is a job value
pub from_whole : (vs : List ℤ) → Whole (job_from vs)
unfolding job_from
from_whole vs = (stretch_long places_at places_long vs, stretch_long marks_at marks_long vs)

-- a row without marks is of cubics alone
pub unmarked : (vs : List ℤ) → length vs ≤ marks_at → (job_from vs).marks ≡ replicate marks_long (pos 0)
unfolding job_from
unmarked vs h = stretch_past marks_at marks_long vs h

-- a job value's row has the length of a row, and its marks begin where they are looked for
pub front_long : (j : Job) → Whole j → length (head_of j ++ j.places) ≡ marks_at
front_long j w = length-append (head_of j) j.places ∙ ap (λ (n : ℕ). places_at + n) w.0

pub row_long_is : (j : Job) → Whole j → length (numbers_of j) ≡ row_long
unfolding numbers_of
row_long_is j w = length-append (head_of j ++ j.places) j.marks ∙ ap₂ (λ (m n : ℕ). m + n) (front_long j w) w.1

-- a count that stands in a row is not below 0
count_back : (n : ℕ) → count_of (pos n) ≡ n
count_back n = rw (le-ltb n 0 zero-le)

module _ (j : Job) (rest : List ℤ) (w : Whole j) where
  abbrev row : List ℤ
  row = ((head_of j ++ j.places) ++ j.marks) ++ rest

  places_back : stretch places_at places_long row ≡ j.places
  places_back =
      ap₂ (λ (n : ℕ) (l : List ℤ). stretch places_at n l) (sym w.0) (let e : row ≡ head_of j ++ (j.places ++ (j.marks ++ rest)) = simp append_assoc in e)
      ∙ stretch_back (head_of j) j.places (j.marks ++ rest)

  marks_back : stretch marks_at marks_long row ≡ j.marks
  marks_back =
      ap₂ (λ (m n : ℕ). stretch m n row) (sym (front_long j w)) (sym w.1)
      ∙ ap (stretch (length (head_of j ++ j.places)) (length j.marks)) (append_assoc (head_of j ++ j.places) j.marks rest)
      ∙ stretch_back (head_of j ++ j.places) j.marks rest

  pub row_kept : job_from (numbers_of j ++ rest) ≡ j
  unfolding job_from numbers_of
  row_kept = λ i. record { x = j.x; y = j.y; n = j.n; m = j.m; reach = j.reach; grain = j.grain; count = count_back j.count i; places = places_back i; marks = marks_back i }
