-- The round trips, as a caller of the entries needs them: a job written and read, a sheet read and written, and what is known of a job that
-- was read and of the bytes that were written. Assumes nothing.
use Rattle.std.specs.Prelude.{◌≡◌, refl, List, [], ◌↔◌, ℕ, zero, suc, ◌≤◌, leb, length, take}
use Rattle.std.proofs.Common.{sym, ap, ◌∙◌, subst, arith}
use Rattle.model.specs.declared.Job.{Job}
use Rattle.model.specs.Refusals.{check, space, accepted}
use Rattle.model.specs.Jobs.{counted, own, judge, zero_job}
use Rattle.model.specs.Forms.{byte, read_form}
use Rattle.model.specs.Layouts.{read_line, read_lines, read_all}
use Rattle.model.specs.Sheets.{job_form, layout, Sheet, lines, broken, job_of, sheet_of, read_sheet}
use Rattle.model.specs.Entries.{read_answer, read, write_refusal, write, write_leaves}
use Rattle.model.specs.Promises.{Whole, Kept, JobKept, SheetKept, WriteRead, ReadWhole, ReadLegal, WriteFits, UnwrittenUnread, ReadWrite}
use Rattle.integers.specs.Tests.{le_of}
use Rattle.ranges.specs.Refusals.{passed_all, each_passed, accepted_is, refused_is}
use Rattle.sheet_text.specs.Places.{fit_length}
use Rattle.sheet_text.specs.RoundTrips as trips

-- ---- the three round trips
pub job_kept : JobKept
job_kept = trips.job_kept

pub sheet_kept : SheetKept
sheet_kept = trips.sheet_kept

pub write_read : WriteRead
write_read = trips.write_read

-- ---- what reading gives
whole_or_zero : (n : ℕ) (j : Job) → Whole j → Whole (accepted n j zero_job)
unfolding accepted
whole_or_zero zero j h = h
whole_or_zero (suc n) j h = (refl, refl)

answer_whole : (s : Sheet) → Whole (read_answer s).job
unfolding read_answer
answer_whole (lines gs) = whole_or_zero (judge (job_of gs)) (job_of gs) (fit_length 512 _, fit_length 64 _)
answer_whole broken = (refl, refl)

pub read_whole : ReadWhole
unfolding read
read_whole s = answer_whole (read_sheet s)

-- the zero job has no edge
zero_refused : judge zero_job ≡ 0 → ⊥
unfolding judge counted
zero_refused e = omega (arith, e)

legal_or_zero : (n : ℕ) (j : Job) → judge j ≡ n → (judge (accepted n j zero_job) ≡ 0) ↔ (n ≡ 0)
unfolding accepted
legal_or_zero zero j e = ((λ h. refl), λ h. e)
legal_or_zero (suc n) j e = ((λ h. absurd (zero_refused h)), λ h. absurd (omega (arith, h)))

answer_legal : (s : Sheet) → (judge (read_answer s).job ≡ 0) ↔ ((read_answer s).refusal ≡ 0)
unfolding read_answer
answer_legal (lines gs) = legal_or_zero (judge (job_of gs)) (job_of gs) refl
answer_legal broken = ((λ h. absurd (zero_refused h)), λ h. absurd (omega (arith, h)))

pub read_legal : ReadLegal
unfolding read
read_legal s = answer_legal (read_sheet s)

-- ---- what writing leaves
-- how many bytes, of an accepted call and of a refused one
module _ (j : Job) (out : List ℕ) where
  bytes_accepted : (write j out).refusal ≡ 0 → (write j out).bytes ≡ length (sheet_of j)
  unfolding write
  bytes_accepted e = accepted_is (write_refusal j out) (length (sheet_of j)) 0 e

  bytes_refused : ((write j out).refusal ≡ 0 → ⊥) → (write j out).bytes ≡ 0
  unfolding write
  bytes_refused h = refused_is (write_refusal j out) (length (sheet_of j)) 0 h

  has_room : (write j out).refusal ≡ 0 → length (sheet_of j) ≤ length out
  unfolding write write_refusal
  has_room e = le_of (length (sheet_of j)) (length out) (passed_all (check space (leb (length (sheet_of j)) (length out))) (each_passed (own j []) (check space (leb (length (sheet_of j)) (length out))) e).1).0

pub write_fits : WriteFits
write_fits j out = go (write j out).refusal refl
  where
    go : (n : ℕ) → (write j out).refusal ≡ n → (write j out).bytes ≤ length out
    go zero e = omega (arith, bytes_accepted j out e, has_room j out e)
    go (suc n) e = omega (arith, bytes_refused j out (λ h. omega (arith, h, e)))

nothing_read : (read []).refusal ≡ 1
unfolding read read_answer read_sheet layout job_form read_all read_lines read_line read_form byte
nothing_read = refl

pub unwritten_unread : UnwrittenUnread
unwritten_unread j out h = ap (λ (n : ℕ). (read (take n (write_leaves j out))).refusal) (bytes_refused j out h) ∙ nothing_read

pub read_write : ReadWrite
read_write s out h e = subst (Kept s) (sym (trips.written_sheet (read s).job out e)) (sheet_kept s h)
