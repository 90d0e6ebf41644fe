-- The longest sheet of a job that is not refused has 5,645 bytes, so that as many are always enough. Assumes nothing.
use Rattle.std.specs.Prelude.{◌≡◌, refl, [], ◌∷◌, ℕ, suc, ◌+◌, ◌*◌, ◌^◌, ◌≤◌, ◌<◌, leb, ℤ, pos, negsuc, length, replicate}
use native.Mathlib.Omega.{arith}
use Rattle.std.proofs.Common.{leb-false, lit<}
use Rattle.std.proofs.Math.ListN.{length-append}
use Rattle.model.specs.declared.Job.{Job}
use Rattle.model.specs.Refusals.{space}
use Rattle.model.specs.Jobs.{between, coordinate, is_zero, placed, kind, marked, counted, ranged, celled, own, judge}
use Rattle.model.specs.Numbers.{decimal, text}
use Rattle.model.specs.Forms.{write_form}
use Rattle.model.specs.Layouts.{write_line, write_lines, write_all}
use Rattle.model.specs.Sheets.{job_form, plate_form, cell_form, reach_form, grain_form, edge_form, end_form, tail_layout, layout, same, default_grain, stated, edge_lines, sheet_of}
use Rattle.model.specs.Entries.{write_refusal}
use Rattle.model.specs.Promises.{SheetRoom, SheetFills}
use Rattle.ranges.specs.Refusals.{tells}
use Rattle.ranges.specs.Legal.{Between, natural, legal}
use Rattle.sheet_text.specs.Numbers.{text_short, text_long}
use Rattle.sheet_text.specs.Optional.{stated_within}
use Rattle.sheet_text.specs.Code.{head_of, head_text, code_text, sheet_as_code, edges_long, end_long}

-- the most bytes that the sheet of a legal job takes
abbrev pub room : ℕ
room = 5645

-- ---- a number's text by its range
range_short : (g lo hi : ℕ) (z : ℤ) → g ≤ 6 → hi < 10 ^ suc g → Between (pos lo) (pos hi) z → length (text z) ≤ suc g
range_short g lo hi (pos n) h l e = text_short g n h (omega (arith, (natural (pos n) e).most))
range_short g lo hi (negsuc n) h l e = absurd e.from.le

-- ---- a line by its numbers' texts
plate_long : (a b c d e : ℤ) → length (write_form plate_form (a ∷ b ∷ c ∷ d ∷ e ∷ [])) ≤ 27 + length (text c)
unfolding write_form plate_form
plate_long a b c d e = simp length-append (omega (arith, text_long a, text_long b))

cell_long : (a b : ℤ) → length (write_form cell_form (a ∷ b ∷ [])) ≤ 8 + length (text a)
unfolding write_form cell_form
cell_long a b = simp length-append (omega arith)

reach_long : (a : ℤ) → length (write_form reach_form (a ∷ [])) ≤ 9 + length (text a)
unfolding write_form reach_form
reach_long a = simp length-append (omega arith)

grain_line : (a : ℤ) → length (write_form grain_form (a ∷ [])) ≤ 9 + length (text a)
unfolding write_form grain_form
grain_line a = simp length-append (omega arith)

-- ---- a legal job's
module _ (j : Job) (ok : judge j ≡ 0) where
  pub head_most : length (head_text (head_of j)) ≤ 60
  unfolding head_text write_form job_form
  head_most =
      let r = (legal j ok).in_range in
      simp length-append (omega (
        arith,
        plate_long j.x j.y j.n j.m j.reach,
        cell_long j.m j.reach,
        reach_long j.reach,
        range_short 1 0 20 j.n (lit< tt) (lit< tt) r.n_in,
        range_short 1 0 20 j.m (lit< tt) (lit< tt) r.m_in,
        range_short 6 1 1000000 j.reach (omega arith) (lit< tt) r.reach_in,
      ))

  pub grain_most : length (write_lines (grain_form ∷ []) (stated default_grain j.grain)) ≤ 15
  grain_most = stated_within grain_form default_grain j.grain 15 (omega (arith, grain_line j.grain, range_short 5 1 100000 j.grain (omega arith) (lit< tt) (legal j ok).in_range.grain_in))

  pub sheet_most : 8 * j.count ≤ length j.places → length (sheet_of j) ≤ room
  sheet_most h = rw (sheet_as_code j h) (unfold code_text in simp length-append (omega (arith, head_most, grain_most, edges_long j.count j.marks j.places, end_long, (legal j ok).few)))

pub sheet_room : SheetRoom
unfolding write_refusal judge
sheet_room j out w h e =
    let t = tells 6 (own j []) space (leb (length (sheet_of j)) (length out)) [] refl e in
    let l = leb-false (length (sheet_of j)) (length out) t.1 in
    let m = sheet_most j t.0 (omega (arith, w.0, (legal j t.0).few)) in
    absurd (omega arith)

-- ---- each number of it as long as its range allows
abbrev longest : Job
longest = record { x = negsuc 999999; y = negsuc 999999; n = pos 20; m = pos 12; reach = pos 1000000; grain = pos 100000; count = 64; places = replicate 512 (negsuc 999999); marks = replicate 64 (pos 0) }

pub sheet_fills : SheetFills
unfolding judge counted ranged coordinate between placed is_zero kind marked celled sheet_of layout tail_layout job_form plate_form cell_form reach_form grain_form edge_form end_form write_all write_lines write_line write_form text decimal stated same edge_lines
sheet_fills = (longest, (refl, refl), refl, refl)
