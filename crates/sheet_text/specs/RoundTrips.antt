-- The promises on the sheet: a legal job's sheet reads back as that job (`job_kept`), an accepted sheet keeps its bytes when read and
-- written, but for a line that states the default grain (`sheet_kept`), and what was written reads back (`write_read`). Assumes nothing.
use Rattle.std.specs.Prelude.{◌≡◌, refl, Bool, true, false, ◌⊎◌, List, [], ◌∷◌, ◌++◌, ℕ, zero, suc, ◌+◌, ◌*◌, ◌-◌, ◌≤◌, leb, ℤ, pos, length, get_or, set, take, drop, replicate}
use Rattle.std.proofs.Common.{sym, ap₂, ◌∙◌, inl, inr, append_assoc, take_at}
use Rattle.std.proofs.Math.Path.{ap, subst}
use native.Mathlib.Omega.{arith}
use Rattle.std.proofs.Math.Dec.{lit<}
use Rattle.std.proofs.lemmas.List.{set-get_or}
use Rattle.sequences.specs.Tables.{table}
use Rattle.model.specs.declared.Job.{Job}
use Rattle.model.specs.Answers.{Read}
use Rattle.model.specs.Bytes.{Got, got, bytes, digit}
use Rattle.model.specs.Numbers.{text, decimal, number}
use Rattle.model.specs.Forms.{write_form}
use Rattle.model.specs.Layouts.{section, Lines, plain, write_lines, write_all}
use Rattle.model.specs.Refusals.{check, space, accepted}
use Rattle.model.specs.Jobs.{own, judge, zero_job}
use Rattle.model.specs.Sheets.{job_form, plate_form, cell_form, reach_form, grain_form, edge_form, line_form, end_form, longest, tail_layout, layout, job_at, plate_at, cell_at, reach_at, grain_at, edges_at, end_at, default_grain, stated, edge_lines, lines_of, sheet_of, joined, fit, marks_of, places_of, number_at, job_of, Sheet, lines, broken, read_sheet}
use Rattle.model.specs.Entries.{read_answer, read, write_refusal, write, write_leaves}
use Rattle.ranges.specs.Refusals.{each_passed, accepted_is}
use Rattle.ranges.specs.Legal.{Legal, legal}
use Rattle.model.specs.Promises.{JobKept, SheetKept, WriteRead, Whole, default_line, Lacks, Kept, read_as}
use Rattle.sheet_text.specs.Numbers.{Small, number_text}
use Rattle.sheet_text.specs.Forms.{marks, AllSmall, nil_small, cons_small}
use Rattle.sheet_text.specs.Layouts.{AllLines, FitsSection, FitsAll, fits_long, fits_at, around, one_fits}
use Rattle.sheet_text.specs.Letters.{tally, ends_in, tally_append, tally_least, after, after_front, form_tally, lacked, lacked_by, lacked_but, others_lack}
use Rattle.sheet_text.specs.Sheets.{sheet_text_is, text_sheet}
use Rattle.sheet_text.specs.Optional.{Stated, stated_cases, stated_out, stated_back, stated_fits, none_or_one}
use Rattle.sheet_text.specs.Jobs.{head_small, edges_small, placed_past, marked_past}
use Rattle.sheet_text.specs.Places.{edge_forms, edges_count, edges_fit, edges_places, edges_marks, edges_back, places_long, marks_long, fit_is, fit_kept, spread, line_back}
use Rattle.sheet_text.specs.Code.{one_line, sheet_long}

-- ---- the numbers of each form
plate_marks : marks plate_form ≡ 3
unfolding marks plate_form
plate_marks = refl

cell_marks : marks cell_form ≡ 1
unfolding marks cell_form
cell_marks = refl

reach_marks : marks reach_form ≡ 1
unfolding marks reach_form
reach_marks = refl

grain_marks : marks grain_form ≡ 1
unfolding marks grain_form
grain_marks = refl

job_marks : marks job_form ≡ 0
unfolding marks job_form
job_marks = refl

end_marks : marks end_form ≡ 0
unfolding marks end_form
end_marks = refl

-- ---- a legal job's lines fit the layout, and are that job's
one_small : (v : ℤ) → Small v → AllSmall (v ∷ [])
one_small v s = cons_small v [] s nil_small

legal_fits : (j : Job) → Legal j → 8 * j.count ≤ length j.places → FitsAll layout (lines_of j)
unfolding layout tail_layout
legal_fits j l h = let s = head_small j l in (
  one_fits job_form [] job_marks nil_small,
  (
    one_fits plate_form (j.x ∷ j.y ∷ j.n ∷ []) plate_marks (cons_small j.x _ s.x_small (cons_small j.y _ s.y_small (one_small j.n s.n_small))),
    (
      one_fits cell_form (j.m ∷ []) cell_marks (one_small j.m s.m_small),
      (
        one_fits reach_form (j.reach ∷ []) reach_marks (one_small j.reach s.reach_small),
        (
          stated_fits grain_form grain_marks default_grain j.grain s.grain_small,
          (edges_section j l h, (one_fits end_form [] end_marks nil_small, tt)),
        ),
      ),
    ),
  ),
)
  where
    edges_section : (j : Job) → Legal j → 8 * j.count ≤ length j.places → FitsSection (section edge_forms 0 longest) (edge_lines j.count j.marks j.places)
    edges_section j l h = (
      omega arith,
      omega (arith, edges_count j.count j.marks j.places, l.few),
      edges_fit j.count j.marks j.places (edges_small j l) h,
    )

job_back : (j : Job) → Whole j → Legal j → job_of (lines_of j) ≡ j
unfolding joined
job_back j w l =
    λ i. record {
      x = j.x;
      y = j.y;
      n = j.n;
      m = j.m;
      reach = j.reach;
      grain = stated_back default_grain j.grain i;
      count = edges_count j.count j.marks j.places i;
      places = places_back i;
      marks = marks_back i;
    }
  where
    places_back : fit 512 (places_of (edge_lines j.count j.marks j.places)) ≡ j.places
    places_back =
        ap (fit 512) (edges_places j.count j.marks j.places l.in_range.marks_in (omega (arith, w.1, l.few)) (omega (arith, w.0, l.few)))
        ∙ fit_kept 512 (8 * j.count) j.places w.0 (placed_past (8 * j.count) j.places l.in_range.places_in)

    marks_back : fit 64 (marks_of (edge_lines j.count j.marks j.places)) ≡ j.marks
    marks_back =
        ap (fit 64) (edges_marks j.count j.marks j.places l.in_range.marks_in (omega (arith, w.1, l.few)) (omega (arith, w.0, l.few)))
        ∙ fit_kept 64 j.count j.marks w.1 (marked_past j.count j.marks j.places l.in_range.marks_in)

abbrev answer_of : Job → Read
answer_of j = record { refusal = judge j; job = accepted (judge j) j zero_job }

accepted_answer : (j : Job) (k : ℕ) → k ≡ 0 → record { refusal = k; job = accepted k j zero_job } ≡ read_as j
unfolding accepted
accepted_answer j zero h = refl
accepted_answer j (suc k) h = absurd (omega arith)

pub job_kept : JobKept
unfolding read read_answer
job_kept j w h =
    let l = legal j h in
    let m : 8 * j.count ≤ length j.places = omega (arith, w.0, l.few) in
    ap read_answer (kept_sheet j l m)
    ∙ ap answer_of (job_back j w l)
    ∙ accepted_answer j (judge j) h
  where
    kept_sheet : (j : Job) → Legal j → 8 * j.count ≤ length j.places → read_sheet (sheet_of j) ≡ lines (lines_of j)
    kept_sheet j l m = let s = sheet_long j m l.few in unfold sheet_of in sheet_text_is (lines_of j) (legal_fits j l m) (omega arith)

-- ---- an accepted sheet, read and written
edges_again : (es : Lines) → AllLines edge_forms es → length es ≤ 64 → edge_lines (length es) (fit 64 (marks_of es)) (fit 512 (places_of es)) ≡ es
edges_again es f l =
    ap₂ (edge_lines (length es)) (fit_is 64 (marks_of es) (omega (arith, marks_long es))) (fit_is 512 (places_of es) (omega (arith, places_long es)))
    ∙ edges_back es (replicate (64 - length (marks_of es)) (pos 0)) (replicate (512 - length (places_of es)) (pos 0)) f

-- the lines of the job that was read are the sheet's, but for the grain's
lines_again : (gs : List Lines) → FitsAll layout gs → length (get_or gs edges_at []) ≤ 64 → lines_of (job_of gs) ≡ set gs grain_at (stated default_grain (number_at gs grain_at 0 default_grain))
unfolding layout tail_layout table
lines_again gs f l =
    ap₂ ◌∷◌ (line_back job_form 0 (get_or gs job_at []) job_marks (fits_at layout gs job_at f (omega arith)))
    (ap₂ ◌∷◌ (line_back plate_form 3 (get_or gs plate_at []) plate_marks (fits_at layout gs plate_at f (omega arith)))
    (ap₂ ◌∷◌ (line_back cell_form 1 (get_or gs cell_at []) cell_marks (fits_at layout gs cell_at f (omega arith)))
    (ap₂ ◌∷◌ (line_back reach_form 1 (get_or gs reach_at []) reach_marks (fits_at layout gs reach_at f (omega arith)))
    (ap (λ u. stated default_grain (number_at gs grain_at 0 default_grain) ∷ u)
    (ap₂ ◌∷◌ (edges_again (get_or gs edges_at []) (fits_at layout gs edges_at f (omega arith)).2 l)
    (ap (λ u. u ∷ []) (line_back end_form 0 (get_or gs end_at []) end_marks (fits_at layout gs end_at f (omega arith)))))))))
    ∙ ap (λ u. set u grain_at (stated default_grain (number_at gs grain_at 0 default_grain))) (spread 7 gs [] (fits_long layout gs f))

grain_ten : write_form grain_form (default_grain ∷ []) ≡ default_line
unfolding write_form grain_form text decimal
grain_ten = refl

-- ---- where a grain line stands: its g and r are the only ones side by side in a sheet
abbrev g : ℕ
g = 103

abbrev r : ℕ
r = 114

abbrev grs : List ℕ → ℕ
grs s = tally g r false s

grain_alone : lacked_but g r grain_at layout ≡ true
unfolding lacked_but lacked_by lacked tally ends_in layout tail_layout job_form plate_form cell_form reach_form edge_form line_form end_form
grain_alone = refl

-- whatever stands before it
grain_tally : (t : Bool) (v : ℤ) (back : List ℕ) → tally g r t (write_form grain_form (v ∷ []) ++ back) ≡ suc (grs back)
grain_tally t v back = form_tally g r (lit< tt) (lit< tt) grain_form (v ∷ []) t back ∙ here
  where
    here : tally g r t (grain_form ++ back) ≡ suc (grs back)
    here = unfold tally grain_form in omega arith

line_tally : (u : List ℕ) (v : ℤ) (w : List ℕ) → grs (u ++ (write_form grain_form (v ∷ []) ++ w)) ≡ grs u + suc (grs w)
line_tally u v w = tally_append g r false u (write_form grain_form (v ∷ []) ++ w) ∙ ap (λ k. grs u + k) (grain_tally (ends_in g false u) v w)

-- the number behind it is the grain
grain_found : (v : ℤ) (front back : List ℕ) → Small v → grs front ≡ 0 → number (drop 4 (after g r false (front ++ (write_form grain_form (v ∷ []) ++ back)))) ≡ got v (41 ∷ 10 ∷ back)
unfolding write_form grain_form after
grain_found v front back s h =
    ap (λ u. number (drop 4 u)) (after_front g r false front (bytes "(grain " ++ ((text v ++ (41 ∷ 10 ∷ [])) ++ back)) h)
    ∙ ap number (append_assoc (text v) (41 ∷ 10 ∷ []) back)
    ∙ number_text v 41 (10 ∷ back) s (unfold digit in refl)

-- a text that has the two nowhere else holds the default line only as its grain line
module _ (front back : List ℕ) (n : grs (front ++ back) ≡ 0) where
  front_none : grs front ≡ 0
  front_none = omega (arith, n, tally_append g r false front back)

  back_none : grs back ≡ 0
  back_none = omega (arith, n, tally_append g r false front back, tally_least g r (ends_in g false front) back)

  no_line : Lacks (front ++ back) default_line
  no_line u w e = absurd (omega (arith, n, ap grs (e ∙ ap (λ t. u ++ (t ++ w)) (sym grain_ten)), line_tally u default_grain w))

  other_line : (v : ℤ) → Small v → (v ≡ default_grain → ⊥) → Lacks (front ++ (write_form grain_form (v ∷ []) ++ back)) default_line
  other_line v s h u w e = h (same_number (sym (grain_found v front back s front_none) ∙ ap (λ t. number (drop 4 (after g r false t))) there ∙ grain_found default_grain u w ten_small before))
    where
      there : front ++ (write_form grain_form (v ∷ []) ++ back) ≡ u ++ (write_form grain_form (default_grain ∷ []) ++ w)
      there = e ∙ ap (λ t. u ++ (t ++ w)) (sym grain_ten)

      before : grs u ≡ 0
      before = omega (arith, ap grs there, line_tally front v back, line_tally u default_grain w, front_none, back_none)

      ten_small : Small default_grain
      ten_small = unfold Small in lit< tt

      same_number : {s t : List ℕ} → ◌≡◌ {A = Got ℤ} (got v s) (got default_grain t) → v ≡ default_grain
      same_number e = cc

  -- the sheet with these lines in its grain section, and the sheet of the job that is read from it
  abbrev Again : Lines → Type 0
  Again g = Kept (front ++ (write_lines (grain_form ∷ []) g ++ back)) (front ++ (write_lines (grain_form ∷ []) (stated default_grain (get_or (joined g) 0 default_grain)) ++ back))

  again : (g : Lines) → (g ≡ []) ⊎ ((v : ℤ) × Small v × (g ≡ plain (v ∷ []) ∷ [])) → Again g
  unfolding joined write_lines
  again g (inl e) = subst Again (sym e) (inl (ap (λ u. front ++ (write_lines (grain_form ∷ []) u ++ back)) (stated_out default_grain default_grain refl), no_line))
  again g (inr (v, s, e)) = subst Again (sym e) (said (stated_cases default_grain v))
    where
      line : front ++ (write_lines (grain_form ∷ []) (plain (v ∷ []) ∷ []) ++ back) ≡ front ++ (write_form grain_form (v ∷ []) ++ back)
      line = ap (λ u. front ++ (u ++ back)) (one_line grain_form (v ∷ []))

      said : Stated default_grain v → Again (plain (v ∷ []) ∷ [])
      said (inl h) =
          inr (front, back, line ∙ ap (λ u. front ++ (u ++ back)) (ap (λ u. write_form grain_form (u ∷ [])) h.0 ∙ grain_ten), ap (λ u. front ++ (write_lines (grain_form ∷ []) u ++ back)) h.1)
      said (inr h) =
          inl (ap (λ u. front ++ (write_lines (grain_form ∷ []) u ++ back)) h.1, subst (λ u. Lacks u default_line) (sym line) (other_line v s h.0))

kept_lines : (s : List ℕ) (gs : List Lines) → s ≡ write_all layout gs → FitsAll layout gs → length (get_or gs edges_at []) ≤ 64 → Kept s (sheet_of (job_of gs))
unfolding sheet_of layout tail_layout write_lines
kept_lines s gs q f l =
    let o = around layout gs grain_at (omega arith) (omega (arith, fits_long layout gs f)) in
    let z : grs (o.0 ++ o.1) ≡ 0 = sym (ap grs (o.2 [])) ∙ others_lack g r (lit< tt) (lit< tt) grain_at layout gs grain_alone in
    let p : s ≡ o.0 ++ (write_lines (grain_form ∷ []) (get_or gs grain_at []) ++ o.1) = q ∙ ap (write_all layout) (sym (set-get_or gs grain_at [])) ∙ o.2 (get_or gs grain_at []) in
    let t = ap (write_all layout) (lines_again gs f l) ∙ o.2 (stated default_grain (number_at gs grain_at 0 default_grain)) in
    let k = again o.0 o.1 z (get_or gs grain_at []) (none_or_one grain_form grain_marks (get_or gs grain_at []) (fits_at layout gs grain_at f (omega arith))) in
    subst (λ u. Kept u (write_all layout (lines_of (job_of gs)))) (sym p) (subst (Kept (o.0 ++ (write_lines (grain_form ∷ []) (get_or gs grain_at []) ++ o.1))) (sym t) k)

pub sheet_kept : SheetKept
unfolding read read_answer
sheet_kept s h = go (read_sheet s) refl h
  where
    go : (r : Sheet) → read_sheet s ≡ r → (read_answer r).refusal ≡ 0 → Kept s (sheet_of (read_answer r).job)
    go broken e h = absurd (omega (arith, h))
    go (lines gs) e h =
        let w = text_sheet s gs e in
        subst (λ j. Kept s (sheet_of j)) (sym (accepted_is (judge (job_of gs)) (job_of gs) zero_job h)) (kept_lines s gs w.text w.fits (legal (job_of gs) h).few)

-- ---- what an accepted write leaves
-- a write passes the checks on the job, and then has room
pub write_legal : (j : Job) (out : List ℕ) → write_refusal j out ≡ 0 → judge j ≡ 0
unfolding write_refusal judge
write_legal j out h = (each_passed (own j []) (check space (leb (length (sheet_of j)) (length out))) h).0

-- the bytes that it says it wrote are the job's sheet
pub written_sheet : (j : Job) (out : List ℕ) → (write j out).refusal ≡ 0 → take (write j out).bytes (write_leaves j out) ≡ sheet_of j
unfolding write write_leaves
written_sheet j out h =
    ap₂ take (accepted_is (write_refusal j out) (length (sheet_of j)) 0 h) (accepted_is (write_refusal j out) (sheet_of j ++ drop (length (sheet_of j)) out) out h)
    ∙ take_at (sheet_of j) (drop (length (sheet_of j)) out) (length (sheet_of j)) refl

pub write_read : WriteRead
unfolding write
write_read j out n h = ap read (written_sheet j out h) ∙ job_kept j n (write_legal j out h)
