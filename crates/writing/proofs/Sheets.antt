-- The needs of `put_sheet` and of `write`. Assumes nothing.
use Rattle.std.proofs.Common.{◌≡◌, refl, sym, ap, ap₂, ◌∙◌, subst, List, [], ◌∷◌, ◌++◌, ℕ, zero, suc, ◌+◌, ◌*◌, ◌≤◌, ◌<◌, arith, w32, length, take, drop, length-take}
use Rattle.std.specs.Prelude.{ℤ, leb}
use Rattle.std.proofs.lemmas.Int.{to_z-of_z}
use lib.ListN.{take-append-drop}
use borrow.Author.Tests.{le-leb, lt-leb}
use Rattle.model.specs.declared.Job.{Job}
use Rattle.model.specs.Refusals.{Checks, check, space, accepted}
use Rattle.model.specs.Jobs.{own, judge}
use Rattle.model.specs.Forms.{write_form}
use Rattle.model.specs.Layouts.{write_lines}
use Rattle.model.specs.Sheets.{grain_form, end_form, default_grain, stated, sheet_of}
use Rattle.model.specs.Entries.{write_refusal, write, write_leaves}
use Rattle.sheet_text.specs.Numbers.{Small}
use Rattle.sheet_text.specs.Forms.{AllSmall}
use Rattle.ranges.specs.Refusals.{refused_is, when_refused, when_passed, first_fails}
use Rattle.ranges.specs.Legal.{legal}
use Rattle.sheet_text.specs.Jobs.{head_small, edges_small}
use Rattle.sheet_text.specs.Code.{head_of, head_text, form_by, edges_text, code_text, sheet_as_code}
use Rattle.sheet_text.specs.Longest.{room, head_most, grain_most}
use Rattle.formatting.specs.Puts.{Put}
use Rattle.formatting.specs.Texts.{put_then, small_fits, small_again}
use Rattle.writing.proofs.Lines.{held}

-- ---- put_sheet, of a legal job
-- the lines of c edges take c marks
front_edges : (c : ℕ) (ms vs : List ℤ) → edges_text c (take c ms) vs ≡ edges_text c ms vs
unfolding edges_text
front_edges zero ms vs = refl
front_edges (suc c) [] vs = refl
front_edges (suc c) (m ∷ ms) vs = ap (λ u. write_form (form_by m) vs ++ u) (front_edges c ms (drop 8 vs))

module _ (j : Job) (ok : judge j ≡ 0) where
  pub few : j.count ≤ 64
  few = (legal j ok).few

  pub grain_ready : Small (held j.grain)
  grain_ready = small_again j.grain (head_small j (legal j ok)).grain_small

  pub places_ready : AllSmall j.places
  places_ready = edges_small j (legal j ok)

  grain_back : held j.grain ≡ j.grain
  grain_back = to_z-of_z w32 j.grain (small_fits j.grain (head_small j (legal j ok)).grain_small)

  marks_taken : length j.marks ≡ 64 → length (take j.count j.marks) ≡ j.count
  marks_taken h = omega (arith, few, length-take j.count j.marks)

  -- the optional line as it is written; where that and the head end at the latest, and the room that is left after them and after the edges
  abbrev pub optional_text : List ℕ
  optional_text = write_lines (grain_form ∷ []) (stated default_grain (held j.grain))

  module _ (a b c : List ℕ) (i k : ℕ) (p : Put a b 0 i (head_text (head_of j))) (q : Put b c i k optional_text) where
    lines_by : k ≤ 75
    lines_by =
        let h : length (head_text (head_of j)) ≤ 60 = head_most j ok in
        let g : length optional_text ≤ 15 = rw grain_back (grain_most j ok) in
        omega (arith, p.next_is, q.next_is)

    module _ (marks : length j.marks ≡ 64) where
      pub edges_space : room ≤ length c → k + 87 * length (take j.count j.marks) ≤ length c
      edges_space h = omega (arith, lines_by, few, marks_taken marks)

      module _ (m : ℕ) (hm : m ≤ k + 87 * length (take j.count j.marks)) where
        pub end_by : m + 2 ≤ room
        end_by = omega (arith, lines_by, few, marks_taken marks)

        pub sheet_put : (d f : List ℕ) (n : ℕ) → Put c d k m (edges_text (length (take j.count j.marks)) (take j.count j.marks) j.places) → Put d f m n (write_form end_form []) → length j.places ≡ 512 → Put a f 0 n (sheet_of j)
        unfolding code_text
        sheet_put d f n r s x =
            subst (Put a f 0 n)
            (ap₂ (λ y z. head_text (head_of j) ++ (write_lines (grain_form ∷ []) (stated default_grain y) ++ (z ++ write_form end_form []))) grain_back
            (ap (λ u. edges_text u (take j.count j.marks) j.places) (marks_taken marks) ∙ front_edges j.count j.marks j.places)
            ∙ sym (sheet_as_code j (omega (arith, few, x))))
            (put_then a b f 0 i n (head_text (head_of j)) _ p (put_then b c f i k n optional_text _ q (put_then c d f k m n _ (write_form end_form []) r s)))

-- ---- write
module _ (j : Job) (out : List ℕ) where
  abbrev space_check : Checks
  space_check = check space (leb (length (sheet_of j)) (length out))

  -- what is refused of the job by itself is refused of the write
  module _ (k : judge j ≡ 0 → ⊥) where
    refuse : write_refusal j out ≡ judge j
    unfolding judge write_refusal
    refuse = when_refused (own j []) space_check k

    pub refused : write j out ≡ record { refusal = judge j; bytes = 0 }
    unfolding write
    refused = rw (refuse, refused_is (judge j) (length (sheet_of j)) 0 k) refl

    pub refused_left : write_leaves j out ≡ out
    unfolding write_leaves
    refused_left = rw (refuse, refused_is (judge j) (sheet_of j ++ drop (length (sheet_of j)) out) out k) refl

  module _ (ok : judge j ≡ 0) where
    module _ (h : length out < length (sheet_of j)) where
      no_room : write_refusal j out ≡ 7
      unfolding write_refusal judge
      no_room = first_fails (own j []) space _ [] ok (lt-leb (length (sheet_of j)) (length out) h)

      pub no_space : write j out ≡ record { refusal = 7; bytes = 0 }
      unfolding write accepted
      no_space = rw no_room refl

      pub no_space_left : write_leaves j out ≡ out
      unfolding write_leaves accepted
      no_space_left = rw no_room refl

    module _ (h : length (sheet_of j) ≤ length out) where
      has_room : write_refusal j out ≡ 0
      unfolding write_refusal judge
      has_room = when_passed (own j []) space_check ok ∙ rw (le-leb (length (sheet_of j)) (length out) h)

      pub done : write j out ≡ record { refusal = 0; bytes = length (sheet_of j) }
      unfolding write accepted
      done = rw has_room refl

      -- the sheet stands at the front of what was made aside
      pub done_left : (before text after : List ℕ) (n r : ℕ) → Put before text 0 n (sheet_of j) → Put out after 0 r (take n text) → after ≡ write_leaves j out
      unfolding write_leaves accepted
      done_left before text after n r p q =
          sym (take-append-drop r after)
          ∙ ap₂ ◌++◌ (q.wrote ∙ p.wrote) (q.rest ∙ ap (λ u. drop u out) (let y : r ≡ length (sheet_of j) = omega (arith, q.next_is, ap length p.wrote) in y))
          ∙ sym (rw has_room refl)

-- what `write` answers and leaves
pub ruleset answers = (refused, refused_left, no_space, no_space_left, done)
