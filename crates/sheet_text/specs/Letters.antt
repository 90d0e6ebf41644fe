-- How often two letters stand side by side in a text. A number has neither, so a line has the two as often as its form does; two that only one
-- section's form has, and only once, tell where that section's line stands. Assumes nothing.
use Rattle.std.specs.Prelude.{◌≡◌, Bool, ◌&&◌, ℤ, pos, negsuc, get_or, set, drop}
use Rattle.std.proofs.Math.Path.{refl, sym, ap, ap₂}
use Rattle.std.proofs.Common.{◌∙◌}
use Rattle.std.proofs.Math.Bool.{true, false, not, cond}
use mathlib.Core.List.{List, [], ◌∷◌, ◌++◌, append_assoc}
use Prim.Native.Nat.{ℕ, zero, suc, ◌+◌, ◌/◌, ◌%◌, ◌≤◌, ◌<◌}
use native.Mathlib.Omega.{arith}
use Rattle.std.proofs.Math.Dec.{eqb}
use borrow.Author.Tests.{eqb-true, ne_eqb}
use Rattle.model.specs.Numbers.{decimal, text}
use Rattle.model.specs.Forms.{write_form}
use Rattle.model.specs.Layouts.{Section, section, Lines, write_line, write_lines, write_all}
use Rattle.integers.specs.Tests.{both, negated}
use Rattle.sheet_text.specs.Numbers.{cases_ten, decimal_one, decimal_more}
use Rattle.sheet_text.specs.Forms.{put}

-- how often the byte c stands right after the byte b in a text; t says whether b stands right before the text
unfoldable pub tally : ℕ → ℕ → Bool → List ℕ → ℕ
tally b c t [] = 0
tally b c t (x ∷ s) = cond (eqb x c) (cond t 1 0) 0 + tally b c (eqb x b) s

-- whether a text ends in b, or t where it is empty: what t is to the text that follows it
unfoldable pub ends_in : ℕ → Bool → List ℕ → Bool
ends_in b t [] = t
ends_in b t (x ∷ s) = ends_in b (eqb x b) s

pub tally_append : (b c : ℕ) (t : Bool) (u s : List ℕ) → tally b c t (u ++ s) ≡ tally b c t u + tally b c (ends_in b t u) s
unfolding tally ends_in
tally_append b c t [] s = omega arith
tally_append b c t (x ∷ u) s = omega (arith, tally_append b c (eqb x b) u s)

pub tally_least : (b c : ℕ) (t : Bool) (s : List ℕ) → tally b c false s ≤ tally b c t s
unfolding tally
tally_least b c t [] = omega arith
tally_least b c t (x ∷ s) = omega (arith, go (eqb x c) t)
  where
    go : (y t : Bool) → cond y 0 0 ≤ cond y (cond t 1 0) 0
    go true true = omega arith
    go true false = omega arith
    go false t = omega arith

-- what follows the first c that stands right after b
unfoldable pub after : ℕ → ℕ → Bool → List ℕ → List ℕ
after b c t [] = []
after b c t (x ∷ s) = cond (eqb x c) (cond t s (after b c (eqb x b) s)) (after b c (eqb x b) s)

pub after_front : (b c : ℕ) (t : Bool) (front rest : List ℕ) → tally b c t front ≡ 0 → after b c t (front ++ rest) ≡ after b c (ends_in b t front) rest
unfolding after tally ends_in
after_front b c t [] rest e = refl
after_front b c t (x ∷ s) rest e = go (s ++ rest) (eqb x c) t e (after_front b c (eqb x b) s rest)
  where
    go : {u v : List ℕ} (w : List ℕ) (y t : Bool) → cond y (cond t 1 0) 0 + tally b c (eqb x b) s ≡ 0 → (tally b c (eqb x b) s ≡ 0 → u ≡ v) → cond y (cond t w u) u ≡ v
    go w true true e ih = absurd (omega arith)
    go w true false e ih = ih (omega (arith, e))
    go w false t e ih = ih (omega (arith, e))

-- ---- letters come after the digits and the minus
module _ (b c : ℕ) (first : 57 < b) (second : 57 < c) where
  other : (t : Bool) (x : ℕ) (s : List ℕ) → x ≤ 57 → tally b c t (x ∷ s) ≡ tally b c false s
  unfolding tally
  other t x s h =
      ap₂ (λ y z. cond y (cond t 1 0) 0 + tally b c z s) (ne_eqb x c (λ e. omega arith)) (ne_eqb x b (λ e. omega arith)) ∙ omega arith

  decimal_none : (k n : ℕ) (t : Bool) (s : List ℕ) → tally b c t (decimal (suc k) n ++ s) ≡ tally b c false s
  decimal_none zero n t s = unfold decimal in cases_ten n
      (λ h. ap (λ u. tally b c t (u ++ s)) (decimal_one 0 n h) ∙ other t (48 + n) s (omega arith))
      (λ h. ap (λ u. tally b c t (u ++ s)) (decimal_more 0 n h) ∙ other t (48 + n % 10) s (omega arith))
  decimal_none (suc k) n t s = cases_ten n
      (λ h. ap (λ u. tally b c t (u ++ s)) (decimal_one (suc k) n h) ∙ other t (48 + n) s (omega arith))
      (λ h. ap (λ u. tally b c t (u ++ s)) (decimal_more (suc k) n h) ∙ ap (tally b c t) (append_assoc (decimal (suc k) (n / 10)) ((48 + n % 10) ∷ []) s) ∙ decimal_none k (n / 10) t ((48 + n % 10) ∷ s) ∙ other false (48 + n % 10) s (omega arith))

  text_none : (z : ℤ) (t : Bool) (s : List ℕ) → tally b c t (text z ++ s) ≡ tally b c false s
  unfolding text
  text_none (pos n) t s = decimal_none 6 n t s
  text_none (negsuc n) t s = other t 45 (decimal 7 (suc n) ++ s) (omega arith) ∙ decimal_none 6 (suc n) false s

  -- a line has them as often as its form
  pub form_tally : (F : List ℕ) (vs : List ℤ) (t : Bool) (s : List ℕ) → tally b c t (write_form F vs ++ s) ≡ tally b c t (F ++ s)
  unfolding write_form
  form_tally [] vs t s = refl
  form_tally (f ∷ fs) vs t s = go (eqb f 35) refl (form_tally fs)
    where
      go : (m : Bool) → eqb f 35 ≡ m → ((ws : List ℤ) (t : Bool) (s : List ℕ) → tally b c t (write_form fs ws ++ s) ≡ tally b c t (fs ++ s)) → tally b c t (put m fs f vs ++ s) ≡ tally b c t (f ∷ (fs ++ s))
      go true e ih =
          ap (tally b c t) (append_assoc (text (get_or vs 0 (pos 0))) (write_form fs (drop 1 vs)) s)
          ∙ text_none (get_or vs 0 (pos 0)) t (write_form fs (drop 1 vs) ++ s)
          ∙ ih (drop 1 vs) false s
          ∙ sym (other t f (fs ++ s) (let h = eqb-true f 35 e in omega arith))
      go false e ih = unfold tally in ap (λ u. cond (eqb f c) (cond t 1 0) 0 + u) (ih vs (eqb f b) s)

-- ---- forms that have them nowhere and do not end in the first
unfoldable pub lacked : ℕ → ℕ → List (List ℕ) → Bool
lacked b c [] = true
lacked b c (F ∷ Fs) = (eqb (tally b c false F) 0 && not (ends_in b false F)) && lacked b c Fs

unfoldable pub lacked_by : ℕ → ℕ → List Section → Bool
lacked_by b c [] = true
lacked_by b c (section Fs lo hi ∷ ss) = lacked b c Fs && lacked_by b c ss

-- the sections but the one at place i
unfoldable pub lacked_but : ℕ → ℕ → ℕ → List Section → Bool
lacked_but b c i [] = true
lacked_but b c zero (x ∷ ss) = lacked_by b c ss
lacked_but b c (suc i) (section Fs lo hi ∷ ss) = lacked b c Fs && lacked_but b c i ss

module _ (b c : ℕ) where
  form_lacks : (Fs : List (List ℕ)) (i : ℕ) (s : List ℕ) → lacked b c Fs ≡ true → tally b c false (get_or Fs i [] ++ s) ≡ tally b c false s
  unfolding lacked
  form_lacks [] i s h = refl
  form_lacks (F ∷ Fs) zero s h =
      let p = both (eqb (tally b c false F) 0) (not (ends_in b false F)) (both (eqb (tally b c false F) 0 && not (ends_in b false F)) (lacked b c Fs) h).0 in
      tally_append b c false F s ∙ ap₂ (λ n t. n + tally b c t s) (eqb-true (tally b c false F) 0 p.0) (negated (ends_in b false F) p.1) ∙ omega arith
  form_lacks (F ∷ Fs) (suc i) s h = form_lacks Fs i s (both (eqb (tally b c false F) 0 && not (ends_in b false F)) (lacked b c Fs) h).1

  module _ (first : 57 < b) (second : 57 < c) where
    lines_lack : (Fs : List (List ℕ)) (ls : Lines) (s : List ℕ) → lacked b c Fs ≡ true → tally b c false (write_lines Fs ls ++ s) ≡ tally b c false s
    unfolding write_lines write_line
    lines_lack Fs [] s h = refl
    lines_lack Fs (l ∷ ls) s h =
        ap (tally b c false) (append_assoc (write_form (get_or Fs l.which []) l.numbers) (write_lines Fs ls) s)
        ∙ form_tally b c first second (get_or Fs l.which []) l.numbers false (write_lines Fs ls ++ s)
        ∙ form_lacks Fs l.which (write_lines Fs ls ++ s) h
        ∙ lines_lack Fs ls s h

    sections_lack : (ss : List Section) (gs : List Lines) → lacked_by b c ss ≡ true → tally b c false (write_all ss gs) ≡ 0
    unfolding write_all lacked_by
    sections_lack [] gs h = unfold tally in refl
    sections_lack (section Fs lo hi ∷ ss) [] h = unfold tally in refl
    sections_lack (section Fs lo hi ∷ ss) (ls ∷ gs) h =
        let p = both (lacked b c Fs) (lacked_by b c ss) h in
        lines_lack Fs ls (write_all ss gs) p.0 ∙ sections_lack ss gs p.1

    -- a sheet without the lines of the section that has them
    pub others_lack : (i : ℕ) (ss : List Section) (gs : List Lines) → lacked_but b c i ss ≡ true → tally b c false (write_all ss (set gs i [])) ≡ 0
    unfolding write_all lacked_but
    others_lack i [] gs h = unfold tally in refl
    others_lack zero (section Fs lo hi ∷ ss) [] h = unfold tally in refl
    others_lack zero (section Fs lo hi ∷ ss) (ls ∷ gs) h = unfold write_lines in sections_lack ss gs h
    others_lack (suc i) (section Fs lo hi ∷ ss) [] h = unfold tally in refl
    others_lack (suc i) (section Fs lo hi ∷ ss) (ls ∷ gs) h =
        let p = both (lacked b c Fs) (lacked_but b c i ss) h in
        lines_lack Fs ls (write_all ss (set gs i [])) p.0 ∙ others_lack i ss gs p.1
