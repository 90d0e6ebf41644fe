-- The needs of `form_at`: a turn of its loop is a step of `read_form`. Assumes nothing.
use Rattle.std.proofs.Common.{◌≡◌, refl, ◌∙◌, Bool, true, false, cond, List, [], ◌∷◌, ◌++◌, ℕ, zero, suc, ◌+◌, ◌<◌, ◌≤◌, length, get_or, drop, take, set, arith, FitsSigned, w32, to_z, of_z}
use Rattle.std.proofs.lemmas.Int.{to_z-of_z}
use Rattle.std.proofs.lemmas.List.{take_more_set}
use Rattle.std.specs.Prelude.{Option, Some, None, eqb, ℤ, pos, replicate}
use Rattle.std.specs.List.{slice_get}
use Rattle.std.proofs.Math.ListN.{drop_of_length-le}
use Rattle.std.proofs.Math.Seq.{get_or-set_other}
use Rattle.model.specs.Bytes.{Got, got, none}
use Rattle.model.specs.Numbers.{number}
use Rattle.model.specs.Forms.{byte, read_form}
use Rattle.model.specs.Sheets.{fit}
use Rattle.sheet_text.specs.Forms.{number_then, byte_then, marks}
use Rattle.sheet_text.specs.Places.{fit_kept}

-- ---- a step of the definition, by the form's byte f
abbrev pub stepped : ℕ → List ℕ → List ℤ → List ℕ → Got (List ℤ)
stepped f fs vs s = cond (eqb f 35) (number_then fs vs (number s)) (byte_then fs vs (byte f s))

step : (f : ℕ) (fs : List ℕ) (vs : List ℤ) (s : List ℕ) → read_form (f ∷ fs) vs s ≡ stepped f fs vs s
unfolding read_form
step f fs vs s = go (eqb f 35)
  where
    go : (t : Bool) → elim t [ true ↦ number_then fs vs (number s) | false ↦ byte_then fs vs (byte f s) ] ≡ cond t (number_then fs vs (number s)) (byte_then fs vs (byte f s))
    go true = refl
    go false = refl

pub read_at : (form : List ℕ) (j : ℕ) (vs : List ℤ) (s : List ℕ) → j < length form → read_form (drop j form) vs s ≡ stepped (get_or form j 0) (drop (j + 1) form) vs s
read_at (f ∷ fs) zero vs s h = step f fs vs s
read_at (f ∷ fs) (suc j) vs s h = let e : suc j + 1 ≡ suc (j + 1) = omega arith in rw e (read_at fs j vs s (omega arith))
read_at [] j vs s h = absurd (omega arith)

pub read_end : (form : List ℕ) (j : ℕ) (vs : List ℤ) (s : List ℕ) → length form ≤ j → read_form (drop j form) vs s ≡ got vs s
unfolding read_form
read_end form j vs s h = rw (drop_of_length-le form h)

pub marks_at : (form : List ℕ) (j : ℕ) → j < length form → marks (drop j form) ≡ cond (eqb (get_or form j 0) 35) (marks (drop (j + 1) form) + 1) (marks (drop (j + 1) form))
unfolding marks
marks_at (f ∷ fs) zero h = go (eqb f 35)
  where
    go : (t : Bool) → cond t (suc (marks fs)) (marks fs) ≡ cond t (marks fs + 1) (marks fs)
    go true = omega arith
    go false = refl
marks_at (f ∷ fs) (suc j) h = let e : suc j + 1 ≡ suc (j + 1) = omega arith in rw e (marks_at fs j (omega arith))
marks_at [] j h = absurd (omega arith)

pub marks_end : (form : List ℕ) (j : ℕ) → length form ≤ j → marks (drop j form) ≡ 0
unfolding marks
marks_end form j h = rw (drop_of_length-le form h)

-- the byte f, by the byte that stands there
abbrev pub same_byte : ℕ → Option ℕ → List ℕ → Got ℕ
same_byte f None s = none
same_byte f (Some b) s = cond (eqb b f) (got b s) none

pub byte_by : (f : ℕ) (s : List ℕ) (i : ℕ) → byte f (drop i s) ≡ same_byte f (slice_get s i) (drop (i + 1) s)
unfolding byte
byte_by f [] zero = refl
byte_by f [] (suc i) = refl
byte_by f (b ∷ s) zero = go (eqb b f)
  where
    go : (t : Bool) → elim t [ true ↦ got b s | false ↦ none ] ≡ cond t (got b s) none
    go true = refl
    go false = refl
byte_by f (b ∷ s) (suc i) = let e : suc i + 1 ≡ suc (i + 1) = omega arith in rw e (byte_by f s i)

-- the values with one more
pub values_more : (values : List ℤ) (count : ℕ) (v : ℤ) → FitsSigned w32 v → count < length values → take (count + 1) (set values count (to_z w32 (of_z w32 v))) ≡ take count values ++ v ∷ []
values_more values count v f h = rw (to_z-of_z w32 v f) (take_more_set values count v h)

-- a turn at a # and at another byte
pub mark_read : (form : List ℕ) (j : ℕ) (vs : List ℤ) (s : List ℕ) (v : ℤ) (t : List ℕ) → j < length form → get_or form j 0 ≡ 35 → got v t ≡ number s → read_form (drop j form) vs s ≡ read_form (drop (j + 1) form) (vs ++ v ∷ []) t
mark_read form j vs s v t h m e = read_at form j vs s h ∙ rw (m, ← e) refl

pub byte_read : (form : List ℕ) (j : ℕ) (vs : List ℤ) (s : List ℕ) (i : ℕ) → j < length form → (get_or form j 0 ≡ 35 → ⊥) → slice_get s i ≡ Some (get_or form j 0) → read_form (drop j form) vs (drop i s) ≡ read_form (drop (j + 1) form) vs (drop (i + 1) s)
byte_read form j vs s i h m e = read_at form j vs (drop i s) h ∙ grind (arith, byte_by)

-- ---- the values past the numbers are zeros
abbrev pub Spare : ℕ → List ℤ → Type 0
Spare count values = (k : ℕ) → count ≤ k → get_or values k (pos 0) ≡ pos 0

pub all_spare : (n count : ℕ) → Spare count (replicate n (pos 0))
all_spare zero count k h = refl
all_spare (suc n) count zero h = refl
all_spare (suc n) count (suc k) h = all_spare n 0 k (omega arith)

pub still_spare : (values : List ℤ) (count : ℕ) (v : ℤ) → Spare count values → Spare (count + 1) (set values count v)
still_spare values count v z k h = get_or-set_other values count k v (pos 0) (λ e. omega arith) ∙ z k (omega arith)

pub spare_end : (n : ℕ) (values : List ℤ) → Spare n values → length values ≡ 8 → fit 8 (take n values) ≡ values
spare_end n values z l = fit_kept 8 n values l (λ k h. z k (omega arith))

-- what the reader of forms uses
pub ruleset steps = (read_at, read_end, marks_at, marks_end, byte_by, spare_end)
