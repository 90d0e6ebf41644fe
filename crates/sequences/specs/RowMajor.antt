-- A rectangle of h rows and w columns as one list, row after row: what stands in column i and row j has place j · w + i. Assumes nothing.
use Rattle.std.specs.Prelude.{◌≡◌, List, ◌++◌, take}
use Rattle.std.proofs.Common.{sym, ◌∙◌, div-add-mod', div-lt_iff_lt-mul, mod-lt, length-append, get_or-take, ext_get_or, length-take-le}
use Rattle.std.proofs.Math.Path.{ap}
use Prim.Native.Nat.{ℕ, zero, suc, ◌+◌, ◌*◌, ◌/◌, ◌%◌, ◌≤◌, ◌<◌}
use native.Mathlib.Omega.{arith}
use Rattle.std.proofs.Math.ListN.{length, get_or, get_or-append}
use Rattle.std.proofs.Math.Seq.{get_or-append-add}
unfoldable pub use Rattle.basics.specs.Lists.{row_major}
use Rattle.sequences.specs.Tables.{table, length_table, get_or_table}

-- each place of the rectangle is of one column and one row
place : (w h k : ℕ) → k < h * w → (k % w < w) × (k / w < h) × (k / w * w + k % w ≡ k)
place zero h k l = absurd (omega arith)
place (suc w) h k l = (mod-lt k (omega arith), (div-lt_iff_lt-mul {k = suc w} {x = k} {y = h} (omega arith)).1 l, div-add-mod' k (suc w))

module _ {A : Type 0} where
  pub length_row_major : (w h : ℕ) (f : ℕ → ℕ → A) → length (row_major w h f) ≡ h * w
  unfolding row_major
  length_row_major w zero f = omega arith
  length_row_major w (suc h) f = simp (length-append, length_table) (omega (arith, length_row_major w h (λ i j. f i (suc j))))

  pub get_or_row_major : (w h : ℕ) (f : ℕ → ℕ → A) (i j : ℕ) (d : A) → i < w → j < h → get_or (row_major w h f) (j * w + i) d ≡ f i j
  unfolding row_major
  get_or_row_major w zero f i j d hi hj = absurd (omega arith)
  get_or_row_major w (suc h) f i zero d hi hj =
      ap (λ k. get_or (table w (λ c. f c 0) ++ row_major w h (λ c r. f c (suc r))) k d) (let z : 0 * w + i ≡ i = omega arith in z)
      ∙ get_or-append (table w (λ c. f c 0)) (row_major w h (λ c r. f c (suc r))) d i (omega (arith, length_table w (λ c. f c 0)))
      ∙ get_or_table w (λ c. f c 0) i d hi
  get_or_row_major w (suc h) f i (suc j) d hi hj =
      ap (λ k. get_or (table w (λ c. f c 0) ++ row_major w h (λ c r. f c (suc r))) k d) (let z : suc j * w + i ≡ length (table w (λ c. f c 0)) + (j * w + i) = omega (arith, length_table w (λ c. f c 0)) in z)
      ∙ get_or-append-add (table w (λ c. f c 0)) (row_major w h (λ c r. f c (suc r))) (j * w + i) d
      ∙ get_or_row_major w h (λ c r. f c (suc r)) i j d hi (omega arith)

  -- a list that holds f column by column and row by row begins with the rectangle
  pub is_row_major : (w h : ℕ) (f : ℕ → ℕ → A) (l : List A) (d : A) → h * w ≤ length l → ((i j : ℕ) → i < w → j < h → get_or l (j * w + i) d ≡ f i j) → take (h * w) l ≡ row_major w h f
  is_row_major w h f l d room each =
      ext_get_or d (take (h * w) l) (row_major w h f) (length-take-le (h * w) l room ∙ sym (length_row_major w h f)) at
    where
      at : (k : ℕ) → k < length (take (h * w) l) → get_or (take (h * w) l) k d ≡ get_or (row_major w h f) k d
      at k b =
          let c : k < h * w = omega (arith, length-take-le (h * w) l room) in
          let p = place w h k c in
          get_or-take (h * w) l k d c
          ∙ ap (λ n. get_or l n d) (sym p.2)
          ∙ each (k % w) (k / w) p.0 p.1
          ∙ sym (get_or_row_major w h f (k % w) (k / w) d p.0 p.1)
          ∙ ap (λ n. get_or (row_major w h f) n d) p.2
