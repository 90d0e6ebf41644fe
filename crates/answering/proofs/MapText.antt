-- The needs of the writers of a map's text, over plain variables. Assumes nothing.
use mathlib.Core.Path.{◌≡◌, refl, sym, ap, ◌∙◌, subst}
use mathlib.Core.List.{List, [], ◌∷◌, ◌++◌, append_assoc, append-nil}
use Prim.Native.Nat.{ℕ, zero, suc, ◌+◌, ◌*◌, ◌-◌, ◌≤◌, ◌<◌}
use native.Mathlib.Nat.{mul-le-mul_right}
use native.Mathlib.Numerals.{add-one}
use native.Mathlib.Omega.{arith}
use lib.Dec.{lit<}
use lib.IntN.{ℤ, pos}
use lib.ListN.{length, take, drop, length-append, length-drop}
use lib.Seq.{drop-drop, length-take-le}
use mir.Syntax.{w32}
use mir.Val.{to_z}
use mir.Facts.{to_z_pos}
use Rattle.model.specs.Bytes.{bytes}
use Rattle.model.specs.Forms.{write_form}
use Rattle.model.specs.Printing.{map_form, row_text, rows_text, map_text}
use Rattle.sheet_text.specs.Numbers.{Small}
use Rattle.sheet_text.specs.Forms.{AllSmall}
use Rattle.formatting.specs.Puts.{Put}
use Rattle.formatting.specs.Texts.{put_then, put_none}

-- ---- a number up to 256
pub number_read : (n : ℕ) → n ≤ 256 → to_z w32 n ≡ pos n
number_read n h = to_z_pos w32 (omega arith)

pub one_small : (n : ℕ) (v : ℤ) → n ≤ 256 → v ≡ pos n → AllSmall (v ∷ [])
unfolding AllSmall Small
one_small n v h e zero = rw e (omega arith)
one_small n v h e (suc i) = lit< tt

-- ---- a row
pub row_put : (a b c d : List ℕ) (at i k next : ℕ) (row : List ℕ) → Put a b at i (bytes "(row ") → Put b c i k row → Put c d k next (bytes ")\n") → Put a d at next (row_text row)
unfolding row_text
row_put a b c d at i k next row p q r =
    subst (Put a d at next) (append_assoc (bytes "(row ") row (bytes ")\n"))
    (put_then a c d at k next (bytes "(row " ++ row) (bytes ")\n") (put_then a b c at i k (bytes "(row ") row p q) r)

row_long_is : (row : List ℕ) → length (row_text row) ≡ length row + 7
unfolding row_text
row_long_is row = omega (arith, length-append row (bytes ")\n"))

-- ---- rows, one after the other
rows_snoc : (n k : ℕ) (cs : List ℕ) → rows_text n (suc k) cs ≡ rows_text n k cs ++ row_text (take n (drop (k * n) cs))
unfolding rows_text
rows_snoc n zero cs = append-nil (row_text (take n cs)) ∙ ap (λ m. row_text (take n (drop m cs))) (let z : 0 ≡ 0 * n = omega arith in z)
rows_snoc n (suc k) cs =
    ap (λ t. row_text (take n cs) ++ t) (rows_snoc n k (drop n cs))
    ∙ sym (append_assoc (row_text (take n cs)) (rows_text n k (drop n cs)) (row_text (take n (drop (k * n) (drop n cs)))))
    ∙ ap (λ t. (row_text (take n cs) ++ rows_text n k (drop n cs)) ++ row_text (take n t)) (drop-drop (k * n) n cs ∙ ap (λ m. drop m cs) (let z : n + k * n ≡ suc k * n = omega arith in z))

-- j rows are written
pub record Rows (before after : List ℕ) (at i : ℕ) (cells : List ℕ) (n j : ℕ) : Type 0 where
  pub placed : Put before after at i (rows_text n j cells)
  pub here : i ≡ at + j * (n + 7)
  pub same_length : length after ≡ length before

pub no_rows : (out cells : List ℕ) (at n : ℕ) → Rows out out at at cells n 0
unfolding rows_text
no_rows out cells at n = record { placed = put_none out at; here = omega arith; same_length = refl }

in_cells : (n j : ℕ) → j < n → j * n + n ≤ n * n
in_cells n j h = let l : suc j ≤ n = omega arith in omega (arith, mul-le-mul_right n l)

module _ (cells : List ℕ) (n j : ℕ) (jn : j < n) (room : n * n ≤ length cells) where
  pub part_end : j * n + n ≤ length cells
  part_end = omega (arith, in_cells n j jn)

  pub row_length : length (take n (drop (j * n) cells)) ≡ n
  row_length = length-take-le n (drop (j * n) cells) (rw length-drop (omega (arith, part_end)))

module _ (before after : List ℕ) (at i : ℕ) (cells : List ℕ) (n j : ℕ) (r : Rows before after at i cells n j) (jn : j < n) (room : n * n ≤ length cells) where
  pub next_row : (last : List ℕ) (k : ℕ) (row : List ℕ) → Put after last i k (row_text row) → length last ≡ length after → row ≡ take n (drop (j * n) cells) → Rows before last at k cells n (j + 1)
  next_row last k row p l e =
      let t : rows_text n j cells ++ row_text row ≡ rows_text n (j + 1) cells =
      ap (λ u. rows_text n j cells ++ row_text u) e ∙ sym (rows_snoc n j cells) ∙ ap (λ m. rows_text n m cells) (sym (add-one j)) in
      let long : length row ≡ n = ap length e ∙ row_length cells n j jn room in
      record {
        placed = subst (Put before last at k) t (put_then before after last at i k (rows_text n j cells) (row_text row) r.placed p);
        here = p.next_is ∙ rw (row_long_is row, long) (omega (arith, r.here));
        same_length = l ∙ r.same_length;
      }

-- the part of a row
pub row_part : (cells : List ℕ) (a n : ℕ) → take (a + n - a) (drop a cells) ≡ take n (drop a cells)
row_part cells a n = let z : a + n - a ≡ n = omega arith in rw z

-- ---- a whole map
pub map_put : (a b c d : List ℕ) (i k next n : ℕ) (cells : List ℕ) → Put a b 0 i (write_form map_form (pos n ∷ [])) → Put b c i k (rows_text n n cells) → Put c d k next (bytes ")\n") → Put a d 0 next (map_text n cells)
unfolding map_text
map_put a b c d i k next n cells p q r =
    put_then a b d 0 i next (write_form map_form (pos n ∷ [])) (rows_text n n cells ++ bytes ")\n") p (put_then b c d i k next (rows_text n n cells) (bytes ")\n") q r)
