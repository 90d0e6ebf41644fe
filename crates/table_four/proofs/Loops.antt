-- What the search for the first cell that is not C finds, over plain variables. Assumes nothing.
use Rattle.std.proofs.Common.{◌≡◌, sym, ap, ◌∙◌, Bool, ◌⊎◌, inl, inr, true, false, T, subst, List, ℕ, ◌+◌, ◌-◌, ◌*◌, ◌≤◌, ◌<◌, eqb, length, get_or, take, drop, arith, eq-eqb, ne_eqb, All, length-take-le, length-drop}
use Rattle.std.proofs.lemmas.List.{get_or-take, get_or-drop}
use Rattle.std.proofs.Math.Nat.{mul-le-mul_right, mul-le-mul}
use Rattle.table_four.specs.declared.Clamp.{Clamp}
use Rattle.table_four.specs.Table.{leading, is_clear, clear_cells, clear_rows}
use Rattle.table_four.specs.Leading.{leading_most, leading_pass, leading_stop}
use Rattle.table_four.specs.Places.{Within}
use Rattle.table_four.specs.Stops.{FirstCell}

-- ---- so many pass before the first that does not, and all where each does
module _ (f : ℕ → Bool) (k i : ℕ) where
  pub leading_is : (n : ℕ) → n < k → ((m : ℕ) → m < n → f (i + m) ≡ true) → f (i + n) ≡ false → leading f k i ≡ n
  leading_is n h pass stop = omega (arith, no_less, no_more)
    where
      no_less : leading f k i < n → ⊥
      no_less l = subst T (sym (pass (leading f k i) l) ∙ leading_stop f k i (omega (arith, l, h))) tt

      no_more : n < leading f k i → ⊥
      no_more l = subst T (sym (leading_pass f k i n l) ∙ stop) tt

  pub leading_all : ((m : ℕ) → m < k → f (i + m) ≡ true) → leading f k i ≡ k
  leading_all pass = omega (arith, leading_most f k i, no_less)
    where
      no_less : leading f k i < k → ⊥
      no_less l = subst T (sym (pass (leading f k i) l) ∙ leading_stop f k i l) tt

-- ---- a row of a clamp
module _ {n : ℕ} {cells : List ℕ} {c : Clamp} (w : Within n cells c) {row : ℕ} (l : row < c.row + c.rows) where
  -- its cells are among the map's, and their places are small
  pub row_room : (row * n + c.column + c.columns ≤ length cells) × (row * n ≤ 65536) × (c.column + c.columns ≤ 256)
  row_room =
      let below : row < n = omega (arith, w.on.high, l) in
      let few : row ≤ 256 = omega (arith, below, w.few) in
      (omega (arith, w.on.wide, w.room, mul-le-mul_right n below), omega (arith, mul-le-mul few w.few), omega (arith, w.on.wide, w.few))

module _ (cells : List ℕ) (at k : ℕ) (room : at + k ≤ length cells) where
  abbrev part : List ℕ
  part = take (at + k - at) (drop at cells)

  part_at : (i : ℕ) → i < k → get_or part i 0 ≡ get_or cells (at + i) 0
  part_at i h = let j : i < at + k - at = omega (arith, h) in get_or-take (at + k - at) (drop at cells) i 0 j ∙ get_or-drop at cells i 0

  part_long : length part ≡ k
  part_long = length-take-le (at + k - at) (drop at cells) (omega (arith, room, length-drop at cells)) ∙ (let e : at + k - at ≡ k = omega arith in e)

  pub part_clear : All (λ b. b ≡ 67) part → leading (is_clear cells) k at ≡ k
  part_clear all = leading_all (is_clear cells) k at (λ m h. eq-eqb (get_or cells (at + m) 0) 67 (sym (part_at m h) ∙ all m 0 (omega (arith, part_long, h))))

  pub part_stops : (i : ℕ) → i < length part → (get_or part i 0 ≡ 67 → ⊥) → ((m : ℕ) → m < i → get_or part m 0 ≡ 67) → (leading (is_clear cells) k at ≡ i) × (i < k)
  part_stops i h stop before =
      let j : i < k = omega (arith, part_long, h) in (
        leading_is (is_clear cells) k at i j
            (λ m l. eq-eqb (get_or cells (at + m) 0) 67 (let q : m < k = omega (arith, l, j) in sym (part_at m q) ∙ before m l))
            (ne_eqb (get_or cells (at + i) 0) 67 (λ e. stop (part_at i j ∙ e))),
        j,
      )

below_or : (r row : ℕ) → r < row + 1 → (r < row) ⊎ (r ≡ row)
below_or r row l = grind arith

-- ---- the rows of a clamp: each so far is clear
module _ (n : ℕ) (cells : List ℕ) (c : Clamp) where
  abbrev pub Clear : ℕ → Type 0
  Clear row = (r : ℕ) → c.row ≤ r → r < row → clear_cells n cells c r ≡ c.columns

  passes : {row : ℕ} → Clear row → (m : ℕ) → c.row + m < row → eqb (clear_cells n cells c (c.row + m)) c.columns ≡ true
  passes h m l = eq-eqb (clear_cells n cells c (c.row + m)) c.columns (h (c.row + m) (omega arith) l)

  pub rows_on : {row : ℕ} → Clear row → clear_cells n cells c row ≡ c.columns → Clear (row + 1)
  rows_on {row} h e = λ r k l. go r k (h r k) (below_or r row l)
    where
      go : (r : ℕ) → c.row ≤ r → (r < row → clear_cells n cells c r ≡ c.columns) → (r < row) ⊎ (r ≡ row) → clear_cells n cells c r ≡ c.columns
      go r k f (inl l) = f l
      go r k f (inr q) = ap (clear_cells n cells c) q ∙ e

  pub rows_clear : {row : ℕ} → Clear row → c.row + c.rows ≤ row → clear_rows n cells c ≡ c.rows
  rows_clear h l = leading_all (λ r. eqb (clear_cells n cells c r) c.columns) c.rows c.row (λ m k. passes h m (omega (arith, l, k)))

  pub rows_stop : {row left : ℕ} → Clear row → c.row ≤ row → row < c.row + c.rows → clear_cells n cells c row ≡ left → left < c.columns → FirstCell n cells c (record { column = c.column + left; row = row })
  rows_stop {row} {left} h k l e s = record { some = omega (arith, rows, l, k); row_is = omega (arith, rows, k); column_is = ap (λ (i : ℕ). c.column + i) (sym e) }
    where
      stops : eqb (clear_cells n cells c (c.row + (row - c.row))) c.columns ≡ false
      stops = ne_eqb (clear_cells n cells c (c.row + (row - c.row))) c.columns (λ z. (let q : left ≡ c.columns = sym e ∙ ap (clear_cells n cells c) (let v : row ≡ c.row + (row - c.row) = omega (arith, k) in v) ∙ z in omega (arith, q, s)))

      rows : clear_rows n cells c ≡ row - c.row
      rows = leading_is (λ r. eqb (clear_cells n cells c r) c.columns) c.rows c.row (row - c.row) (omega (arith, k, l)) (λ m q. passes h m (omega (arith, q, k))) stops
