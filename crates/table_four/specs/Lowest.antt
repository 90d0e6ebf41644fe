-- RULES, "Clamps": the refusal of the clamps is the lowest whose case applies (`place_lowest`). Assumes nothing.
use Rattle.std.specs.Prelude.{◌≡◌, refl, Bool, true, false, ◌&&◌, ◌||◌, ◌⊎◌, List, ℕ, zero, suc, ◌+◌, ◌-◌, ◌≤◌, ◌<◌, T, leb, ltb, eqb, length, get_or}
use Rattle.std.proofs.Common.{sym, ◌∙◌, subst, inl, inr, arith, leb-true, leb-false, ltb-false, ne_eqb}
use Rattle.std.proofs.lemmas.Bool.{eqb-false}
use Rattle.integers.specs.Tests.{or_false}
use Rattle.model.specs.declared.Job.{Job}
use Rattle.model.specs.Refusals as refused
use Rattle.model.specs.Refusals.{first, accepted, Lowest}
use Rattle.model.specs.Plates.{columns, cells_of}
use Rattle.ranges.specs.Cases.{Just, less}
use Rattle.ranges.specs.Tables.{Settles, nothing, just, ◌then◌, lowest}
use Rattle.ranges.specs.Lowest.{own_settles}
use Rattle.table_four.specs.declared.Clamp.{Clamp}
use Rattle.table_four.specs.Table as table
use Rattle.table_four.specs.Table.{every, clamp_at, lies, on_plate, is_letter, letter_byte, clear_clamps, place_checks, place_refusal, turned_away, gone, stopped, placed_by, place}
use Rattle.table_four.specs.Leading.{every_not, every_first}
use Rattle.table_four.specs.Cases.{UnderCell, OffPlateCase, LetterCase, place_table}
use Rattle.table_four.specs.Promises.{PlaceLowest}
use Rattle.table_four.specs.Places.{On, lies_in, on_is}

-- ---- the answer's number is that of the checks
either_number : (b : Bool) (n : ℕ) (cells : List ℕ) (c : Clamp) (k : ℕ) → (table.either b gone (stopped n cells c k)).refusal ≡ 0
either_number true n cells c k = refl
either_number false n cells c k = refl

number_is : (n : ℕ) (cells cs : List ℕ) (r k : ℕ) → (accepted r (placed_by n cells cs k) (turned_away r)).refusal ≡ r
unfolding accepted placed_by
number_is n cells cs zero k = either_number (eqb k 4) n cells (clamp_at cs k) k
number_is n cells cs (suc r) k = refl

pub refusal_is : (j : Job) (cells cs : List ℕ) → (place j cells cs).refusal ≡ place_refusal j cells cs
unfolding place
refusal_is j cells cs = number_is (columns j) cells cs (place_refusal j cells cs) (clear_clamps (columns j) cells cs)

-- ---- a clamp is on the plate, or it has no cells a way, or one that is off
abbrev Off : ℕ → ℕ → ℕ → Type 0
Off n begin count = (count ≡ 0) ⊎ (n < begin + count)

lies_not : (n begin count : ℕ) → lies n begin count ≡ false → Off n begin count
lies_not n begin count e = go (leb 1 count) refl (ltb begin n) refl (leb count (n - begin)) refl e
  where
    go : (a : Bool) → leb 1 count ≡ a → (b : Bool) → ltb begin n ≡ b → (c : Bool) → leb count (n - begin) ≡ c → (a && (b && c)) ≡ false → Off n begin count
    go false p b q c r e = let h : count < 1 = leb-false 1 count p in inl (omega (arith, h))
    go true p false q c r e = let h : n ≤ begin = ltb-false begin n q in let k : 1 ≤ count = leb-true 1 count p in inr (omega (arith, h, k))
    go true p true q false r e = let h : n - begin < count = leb-false count (n - begin) r in inr (omega (arith, h))
    go true p true q true r e = absurd (subst T e tt)

lies_off : (n begin count : ℕ) → Off n begin count → lies n begin count ≡ true → ⊥
lies_off n begin count (inl z) e = let h = lies_in n begin count e in absurd (omega (arith, h.0, z))
lies_off n begin count (inr l) e = let h = lies_in n begin count e in absurd (omega (arith, h.1, l))

-- the last column or row of a clamp that reaches too far is off the map
abbrev Clamped : ℕ → Clamp → Type 0
Clamped n c = (c.columns ≡ 0) ⊎ ((c.rows ≡ 0) ⊎ ((i : ℕ) × (k : ℕ) × UnderCell c i k × ((n ≤ i) ⊎ (n ≤ k))))

past : (n : ℕ) (c : Clamp) → Off n c.column c.columns ⊎ Off n c.row c.rows → Clamped n c
past n c (inl (inl z)) = inl z
past n c (inr (inl z)) = inr (inl z)
past n c (inl (inr l)) = go c.columns refl c.rows refl
  where
    go : (a : ℕ) → c.columns ≡ a → (b : ℕ) → c.rows ≡ b → Clamped n c
    go zero p b q = inl p
    go (suc a) p zero q = inr (inl q)
    go (suc a) p (suc b) q = inr (inr (c.column + a, c.row, record { left = omega arith; right = omega (arith, p); low = omega arith; high = omega (arith, q) }, inl (omega (arith, l, p))))
past n c (inr (inr l)) = go c.columns refl c.rows refl
  where
    go : (a : ℕ) → c.columns ≡ a → (b : ℕ) → c.rows ≡ b → Clamped n c
    go zero p b q = inl p
    go (suc a) p zero q = inr (inl q)
    go (suc a) p (suc b) q = inr (inr (c.column, c.row + b, record { left = omega arith; right = omega (arith, p); low = omega arith; high = omega (arith, q) }, inr (omega (arith, l, q))))

off_not : (n : ℕ) (c : Clamp) → on_plate n c ≡ false → Clamped n c
off_not n c e = go (lies n c.column c.columns) refl e
  where
    go : (a : Bool) → lies n c.column c.columns ≡ a → (a && lies n c.row c.rows) ≡ false → Clamped n c
    go false p e = past n c (inl (lies_not n c.column c.columns p))
    go true p e = past n c (inr (lies_not n c.row c.rows e))

not_off : (n : ℕ) (c : Clamp) → Clamped n c → On n c → ⊥
not_off n c (inl z) o = absurd (omega (arith, z, o.some_columns))
not_off n c (inr (inl z)) o = absurd (omega (arith, z, o.some_rows))
not_off n c (inr (inr (i, k, u, inl l))) o = absurd (omega (arith, l, u.right, o.wide))
not_off n c (inr (inr (i, k, u, inr l))) o = absurd (omega (arith, l, u.high, o.high))

untrue : (b : Bool) → (b ≡ true → ⊥) → b ≡ false
untrue true h = absurd (h refl)
untrue false h = refl

off_row : (j : Job) (cs : List ℕ) → Just (every (λ k. on_plate (columns j) (clamp_at cs k)) 4 0) (OffPlateCase j cs)
off_row j cs = (there, back)
  where
    there : every (λ k. on_plate (columns j) (clamp_at cs k)) 4 0 ≡ false → OffPlateCase j cs
    there e = let m = every_not (λ k. on_plate (columns j) (clamp_at cs k)) 4 0 e in (0 + m.0, omega (arith, m.1), off_not (columns j) (clamp_at cs (0 + m.0)) m.2)

    back : OffPlateCase j cs → every (λ k. on_plate (columns j) (clamp_at cs k)) 4 0 ≡ false
    back (m, l, h) = untrue (every (λ k. on_plate (columns j) (clamp_at cs k)) 4 0) (λ e. not_off (columns j) (clamp_at cs m) h (on_is (columns j) (clamp_at cs m) (every_first (λ k. on_plate (columns j) (clamp_at cs k)) 4 m e l)))

-- ---- a byte that is no letter
abbrev Other : ℕ → Type 0
Other b = (b ≡ 67 → ⊥) × (b ≡ 73 → ⊥) × (b ≡ 68 → ⊥)

other_not : (b : ℕ) → letter_byte b ≡ false → Other b
other_not b e =
    let p = or_false (eqb b 67) (eqb b 73 || eqb b 68) e in
    let q = or_false (eqb b 73) (eqb b 68) p.1 in
    (eqb-false b 67 p.0, eqb-false b 73 q.0, eqb-false b 68 q.1)

not_other : (b : ℕ) → Other b → letter_byte b ≡ false
not_other b h = rw (ne_eqb b 67 h.0, ne_eqb b 73 h.1, ne_eqb b 68 h.2) refl

letter_row : (j : Job) (cells : List ℕ) → Just (every (is_letter cells) (cells_of j) 0) (LetterCase j cells)
letter_row j cells = (there, back)
  where
    there : every (is_letter cells) (cells_of j) 0 ≡ false → LetterCase j cells
    there e = let m = every_not (is_letter cells) (cells_of j) 0 e in let o = other_not (get_or cells (0 + m.0) 0) m.2 in (0 + m.0, omega (arith, m.1), o.0, o.1, o.2)

    back : LetterCase j cells → every (is_letter cells) (cells_of j) 0 ≡ false
    back (p, l, a, b, c) = untrue (every (is_letter cells) (cells_of j) 0) (λ e. absurd (subst T (sym (sym (not_other (get_or cells p 0) (a, b, c)) ∙ every_first (is_letter cells) (cells_of j) p e l)) tt))

-- ---- the lowest
place_settles : (j : Job) (cells cs : List ℕ) → Settles (place_checks j cells cs) (place_table j cells cs)
place_settles j cells cs =
    own_settles j nothing then just refused.space _ _ (less (cells_of j) (length cells)) then just refused.off_plate _ _ (off_row j cs)
    then just refused.letter _ _ (letter_row j cells)

pub place_lowest : PlaceLowest
unfolding place_refusal
place_lowest j cells cs = subst (Lowest (place_table j cells cs)) (sym (refusal_is j cells cs)) (lowest 1 (place_table j cells cs) (first (place_checks j cells cs)) refl (place_settles j cells cs).given)
