-- From a job's numbers to its frame, and from the cells drawn to the job's map. Assumes nothing.
use mathlib.Core.Path.{◌≡◌, refl, sym, ap, ap₂, ◌∙◌, subst}
use mathlib.Core.List.{List, ◌++◌}
use Prim.Native.Nat.{ℕ, ◌+◌, ◌-◌, ◌*◌, ◌/◌, ◌%◌, ◌^◌, ◌≤◌, ◌<◌, zero-le}
use native.Mathlib.Nat.{le_trans, lt_of_le_of_lt, mul_comm, mul_assoc, mul-le-mul_right, div-add-mod', mod-lt, le-div_iff_mul-le}
use native.Mathlib.Omega.{arith}
use lib.Pow.{pow_mono, pow_pos, pow-add}
use lib.Dec.{T}
use lib.IntN.{ℤ, pos, negsuc, nat_abs, ◌+ℤ◌, ◌-ℤ◌, ◌*ℤ◌}
use lib.Signed.{non_neg}
use Rattle.std.proofs.lemmas.Int.{ints}
use mir.Syntax.{w32, w64}
use mir.Val.{SFits, to_z, of_z}
use mir.Facts.{to_z-of_z, to_z_pos}
use lib.ListN.{length, get_or, take, drop, length-drop, take-append-drop}
use lib.Seq.{get_or-drop, ext_get_or}
use Rattle.integers.specs.RingSolver.{name₄, reify, close, ok}
use Rattle.integers.specs.Order.{◌≼◌, ≼_pos, num, ◌⊠◌}
use Rattle.integers.specs.Inequalities.{≼_trans}
use Rattle.integers.specs.Signed.{Made, nat_abs_add, nat_abs_mul, fits32, called, back}
use Rattle.sequences.specs.RowMajor.{row_major, length_row_major, is_row_major}
use Rattle.model.specs.declared.Job.{Job}
use Rattle.model.specs.Jobs.{plate_log, cell_log, judge}
use Rattle.model.specs.Store.{forest}
use Rattle.model.specs.Explore.{Cell, judged, explore_all}
use Rattle.model.specs.Plates.{doubtful, letter, settled, columns, mapped, map_of}
use Rattle.model.specs.Entries.{over as written}
use Rattle.ranges.specs.Legal.{coordinate_size, Natural, natural, legal}
use Rattle.ranges.specs.Cells.{few_levels}
use Rattle.verdicts.specs.Quartering.{plate_side}
use Rattle.verdicts.specs.DemandThree.{forest_covers}
use Rattle.inheritance.specs.Reach.{reach_judges}
use Rattle.inheritance.specs.Edges.{EachInherits, covered_inherits}
use Rattle.inheritance.specs.Drawn.{smallest, drawn_is}
use Rattle.inheritance.specs.Blocks.{middle, block, smallest_is}
use Rattle.subtrees.specs.Sizes.{forest_many}
use Rattle.subtrees.specs.Fronts.{Holds}
use Rattle.open_edges.specs.Starts.{Starts}
use Rattle.filling.specs.Squares.{In, over, Drawn}
use Rattle.filling.specs.Quarters.{over_in, over_out}
use Rattle.drawing.specs.Letters.{frame_of, own_letter}
use Rattle.columns.specs.Limits.{FrameSized}
use Rattle.drawing.specs.Ready.{Ready, MapReady}
use Rattle.drawing.proofs.Cells.{nonneg_times}

-- ---- ranges as sizes
logs_le : (a b : ℤ) → pos 0 ≼ a → a ≼ b → nat_abs a ≤ nat_abs b
logs_le (pos m) (pos n) h k = ≼_pos k
logs_le (pos m) (negsuc n) h k = absurd k.le
logs_le (negsuc m) b h k = absurd h.le

-- what a legal job's numbers say of its frames
pub record Numbers (j : Job) : Type 0 where
  pub corner_x : nat_abs j.x ≤ 1000000
  pub corner_y : nat_abs j.y ≤ 1000000
  pub plate : Natural 0 20 j.n
  pub cell : Natural 0 20 j.m
  pub cell_size : cell_log j ≤ plate_log j
  pub few : plate_log j - cell_log j ≤ 8
  pub reach : Natural 1 1000000 j.reach

pub job_numbers : (j : Job) → judge j ≡ 0 → Numbers j
job_numbers j good =
    let l = legal j good in
    let i = l.in_range in
    record {
      corner_x = coordinate_size j.x i.x_in;
      corner_y = coordinate_size j.y i.y_in;
      plate = natural j.n i.n_in;
      cell = natural j.m i.m_in;
      cell_size = logs_le j.m j.n i.m_in.from l.cell_fits;
      few = few_levels j l;
      reach = natural j.reach i.reach_in;
    }

-- ---- the numbers as they are read
pub log_read : {z : ℤ} → Natural 0 20 z → to_z w32 (of_z w32 z) ≡ z
log_read n = to_z-of_z (fits32 n.most tt)

pub log_bits : (z : ℤ) → Natural 0 20 z → of_z w64 (to_z w32 (of_z w32 z)) ≤ 20
log_bits z n = rw (log_read n) (go z n)
  where
    go : (z : ℤ) → Natural 0 20 z → of_z w64 z ≤ 20
    go (pos k) n = n.most
    go (negsuc k) n = absurd n.nonneg

-- a length in fine units
pub fine_made : (v z : ℤ) → v ≡ pos 16 *ℤ to_z w32 (of_z w32 z) → nat_abs z ≤ 1000000 → Made v (pos 16 *ℤ z) 16000000
fine_made v z e h = let r : to_z w32 (of_z w32 z) ≡ z = to_z-of_z (fits32 h tt) in called (rw r at e) (omega (arith, nat_abs_mul (pos 16) z, h)) tt

pub fine_read : (v z : ℤ) → v ≡ pos 16 *ℤ to_z w32 (of_z w32 z) → nat_abs z ≤ 1000000 → to_z w64 (of_z w64 v) ≡ pos 16 *ℤ z
fine_read v z e h = back (fine_made v z e h)

less : (n m : ℤ) → T (non_neg n) → T (non_neg m) → nat_abs m ≤ nat_abs n → n -ℤ m ≡ pos (nat_abs n - nat_abs m)
less (pos a) (pos b) t u h = omega (arith, ints)
less (negsuc a) m t u h = absurd t
less (pos a) (negsuc b) t u h = absurd u

-- a shift that leaves no bit behind
pub shifted : (a k B : ℕ) → a * 2 ^ k ≤ B → B < 2 ^ 64 → (a * 2 ^ k) % 2 ^ 64 ≡ a * 2 ^ k
shifted a k B h l = let s : a * 2 ^ k < 2 ^ 64 = lt_of_le_of_lt h l in omega (arith, s)

module _ (j : Job) (good : judge j ≡ 0) where
  levels_less : j.n -ℤ j.m ≡ pos (plate_log j - cell_log j)
  levels_less = let s = job_numbers j good in less j.n j.m s.plate.nonneg s.cell.nonneg s.cell_size

  pub levels_fit : SFits w32 (to_z w32 (of_z w32 j.n) -ℤ to_z w32 (of_z w32 j.m))
  levels_fit = let s = job_numbers j good in rw (log_read s.plate, log_read s.cell, levels_less) (fits32 {B = 8} s.few tt)

  pub levels_read : to_z w32 (of_z w32 (to_z w32 (of_z w32 j.n) -ℤ to_z w32 (of_z w32 j.m))) ≡ pos (plate_log j - cell_log j)
  levels_read = let s = job_numbers j good in rw (to_z-of_z levels_fit, log_read s.plate, log_read s.cell, levels_less)

-- ---- the frame
pub unit_read : (j : Job) → judge j ≡ 0 → to_z w64 ((8 * 2 ^ of_z w64 (to_z w32 (of_z w32 j.m))) % 2 ^ 64) ≡ pos (8 * 2 ^ cell_log j)
unit_read j good = rw (log_read (job_numbers j good).cell) (go j.m (job_numbers j good).cell)
  where
    go : (z : ℤ) → Natural 0 20 z → to_z w64 ((8 * 2 ^ of_z w64 z) % 2 ^ 64) ≡ pos (8 * 2 ^ nat_abs z)
    go (pos k) n =
        let h : 8 * 2 ^ k ≤ 8388608 = omega (arith, pow_mono n.most) in
        rw (shifted 8 k 8388608 h (omega arith)) (to_z_pos w64 (omega (arith, h)))
    go (negsuc k) n = absurd n.nonneg

pub columns_few : (j : Job) → judge j ≡ 0 → columns j ≤ 256
columns_few j good = pow_mono (job_numbers j good).few

pub unit_size : (j : Job) → judge j ≡ 0 → 8 * 2 ^ cell_log j ≤ 8388608
unit_size j good =
    let s = job_numbers j good in
    let k : cell_log j ≤ 20 = omega (arith, s.cell_size, s.plate.most) in
    omega (arith, pow_mono k)

pub side_size : (j : Job) → judge j ≡ 0 → columns j * (8 * 2 ^ cell_log j) ≤ 8388608
side_size j good =
    let s = job_numbers j good in
    side (columns j) (2 ^ cell_log j) (2 ^ plate_log j) (mul_comm (columns j) (2 ^ cell_log j) ∙ plate_side (plate_log j) (cell_log j) s.cell_size) (pow_mono s.plate.most)
  where
    side : (a b p : ℕ) → a * b ≡ p → p ≤ 2 ^ 20 → a * (8 * b) ≤ 8388608
    side a b p e h = omega arith

-- rows begin within the plate
pub row_size : (j : Job) → judge j ≡ 0 → (row : ℕ) → row ≤ columns j → row * (8 * 2 ^ cell_log j) ≤ 8388608
row_size j good row h = le_trans (mul-le-mul_right (8 * 2 ^ cell_log j) h) (side_size j good)

-- k half cells above the corner
pub above : (j : Job) → judge j ≡ 0 → {k : ℕ} → k ≤ 2 * columns j → Made (to_z w64 k *ℤ to_z w64 ((8 * 2 ^ of_z w64 (to_z w32 (of_z w32 j.m))) % 2 ^ 64)) (pos k *ℤ pos (8 * 2 ^ cell_log j)) 16777216
above j good {k} h =
    let few : k < 2 ^ 63 = omega (arith, columns_few j good, h) in
    let q : ℕ = 8 * 2 ^ cell_log j in
    called (ap₂ (λ u v. u *ℤ v) (to_z_pos w64 few) (unit_read j good)) (omega (arith, nat_abs_mul (pos k) (pos q), mul-le-mul_right q h, mul_assoc 2 (columns j) q, side_size j good)) tt

pub frame_sized : (j : Job) → judge j ≡ 0 → (row : ℕ) → row ≤ columns j → FrameSized (frame_of j row)
frame_sized j good row h =
    let s = job_numbers j good in
    let q : ℕ = 8 * 2 ^ cell_log j in
    record {
      n_size = columns_few j good;
      x_size = omega (arith, nat_abs_mul (pos 16) j.x, s.corner_x);
      y_size = omega (arith, nat_abs_add (pos 16 *ℤ j.y) (pos (2 * row) *ℤ pos q), nat_abs_mul (pos 16) j.y, nat_abs_mul (pos (2 * row)) (pos q), s.corner_y, twice row q, row_size j good row h);
      q_nonneg = tt;
      q_above = omega (arith, pow_pos (cell_log j));
      q_size = unit_size j good;
      side_size = side_size j good;
      k_is = doubled (2 ^ cell_log j) ∙ sym (pow-add 2 (cell_log j) 4);
      reach_sized = record {
        r_size = omega (arith, nat_abs_mul (pos 16) j.reach, s.reach.most);
        r_above = omega (arith, nat_abs_mul (pos 16) j.reach, s.reach.least);
        r_nonneg = nonneg_times 16 j.reach s.reach.nonneg;
      };
    }
  where
    twice : (a b : ℕ) → 2 * a * b ≡ 2 * (a * b)
    twice a b = mul_assoc 2 a b

    doubled : (b : ℕ) → 2 * (8 * b) ≡ b * 16
    doubled b = omega arith

-- ---- the trees
module _ (j : Job) (cells : List ℕ) (store : List ℤ) (h : MapReady j cells store) where
  pub held : Holds store j.count (forest j)
  held = record { many = forest_many j; begins = h.begins; sized = h.sized }

  pub count_most : j.count ≤ 64
  count_most = (legal j h.accepted).few

  pub whole_ready : (list : List ℕ) → length list ≡ j.count → Starts store list (forest j) → Ready store list (frame_of j 0) (record { c = 0; r = 0; w = columns j })
  whole_ready list l s = record {
    few = omega (arith, l, count_most);
    trees = record { trees = forest j; starts = s };
    frame_sized = frame_sized j h.accepted 0 zero-le;
    power = record { level = plate_log j - cell_log j; is = refl };
    columns_fit = omega arith;
    rows_fit = omega arith;
  }

-- ---- the letters
pub inherits : (j : Job) → judge j ≡ 0 → EachInherits (judged (pos 16 *ℤ j.reach)) (forest j)
inherits j good = covered_inherits (judged (pos 16 *ℤ j.reach)) (reach_judges (pos 16 *ℤ j.reach) (num 16 ⊠ ≼_trans (num 1) (legal j good).in_range.reach_in.from)) (forest_covers j)

-- row k of the rows from one row on
higher : (Y q R K : ℤ) → Y +ℤ pos 2 *ℤ R *ℤ q +ℤ (pos 2 *ℤ K +ℤ pos 1) *ℤ q ≡ Y +ℤ (pos 2 *ℤ (R +ℤ K) +ℤ pos 1) *ℤ q
higher Y q R K = name₄ Y q R K λ σ p₁ p₂ p₃ p₄. simp (p₁, p₂, p₃, p₄, reify, σ) (close σ _ _ ok)

row_of : (j : Job) (row i k : ℕ) → block (frame_of j row).x (frame_of j row).y (frame_of j row).q i k 1 ≡ smallest (cell_log j) j.x j.y i (row + k)
row_of j row i k =
    ap (λ z. at z) (higher (pos 16 *ℤ j.y) (pos (8 * 2 ^ cell_log j)) (pos row) (pos k)) ∙ sym (smallest_is (cell_log j) j.x j.y i (row + k))
  where
    at : ℤ → Cell
    at z = record { cx = middle (pos 16 *ℤ j.x) (pos (8 * 2 ^ cell_log j)) i 1; cy = z; s = pos 1 *ℤ pos (8 * 2 ^ cell_log j) }

pub own_is : (j : Job) → judge j ≡ 0 → (row i k : ℕ) → i < columns j → row + k < columns j → own_letter (frame_of j row) (forest j) i k ≡ letter (mapped j i (row + k))
unfolding mapped
own_is j good row i k hi hk =
    ap (λ (c : Cell). letter (settled (explore_all (judged (pos 16 *ℤ j.reach) c) (forest j)) doubtful)) (row_of j row i k)
    ∙ ap letter (sym (drawn_is (judged (pos 16 *ℤ j.reach)) (forest j) (inherits j good) (cell_log j) (plate_log j - cell_log j) j.x j.y i (row + k) hi hk))

-- ---- the map: n rows are drawn, and what lies past them is as it was
module _ (n : ℕ) (new old : List ℕ) (f : ℕ → ℕ → ℕ) (d : Drawn n new old (over f 0 0 n)) where
  past : (k : ℕ) → 0 < n → n * n ≤ k → get_or new k 0 ≡ get_or old k 0
  past k p h =
      subst (λ z. get_or new z 0 ≡ get_or old z 0) (div-add-mod' k n)
      (d.cells (k % n) (k / n) (mod-lt k p) ∙ over_out f 0 0 n (k % n) (k / n) (get_or old (k / n * n + k % n) 0) (let l : n ≤ k / n = (le-div_iff_mul-le p).1 h in omega arith))

  rest_same : 0 < n → length new ≡ length old → drop (n * n) new ≡ drop (n * n) old
  rest_same p e =
      ext_get_or 0 (drop (n * n) new) (drop (n * n) old) (length-drop (n * n) new ∙ ap (λ l. l - n * n) e ∙ sym (length-drop (n * n) old))
      (λ i b. get_or-drop (n * n) new i 0 ∙ past (n * n + i) p (omega arith) ∙ sym (get_or-drop (n * n) old i 0))

pub map_is : (j : Job) → judge j ≡ 0 → (new old : List ℕ) → length new ≡ length old → columns j * columns j ≤ length old → Drawn (columns j) new old (over (own_letter (frame_of j 0) (forest j)) 0 0 (columns j)) → new ≡ written (map_of j) old
unfolding map_of
map_is j good new old e room d =
    let n : ℕ = columns j in
    let f : ℕ → ℕ → ℕ = λ i k. letter (mapped j i k) in
    let front : take (n * n) new ≡ row_major n n f = is_row_major n n f new 0 (omega (arith, e, room))
    (λ i k hi hk. d.cells i k hi ∙ over_in (own_letter (frame_of j 0) (forest j)) 0 0 n i k (get_or old (k * n + i) 0) (inside n i k hi hk) ∙ own_is j good 0 i k hi (omega arith) ∙ ap (λ u. letter (mapped j i u)) (none k)) in
    sym (take-append-drop (n * n) new)
    ∙ ap₂ (λ a b. a ++ b) front (rest_same n new old (own_letter (frame_of j 0) (forest j)) d (pow_pos (plate_log j - cell_log j)) e ∙ ap (λ k. drop k old) (sym (length_row_major n n f)))
  where
    none : (k : ℕ) → 0 + k ≡ k
    none k = omega arith

    inside : (n i k : ℕ) → i < n → k < n → In 0 0 n i k
    inside n i k hi hk = record { left = omega arith; right = omega arith; low = omega arith; high = omega arith }
