-- RULES, "Clamps": what a go means, from the map's promise alone (`go_true`, `go_within`, `drawn_go`). Assumes nothing.
use Rattle.std.specs.Prelude.{◌≡◌, true, List, ℕ, zero, suc, ◌+◌, ◌*◌, ◌^◌, ◌≤◌, ◌<◌, ℤ, pos, ◌+ℤ◌, ◌*ℤ◌}
use Rattle.std.proofs.Common.{subst, ⊎_elim, arith}
use Rattle.integers.specs.Order.{◌≼◌, ◌≺◌}
use Rattle.integers.specs.Inequalities.{split≼, weak}
use Rattle.model.specs.declared.Job.{Job}
use Rattle.model.specs.Jobs.{cell_log}
use Rattle.model.specs.Plates.{columns}
use Rattle.model.specs.Fractions.{Frac, Point, whole, ◌≤ᶠ◌}
use Rattle.model.specs.Exact.{Along, Clear}
use Rattle.model.specs.Entries.{map_cells}
use Rattle.model.specs.Promises.{cell_in, byte_at}
use Rattle.clearance.specs.Demands.{map_holds}
use Rattle.clearance.specs.Letters.{clear_byte}
use Rattle.table_four.specs.declared.Clamp.{Clamp}
use Rattle.table_four.specs.Table.{clamp_at, place}
use Rattle.table_four.specs.Cases.{UnderCell}
use Rattle.table_four.specs.Promises.{Across, Under, GoTrue, GoWithin, DrawnGo}
use Rattle.table_four.specs.Places.{On, placed_on}
use Rattle.table_four.specs.Clear.{gone_is, clamps_clear}

-- ---- a coordinate across some columns lies along one of them
abbrev Some : ℤ → ℕ → Frac → ℕ → ℕ → Type 0
Some X n a k i = (m : ℕ) × (i ≤ m) × (m < i + k) × Along X m n a

-- the next column's line is behind it, or it is among the others
on_from : (X : ℤ) (n : ℕ) (a : Frac) (k i : ℕ) → Across X i (suc (suc k)) n a → (Across X (i + 1) (suc k) n a → Some X n a (suc k) (i + 1)) → Some X n a (suc (suc k)) i
on_from X n a k i r on = ⊎_elim here there (split≼ (a.top *ℤ pos 1) ((X +ℤ pos ((i + 1) * n)) *ℤ a.low))
  where
    here : a.top *ℤ pos 1 ≼ (X +ℤ pos ((i + 1) * n)) *ℤ a.low → Some X n a (suc (suc k)) i
    here e = (i, omega arith, omega arith, record { first = r.from; last = e })

    there : (X +ℤ pos ((i + 1) * n)) *ℤ a.low ≺ a.top *ℤ pos 1 → Some X n a (suc (suc k)) i
    there e =
        let same : i + suc (suc k) ≡ i + 1 + suc k = omega arith in
        let s = on (record { from = weak e; to = subst (λ (u : ℕ). a ≤ᶠ whole (X +ℤ pos (u * n))) same r.to }) in
        (s.0, omega (arith, s.1), omega (arith, s.2), s.3)

in_one : (X : ℤ) (n : ℕ) (a : Frac) (k i : ℕ) → 1 ≤ k → Across X i k n a → Some X n a k i
in_one X n a zero i h r = absurd (omega arith)
in_one X n a (suc zero) i h r = (i, omega arith, omega arith, record { first = r.from; last = r.to })
in_one X n a (suc (suc k)) i h r = on_from X n a k i r (in_one X n a (suc k) (i + 1) (omega arith))

-- ---- a point under a clamp lies in one of its cells
pub in_cell : (j : Job) (c : Clamp) → On (columns j) c → (Q : Point) → Under j c Q → (i : ℕ) × (k : ℕ) × UnderCell c i k × cell_in j i k Q
in_cell j c on Q u =
    let x = in_one j.x (2 ^ cell_log j) Q.x c.columns c.column on.some_columns u.column in
    let y = in_one j.y (2 ^ cell_log j) Q.y c.rows c.row on.some_rows u.row in
    (x.0, y.0, record { left = x.1; right = x.2; low = y.1; high = y.2 }, record { column = x.3; row = y.3 })

-- of a go that cell is on the map and is C, whatever C means
pub record ClearCell (j : Job) (cells : List ℕ) (Q : Point) : Type 0 where
  pub column : ℕ
  pub row : ℕ
  pub wide : column < columns j
  pub high : row < columns j
  pub clear : byte_at j cells column row ≡ 67
  pub there : cell_in j column row Q

pub go_cell : (j : Job) (cells cs : List ℕ) → (place j cells cs).go ≡ true → (m : ℕ) → m < 4 → (Q : Point) → Under j (clamp_at cs m) Q → ClearCell j cells Q
go_cell j cells cs e m h Q u =
    let g = gone_is j cells cs e in
    let on = placed_on j cells cs g.0 m h in
    let p = in_cell j (clamp_at cs m) on Q u in
    record {
      column = p.0;
      row = p.1;
      wide = omega (arith, p.2.right, on.wide);
      high = omega (arith, p.2.high, on.high);
      clear = clamps_clear (columns j) cells cs m (omega (arith, h, g.1)) p.0 p.1 p.2;
      there = p.3;
    }

-- ---- the go
pub go_within : GoWithin
unfolding Clear
go_within j cells drawn cs e only holds m h Q u P o =
    let c = go_cell j cells cs e m h Q u in
    clear_byte j drawn holds c.column c.row c.wide c.high (only c.column c.row c.wide c.high c.clear) Q c.there P o

pub go_true : GoTrue
go_true j cells cs e holds = go_within j cells cells cs e (λ i k a b q. q) holds

pub drawn_go : DrawnGo
drawn_go j store cells cs e go = go_true j (map_cells j store cells) cs go (map_holds j store cells e)
