-- A clamp that is on the plate, and what the code's steps ask of it. Assumes nothing.
use Rattle.std.specs.Prelude.{◌≡◌, true, List, [], ◌∷◌, ℕ, ◌+◌, ◌*◌, ◌-◌, ◌≤◌, ◌<◌, leb, ltb, length}
use Rattle.std.proofs.Common.{arith, ltb-true}
use Rattle.integers.specs.Tests.{both, le_of}
use Rattle.model.specs.declared.Job.{Job}
use Rattle.model.specs.Plates.{columns}
use Rattle.ranges.specs.Refusals.{passed_all}
use Rattle.table_four.specs.declared.Clamp.{Clamp}
use Rattle.table_four.specs.Table.{clamp_at, lies, on_plate, place_checks, place_refusal}
use Rattle.table_four.specs.Leading.{every_first}

-- the four clamps that 16 numbers are
abbrev pub four_in : List ℕ → List Clamp
four_in cs = clamp_at cs 0 ∷ clamp_at cs 1 ∷ clamp_at cs 2 ∷ clamp_at cs 3 ∷ []

pub record On (n : ℕ) (c : Clamp) : Type 0 where
  pub some_columns : 1 ≤ c.columns
  pub some_rows : 1 ≤ c.rows
  pub wide : c.column + c.columns ≤ n
  pub high : c.row + c.rows ≤ n

-- on a map of n cells a side, which is there
pub record Within (n : ℕ) (cells : List ℕ) (c : Clamp) : Type 0 where
  pub on : On n c
  pub few : n ≤ 256
  pub room : n * n ≤ length cells

pub lies_in : (n begin count : ℕ) → lies n begin count ≡ true → (1 ≤ count) × (begin + count ≤ n)
lies_in n begin count e =
    let p = both (leb 1 count) _ e in
    let q = both (ltb begin n) (leb count (n - begin)) p.1 in
    (le_of 1 count p.0, omega (arith, ltb-true begin n q.0, le_of count (n - begin) q.1))

pub on_is : (n : ℕ) (c : Clamp) → on_plate n c ≡ true → On n c
on_is n c e =
    let p = both (lies n c.column c.columns) (lies n c.row c.rows) e in
    let x = lies_in n c.column c.columns p.0 in
    let y = lies_in n c.row c.rows p.1 in
    record { some_columns = x.0; some_rows = y.0; wide = x.1; high = y.1 }

-- so is each clamp that is accepted
pub placed_on : (j : Job) (cells cs : List ℕ) → place_refusal j cells cs ≡ 0 → (m : ℕ) → m < 4 → On (columns j) (clamp_at cs m)
unfolding place_refusal
placed_on j cells cs e m h =
    let p = passed_all (place_checks j cells cs) e in
    on_is (columns j) (clamp_at cs m) (every_first (λ k. on_plate (columns j) (clamp_at cs k)) 4 m p.1.1.1.1.0 h)
