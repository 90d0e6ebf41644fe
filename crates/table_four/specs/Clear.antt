-- RULES, "Clamps": a go, and what is clear before the first that is not. Assumes nothing.
use Rattle.std.specs.Prelude.{◌≡◌, refl, Bool, true, false, List, ℕ, zero, suc, ◌+◌, ◌*◌, ◌-◌, ◌≤◌, ◌<◌, T, eqb, get_or}
use Rattle.std.proofs.Common.{sym, ◌∙◌, subst, arith, eqb-true}
use Rattle.model.specs.declared.Job.{Job}
use Rattle.model.specs.Refusals.{accepted}
use Rattle.model.specs.Plates.{columns}
use Rattle.table_four.specs.Answers.{Placed}
use Rattle.table_four.specs.declared.Clamp.{Clamp}
use Rattle.table_four.specs.Table.{clamp_at, is_clear, clear_cells, clear_rows, clear_clamps, place_refusal, turned_away, gone, stopped, either, placed_by, place}
use Rattle.table_four.specs.Leading.{leading_pass, every_pass, leading_first}
use Rattle.table_four.specs.Cases.{UnderCell}

-- ---- a go: nothing is refused, and all four clamps are clear
either_go : (b : Bool) (p q : Placed) → q.go ≡ false → (either b p q).go ≡ true → b ≡ true
either_go true p q h e = refl
either_go false p q h e = sym h ∙ e

go_cases : (n : ℕ) (cells cs : List ℕ) (r k : ℕ) → (accepted r (placed_by n cells cs k) (turned_away r)).go ≡ true → (r ≡ 0) × (k ≡ 4)
unfolding accepted placed_by
go_cases n cells cs zero k e = (refl, eqb-true k 4 (either_go (eqb k 4) gone (stopped n cells (clamp_at cs k) k) refl e))
go_cases n cells cs (suc r) k e = absurd (subst T (sym e) tt)

pub gone_is : (j : Job) (cells cs : List ℕ) → (place j cells cs).go ≡ true → (place_refusal j cells cs ≡ 0) × (clear_clamps (columns j) cells cs ≡ 4)
unfolding place
gone_is j cells cs e = go_cases (columns j) cells cs (place_refusal j cells cs) (clear_clamps (columns j) cells cs) e

-- ---- of the first clear rows of a clamp every cell is C, and so of a clear clamp
pub clamp_clear : (n : ℕ) (cells : List ℕ) (c : Clamp) (m : ℕ) → m ≤ clear_rows n cells c → (i k : ℕ) → UnderCell c i k → k < c.row + m → get_or cells (k * n + i) 0 ≡ 67
clamp_clear n cells c m h i k u l = row_clear n cells c k i u.left u.right (subst (λ (r : ℕ). eqb (clear_cells n cells c r) c.columns ≡ true) (let z : c.row + (k - c.row) ≡ k = omega (arith, u.low) in z) (leading_pass (λ r. eqb (clear_cells n cells c r) c.columns) c.rows c.row (k - c.row) (omega (arith, u.low, l, h))))
  where
    row_clear : (n : ℕ) (cells : List ℕ) (c : Clamp) (k i : ℕ) → c.column ≤ i → i < c.column + c.columns → eqb (clear_cells n cells c k) c.columns ≡ true → get_or cells (k * n + i) 0 ≡ 67
    row_clear n cells c k i a b e =
        eqb-true (get_or cells (k * n + i) 0) 67
        (subst (λ (p : ℕ). is_clear cells p ≡ true) (let z : k * n + c.column + (i - c.column) ≡ k * n + i = omega (arith, a) in z)
        (every_pass (is_clear cells) c.columns (k * n + c.column) (i - c.column) e (omega (arith, a, b))))

pub clamps_clear : (n : ℕ) (cells cs : List ℕ) (m : ℕ) → m < clear_clamps n cells cs → (i k : ℕ) → UnderCell (clamp_at cs m) i k → get_or cells (k * n + i) 0 ≡ 67
clamps_clear n cells cs m h i k u =
    let c : Clamp = clamp_at cs m in
    let e : eqb (clear_rows n cells c) c.rows ≡ true = leading_first (λ k. eqb (clear_rows n cells (clamp_at cs k)) (clamp_at cs k).rows) 4 m h in
    let q : clear_rows n cells c ≡ c.rows = eqb-true (clear_rows n cells c) c.rows e in
    clamp_clear n cells c c.rows (omega (arith, q)) i k u u.high
