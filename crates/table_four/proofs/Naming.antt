-- RULES, "Clamps": when it is a go (`place_go`), what is named otherwise (`place_names`, `names_one`) and when nothing is (`place_nothing`).
-- Assumes nothing.
use Rattle.std.specs.Prelude.{◌≡◌, refl, Bool, true, false, List, ℕ, ◌+◌, ◌*◌, ◌-◌, ◌≤◌, ◌<◌, T, eqb, get_or}
use Rattle.std.proofs.Common.{sym, ap, ◌∙◌, subst, arith, eqb-true, eq-eqb, ne_eqb}
use Rattle.std.proofs.lemmas.Bool.{eqb-false}
use Rattle.model.specs.declared.Job.{Job}
use Rattle.model.specs.Plates.{columns}
use Rattle.ranges.specs.Refusals.{accepted_is, refused_is}
use Rattle.table_four.specs.declared.Clamp.{Clamp}
use Rattle.table_four.specs.Answers.{Placed}
use Rattle.table_four.specs.Table.{clamp_at, is_clear, clear_cells, clear_rows, clear_clamps, place_refusal, turned_away, gone, stopped, either, placed_by, place}
use Rattle.table_four.specs.Leading.{leading_pass, leading_stop, not_all}
use Rattle.table_four.specs.Clear.{gone_is, clamp_clear, clamps_clear}
use Rattle.table_four.specs.Lowest.{refusal_is}
use Rattle.table_four.specs.Promises.{AllClear, PlaceGo, Names, PlaceNames, NamesOne, Nothing, PlaceNothing}

-- ---- the first cell that is not C
module _ (j : Job) (cells cs : List ℕ) (four : clear_clamps (columns j) cells cs < 4) where
  abbrev n : ℕ
  n = columns j

  abbrev m : ℕ
  m = clear_clamps n cells cs

  abbrev c : Clamp
  c = clamp_at cs m

  abbrev above : ℕ
  above = clear_rows n cells c

  some_row : above < c.rows
  some_row =
      not_all (λ r. eqb (clear_cells n cells c r) c.columns) c.rows c.row
      (λ z. eqb-false (clear_rows n cells (clamp_at cs (0 + m))) (clamp_at cs (0 + m)).rows (leading_stop (λ k. eqb (clear_rows n cells (clamp_at cs k)) (clamp_at cs k).rows) 4 0 four) (same z))
    where
      same : clear_rows n cells (clamp_at cs m) ≡ (clamp_at cs m).rows → clear_rows n cells (clamp_at cs (0 + m)) ≡ (clamp_at cs (0 + m)).rows
      same z = subst (λ (u : ℕ). clear_rows n cells (clamp_at cs u) ≡ (clamp_at cs u).rows) (let w : m ≡ 0 + m = omega arith in w) z

  abbrev row : ℕ
  row = c.row + above

  abbrev left : ℕ
  left = clear_cells n cells c row

  some_cell : left < c.columns
  some_cell = not_all (is_clear cells) c.columns (row * n + c.column) (eqb-false left c.columns (leading_stop (λ r. eqb (clear_cells n cells c r) c.columns) c.rows c.row some_row))

  cell_not : get_or cells (row * n + (c.column + left)) 0 ≡ 67 → ⊥
  cell_not e = eqb-false (get_or cells (row * n + c.column + left) 0) 67 (leading_stop (is_clear cells) c.columns (row * n + c.column) some_cell) (ap (λ (p : ℕ). get_or cells p 0) (let w : row * n + c.column + left ≡ row * n + (c.column + left) = omega arith in w) ∙ e)

  row_left : (a : ℕ) → c.column ≤ a → a < c.column + left → get_or cells (row * n + a) 0 ≡ 67
  row_left a l h =
      ap (λ (p : ℕ). get_or cells p 0) (let w : row * n + a ≡ row * n + c.column + (a - c.column) = omega (arith, l) in w)
      ∙ eqb-true (get_or cells (row * n + c.column + (a - c.column)) 0) 67 (leading_pass (is_clear cells) c.columns (row * n + c.column) (a - c.column) (omega (arith, l, h)))

  pub first_cell : Names j cells cs m (c.column + left) row
  first_cell = record {
    of_four = four;
    under = record { left = omega arith; right = omega (arith, some_cell); low = omega arith; high = omega (arith, some_row) };
    not_clear = cell_not;
    earlier = λ l h a b u. clamps_clear n cells cs l h a b u;
    lower = λ a b u h. clamp_clear n cells c above (omega arith) a b u h;
    leftward = λ a u h. row_left a u.left h;
  }

-- ---- an accepted answer
accepted_answer : (j : Job) (cells cs : List ℕ) → (place j cells cs).refusal ≡ 0 → place j cells cs ≡ placed_by (columns j) cells cs (clear_clamps (columns j) cells cs)
unfolding place
accepted_answer j cells cs e = accepted_is (place_refusal j cells cs) (placed_by (columns j) cells cs (clear_clamps (columns j) cells cs)) (turned_away (place_refusal j cells cs)) (sym (refusal_is j cells cs) ∙ e)

by_four : (n : ℕ) (cells cs : List ℕ) (k : ℕ) → k ≡ 4 → placed_by n cells cs k ≡ gone
unfolding placed_by
by_four n cells cs k e = ap (λ (b : Bool). either b gone (stopped n cells (clamp_at cs k) k)) (eq-eqb k 4 e)

by_fewer : (n : ℕ) (cells cs : List ℕ) (k : ℕ) → (k ≡ 4 → ⊥) → placed_by n cells cs k ≡ stopped n cells (clamp_at cs k) k
unfolding placed_by
by_fewer n cells cs k e = ap (λ (b : Bool). either b gone (stopped n cells (clamp_at cs k) k)) (ne_eqb k 4 e)

fewer : (j : Job) (cells cs : List ℕ) → (clear_clamps (columns j) cells cs ≡ 4 → ⊥) → clear_clamps (columns j) cells cs < 4
fewer j cells cs h = not_all (λ k. eqb (clear_rows (columns j) cells (clamp_at cs k)) (clamp_at cs k).rows) 4 0 h

pub place_go : PlaceGo
place_go j cells cs e = (there, back)
  where
    there : (place j cells cs).go ≡ true → AllClear j cells cs
    there g m l i k u = clamps_clear (columns j) cells cs m (omega (arith, l, (gone_is j cells cs g).1)) i k u

    back : AllClear j cells cs → (place j cells cs).go ≡ true
    back all = ap (λ (p : Placed). p.go) (accepted_answer j cells cs e ∙ by_four (columns j) cells cs (clear_clamps (columns j) cells cs) (go (eqb (clear_clamps (columns j) cells cs) 4) refl))
      where
        go : (b : Bool) → eqb (clear_clamps (columns j) cells cs) 4 ≡ b → clear_clamps (columns j) cells cs ≡ 4
        go true q = eqb-true (clear_clamps (columns j) cells cs) 4 q
        go false q = let f = first_cell j cells cs (fewer j cells cs (eqb-false (clear_clamps (columns j) cells cs) 4 q)) in absurd (f.not_clear (all _ f.of_four _ _ f.under))

pub place_names : PlaceNames
place_names j cells cs e g =
    subst (λ (p : Placed). Names j cells cs p.clamp p.column p.row) (sym (accepted_answer j cells cs e ∙ by_fewer (columns j) cells cs (clear_clamps (columns j) cells cs) not_four)) (first_cell j cells cs (fewer j cells cs not_four))
  where
    not_four : clear_clamps (columns j) cells cs ≡ 4 → ⊥
    not_four z = subst T (ap (λ (p : Placed). p.go) (sym (accepted_answer j cells cs e ∙ by_four (columns j) cells cs (clear_clamps (columns j) cells cs) z)) ∙ g) tt

-- ---- one clamp and one cell
module _ (j : Job) (cells cs : List ℕ) where
  not_earlier : (m i k l a b : ℕ) → Names j cells cs m i k → Names j cells cs l a b → m < l → ⊥
  not_earlier m i k l a b p q h = p.not_clear (q.earlier m h i k p.under)

  not_lower : (m i k a b : ℕ) → Names j cells cs m i k → Names j cells cs m a b → k < b → ⊥
  not_lower m i k a b p q h = p.not_clear (q.lower i k p.under h)

  not_left : (m i k a : ℕ) → Names j cells cs m i k → Names j cells cs m a k → i < a → ⊥
  not_left m i k a p q h = p.not_clear (q.leftward i p.under h)

both_ways : (m l : ℕ) → (m < l → ⊥) → (l < m → ⊥) → m ≡ l
both_ways m l h k = omega (arith, h, k)

pub names_one : NamesOne
names_one j cells cs m i k l a b p q =
    let x : m ≡ l = both_ways m l (not_earlier j cells cs m i k l a b p q) (not_earlier j cells cs l a b m i k q p) in
    let r : Names j cells cs m a b = subst (λ (u : ℕ). Names j cells cs u a b) (sym x) q in
    let y : k ≡ b = both_ways k b (not_lower j cells cs m i k a b p r) (not_lower j cells cs m a b i k r p) in
    let s : Names j cells cs m a k = subst (λ (u : ℕ). Names j cells cs m a u) (sym y) r in
    (x, both_ways i a (not_left j cells cs m i k a p s) (not_left j cells cs m a k i s p), y)

-- ---- a refusal, and a go
refused_answer : (j : Job) (cells cs : List ℕ) → ((place j cells cs).refusal ≡ 0 → ⊥) → place j cells cs ≡ turned_away (place_refusal j cells cs)
unfolding place
refused_answer j cells cs h = refused_is (place_refusal j cells cs) (placed_by (columns j) cells cs (clear_clamps (columns j) cells cs)) (turned_away (place_refusal j cells cs)) (λ z. h (refusal_is j cells cs ∙ z))

pub place_nothing : PlaceNothing
place_nothing j cells cs = (refused, go)
  where
    refused : ((place j cells cs).refusal ≡ 0 → ⊥) → ((place j cells cs).go ≡ false) × Nothing (place j cells cs)
    refused h = subst (λ (p : Placed). (p.go ≡ false) × Nothing p) (sym (refused_answer j cells cs h)) (refl, (refl, refl, refl))

    go : (place j cells cs).go ≡ true → Nothing (place j cells cs)
    go g =
        let q = gone_is j cells cs g in
        subst Nothing (sym (accepted_answer j cells cs (refusal_is j cells cs ∙ q.0) ∙ by_four (columns j) cells cs (clear_clamps (columns j) cells cs) q.1)) (refl, refl, refl)
