-- The next level, a row at a time. Assumes nothing.
use Rattle.std.specs.Prelude.{◌≡◌, Bool, not, ◌&&◌, List, ℕ, suc, ◌+◌, ◌≤◌, ◌<◌, T, leb, ltb, get_or}
use Rattle.std.proofs.Common.{refl, sym, ap, ap₂, ◌∙◌, subst, arith, leb→le, ltb→lt, lt→ltb}
use Rattle.std.proofs.Math.Decide.{dec_le}
use Rattle.integers.specs.Tests.{t_both, t_pair}
use Rattle.spans.specs.declared.Span.{Span}
use Rattle.spans.specs.Among.{among}
use Rattle.levels.specs.Open.{Fits, place_of, closed, span_in, open_in, normal_of, normal_same, normal_most}
use Rattle.columns.specs.declared.Frame.{Frame}
use Rattle.columns.specs.declared.View.{View}
use Rattle.columns.specs.Views.{away_in, inside_in}
use Rattle.filling.specs.Squares.{Drawn}
use Rattle.raising.specs.Raised.{raised}
use Rattle.rows.specs.Levels.{Narrowed}
use Rattle.rows.proofs.Tests.{guarded, regroup}

-- a stretch that was read goes no farther than column n
pub read_most : {n : ℕ} {c : Span} (l : List Span) (p : ℕ) → Fits n l → c ≡ get_or l p closed → c.hi ≤ n
read_most {n} l p h e = subst (λ (x : Span). x.hi ≤ n) (sym e) (h p).1

-- no row yet
pub none_narrowed : (f : Frame) (v : View) (d a : ℕ) (l : List Span) → Fits f.n l → Narrowed f v d (record { lo = a; hi = a }) l l
none_narrowed f v d a l h = record { fits = h; kept = λ i j t. absurd (none j t); same = λ k j a b. refl }
  where
    none : (j : ℕ) → T (leb a j && ltb j a) → ⊥
    none j t = let p = t_both (leb a j) (ltb j a) t in let x : a ≤ j = leb→le a j p.0 in let y : j < a = ltb→lt j a p.1 in omega arith

-- row j: `left` is written, and it is what was open there and not away
module _ (f : Frame) (v : View) (d a j : ℕ) (l₀ l l' : List Span) (left : Span)
    (N : Narrowed f v d (record { lo = a; hi = j }) l₀ l) (few : j < 256) (there : span_in l' (d + 1) j ≡ normal_of left)
    (others : (k : ℕ) → (k ≡ place_of (d + 1) j → ⊥) → get_or l' k closed ≡ get_or l k closed) (fits : left.hi ≤ f.n) (n_few : f.n ≤ 256)
    (is : (i : ℕ) → among left i ≡ (open_in l d i j && not (away_in f v i j))) where
  -- what stands elsewhere
  stays : (k y : ℕ) → (place_of k y ≡ place_of (d + 1) j → ⊥) → span_in l' k y ≡ span_in l k y
  stays k y h = others (place_of k y) h

  lower : (k y : ℕ) → k ≤ d → y < 256 → span_in l' k y ≡ span_in l k y
  lower k y h l = stays k y (λ e. omega arith)

  before : (y : ℕ) → y < j → span_in l' (suc d) y ≡ span_in l (suc d) y
  before y h = stays (suc d) y (λ e. omega arith)

  here : (i : ℕ) → open_in l' (suc d) i j ≡ (open_in l₀ d i j && not (away_in f v i j))
  here i =
      let e : suc d ≡ d + 1 = omega arith in
      ap (λ (k : ℕ). open_in l' k i j) e ∙ ap (λ (c : Span). among c i) there ∙ normal_same left i ∙ is i
      ∙ ap (λ (c : Span). among c i && not (away_in f v i j)) (N.same d j (omega arith) few)

  pub row_narrowed : Narrowed f v d (record { lo = a; hi = j + 1 }) l₀ l'
  row_narrowed = record {
    fits = λ k. elim (dec_le k (place_of (d + 1) j)) [
      | yes p ↦ elim (dec_le (place_of (d + 1) j) k) [
        | yes q ↦ at_place k (omega arith)
        | no q ↦ away_from k (λ e. omega arith)
      ]
      | no p ↦ away_from k (λ e. omega arith)
    ];
    kept = λ i y t.
        let p = t_both (leb a y) (ltb y (j + 1)) t in
        let l : y < j + 1 = ltb→lt y (j + 1) p.1 in
        elim (dec_le j y) [
          | yes q ↦ subst (λ (z : ℕ). open_in l' (suc d) i z ≡ (open_in l₀ d i z && not (away_in f v i z))) (omega arith) (here i)
          | no q ↦ ap (λ (c : Span). among c i) (before y (omega arith)) ∙ N.kept i y (t_pair (leb a y) (ltb y j) p.0 (lt→ltb y j (omega arith)))
        ];
    same = λ k y h l. lower k y h l ∙ N.same k y h l;
  }
    where
      at_place : (k : ℕ) → place_of (d + 1) j ≡ k → ((get_or l' k closed).lo ≤ 256) × ((get_or l' k closed).hi ≤ f.n)
      at_place k e =
          let m = normal_most left f.n fits in
          subst (λ (z : ℕ). ((get_or l' z closed).lo ≤ 256) × ((get_or l' z closed).hi ≤ f.n)) e (subst (λ (c : Span). (c.lo ≤ 256) × (c.hi ≤ f.n)) (sym there) (omega (arith, m.0, n_few), m.1))

      away_from : (k : ℕ) → (k ≡ place_of (d + 1) j → ⊥) → ((get_or l' k closed).lo ≤ 256) × ((get_or l' k closed).hi ≤ f.n)
      away_from k h = subst (λ (z : Span). (z.lo ≤ 256) × (z.hi ≤ f.n)) (sym (others k h)) (N.fits k)

-- all rows
pub rows_narrowed : (f : Frame) (v : View) (d j : ℕ) (rows : Span) (l l' : List Span) → rows.hi ≤ j → Narrowed f v d (record { lo = rows.lo; hi = j }) l l' → Narrowed f v d rows l l'
rows_narrowed f v d j rows l l' h N = record {
  fits = N.fits;
  kept = λ i y t. let p = t_both (leb rows.lo y) (ltb y rows.hi) t in N.kept i y (t_pair (leb rows.lo y) (ltb y j) p.0 (lt→ltb y j (omega (arith, ltb→lt y rows.hi p.1))));
  same = N.same;
}

-- what is open at the next level, in these rows, by the level before
pub next_open : (f : Frame) (v : View) (d : ℕ) (rows : Span) (l l' : List Span) → Narrowed f v d rows l l' → (i j : ℕ) → (among rows j && open_in l' (suc d) i j) ≡ (among rows j && open_in l d i j && not (away_in f v i j))
next_open f v d rows l l' N i j =
    guarded (among rows j) (open_in l' (suc d) i j) (open_in l d i j && not (away_in f v i j)) (N.kept i j) ∙ regroup (among rows j) (open_in l d i j) (not (away_in f v i j))

-- of a leaf what the next level leaves open becomes D
pub leaf_drawn : {f : Frame} {v : View} {d : ℕ} {rows : Span} {l l' : List Span} {old mid new : List ℕ} → Drawn f.n mid old (λ i j. raised (among rows j && open_in l d i j && inside_in f v i j) 73) → Narrowed f v d rows l l'
    → Drawn f.n new mid (λ i j. raised (among rows j && open_in l' (d + 1) i j) 68)
    → Drawn f.n new old (λ i j x. raised (among rows j && open_in l d i j && not (away_in f v i j)) 68 (raised (among rows j && open_in l d i j && inside_in f v i j) 73 x))
leaf_drawn {f} {v} {d} {rows} {l} {l'} D N E = record {
  cells = λ i j i<.
      E.cells i j i<
      ∙ ap₂ (λ (t : Bool) (x : ℕ). raised t 68 x) (ap (λ (k : ℕ). among rows j && open_in l' k i j) up ∙ next_open f v d rows l l' N i j) (D.cells i j i<);
}
  where
    up : d + 1 ≡ suc d
    up = omega arith
