-- Rows of n bytes: a filled stretch of one row, seen from each cell. Assumes nothing.
use Rattle.std.specs.Prelude.{◌≡◌, Bool, true, false, cond, ◌&&◌, List, ℕ, ◌+◌, ◌*◌, ◌≤◌, ◌<◌, leb, ltb, eqb, length, get_or}
use Rattle.std.proofs.Common.{refl, ap, ◌∙◌, mul-le-mul_right, arith, eqb-true, leb-true, lt-ltb, le-ltb, le-leb, ltb→lt, lt→ltb}
use Rattle.std.proofs.lemmas.Bool.{eqb-false}
use Rattle.integers.specs.Tests.{alike}
use Rattle.sequences.specs.Stretches.{filled, filled_at}
use Rattle.filling.specs.Squares.{among, Drawn}
use Rattle.filling.specs.Places.{in_row}

-- a row below row e ends where row e begins, or before
pub row_end : (j e n : ℕ) → j < e → j * n + n ≤ e * n
row_end j e n h = omega (arith, mul-le-mul_right n h)

-- the rows from r to j, of those from r to below j and row j
rows : (s : Bool) (r y j b x : ℕ) → r ≤ j → cond (eqb y j && s) b (cond (s && (leb r y && ltb y j)) b x) ≡ cond (s && (leb r y && ltb y (j + 1))) b x
rows s r y j b x rj = go (eqb y j) s refl
  where
    go : (t s : Bool) → eqb y j ≡ t → cond (t && s) b (cond (s && (leb r y && ltb y j)) b x) ≡ cond (s && (leb r y && ltb y (j + 1))) b x
    go true true e = let z : y ≡ j = eqb-true y j e in rw (le-leb r y (omega arith), lt-ltb y (j + 1) (omega arith)) refl
    go true false e = refl
    go false s e =
        let z : y ≡ j → ⊥ = eqb-false y j e in
        ap (λ (t : Bool). cond (s && (leb r y && t)) b x)
        (alike (ltb y j) (ltb y (j + 1)) (λ t. lt→ltb y (j + 1) (omega (arith, ltb→lt y j t))) (λ t. lt→ltb y j (omega (arith, z, ltb→lt y (j + 1) t))))

-- the rows from r on and below j
abbrev pub Filled : ℕ → List ℕ → List ℕ → ℕ → ℕ → ℕ → ℕ → ℕ → Type 0
Filled n new old c w r j b = Drawn n new old (λ i y x. cond (among c w i && (leb r y && ltb y j)) b x)

-- no row yet
pub no_rows : (n c w r b : ℕ) (l : List ℕ) → Filled n l l c w r r b
no_rows n c w r b l = record { cells = λ i y h. none (among c w i) y (leb r y) (get_or l (y * n + i) 0) refl }
  where
    none : (s : Bool) (y : ℕ) (t : Bool) (x : ℕ) → leb r y ≡ t → x ≡ cond (s && (t && ltb y r)) b x
    none true y true x e = rw (le-ltb y r (leb-true r y e)) refl
    none true y false x e = refl
    none false y t x e = refl

-- one row more
pub row_more : (n : ℕ) (l old : List ℕ) (c w r j b : ℕ) → r ≤ j → c + w ≤ n → j * n + n ≤ length l → Filled n l old c w r j b → Filled n (filled 0 l (j * n + c) w b) old c w r (j + 1) b
row_more n l old c w r j b rj cw room f = record {
  cells = λ i y h.
      let z : j * n + c + w ≡ j * n + (c + w) = omega arith in
      filled_at 0 l (j * n + c) w b (y * n + i) (omega arith)
      ∙ rw (z, in_row n j c (c + w) i y h cw, f.cells i y h) (rows (among c w i) r y j b (get_or old (y * n + i) 0) rj);
}
