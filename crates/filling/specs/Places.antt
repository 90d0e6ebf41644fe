-- Rows of n bytes: cell (i, y) is in a stretch of row j just where y is j and i is one of the stretch's columns. Assumes nothing.
use Rattle.std.specs.Prelude.{◌≡◌, Bool, ◌&&◌, ℕ, ◌+◌, ◌*◌, ◌≤◌, ◌<◌, T, leb, ltb, eqb}
use Rattle.std.proofs.Common.{ap, mul-le-mul_right, arith, lt-ltb, le-leb, eq-eqb, leb→le, ltb→lt, eqb→eq}
use Rattle.integers.specs.Tests.{alike, t_both}

-- is i from lo on and below hi?
abbrev pub from : ℕ → ℕ → ℕ → Bool
from lo hi i = leb lo i && ltb i hi

module _ (n j lo hi i y : ℕ) (i< : i < n) (hi≤ : hi ≤ n) where
  same_row : j * n + lo ≤ y * n + i → y * n + i < j * n + hi → y ≡ j
  same_row p q =
      let f : y < j → ⊥ = λ h. omega (arith, p, i<, mul-le-mul_right n h) in
      let g : j < y → ⊥ = λ h. omega (arith, q, hi≤, mul-le-mul_right n h) in
      omega (arith, f, g)

  pub in_row : from (j * n + lo) (j * n + hi) (y * n + i) ≡ (eqb y j && from lo hi i)
  in_row = alike (from (j * n + lo) (j * n + hi) (y * n + i)) (eqb y j && from lo hi i) there back
    where
      there : T (from (j * n + lo) (j * n + hi) (y * n + i)) → T (eqb y j && from lo hi i)
      there t =
          let s = t_both (leb (j * n + lo) (y * n + i)) (ltb (y * n + i) (j * n + hi)) t in
          let p : j * n + lo ≤ y * n + i = leb→le _ _ s.0 in
          let q : y * n + i < j * n + hi = ltb→lt _ _ s.1 in
          let e : y ≡ j = same_row p q in
          let m : y * n ≡ j * n = ap (λ (r : ℕ). r * n) e in
          rw (eq-eqb y j e, le-leb lo i (omega (arith, m, p)), lt-ltb i hi (omega (arith, m, q))) tt

      back : T (eqb y j && from lo hi i) → T (from (j * n + lo) (j * n + hi) (y * n + i))
      back t =
          let s = t_both (eqb y j) (from lo hi i) t in
          let u = t_both (leb lo i) (ltb i hi) s.1 in
          let p : lo ≤ i = leb→le _ _ u.0 in
          let q : i < hi = ltb→lt _ _ u.1 in
          let m : y * n ≡ j * n = ap (λ (r : ℕ). r * n) (eqb→eq y j s.0) in
          rw (le-leb (j * n + lo) (y * n + i) (omega (arith, m, p)), lt-ltb (y * n + i) (j * n + hi) (omega (arith, m, q))) tt
