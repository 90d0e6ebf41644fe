-- The loops over a job's places, over a row of points and over a job's marks: number i is tested where i is below n, and is 0 from there on.
-- Assumes nothing.
use Rattle.std.specs.Prelude.{◌≡◌, Bool, true, false, cond, ◌&&◌, List, [], ◌∷◌, ℕ, zero, suc, ◌+◌, ◌-◌, ◌*◌, ◌≤◌, ◌<◌, ltb, ℤ, pos, length, get_or, drop}
use Rattle.std.proofs.Math.Path.{refl, ap}
use Rattle.std.proofs.Common.{sym, ◌∙◌, add-one, arith, drop_of_length-le, drop-cons, drop-drop, ltb-true, ltb-false}
use Rattle.model.specs.Jobs.{coordinate, coordinates, is_zero, kind, placed, marked}

-- of each number i
abbrev pub Test : Type 0
Test = ℕ → ℤ → Bool

-- a place's number is a coordinate wherever it stands
abbrev pub anywhere : Test
anywhere i v = coordinate v

-- a mark is of a kind that the numbers of its edge allow
abbrev pub kind_in : List ℤ → Test
kind_in vs i m = kind m (drop (8 * i) vs)

unfoldable pub turn : Test → ℕ → ℕ → ℤ → Bool
turn P i n v = cond (ltb i n) (P i v) (is_zero v)

-- the numbers from number i on, k of them tested
unfoldable pub run : Test → ℕ → ℕ → List ℤ → Bool
run P k i [] = true
run P zero i (v ∷ vs) = is_zero v && run P zero (i + 1) vs
run P (suc k) i (v ∷ vs) = P i v && run P k (i + 1) vs

module _ (P : Test) where
  step : (n : ℕ) (v : ℤ) (vs : List ℤ) (i : ℕ) → run P (n - i) i (v ∷ vs) ≡ (turn P i n v && run P (n - (i + 1)) (i + 1) vs)
  unfolding turn
  step n v vs i = go (ltb i n) refl
    where
      some : (k : ℕ) → run P (suc k) i (v ∷ vs) ≡ (P i v && run P k (i + 1) vs)
      some k = unfold run in refl

      rest : run P 0 i (v ∷ vs) ≡ (is_zero v && run P 0 (i + 1) vs)
      rest = unfold run in refl

      go : (t : Bool) → ltb i n ≡ t → run P (n - i) i (v ∷ vs) ≡ (cond t (P i v) (is_zero v) && run P (n - (i + 1)) (i + 1) vs)
      go true e = let h = ltb-true i n e in ap (λ k. run P k i (v ∷ vs)) (let z : n - i ≡ suc (n - (i + 1)) = omega arith in z) ∙ some (n - (i + 1))
      go false e =
          let h = ltb-false i n e in
          let z : n - i ≡ 0 = omega arith in
          let y : 0 ≡ n - (i + 1) = omega arith in
          ap (λ k. run P k i (v ∷ vs)) z ∙ rest ∙ ap (λ k. is_zero v && run P k (i + 1) vs) y

  pub run_on : (vs : List ℤ) (n i : ℕ) → i < length vs → run P (n - i) i (drop i vs) ≡ (turn P i n (get_or vs i (pos 0)) && run P (n - (i + 1)) (i + 1) (drop (i + 1) vs))
  run_on vs n i h =
      ap (run P (n - i) i) (drop-cons vs i (pos 0) h) ∙ step n (get_or vs i (pos 0)) (drop (suc i) vs) i
      ∙ ap (λ k. turn P i n (get_or vs i (pos 0)) && run P (n - (i + 1)) (i + 1) (drop k vs)) (sym (add-one i))

  pub run_done : (vs : List ℤ) (n i : ℕ) → length vs ≤ i → run P (n - i) i (drop i vs) ≡ true
  unfolding run
  run_done vs n i h = ap (run P (n - i) i) (drop_of_length-le vs h)

-- ---- the rules' recursions are such loops
pub placed_run : (k i : ℕ) (vs : List ℤ) → placed k vs ≡ run anywhere k i vs
unfolding placed run
placed_run k i [] = refl
placed_run zero i (v ∷ vs) = ap (λ b. is_zero v && b) (placed_run zero (i + 1) vs)
placed_run (suc k) i (v ∷ vs) = ap (λ b. coordinate v && b) (placed_run k (i + 1) vs)

-- of a row all are tested
pub row_run : (i : ℕ) (vs : List ℤ) → coordinates vs ≡ run anywhere (length vs) i vs
unfolding coordinates run
row_run i [] = refl
row_run i (v ∷ vs) = ap (λ b. coordinate v && b) (row_run (i + 1) vs)

next_edge : (vs : List ℤ) (i : ℕ) → drop 8 (drop (8 * i) vs) ≡ drop (8 * (i + 1)) vs
next_edge vs i = drop-drop 8 (8 * i) vs ∙ ap (λ p. drop p vs) (let e : 8 * i + 8 ≡ 8 * (i + 1) = omega arith in e)

pub marked_run : (vs : List ℤ) (k i : ℕ) (ms : List ℤ) → marked k ms (drop (8 * i) vs) ≡ run (kind_in vs) k i ms
unfolding marked run
marked_run vs k i [] = refl
marked_run vs zero i (m ∷ ms) = ap (λ b. is_zero m && b) (ap (marked zero ms) (next_edge vs i) ∙ marked_run vs zero (i + 1) ms)
marked_run vs (suc k) i (m ∷ ms) = ap (λ b. kind m (drop (8 * i) vs) && b) (ap (marked k ms) (next_edge vs i) ∙ marked_run vs k (i + 1) ms)
