-- What a legal job has, as the text of its sheet needs it: small numbers, marks of either kind, zeros past its edges. Assumes nothing.
use Rattle.std.specs.Prelude.{◌≡◌, refl, true, ◌&&◌, ◌⊎◌, List, [], ◌∷◌, ℕ, zero, suc, ◌+◌, ◌*◌, ◌-◌, ◌≤◌, ◌<◌, ℤ, pos, negsuc, get_or, take, drop}
use Rattle.std.proofs.Common.{ap, ◌∙◌, inl, inr, arith, get_or-drop, eqb-true}
use Rattle.std.proofs.Math.Dec.{lit<}
use Rattle.model.specs.declared.Job.{Job}
use Rattle.model.specs.Jobs.{coordinate, is_zero, placed, is_one, spare, kind, marked}
use Rattle.ranges.specs.Zeros.{zero_is}
use Rattle.ranges.specs.Legal.{Between, Coordinate, coordinate_true, coordinate_size, natural, Legal}
use Rattle.integers.specs.Tests.{both, or_true}
use Rattle.sheet_text.specs.Tests.{no_way}
use Rattle.sheet_text.specs.Numbers.{Small}
use Rattle.sheet_text.specs.Forms.{AllSmall}

-- ---- numbers in range are small
pub coordinate_small : (z : ℤ) → Coordinate z → Small z
unfolding Small
coordinate_small z h = omega (arith, coordinate_size z h)

pub natural_small : {lo hi : ℕ} (z : ℤ) → hi < 10000000 → Between (pos lo) (pos hi) z → Small z
unfolding Small
natural_small z k h = omega (arith, (natural z h).most)

-- ---- the places
pub placed_small : (k : ℕ) (vs : List ℤ) → placed k vs ≡ true → AllSmall vs
unfolding placed AllSmall
placed_small k [] h i = unfold Small in lit< tt
placed_small zero (v ∷ vs) h zero = unfold Small in rw (zero_is v (both (is_zero v) (placed 0 vs) h).0) (lit< tt)
placed_small zero (v ∷ vs) h (suc i) = placed_small 0 vs (both (is_zero v) (placed 0 vs) h).1 i
placed_small (suc k) (v ∷ vs) h zero = coordinate_small v (coordinate_true (both (coordinate v) (placed k vs) h).0)
placed_small (suc k) (v ∷ vs) h (suc i) = placed_small k vs (both (coordinate v) (placed k vs) h).1 i

-- zeros from number k on
pub placed_past : (k : ℕ) (vs : List ℤ) → placed k vs ≡ true → (i : ℕ) → k ≤ i → get_or vs i (pos 0) ≡ pos 0
unfolding placed
placed_past k [] h i l = refl
placed_past zero (v ∷ vs) h zero l = zero_is v (both (is_zero v) (placed 0 vs) h).0
placed_past zero (v ∷ vs) h (suc i) l = placed_past 0 vs (both (is_zero v) (placed 0 vs) h).1 i (omega arith)
placed_past (suc k) (v ∷ vs) h zero l = absurd (omega arith)
placed_past (suc k) (v ∷ vs) h (suc i) l = placed_past k vs (both (coordinate v) (placed k vs) h).1 i (omega arith)

pub drop_small : (n : ℕ) (vs : List ℤ) → AllSmall vs → AllSmall (drop n vs)
unfolding AllSmall
drop_small n vs a i = rw get_or-drop (a (n + i))

pub take_small : (n : ℕ) (vs : List ℤ) → AllSmall vs → AllSmall (take n vs)
unfolding AllSmall
take_small zero vs a i = unfold Small in lit< tt
take_small (suc n) [] a i = unfold Small in lit< tt
take_small (suc n) (v ∷ vs) a zero = a 0
take_small (suc n) (v ∷ vs) a (suc i) = take_small n vs (λ k. a (suc k)) i

-- ---- the marks
-- zeros from mark k on
pub marked_past : (k : ℕ) (ms vs : List ℤ) → marked k ms vs ≡ true → (i : ℕ) → k ≤ i → get_or ms i (pos 0) ≡ pos 0
unfolding marked
marked_past k [] vs h i l = refl
marked_past zero (m ∷ ms) vs h zero l = zero_is m (both (is_zero m) (marked 0 ms (drop 8 vs)) h).0
marked_past zero (m ∷ ms) vs h (suc i) l = marked_past 0 ms (drop 8 vs) (both (is_zero m) (marked 0 ms (drop 8 vs)) h).1 i (omega arith)
marked_past (suc k) (m ∷ ms) vs h zero l = absurd (omega arith)
marked_past (suc k) (m ∷ ms) vs h (suc i) l = marked_past k ms (drop 8 vs) (both (kind m vs) (marked k ms (drop 8 vs)) h).1 i (omega arith)

one_is : (z : ℤ) → is_one z ≡ true → z ≡ pos 1
unfolding is_one
one_is (pos n) h = ap pos (eqb-true n 1 h)
one_is (negsuc n) h = no_way h

spare_past : (vs : List ℤ) → spare vs ≡ true → (i : ℕ) → 4 ≤ i → i < 8 → get_or vs i (pos 0) ≡ pos 0
unfolding spare
spare_past vs h i a b =
    let p = both (is_zero (get_or vs 4 (pos 0))) _ h in
    let q = both (is_zero (get_or vs 5 (pos 0))) _ p.1 in
    let r = both (is_zero (get_or vs 6 (pos 0))) (is_zero (get_or vs 7 (pos 0))) q.1 in
    ap (λ k. get_or vs k (pos 0)) (let z : i ≡ 4 + (i - 4) = omega arith in z)
    ∙ at (i - 4) (omega arith) (zero_is (get_or vs 4 (pos 0)) p.0) (zero_is (get_or vs 5 (pos 0)) q.0) (zero_is (get_or vs 6 (pos 0)) r.0) (zero_is (get_or vs 7 (pos 0)) r.1)
  where
    at : (k : ℕ) → k < 4 → get_or vs 4 (pos 0) ≡ pos 0 → get_or vs 5 (pos 0) ≡ pos 0 → get_or vs 6 (pos 0) ≡ pos 0 → get_or vs 7 (pos 0) ≡ pos 0 → get_or vs (4 + k) (pos 0) ≡ pos 0
    at zero l p q r s = p
    at (suc zero) l p q r s = q
    at (suc (suc zero)) l p q r s = r
    at (suc (suc (suc zero))) l p q r s = s
    at (suc (suc (suc (suc k)))) l p q r s = absurd (omega arith)

-- an edge's mark is a cubic's, or it is a line's and the last four numbers are zeros
pub kinds : (m : ℤ) (vs : List ℤ) → kind m vs ≡ true → (m ≡ pos 0) ⊎ ((m ≡ pos 1) × ((i : ℕ) → 4 ≤ i → i < 8 → get_or vs i (pos 0) ≡ pos 0))
unfolding kind
kinds m vs h = go (or_true (is_zero m) (is_one m && spare vs) h)
  where
    go : (is_zero m ≡ true) ⊎ ((is_one m && spare vs) ≡ true) → (m ≡ pos 0) ⊎ ((m ≡ pos 1) × ((i : ℕ) → 4 ≤ i → i < 8 → get_or vs i (pos 0) ≡ pos 0))
    go (inl e) = inl (zero_is m e)
    go (inr e) = let p = both (is_one m) (spare vs) e in inr (one_is m p.0, spare_past vs p.1)

-- ---- the job
-- the numbers of its head and its grain
pub record HeadSmall (j : Job) : Type 0 where
  pub x_small : Small j.x
  pub y_small : Small j.y
  pub n_small : Small j.n
  pub m_small : Small j.m
  pub reach_small : Small j.reach
  pub grain_small : Small j.grain

pub head_small : (j : Job) → Legal j → HeadSmall j
head_small j l =
    let r = l.in_range in
    record {
      x_small = coordinate_small j.x r.x_in;
      y_small = coordinate_small j.y r.y_in;
      n_small = natural_small j.n (lit< tt) r.n_in;
      m_small = natural_small j.m (lit< tt) r.m_in;
      reach_small = natural_small j.reach (lit< tt) r.reach_in;
      grain_small = natural_small j.grain (lit< tt) r.grain_in;
    }

pub edges_small : (j : Job) → Legal j → AllSmall j.places
edges_small j l = placed_small (8 * j.count) j.places l.in_range.places_in
