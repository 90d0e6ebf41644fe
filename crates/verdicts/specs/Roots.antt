-- `root n` is the least whole number whose square is n or more. Assumes nothing.
use Rattle.std.specs.Prelude.{Bool, true, false, not, ℕ, zero, suc, ◌+◌, ◌*◌, ◌-◌, ◌/◌, ◌≤◌, ◌<◌, T, leb}
use Rattle.std.proofs.Common.{mul-le-mul, arith, leb→le}
use Rattle.std.proofs.Math.Decide.{dec_le}
use Rattle.std.proofs.Math.Dec.{nleb→lt}
use Rattle.model.specs.Roots.{root, root_by, pick}

-- a test's two cases
cases : (b : Bool) {A : Type 0} → (P : A → Type 0) → {x y : A} → (T b → P x) → (T (not b) → P y) → P (elim b [ true ↦ x | false ↦ y ])
cases true P f g = f tt
cases false P f g = g tt

pick_reaches : (n h : ℕ) → (n + 3) / 4 ≤ h * h → n ≤ pick n h * pick n h
pick_reaches n h k =
    cases (leb n ((h + h - 1) * (h + h - 1))) (λ l. n ≤ l * l) (λ t. leb→le n ((h + h - 1) * (h + h - 1)) t) (λ t. omega arith)

reaches : (f n : ℕ) → n ≤ root_by f n * root_by f n
unfolding root_by
reaches zero n = square n
  where
    square : (n : ℕ) → n ≤ n * n
    square zero = omega arith
    square (suc n) = omega arith
reaches (suc f) n =
    cases (leb n 1) (λ l. n ≤ l * l) (λ t. small n (leb→le n 1 t)) (λ t. pick_reaches n (root_by f ((n + 3) / 4)) (reaches f ((n + 3) / 4)))
  where
    small : (n : ℕ) → n ≤ 1 → n ≤ n * n
    small zero h = omega arith
    small (suc n) h = omega arith

pub root_reaches : (n : ℕ) → n ≤ root n * root n
unfolding root
root_reaches n = reaches n n

-- a number whose square is smaller is smaller
less : (a k n : ℕ) → a * a < n → n ≤ k * k → a < k
less a k n h l = elim (dec_le k a) [ yes p ↦ absurd (let m : k * k ≤ a * a = mul-le-mul p p in omega arith) | no p ↦ omega arith ]

-- half of k, rounded up, has at least a quarter of the square
half_square : (k : ℕ) → k * k ≤ 4 * (((k + 1) / 2) * ((k + 1) / 2))
half_square k = go k ((k + 1) / 2) (omega arith)
  where
    go : (k j : ℕ) → k ≤ 2 * j → k * k ≤ 4 * (j * j)
    go k j h = let m : k * k ≤ (2 * j) * (2 * j) = mul-le-mul h h in omega arith

pick_least : (n h k : ℕ) → ((j : ℕ) → (n + 3) / 4 ≤ j * j → h ≤ j) → n ≤ k * k → pick n h ≤ k
pick_least n h k f l =
    cases (leb n ((h + h - 1) * (h + h - 1))) (λ r. r ≤ k)
    (λ t. let m : h ≤ (k + 1) / 2 = f ((k + 1) / 2) (quarter n k ((k + 1) / 2 * ((k + 1) / 2)) l (half_square k)) in omega arith)
    (λ t. let m : h + h - 1 < k = less (h + h - 1) k n (nleb→lt n ((h + h - 1) * (h + h - 1)) t) l in omega arith)
  where
    quarter : (n k q : ℕ) → n ≤ k * k → k * k ≤ 4 * q → (n + 3) / 4 ≤ q
    quarter n k q h l = omega arith

least : (f n k : ℕ) → n ≤ f + 1 → n ≤ k * k → root_by f n ≤ k
unfolding root_by
least zero n k e h = tiny n k (omega arith) h
  where
    tiny : (n k : ℕ) → n ≤ 1 → n ≤ k * k → n ≤ k
    tiny n zero h l = omega arith
    tiny n (suc k) h l = omega arith
least (suc f) n k e h =
    cases (leb n 1) (λ r. r ≤ k) (λ t. tiny n k (leb→le n 1 t) h)
    (λ t. let big : 1 < n = nleb→lt n 1 t in pick_least n (root_by f ((n + 3) / 4)) k (λ j l. least f ((n + 3) / 4) j (omega arith) l) h)
  where
    tiny : (n k : ℕ) → n ≤ 1 → n ≤ k * k → n ≤ k
    tiny n zero h l = omega arith
    tiny n (suc k) h l = omega arith

pub root_least : (n k : ℕ) → n ≤ k * k → root n ≤ k
unfolding root
root_least n k h = least n n k (omega arith) h

-- both at once: the smallest whole number whose square is at least n
pub root_smallest : (n : ℕ) → (n ≤ root n * root n) × ((k : ℕ) → n ≤ k * k → root n ≤ k)
root_smallest n = (root_reaches n, root_least n)
