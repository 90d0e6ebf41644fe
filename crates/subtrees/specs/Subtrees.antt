-- The subtree of a piece, for any strips: what the code's tests say of it, how many nodes it has, and its halves. Assumes nothing.
use Rattle.std.specs.Prelude.{◌≡◌, Bool, ℤ}
use Rattle.std.proofs.Math.Path.{refl, ap}
use Rattle.std.proofs.Common.{sym, ◌∙◌, subst, add-one, pow-suc, le_refl, mul-le-mul, lt_of_lt_of_le, pow_mono}
use Rattle.std.proofs.Math.Bool.{true, false}
use Prim.Native.Nat.{ℕ, zero, suc, ◌+◌, ◌*◌, ◌-◌, ◌^◌, ◌≤◌, ◌<◌}
use native.Mathlib.Omega.{arith}
use Rattle.std.proofs.Math.Dec.{T}
use Rattle.std.proofs.Math.Pow.{pow_pos}
use Rattle.integers.specs.Tests.{or_false}
use Rattle.model.specs.Strips.{Strip, short}
use Rattle.model.specs.Trees.{Tree, leaf, long, node, pieces, deepest, is_long}
use Rattle.model.specs.Store.{width, size}
use Rattle.subtrees.specs.Preorder.{top}

-- the subtree of piece k of depth d: a whole edge's tree is that of piece 0 of depth 0
abbrev pub subtree : ℤ → (ℕ → ℕ → Strip) → ℕ → ℕ → Tree
subtree T s d k = pieces T s (deepest - d) d k

-- ---- a piece of an edge
pub record PieceAt (d k : ℕ) : Type 0 where
  pub depth : d ≤ deepest
  pub place : k < 2 ^ d

pub whole_edge : PieceAt 0 0
whole_edge = record { depth = omega arith; place = omega arith }

twice : (d : ℕ) → 2 ^ (d + 1) ≡ 2 * 2 ^ d
twice d = rw (add-one d, pow-suc 2 d) (omega arith)

pub left_half : {d k : ℕ} → PieceAt d k → (d ≡ deepest → ⊥) → PieceAt (d + 1) (2 * k)
left_half {d} {k} p z = record { depth = omega (arith, p.depth, z); place = omega (arith, p.place, twice d) }

pub right_half : {d k : ℕ} → PieceAt d k → (d ≡ deepest → ⊥) → PieceAt (d + 1) (2 * k + 1)
right_half {d} {k} p z = record { depth = omega (arith, p.depth, z); place = omega (arith, p.place, twice d) }

pub place_most : {d k : ℕ} → PieceAt d k → k < 2 ^ deepest
place_most {d} p = lt_of_lt_of_le p.place (pow_mono {i = d} {j = deepest} p.depth)

-- ---- the subtree by the tests
module _ (T : ℤ) (s : ℕ → ℕ → Strip) where
  abbrev end : ℕ → ℕ → Bool → Tree
  end d k t = elim t [ true ↦ leaf (s d k) | false ↦ long (s d k) ]

  abbrev fork : ℕ → ℕ → ℕ → Bool → Tree
  fork left d k t = elim t [ true ↦ leaf (s d k) | false ↦ node (s d k) (pieces T s left (d + 1) (2 * k)) (pieces T s left (d + 1) (2 * k + 1)) ]

  short_piece : (left d k : ℕ) → short T (s d k) ≡ true → pieces T s left d k ≡ leaf (s d k)
  unfolding pieces
  short_piece zero d k e = ap (end d k) e
  short_piece (suc left) d k e = ap (fork left d k) e

  long_piece : (left d k : ℕ) → short T (s d k) ≡ false → left ≡ 0 → pieces T s left d k ≡ long (s d k)
  unfolding pieces
  long_piece zero d k e z = ap (end d k) e
  long_piece (suc left) d k e z = absurd (omega arith)

  node_piece : (left more d k : ℕ) → short T (s d k) ≡ false → left ≡ suc more → pieces T s left d k ≡ node (s d k) (pieces T s more (d + 1) (2 * k)) (pieces T s more (d + 1) (2 * k + 1))
  unfolding pieces
  node_piece zero more d k e z = absurd (omega arith)
  node_piece (suc left) more d k e z = let p : left ≡ more = omega arith in ap (fork left d k) e ∙ ap (λ (f : ℕ). fork f d k false) p

  top_piece : (left d k : ℕ) → top (pieces T s left d k) ≡ s d k
  unfolding pieces
  top_piece zero d k = go (short T (s d k))
    where
      go : (t : Bool) → top (end d k t) ≡ s d k
      go true = refl
      go false = refl
  top_piece (suc left) d k = go (short T (s d k))
    where
      go : (t : Bool) → top (fork left d k t) ≡ s d k
      go true = refl
      go false = refl

  -- at most 2 · 2^left − 1 nodes
  size_below : (left d k : ℕ) → size (pieces T s left d k) < 2 * 2 ^ left
  unfolding pieces
  size_below zero d k = go (short T (s d k))
    where
      go : (t : Bool) → size (end d k t) < 2 * 2 ^ 0
      go true = omega arith
      go false = omega arith
  size_below (suc left) d k = rw (pow-suc 2 left) (go (short T (s d k)) (size_below left (d + 1) (2 * k)) (size_below left (d + 1) (2 * k + 1)))
    where
      go : (t : Bool) → size (pieces T s left (d + 1) (2 * k)) < 2 * 2 ^ left → size (pieces T s left (d + 1) (2 * k + 1)) < 2 * 2 ^ left → size (fork left d k t) < 2 * (2 ^ left * 2)
      go true h i = let p : 0 < 2 ^ left = pow_pos left in omega arith
      go false h i = omega arith

  pub at_short : (d k : ℕ) → short T (s d k) ≡ true → subtree T s d k ≡ leaf (s d k)
  at_short d k e = short_piece (deepest - d) d k e

  pub at_long : (d k : ℕ) → short T (s d k) ≡ false → d ≡ deepest → subtree T s d k ≡ long (s d k)
  at_long d k e z = long_piece (deepest - d) d k e (omega arith)

  pub at_node : (d k : ℕ) → short T (s d k) ≡ false → d ≤ deepest → (d ≡ deepest → ⊥) → subtree T s d k ≡ node (s d k) (subtree T s (d + 1) (2 * k)) (subtree T s (d + 1) (2 * k + 1))
  at_node d k e h z = node_piece (deepest - d) (deepest - (d + 1)) d k e (omega arith)

  pub top_is : (d k : ℕ) → top (subtree T s d k) ≡ s d k
  top_is d k = top_piece (deepest - d) d k

  pub few : (d k : ℕ) → size (subtree T s d k) < 2048
  few d k = lt_of_lt_of_le (size_below (deepest - d) d k) (mul-le-mul (le_refl 2) (pow_mono {j = deepest} (omega arith)))

-- ---- a piece that is not short, and whose subtree is not long, has two halves
not_long : (s : Strip) → is_long (long s) ≡ false → ⊥
not_long s e = subst (λ (b : Bool). T b) e tt

pub record Forked (T : ℤ) (s : ℕ → ℕ → Strip) (d k : ℕ) : Type 0 where
  pub more : d ≡ deepest → ⊥
  pub is : subtree T s d k ≡ node (s d k) (subtree T s (d + 1) (2 * k)) (subtree T s (d + 1) (2 * k + 1))
  pub left_ok : is_long (subtree T s (d + 1) (2 * k)) ≡ false
  pub right_ok : is_long (subtree T s (d + 1) (2 * k + 1)) ≡ false

pub forked : (T : ℤ) (s : ℕ → ℕ → Strip) (d k : ℕ) → short T (s d k) ≡ false → d ≤ deepest → is_long (subtree T s d k) ≡ false → Forked T s d k
forked T s d k e h n =
    let z : d ≡ deepest → ⊥ = λ (w : d ≡ deepest). not_long (s d k) (sym (ap is_long (at_long T s d k e w)) ∙ n) in
    let i = at_node T s d k e h z in
    let b = or_false (is_long (subtree T s (d + 1) (2 * k))) (is_long (subtree T s (d + 1) (2 * k + 1))) (sym (ap is_long i) ∙ n) in record { more = z; is = i; left_ok = b.0; right_ok = b.1 }

-- ---- a piece whose subtree is written or compared: no end of it is long, and there is room for it among n numbers
pub record Walkable (T : ℤ) (s : ℕ → ℕ → Strip) (d k n : ℕ) : Type 0 where
  pub piece : PieceAt d k
  pub short : is_long (subtree T s d k) ≡ false
  pub fits : width * size (subtree T s d k) ≤ n
