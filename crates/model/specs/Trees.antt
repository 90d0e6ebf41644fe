-- RULES, "Trees": the strip tree of an edge. Assumes nothing.
use Rattle.std.specs.Prelude.{Bool, true, false, ◌||◌, List, [], ◌∷◌, ℕ, zero, suc, ◌+◌, ◌*◌, ℤ}
use Rattle.model.specs.Jobs.{Edge}
use Rattle.model.specs.Strips.{Strip, strip, short}

-- a leaf is short; a long end is a piece that is not short and may not be halved any more
pub data Tree : Type 0 where
  leaf : Strip → Tree
  long : Strip → Tree
  node : Strip → Tree → Tree → Tree

-- the tree of piece k of depth d, which may still be halved `left` times; s has the strip of each piece of each depth
unfoldable pub pieces : ℤ → (ℕ → ℕ → Strip) → ℕ → ℕ → ℕ → Tree
pieces T s zero d k = elim (short T (s d k)) [ true ↦ leaf (s d k) | false ↦ long (s d k) ]
pieces T s (suc left) d k = elim (short T (s d k)) [
  | true ↦ leaf (s d k)
  | false ↦ node (s d k) (pieces T s left (d + 1) (2 * k)) (pieces T s left (d + 1) (2 * k + 1))
]

-- how often an edge may be halved
abbrev pub deepest : ℕ
deepest = 10

unfoldable pub tree : ℤ → Edge → Tree
tree T e = pieces T (strip e) deepest 0 0

abbrev pub trees : ℤ → List Edge → List Tree
trees T [] = []
trees T (e ∷ es) = tree T e ∷ trees T es

-- refusal 5: a piece of depth 10 was reached that is not short
abbrev pub is_long : Tree → Bool
is_long (leaf s) = false
is_long (long s) = true
is_long (node s l r) = is_long l || is_long r

abbrev pub any_long : List Tree → Bool
any_long [] = false
any_long (t ∷ ts) = is_long t || any_long ts
