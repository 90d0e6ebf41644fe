-- Every strip of every piece of an edge, every tree and every job's trees are within the sizes of `Sizes`. Assumes nothing.
use Rattle.std.specs.Prelude.{◌≡◌, Bool, true, false, List, [], ◌∷◌, ℕ, zero, suc, ◌+◌, ◌*◌, ◌^◌, ◌≤◌, ◌<◌, ℤ}
use Rattle.std.proofs.Common.{add-one, pow-suc, arith, pow_pos}
use Rattle.model.specs.Jobs.{Component, cubic, line, Edge}
use Rattle.model.specs.Strips.{Strip, denominator, middle, power_of, side_at, strip, short}
use Rattle.model.specs.Trees.{leaf, long, node, pieces, deepest, tree, trees}
use Rattle.ranges.specs.Sizes.{ControlSized, SideSized, Sized, AllSized, EachSized}
use Rattle.ranges.specs.PowerForm.{form_sized, line_form, line_sized, curved_sized, straight_sized}

pub record EdgeSized (e : Edge) : Type 0 where
  pub x_control : ControlSized e.x
  pub y_control : ControlSized e.y

abbrev pub EdgesSized : List Edge → Type 0
EdgesSized [] = Unit {0}
EdgesSized (e ∷ es) = EdgeSized e × EdgesSized es

pub side_sized : (b : Component) (n m : ℕ) → ControlSized b → 2 ≤ n → m ≤ n → SideSized (side_at b n m)
unfolding side_at
side_sized (cubic b0 b1 b2 b3) n m h i k = curved_sized (power_of b0 b1 b2 b3) n m (form_sized b0 b1 b2 b3 h) i k
side_sized (line a b) n m h i k = straight_sized (line_form a b) n m (line_sized a b h) i k

denominator_is : (d : ℕ) → denominator d ≡ 2 * 2 ^ d
denominator_is d = rw (add-one d, pow-suc 2 d) (omega arith)

-- of piece k of depth d, k below 2^d
pub strip_sized : (e : Edge) (d k : ℕ) → EdgeSized e → k < 2 ^ d → Sized (strip e d k)
unfolding strip
strip_sized e d k h i =
    let n : 2 ≤ denominator d = omega (arith, denominator_is d, pow_pos d) in
    let m : middle k ≤ denominator d = omega (arith, denominator_is d) in
    record { x_sized = side_sized e.x (denominator d) (middle k) h.x_control n m; y_sized = side_sized e.y (denominator d) (middle k) h.y_control n m }

-- of any strips that are sized, piece by piece
pub pieces_sized : (T : ℤ) (s : ℕ → ℕ → Strip) → ((d k : ℕ) → k < 2 ^ d → Sized (s d k)) → (left d k : ℕ) → k < 2 ^ d → AllSized (pieces T s left d k)
unfolding pieces
pieces_sized T s h zero d k i = go (short T (s d k)) (h d k i)
  where
    go : (b : Bool) → Sized (s d k) → AllSized (elim b [ true ↦ leaf (s d k) | false ↦ long (s d k) ])
    go true z = z
    go false z = z
pieces_sized T s h (suc left) d k i =
    go (short T (s d k)) (h d k i) (pieces_sized T s h left (d + 1) (2 * k) (omega (arith, denominator_is d))) (pieces_sized T s h left (d + 1) (2 * k + 1) (omega (arith, denominator_is d)))
  where
    go : (b : Bool) → Sized (s d k) → AllSized (pieces T s left (d + 1) (2 * k)) → AllSized (pieces T s left (d + 1) (2 * k + 1)) →
        AllSized (elim b [ true ↦ leaf (s d k) | false ↦ node (s d k) (pieces T s left (d + 1) (2 * k)) (pieces T s left (d + 1) (2 * k + 1)) ])
    go true z l r = z
    go false z l r = (z, l, r)

pub tree_sized : (T : ℤ) (e : Edge) → EdgeSized e → AllSized (tree T e)
unfolding tree
tree_sized T e h = pieces_sized T (strip e) (λ d k i. strip_sized e d k h i) deepest 0 0 (omega arith)

pub trees_sized : (T : ℤ) (es : List Edge) → EdgesSized es → EachSized (trees T es)
trees_sized T [] h = tt
trees_sized T (e ∷ es) h = (tree_sized T e h.0, trees_sized T es h.1)
