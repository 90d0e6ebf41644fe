use Rattle.std.proofs.Common.{◌≡◌, sym, ◌∙◌, ℕ, ◌+◌, ◌*◌, ◌≤◌, Bool, false, ℤ, to_z-of_z, arith, Some, None}
use Rattle.model.specs.Strips.{Strip, short}
use Rattle.model.specs.Trees.{node, deepest}
use Rattle.subtrees.specs.Subtrees.{subtree, at_short, at_long, at_node, few}
use Rattle.strips.specs.Structs.{strips_of}
use Rattle.strip_trees.specs.Counted.{counted, kept, counted_left, counted_right, counted_both}
use Rattle.strip_trees.proofs.+nodes_of.Goals as goal

pub returns-then-piece : goal.returns-then-piece
returns-then-piece t c =
    let e = rw (to_z-of_z c.ranges.grain) at c.piece_of-piece.ensures.short in
    record { counted = rw (at_short c.args.grain (strips_of c.args.shape) c.args.d c.args.k (sym e ∙ c.if-piece.true)) }

pub returns-then-last : goal.returns-then-last
returns-then-last t c =
    let e = rw (to_z-of_z c.ranges.grain) at c.piece_of-piece.ensures.short in
    record { counted = rw (at_long c.args.grain (strips_of c.args.shape) c.args.d c.args.k (sym e ∙ c.if-piece.false) c.if-last.true) }

-- ---- a piece with two halves
module _ (T : ℤ) (s : ℕ → ℕ → Strip) (d k : ℕ) (b : Bool) (e : b ≡ short T (s d k)) (f : b ≡ false) (h : d ≤ deepest) (z : d ≡ deepest → ⊥) where
  node_at : subtree T s d k ≡ node (s d k) (subtree T s (d + 1) (2 * k)) (subtree T s (d + 1) (2 * k + 1))
  node_at = at_node T s d k (sym e ∙ f) h z

  no_left : counted (subtree T s (d + 1) (2 * k)) ≡ None → counted (subtree T s d k) ≡ None
  no_left i = rw node_at (counted_left (s d k) (subtree T s (d + 1) (2 * k)) (subtree T s (d + 1) (2 * k + 1)) i)

  no_right : counted (subtree T s (d + 1) (2 * k + 1)) ≡ None → counted (subtree T s d k) ≡ None
  no_right i = rw node_at (counted_right (s d k) (subtree T s (d + 1) (2 * k)) (subtree T s (d + 1) (2 * k + 1)) i)

  both : (m n : ℕ) → Some m ≡ counted (subtree T s (d + 1) (2 * k)) → Some n ≡ counted (subtree T s (d + 1) (2 * k + 1)) → Some (1 + m + n) ≡ counted (subtree T s d k)
  both m n p q = rw node_at (counted_both (s d k) (subtree T s (d + 1) (2 * k)) (subtree T s (d + 1) (2 * k + 1)) m n p q)

few_each : (T : ℤ) (s : ℕ → ℕ → Strip) (d k m : ℕ) → Some m ≡ counted (subtree T s d k) → m ≤ 2048
few_each T s d k m e = omega (arith, (kept (subtree T s d k) m e).1, few T s d k)

pub returns-in_err-l : goal.returns-in_err-l
returns-in_err-l t c =
    let e = rw (to_z-of_z c.ranges.grain) at c.piece_of-piece.ensures.short in
    let i = rw (to_z-of_z c.ranges.grain) at c.in_err-l.ensures.counted in
    record { counted = c.from_residual.ensures ∙ sym (no_left c.args.grain (strips_of c.args.shape) c.args.d c.args.k c.piece_of-piece.result.short e c.if-piece.false c.requires.sizes.1.depth c.if-last.false (sym i)) }

pub returns-in_err-r : goal.returns-in_err-r
returns-in_err-r t c =
    let e = rw (to_z-of_z c.ranges.grain) at c.piece_of-piece.ensures.short in
    let i = rw (to_z-of_z c.ranges.grain) at c.in_err-r.ensures.counted in
    record { counted = c.from_residual-in_err-r.ensures ∙ sym (no_right c.args.grain (strips_of c.args.shape) c.args.d c.args.k c.piece_of-piece.result.short e c.if-piece.false c.requires.sizes.1.depth c.if-last.false (sym i)) }

pub overflow_add-result : goal.overflow_add-result
overflow_add-result t c = let l = few_each _ (strips_of c.args.shape) (c.args.d + 1) (2 * c.args.k) c.in_ok-l.l c.in_ok-l.ensures.counted in omega arith

pub overflow_add-result-2 : goal.overflow_add-result-2
overflow_add-result-2 t c =
    let l = few_each _ (strips_of c.args.shape) (c.args.d + 1) (2 * c.args.k) c.in_ok-l.l c.in_ok-l.ensures.counted in
    let r = few_each _ (strips_of c.args.shape) (c.args.d + 1) (2 * c.args.k + 1) c.in_ok-r.r c.in_ok-r.ensures.counted in
    omega arith

pub returns : goal.returns
returns t c =
    let e = rw (to_z-of_z c.ranges.grain) at c.piece_of-piece.ensures.short in
    let l = rw (to_z-of_z c.ranges.grain) at c.in_ok-l.ensures.counted in
    let r = rw (to_z-of_z c.ranges.grain) at c.in_ok-r.ensures.counted in
    record { counted = both c.args.grain (strips_of c.args.shape) c.args.d c.args.k c.piece_of-piece.result.short e c.if-piece.false c.requires.sizes.1.depth c.if-last.false c.in_ok-l.l c.in_ok-r.r l r }
