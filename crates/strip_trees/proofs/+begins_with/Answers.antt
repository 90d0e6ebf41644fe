use Rattle.std.proofs.Common.{◌≡◌, sym, ap, ◌∙◌, Bool, false, List, ℕ, suc, ◌+◌, ◌*◌, ◌≤◌, ◌<◌, ℤ, length, drop, to_z-of_z, arith}
use Rattle.model.specs.Strips.{Strip, short}
use Rattle.model.specs.Boxes.{around, box_of, upright}
use Rattle.model.specs.Trees.{Tree, node}
use Rattle.model.specs.Store.{width, size}
use Rattle.nodes.specs.Structs.{as_strip}
use Rattle.subtrees.specs.Preorder.{size_pos, tail}
use Rattle.subtrees.specs.Subtrees.{subtree, at_node, few}
use Rattle.strips.specs.Structs.{strips_of}
use Rattle.strip_trees.specs.Comparisons.{Stands}
use Rattle.strip_trees.proofs.Halves.{around_eq}
use Rattle.strip_trees.proofs.Same.{strips_agree, strips_differ}
use Rattle.strip_trees.proofs.Found.{room_behind, no_node, no_end, no_strip, no_below, is_leaf, yes_leaf, no_left, no_right, yes_node, told_by}
use Rattle.strip_trees.proofs.+begins_with.Goals as goal

pub returns-then-s-lt-WIDTH : goal.returns-then-s-lt-WIDTH
returns-then-s-lt-WIDTH t c = record { told = no_node c.args.grain (strips_of c.args.shape) c.args.d c.args.k c.args.s.now c.if-s-lt-WIDTH.true }

pub returns-then-ne : goal.returns-then-ne
returns-then-ne t c =
    let p = c.piece_of-piece.result.strip in
    let h = strips_differ c.strip_at.result p c.ne.result c.ne.ensures c.if-ne.true in
    record { told = no_strip c.args.grain (strips_of c.args.shape) c.args.d c.args.k c.args.s.now (as_strip p) c.piece_of-piece.ensures.strip (λ e. h (c.strip_at.ensures ∙ e)) }

pub returns-then-piece : goal.returns-then-piece
returns-then-piece t c =
    let T = c.args.grain in
    let s = strips_of c.args.shape in
    let p = c.piece_of-piece.result.strip in
    let e = rw (to_z-of_z c.ranges.grain) at c.piece_of-piece.ensures.short in
    let h-strip = c.piece_of-piece.ensures.strip in
    let same = sym c.strip_at.ensures ∙ strips_agree c.strip_at.result p c.ne.result c.ne.ensures c.if-ne.false in
    let short = sym e ∙ c.if-piece.true in
    let leaf_is = is_leaf T s c.args.d c.args.k c.args.s.now (as_strip p) h-strip short in
    let own = rw c.upright.ensures.upright at c.stands-own.ensures.told in
    record {
      told = told_by c.stands-own.result c.then_some.result 1 (size (subtree T s c.args.d c.args.k)) (Stands (subtree T s c.args.d c.args.k) c.args.s.now) _ c.then_some.ensures own
          (yes_leaf T s c.args.d c.args.k c.args.s.now (as_strip p) h-strip short (omega (arith, c.if-s-lt-WIDTH.false)) same)
          (no_below T s c.args.d c.args.k c.args.s.now (as_strip p) h-strip 1 (upright (as_strip p)) (ap size leaf_is) (ap box_of leaf_is));
    }

pub returns-then-last : goal.returns-then-last
returns-then-last t c =
    let e = rw (to_z-of_z c.ranges.grain) at c.piece_of-piece.ensures.short in
    record { told = no_end c.args.grain (strips_of c.args.shape) c.args.d c.args.k c.args.s.now (sym e ∙ c.if-piece.false) (omega (arith, c.requires.sizes.1.depth, c.if-last.true)) }

-- ---- a piece with two halves, whose first node is there: what is found of its left half, and then of its right
module _ (T : ℤ) (s : ℕ → ℕ → Strip) (d k : ℕ) (z : List ℤ) (l : ℕ) (h : width ≤ length z) where
  abbrev half_l : Tree
  half_l = subtree T s (d + 1) (2 * k)

  abbrev half_r : Tree
  half_r = subtree T s (d + 1) (2 * k + 1)

  module _ (p : (l ≡ size half_l) × Stands half_l (drop width z)) where
    left_few : l < 2048
    left_few = omega (arith, p.0, few T s (d + 1) (2 * k))

    left_room : width + width * l ≤ length z
    left_room = omega (arith, p.0, room_behind half_l z width h p.1.1)

    module _ (r : ℕ) (q : (r ≡ size half_r) × Stands half_r (drop (width + width * l) z)) where
      sum_few : 1 + l + r < 4096
      sum_few = omega (arith, left_few, q.0, few T s (d + 1) (2 * k + 1))

      right_room : width + width * l + width * r ≤ length z
      right_room = omega (arith, q.0, room_behind half_r z (width + width * l) left_room q.1.1)

      some_right : 1 ≤ r
      some_right = omega (arith, q.0, size_pos half_r)

      some_left : 1 ≤ l
      some_left = omega (arith, p.0, size_pos half_l)

-- the piece is halved
fork : (T : ℤ) (s : ℕ → ℕ → Strip) (d k : ℕ) (b : Bool) → b ≡ short T (s d k) → b ≡ false → d < 10 → subtree T s d k ≡ node (s d k) (subtree T s (d + 1) (2 * k)) (subtree T s (d + 1) (2 * k + 1))
fork T s d k b e f z = at_node T s d k (sym e ∙ f) (omega arith) (λ i. omega arith)

pub returns-in_err-l : goal.returns-in_err-l
returns-in_err-l t c =
    let T = c.args.grain in
    let s = strips_of c.args.shape in
    let e = rw (to_z-of_z c.ranges.grain) at c.piece_of-piece.ensures.short in
    let h = rw (to_z-of_z c.ranges.grain, tail width c.args.s.now) at c.in_err-l.ensures.told in
    record { told = rw c.from_residual.ensures (no_left T s c.args.d c.args.k c.args.s.now (fork T s c.args.d c.args.k c.piece_of-piece.result.short e c.if-piece.false c.if-last.false) h) }

pub overflow_mul-mid : goal.overflow_mul-mid
overflow_mul-mid t c =
    let p = rw (to_z-of_z c.ranges.grain, tail width c.args.s.now) at c.in_ok-l.ensures.told in
    omega (arith, left_few c.args.grain (strips_of c.args.shape) c.args.d c.args.k c.args.s.now c.in_ok-l.l c.if-s-lt-WIDTH.false p)

pub overflow_add-mid : goal.overflow_add-mid
overflow_add-mid t c =
    let p = rw (to_z-of_z c.ranges.grain, tail width c.args.s.now) at c.in_ok-l.ensures.told in
    omega (arith, left_few c.args.grain (strips_of c.args.shape) c.args.d c.args.k c.args.s.now c.in_ok-l.l c.if-s-lt-WIDTH.false p)

pub offset_bounds-s-mid : goal.offset_bounds-s-mid
offset_bounds-s-mid t c =
    let p = rw (to_z-of_z c.ranges.grain, tail width c.args.s.now) at c.in_ok-l.ensures.told in
    omega (arith, left_few c.args.grain (strips_of c.args.shape) c.args.d c.args.k c.args.s.now c.in_ok-l.l c.if-s-lt-WIDTH.false p)

pub slice_bounds-begins_with-count-2 : goal.slice_bounds-begins_with-count-2
slice_bounds-begins_with-count-2 t c =
    let p = rw (to_z-of_z c.ranges.grain, tail width c.args.s.now) at c.in_ok-l.ensures.told in
    left_room c.args.grain (strips_of c.args.shape) c.args.d c.args.k c.args.s.now c.in_ok-l.l c.if-s-lt-WIDTH.false p

pub slice_bounds-begins_with-start-2 : goal.slice_bounds-begins_with-start-2
slice_bounds-begins_with-start-2 t c =
    let p = rw (to_z-of_z c.ranges.grain, tail width c.args.s.now) at c.in_ok-l.ensures.told in
    left_room c.args.grain (strips_of c.args.shape) c.args.d c.args.k c.args.s.now c.in_ok-l.l c.if-s-lt-WIDTH.false p

pub returns-in_err-r : goal.returns-in_err-r
returns-in_err-r t c =
    let T = c.args.grain in
    let s = strips_of c.args.shape in
    let e = rw (to_z-of_z c.ranges.grain) at c.piece_of-piece.ensures.short in
    let p = rw (to_z-of_z c.ranges.grain, tail width c.args.s.now) at c.in_ok-l.ensures.told in
    let h = rw (to_z-of_z c.ranges.grain, tail (width + width * c.in_ok-l.l) c.args.s.now, p.0) at c.in_err-r.ensures.told in
    record { told = rw c.from_residual-in_err-r.ensures (no_right T s c.args.d c.args.k c.args.s.now (fork T s c.args.d c.args.k c.piece_of-piece.result.short e c.if-piece.false c.if-last.false) h) }

pub overflow_add-nodes : goal.overflow_add-nodes
overflow_add-nodes t c =
    let p = rw (to_z-of_z c.ranges.grain, tail width c.args.s.now) at c.in_ok-l.ensures.told in
    omega (arith, left_few c.args.grain (strips_of c.args.shape) c.args.d c.args.k c.args.s.now c.in_ok-l.l c.if-s-lt-WIDTH.false p)

pub overflow_add-nodes-2 : goal.overflow_add-nodes-2
overflow_add-nodes-2 t c =
    let p = rw (to_z-of_z c.ranges.grain, tail width c.args.s.now) at c.in_ok-l.ensures.told in
    let q = rw (to_z-of_z c.ranges.grain, tail (width + width * c.in_ok-l.l) c.args.s.now) at c.in_ok-r.ensures.told in
    omega (arith, sum_few c.args.grain (strips_of c.args.shape) c.args.d c.args.k c.args.s.now c.in_ok-l.l c.if-s-lt-WIDTH.false p c.in_ok-r.r q)

pub around_halves-requires : goal.around_halves-requires
around_halves-requires t c =
    let T = c.args.grain in
    let s = strips_of c.args.shape in
    let p = rw (to_z-of_z c.ranges.grain, tail width c.args.s.now) at c.in_ok-l.ensures.told in
    let q = rw (to_z-of_z c.ranges.grain, tail (width + width * c.in_ok-l.l) c.args.s.now) at c.in_ok-r.ensures.told in
    let room = right_room T s c.args.d c.args.k c.args.s.now c.in_ok-l.l c.if-s-lt-WIDTH.false p c.in_ok-r.r q in
    let l = some_left T s c.args.d c.args.k c.args.s.now c.in_ok-l.l c.if-s-lt-WIDTH.false p c.in_ok-r.r q in
    let r = some_right T s c.args.d c.args.k c.args.s.now c.in_ok-l.l c.if-s-lt-WIDTH.false p c.in_ok-r.r q in
    record { within = (omega arith, omega arith) }

pub stands-both-requires : goal.stands-both-requires
stands-both-requires t c =
    let p = rw (to_z-of_z c.ranges.grain, tail width c.args.s.now) at c.in_ok-l.ensures.told in
    let q = rw (to_z-of_z c.ranges.grain, tail (width + width * c.in_ok-l.l) c.args.s.now) at c.in_ok-r.ensures.told in
    record { sizes = (c.if-s-lt-WIDTH.false, sum_few c.args.grain (strips_of c.args.shape) c.args.d c.args.k c.args.s.now c.in_ok-l.l c.if-s-lt-WIDTH.false p c.in_ok-r.r q) }

pub returns : goal.returns
returns t c =
    let T = c.args.grain in
    let s = strips_of c.args.shape in
    let z = c.args.s.now in
    let strip = c.piece_of-piece.result.strip in
    let h-strip = c.piece_of-piece.ensures.strip in
    let e = rw (to_z-of_z c.ranges.grain) at c.piece_of-piece.ensures.short in
    let f = fork T s c.args.d c.args.k c.piece_of-piece.result.short e c.if-piece.false c.if-last.false in
    let same = sym c.strip_at.ensures ∙ strips_agree c.strip_at.result strip c.ne.result c.ne.ensures c.if-ne.false in
    let L = half_l T s c.args.d c.args.k z c.in_ok-l.l c.if-s-lt-WIDTH.false in
    let R = half_r T s c.args.d c.args.k z c.in_ok-l.l c.if-s-lt-WIDTH.false in
    let p = rw (to_z-of_z c.ranges.grain, tail width z) at c.in_ok-l.ensures.told in
    let q = rw (to_z-of_z c.ranges.grain, tail (width + width * c.in_ok-l.l) z, p.0) at c.in_ok-r.ensures.told in
    let count_is : 1 + c.in_ok-l.l + c.in_ok-r.r ≡ suc (size L + size R) = omega (arith, p.0, q.0) in
    let mid_is : width + width * c.in_ok-l.l ≡ width + width * size L = omega (arith, p.0) in
    let box_is = around_eq z L R (width + width * c.in_ok-l.l) (p.1.1, q.1.1) mid_is c.around_halves.ensures.around in
    let both = rw (count_is, box_is) at c.stands-both.ensures.told in
    let told = rw count_is at c.then_some-2.ensures in
    record {
      told = told_by c.stands-both.result c.then_some-2.result (suc (size L + size R)) (size (subtree T s c.args.d c.args.k)) (Stands (subtree T s c.args.d c.args.k) z) _ told both
          (yes_node T s c.args.d c.args.k z (as_strip strip) h-strip f c.if-s-lt-WIDTH.false same p.1 q.1)
          (no_below T s c.args.d c.args.k z (as_strip strip) h-strip (suc (size L + size R)) (around (box_of L) (box_of R)) (ap size f) (ap box_of f));
    }
