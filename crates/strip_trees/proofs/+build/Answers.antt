use Rattle.std.proofs.Common.{◌≡◌, refl, sym, ap, ◌∙◌, Bool, false, List, ◌++◌, ℕ, suc, ◌+◌, ◌*◌, ◌-◌, ◌≤◌, ◌<◌, ℤ, length, drop, length-drop, to_z-of_z, arith}
use borrow.Rule.Slice.PartMut.{mid_of}
use Rattle.sequences.specs.Parts.{tail_mid}
use Rattle.model.specs.Strips.{Strip, short}
use Rattle.model.specs.Trees.{Tree}
use Rattle.model.specs.Boxes.{upright}
use Rattle.model.specs.Store.{width, size, flatten}
use Rattle.subtrees.specs.Preorder.{size_pos, halves_begin}
use Rattle.subtrees.specs.Subtrees.{subtree, left_half, right_half, at_short, few, Walkable, Forked, forked}
use Rattle.strips.specs.Structs.{strips_of}
use Rattle.strip_trees.proofs.Halves.{lent, lent_both, lent_length, both_length, both, put_eq, around_eq}
use Rattle.strip_trees.proofs.+build.Goals as goal

-- ---- a leaf
pub put-requires : goal.put-requires
put-requires t c =
    let w = c.requires.ready in
    let h = size_pos (subtree c.args.grain (strips_of c.args.shape) c.args.d c.args.k) in
    record { sizes = (omega (arith, w.fits), c.piece_of-piece.ensures.sized.x_sized, c.piece_of-piece.ensures.sized.y_sized, omega arith) }

pub returns-then-piece-clause-nodes : goal.returns-then-piece-clause-nodes
returns-then-piece-clause-nodes t c =
    let e = rw (to_z-of_z c.ranges.grain) at c.piece_of-piece.ensures.short in
    rw (at_short c.args.grain (strips_of c.args.shape) c.args.d c.args.k (sym e ∙ c.if-piece.true)) refl

pub returns-then-piece-clause-written : goal.returns-then-piece-clause-written
returns-then-piece-clause-written t c =
    let e = rw (to_z-of_z c.ranges.grain) at c.piece_of-piece.ensures.short in
    let h-strip = c.piece_of-piece.ensures.strip in
    rw (at_short c.args.grain (strips_of c.args.shape) c.args.d c.args.k (sym e ∙ c.if-piece.true))
    (c.put.ensures.written ∙ put_eq 1 (drop width c.args.s.now) h-strip (c.upright.ensures.upright ∙ ap upright h-strip))

-- ---- a node with two halves: the room that is left for them, and what is known once they are built
module _ (T : ℤ) (s : ℕ → ℕ → Strip) (d k : ℕ) (z : List ℤ) (w : Walkable T s d k (length z)) (b : Bool) (e : b ≡ short T (s d k)) (f : b ≡ false) where
  abbrev half_l : Tree
  half_l = subtree T s (d + 1) (2 * k)

  abbrev half_r : Tree
  half_r = subtree T s (d + 1) (2 * k + 1)

  fork : Forked T s d k
  fork = forked T s d k (sym e ∙ f) w.piece.depth w.short

  room : width + width * size half_l + width * size half_r ≤ length z
  room = omega (arith, ap size fork.is, w.fits)

  left_ready : Walkable T s (d + 1) (2 * k) (length (mid_of width (length z - width) z))
  left_ready = record { piece = left_half w.piece fork.more; short = fork.left_ok; fits = rw (tail_mid width z) (simp length-drop (omega (arith, room))) }

  module _ (u : List ℤ) (m : ℕ) (p : m ≡ size half_l) (i : length u ≡ length (mid_of width (length z - width) z)) where
    as_long : length (lent z u) ≡ length z
    as_long = lent_length z u (omega (arith, room)) i

    left_few : m < 2048
    left_few = omega (arith, p, few T s (d + 1) (2 * k))

    left_room : width + width * m ≤ length (lent z u)
    left_room = omega (arith, room, p, as_long)

    right_ready : Walkable T s (d + 1) (2 * k + 1) (length (mid_of (width + width * m) (length (lent z u) - (width + width * m)) (lent z u)))
    right_ready = record { piece = right_half w.piece fork.more; short = fork.right_ok; fits = rw (tail_mid (width + width * m) (lent z u)) (simp length-drop (omega (arith, room, p, as_long))) }

    -- ---- once both are built
    module _ (v : List ℤ) (n : ℕ) (q : n ≡ size half_r) (j : length v ≡ length (mid_of (width + width * m) (length (lent z u) - (width + width * m)) (lent z u))) where
      both_long : length (lent_both z u m v) ≡ length z
      both_long = both_length z u v m as_long (omega (arith, room, p)) j

      sum_few : 1 + m + n < 4096
      sum_few = omega (arith, left_few, q, few T s (d + 1) (2 * k + 1))

      mid_is : width + width * m ≡ width + width * size half_l
      mid_is = omega (arith, p)

      count_is : 1 + m + n ≡ suc (size half_l + size half_r)
      count_is = omega (arith, p, q)

      room_of_both : (width + width ≤ length (lent_both z u m v)) × (width + width * m + width ≤ length (lent_both z u m v))
      room_of_both = (omega (arith, both_long, room, size_pos half_l), omega (arith, both_long, room, p, size_pos half_r))

      -- what stands behind the first node's numbers
      behind : u ≡ flatten half_l ++ drop (width * size half_l) (mid_of width (length z - width) z) →
          v ≡ flatten half_r ++ drop (width * size half_r) (mid_of (width + width * m) (length (lent z u) - (width + width * m)) (lent z u)) →
          drop width (lent_both z u m v) ≡ (flatten half_l ++ flatten half_r) ++ drop (width * suc (size half_l + size half_r)) z
      behind g h = both z u v half_l half_r m p room as_long g h

pub slice_bounds-build-count : goal.slice_bounds-build-count
slice_bounds-build-count t c =
    let e = rw (to_z-of_z c.ranges.grain) at c.piece_of-piece.ensures.short in
    omega (arith, room c.args.grain (strips_of c.args.shape) c.args.d c.args.k c.args.s.now c.requires.ready c.piece_of-piece.result.short e c.if-piece.false)

pub slice_bounds-build-start : goal.slice_bounds-build-start
slice_bounds-build-start t c =
    let e = rw (to_z-of_z c.ranges.grain) at c.piece_of-piece.ensures.short in
    omega (arith, room c.args.grain (strips_of c.args.shape) c.args.d c.args.k c.args.s.now c.requires.ready c.piece_of-piece.result.short e c.if-piece.false)

pub build-l-requires : goal.build-l-requires
build-l-requires t c =
    let e = rw (to_z-of_z c.ranges.grain) at c.piece_of-piece.ensures.short in
    rw (to_z-of_z c.ranges.grain) (omega (arith, c.decreases, c.requires.ready.piece.depth, (fork c.args.grain (strips_of c.args.shape) c.args.d c.args.k c.args.s.now c.requires.ready c.piece_of-piece.result.short e c.if-piece.false).more), (c.requires.sizes, left_ready c.args.grain (strips_of c.args.shape) c.args.d c.args.k c.args.s.now c.requires.ready c.piece_of-piece.result.short e c.if-piece.false))

pub overflow_mul-mid : goal.overflow_mul-mid
overflow_mul-mid t c =
    let e = rw (to_z-of_z c.ranges.grain) at c.piece_of-piece.ensures.short in
    let p = rw (to_z-of_z c.ranges.grain) at c.build-l.ensures.nodes in
    omega (arith, left_few c.args.grain (strips_of c.args.shape) c.args.d c.args.k c.args.s.now c.requires.ready c.piece_of-piece.result.short e c.if-piece.false c.build-l.new.s c.build-l.result p c.build-l.auto.s)

pub overflow_add-mid : goal.overflow_add-mid
overflow_add-mid t c =
    let e = rw (to_z-of_z c.ranges.grain) at c.piece_of-piece.ensures.short in
    let p = rw (to_z-of_z c.ranges.grain) at c.build-l.ensures.nodes in
    omega (arith, left_few c.args.grain (strips_of c.args.shape) c.args.d c.args.k c.args.s.now c.requires.ready c.piece_of-piece.result.short e c.if-piece.false c.build-l.new.s c.build-l.result p c.build-l.auto.s)

pub offset_bounds-s-mid : goal.offset_bounds-s-mid
offset_bounds-s-mid t c =
    let e = rw (to_z-of_z c.ranges.grain) at c.piece_of-piece.ensures.short in
    let p = rw (to_z-of_z c.ranges.grain) at c.build-l.ensures.nodes in
    omega (arith, left_few c.args.grain (strips_of c.args.shape) c.args.d c.args.k c.args.s.now c.requires.ready c.piece_of-piece.result.short e c.if-piece.false c.build-l.new.s c.build-l.result p c.build-l.auto.s)

pub slice_bounds-build-count-2 : goal.slice_bounds-build-count-2
slice_bounds-build-count-2 t c =
    let e = rw (to_z-of_z c.ranges.grain) at c.piece_of-piece.ensures.short in
    let p = rw (to_z-of_z c.ranges.grain) at c.build-l.ensures.nodes in
    left_room c.args.grain (strips_of c.args.shape) c.args.d c.args.k c.args.s.now c.requires.ready c.piece_of-piece.result.short e c.if-piece.false c.build-l.new.s c.build-l.result p c.build-l.auto.s

pub slice_bounds-build-start-2 : goal.slice_bounds-build-start-2
slice_bounds-build-start-2 t c =
    let e = rw (to_z-of_z c.ranges.grain) at c.piece_of-piece.ensures.short in
    let p = rw (to_z-of_z c.ranges.grain) at c.build-l.ensures.nodes in
    left_room c.args.grain (strips_of c.args.shape) c.args.d c.args.k c.args.s.now c.requires.ready c.piece_of-piece.result.short e c.if-piece.false c.build-l.new.s c.build-l.result p c.build-l.auto.s

pub build-r-requires : goal.build-r-requires
build-r-requires t c =
    let e = rw (to_z-of_z c.ranges.grain) at c.piece_of-piece.ensures.short in
    let p = rw (to_z-of_z c.ranges.grain) at c.build-l.ensures.nodes in
    rw (to_z-of_z c.ranges.grain) (omega (arith, c.decreases, c.requires.ready.piece.depth, (fork c.args.grain (strips_of c.args.shape) c.args.d c.args.k c.args.s.now c.requires.ready c.piece_of-piece.result.short e c.if-piece.false).more), (c.requires.sizes, right_ready c.args.grain (strips_of c.args.shape) c.args.d c.args.k c.args.s.now c.requires.ready c.piece_of-piece.result.short e c.if-piece.false c.build-l.new.s c.build-l.result p c.build-l.auto.s))

pub overflow_add-nodes : goal.overflow_add-nodes
overflow_add-nodes t c =
    let e = rw (to_z-of_z c.ranges.grain) at c.piece_of-piece.ensures.short in
    let p = rw (to_z-of_z c.ranges.grain) at c.build-l.ensures.nodes in
    omega (arith, left_few c.args.grain (strips_of c.args.shape) c.args.d c.args.k c.args.s.now c.requires.ready c.piece_of-piece.result.short e c.if-piece.false c.build-l.new.s c.build-l.result p c.build-l.auto.s)

pub overflow_add-nodes-2 : goal.overflow_add-nodes-2
overflow_add-nodes-2 t c =
    let e = rw (to_z-of_z c.ranges.grain) at c.piece_of-piece.ensures.short in
    let p = rw (to_z-of_z c.ranges.grain) at c.build-l.ensures.nodes in
    let q = rw (to_z-of_z c.ranges.grain) at c.build-r.ensures.nodes in
    omega (arith, sum_few c.args.grain (strips_of c.args.shape) c.args.d c.args.k c.args.s.now c.requires.ready c.piece_of-piece.result.short e c.if-piece.false c.build-l.new.s c.build-l.result p c.build-l.auto.s c.build-r.new.s c.build-r.result q c.build-r.auto.s)

pub around_halves-around-requires : goal.around_halves-around-requires
around_halves-around-requires t c =
    let e = rw (to_z-of_z c.ranges.grain) at c.piece_of-piece.ensures.short in
    let p = rw (to_z-of_z c.ranges.grain) at c.build-l.ensures.nodes in
    let q = rw (to_z-of_z c.ranges.grain) at c.build-r.ensures.nodes in
    record { within = room_of_both c.args.grain (strips_of c.args.shape) c.args.d c.args.k c.args.s.now c.requires.ready c.piece_of-piece.result.short e c.if-piece.false c.build-l.new.s c.build-l.result p c.build-l.auto.s c.build-r.new.s c.build-r.result q c.build-r.auto.s }

pub put-requires-2 : goal.put-requires-2
put-requires-2 t c =
    let e = rw (to_z-of_z c.ranges.grain) at c.piece_of-piece.ensures.short in
    let p = rw (to_z-of_z c.ranges.grain) at c.build-l.ensures.nodes in
    let q = rw (to_z-of_z c.ranges.grain) at c.build-r.ensures.nodes in
    let long = room_of_both c.args.grain (strips_of c.args.shape) c.args.d c.args.k c.args.s.now c.requires.ready c.piece_of-piece.result.short e c.if-piece.false c.build-l.new.s c.build-l.result p c.build-l.auto.s c.build-r.new.s c.build-r.result q c.build-r.auto.s in
    record { sizes = (omega (arith, long.0), c.piece_of-piece.ensures.sized.x_sized, c.piece_of-piece.ensures.sized.y_sized, sum_few c.args.grain (strips_of c.args.shape) c.args.d c.args.k c.args.s.now c.requires.ready c.piece_of-piece.result.short e c.if-piece.false c.build-l.new.s c.build-l.result p c.build-l.auto.s c.build-r.new.s c.build-r.result q c.build-r.auto.s) }

pub returns-clause-nodes : goal.returns-clause-nodes
returns-clause-nodes t c =
    let e = rw (to_z-of_z c.ranges.grain) at c.piece_of-piece.ensures.short in
    let p = rw (to_z-of_z c.ranges.grain) at c.build-l.ensures.nodes in
    let q = rw (to_z-of_z c.ranges.grain) at c.build-r.ensures.nodes in
    rw (fork c.args.grain (strips_of c.args.shape) c.args.d c.args.k c.args.s.now c.requires.ready c.piece_of-piece.result.short e c.if-piece.false).is (count_is c.args.grain (strips_of c.args.shape) c.args.d c.args.k c.args.s.now c.requires.ready c.piece_of-piece.result.short e c.if-piece.false c.build-l.new.s c.build-l.result p c.build-l.auto.s c.build-r.new.s c.build-r.result q c.build-r.auto.s)

pub returns-clause-written : goal.returns-clause-written
returns-clause-written t c =
    let e = rw (to_z-of_z c.ranges.grain) at c.piece_of-piece.ensures.short in
    let p = rw (to_z-of_z c.ranges.grain) at c.build-l.ensures.nodes in
    let q = rw (to_z-of_z c.ranges.grain) at c.build-r.ensures.nodes in
    let z = c.args.s.now in
    let g = rw (to_z-of_z c.ranges.grain) at c.build-l.ensures.written in
    let h = rw (to_z-of_z c.ranges.grain) at c.build-r.ensures.written in
    let L = half_l c.args.grain (strips_of c.args.shape) c.args.d c.args.k c.args.s.now c.requires.ready c.piece_of-piece.result.short e c.if-piece.false in
    let R = half_r c.args.grain (strips_of c.args.shape) c.args.d c.args.k c.args.s.now c.requires.ready c.piece_of-piece.result.short e c.if-piece.false in
    let stored = lent_both z c.build-l.new.s c.build-l.result c.build-r.new.s in
    let rest = behind c.args.grain (strips_of c.args.shape) c.args.d c.args.k c.args.s.now c.requires.ready c.piece_of-piece.result.short e c.if-piece.false c.build-l.new.s c.build-l.result p c.build-l.auto.s c.build-r.new.s c.build-r.result q c.build-r.auto.s g h in
    let n = count_is c.args.grain (strips_of c.args.shape) c.args.d c.args.k c.args.s.now c.requires.ready c.piece_of-piece.result.short e c.if-piece.false c.build-l.new.s c.build-l.result p c.build-l.auto.s c.build-r.new.s c.build-r.result q c.build-r.auto.s in
    let begin = halves_begin stored (drop (width * suc (size L + size R)) z) L R rest in
    let box = around_eq stored L R (width + width * c.build-l.result) begin (mid_is c.args.grain (strips_of c.args.shape) c.args.d c.args.k c.args.s.now c.requires.ready c.piece_of-piece.result.short e c.if-piece.false c.build-l.new.s c.build-l.result p c.build-l.auto.s c.build-r.new.s c.build-r.result q c.build-r.auto.s) c.around_halves-around.ensures.around in
    rw (fork c.args.grain (strips_of c.args.shape) c.args.d c.args.k c.args.s.now c.requires.ready c.piece_of-piece.result.short e c.if-piece.false).is
    (c.put-2.ensures.written ∙ rw (n, rest) (put_eq (suc (size L + size R)) ((flatten L ++ flatten R) ++ drop (width * suc (size L + size R)) z) c.piece_of-piece.ensures.strip box))
