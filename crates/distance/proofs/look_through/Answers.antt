-- Each turn is a law of `Walks`. Assumes nothing.
use Rattle.std.proofs.Common.{arith, rules, refl, length-drop, to_z-of_z, SFits, w64}
use Rattle.subtrees.specs.Preorder.{tail}
use Rattle.distance.specs.States.{state}
use Rattle.distance.proofs.Walks as walks
use Rattle.distance.proofs.look_through.Goals as goal

pub loop-rest-init : goal.loop-rest-init
loop-rest-init c = λ t f e. walks.begin _ _ t _ _ f e

pub bounds_at-bounds-requires : goal.bounds_at-bounds-requires
bounds_at-bounds-requires c =
    let f = walks.fronts c.requires.held.0 c.loop-rest.invariant (grind arith) in
    record { sizes = (f.0, f.2, simp (to_z-of_z, c.ranges.x) c.requires.held.1, simp (to_z-of_z, c.ranges.y) c.requires.held.2) }

pub count_at-n-requires-clause-sign : goal.count_at-n-requires-clause-sign
count_at-n-requires-clause-sign c = (walks.fronts c.requires.held.0 c.loop-rest.invariant (grind arith)).1

pub overflow_add-found : goal.overflow_add-found
overflow_add-found c = omega (arith, walks.few c.requires.held.0 c.loop-rest.invariant, c.requires.held.3)

pub overflow_mul-rest : goal.overflow_mul-rest
overflow_mul-rest c = omega (arith, walks.inside c.requires.held.0 c.loop-rest.invariant (grind arith) c.count_at-n.ensures.element)

pub offset_bounds-rest-n : goal.offset_bounds-rest-n
offset_bounds-rest-n c = omega (arith, walks.inside c.requires.held.0 c.loop-rest.invariant (grind arith) c.count_at-n.ensures.element)

pub slice_bounds-rest-count : goal.slice_bounds-rest-count
slice_bounds-rest-count c = omega (arith, walks.inside c.requires.held.0 c.loop-rest.invariant (grind arith) c.count_at-n.ensures.element)

pub slice_bounds-rest-start : goal.slice_bounds-rest-start
slice_bounds-rest-start c = omega (arith, walks.inside c.requires.held.0 c.loop-rest.invariant (grind arith) c.count_at-n.ensures.element)

pub loop-rest-smaller-then-found-bounds : goal.loop-rest-smaller-then-found-bounds
loop-rest-smaller-then-found-bounds c =
    let r = walks.inside c.requires.held.0 c.loop-rest.invariant (grind arith) c.count_at-n.ensures.element in
    rw (tail, length-drop) (omega (arith, r))

pub loop-rest-preserved-then-found-bounds : goal.loop-rest-preserved-then-found-bounds
loop-rest-preserved-then-found-bounds c = λ t f e.
    let h : SFits w64 c.loop-rest.found.hi = search rules in
    let k : SFits w64 c.bounds_at-bounds.result.lo = search rules in
    let n = walks.next _ _ (c.loop-rest.invariant t f e) (grind arith) refl c.count_at-n.ensures.element in
    rw tail (walks.past_skipped n refl c.bounds_at-bounds.ensures.low (simp (to_z-of_z, h, k) at c.if-found-bounds.true) (walks.read_one (state c.loop-rest.found)))

pub slice_bounds-rest-count-else-found-bounds : goal.slice_bounds-rest-count-else-found-bounds
slice_bounds-rest-count-else-found-bounds c = (walks.fronts c.requires.held.0 c.loop-rest.invariant (grind arith)).0

pub slice_bounds-rest-start-else-found-bounds : goal.slice_bounds-rest-start-else-found-bounds
slice_bounds-rest-start-else-found-bounds c = omega (arith, walks.fronts c.requires.held.0 c.loop-rest.invariant (grind arith))

pub loop-rest-preserved-then-leaf : goal.loop-rest-preserved-then-leaf
loop-rest-preserved-then-leaf c = λ t f e.
    let h : SFits w64 c.loop-rest.found.hi = search rules in
    let k : SFits w64 c.bounds_at-bounds.result.lo = search rules in
    let n = walks.next _ _ (c.loop-rest.invariant t f e) (grind arith) refl c.count_at-n.ensures.element in
    let b = c.bounds_at-bounds.ensures in
    rw tail (walks.past_leaf n refl b.low b.high (simp (to_z-of_z, h, k) at c.if-found-bounds.false) c.if-leaf.true (walks.read_one (state c.loop-rest.found)) c.with_leaf-found.ensures.taken)

pub loop-rest-preserved : goal.loop-rest-preserved
loop-rest-preserved c = λ t f e.
    let h : SFits w64 c.loop-rest.found.hi = search rules in
    let k : SFits w64 c.bounds_at-bounds.result.lo = search rules in
    let n = walks.next _ _ (c.loop-rest.invariant t f e) (grind arith) refl c.count_at-n.ensures.element in
    rw tail (walks.into_halves n refl c.bounds_at-bounds.ensures.low (simp (to_z-of_z, h, k) at c.if-found-bounds.false) c.if-leaf.false (walks.read_one (state c.loop-rest.found)))

pub returns-clause-found : goal.returns-clause-found
returns-clause-found c = λ t f e. let h = walks.end _ _ (c.loop-rest.invariant t f e) (grind arith) in simp (to_z-of_z, c.ranges.x, c.ranges.y) at h

pub returns-clause-few : goal.returns-clause-few
returns-clause-few c = omega (arith, walks.few c.requires.held.0 c.loop-rest.invariant)
