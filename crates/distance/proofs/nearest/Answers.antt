-- Each turn is a law of `Edges`. A coordinate in fine units is 16 times itself. Assumes nothing.
use Rattle.std.proofs.Common.{ℤ, pos, ◌*ℤ◌, ◌≤◌, nat_abs, arith, subst, sym, ap₂, ◌∙◌, to_z, of_z, to_z-of_z, SFits, w32}
use Rattle.integers.specs.Signed.{fits32, nat_abs_mul}
use Rattle.model.specs.Lookup.{visit}
use Rattle.boxes.specs.Ranges.{point_at}
use Rattle.subtrees.specs.Pending.{TreeOf}
use Rattle.distance.specs.States.{state}
use Rattle.distance.proofs.Edges as edges
use Rattle.distance.proofs.nearest.Goals as goal

-- a coordinate in range, in fine units
sixteen : (z : ℤ) → nat_abs z ≤ 1000000 → nat_abs (pos 16 *ℤ z) ≤ 16000000
sixteen z h = omega (arith, nat_abs_mul (pos 16) z)

sixteen_fits : (z : ℤ) → nat_abs z ≤ 1000000 → SFits w32 (pos 16 *ℤ z)
sixteen_fits z h = fits32 (sixteen z h) tt

pub count_at-n-requires-clause-within : goal.count_at-n-requires-clause-within
count_at-n-requires-clause-within c = (edges.front c.requires.held.0 c.loop-edge.invariant c.loop-edge-test.true).0

pub count_at-n-requires-clause-sign : goal.count_at-n-requires-clause-sign
count_at-n-requires-clause-sign c = (edges.front c.requires.held.0 c.loop-edge.invariant c.loop-edge-test.true).1

pub overflow_mul-n : goal.overflow_mul-n
overflow_mul-n c = let e = edges.few c.requires.held.0 c.loop-edge.invariant c.loop-edge-test.true in omega (arith, e, edges.inside c.requires.held.0 c.loop-edge.invariant c.loop-edge-test.true c.count_at-n.ensures.element)

pub split_at-requires : goal.split_at-requires
split_at-requires c = edges.inside c.requires.held.0 c.loop-edge.invariant c.loop-edge-test.true c.count_at-n.ensures.element

pub look_through-found-requires : goal.look_through-found-requires
look_through-found-requires c =
    let r = c.requires.held in
    let fx = sixteen_fits c.args.x r.1 in
    let fy = sixteen_fits c.args.y r.2 in
    let k = edges.known r.0 c.loop-edge.invariant c.loop-edge-test.true in
    record {
      held = (
        subst TreeOf (sym c.split_at.ensures.front) (edges.held k c.count_at-n.ensures.element),
        simp (to_z-of_z, c.ranges.x, fx) (sixteen c.args.x r.1),
        simp (to_z-of_z, c.ranges.y, fy) (sixteen c.args.y r.2),
        omega (arith, edges.few r.0 c.loop-edge.invariant c.loop-edge-test.true),
      );
    }

pub loop-edge-preserved : goal.loop-edge-preserved
loop-edge-preserved c = λ ts h.
    let fx : SFits w32 (pos 16 *ℤ to_z w32 (of_z w32 c.args.x)) = simp (to_z-of_z, c.ranges.x) (sixteen_fits c.args.x c.requires.held.1) in
    let fy : SFits w32 (pos 16 *ℤ to_z w32 (of_z w32 c.args.y)) = simp (to_z-of_z, c.ranges.y) (sixteen_fits c.args.y c.requires.held.2) in
    let n = edges.next (c.loop-edge.invariant ts h) c.loop-edge-test.true in
    let i = edges.n_is n c.count_at-n.ensures.element in
    let p = c.split_at.ensures.front ∙ edges.part_is n c.count_at-n.ensures.element in
    let v = c.look_through-found.ensures.found n.tree n.sized p in
    rw c.split_at.ensures.back (n.past i (v ∙ ap₂ (λ (a b : ℤ). visit (point_at a b) c.loop-edge.edge n.tree (state c.loop-edge.found)) (to_z-of_z fx) (to_z-of_z fy)) (omega (arith, c.look_through-found.ensures.few)))

pub returns : goal.returns
returns c = record { found = λ ts h. let e = edges.end (c.loop-edge.invariant ts h) c.loop-edge-test.false in simp (to_z-of_z, c.ranges.x, c.ranges.y) at e }
