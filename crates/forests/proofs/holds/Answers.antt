use Rattle.std.proofs.Common.{◌+◌, ◌*◌, refl, arith}
use Rattle.model.specs.Jobs.{edge_at}
use Rattle.model.specs.Trees.{tree}
use Rattle.model.specs.Store.{width}
use Rattle.subtrees.specs.Fronts.{room}
use Rattle.subtrees.specs.Preorder.{tail}
use Rattle.subtrees.specs.Sizes.{few_nodes}
use Rattle.forests.specs.Walk.{trees_from, from_first, end_is, more_is}
use Rattle.forests.proofs.NextEdge.{stands_none, stands_more}
use Rattle.forests.proofs.holds.Goals as goal

pub loop-e-init : goal.loop-e-init
loop-e-init c = rw (from_first c.args.job.now) ((λ w. w), (λ w. w))

pub returns-in_default : goal.returns-in_default
returns-in_default c =
    let j = c.args.job.now in
    let t = tree j.grain (edge_at j.marks j.places c.loop-e.e) in
    let us = trees_from j.grain j.marks j.places j.count (c.loop-e.e + 1) in
    let i = more_is j.grain j.marks j.places j.count c.loop-e.e (omega arith) (λ z. omega arith) in
    let h = rw i at c.loop-e.invariant in
    let n = stands_none t us c.loop-e.rest.now c.in_default.ensures.told in
    record { holds = ((λ w. cc), (λ w. absurd (n (h.0 w)))) }

pub overflow_mul-rest : goal.overflow_mul-rest
overflow_mul-rest c = let j = c.args.job.now in omega (arith, c.in-Some.ensures.told.0, few_nodes j.grain (edge_at j.marks j.places c.loop-e.e))

pub offset_bounds-rest-nodes : goal.offset_bounds-rest-nodes
offset_bounds-rest-nodes c = let j = c.args.job.now in omega (arith, c.in-Some.ensures.told.0, few_nodes j.grain (edge_at j.marks j.places c.loop-e.e))

pub slice_bounds-rest-count : goal.slice_bounds-rest-count
slice_bounds-rest-count c =
    let j = c.args.job.now in
    let p = c.in-Some.ensures.told in
    omega (arith, p.0, room (tree j.grain (edge_at j.marks j.places c.loop-e.e)) c.loop-e.rest.now p.1.1)

pub slice_bounds-rest-start : goal.slice_bounds-rest-start
slice_bounds-rest-start c =
    let j = c.args.job.now in
    let p = c.in-Some.ensures.told in
    omega (arith, p.0, room (tree j.grain (edge_at j.marks j.places c.loop-e.e)) c.loop-e.rest.now p.1.1)

pub loop-e-preserved : goal.loop-e-preserved
loop-e-preserved c =
    let j = c.args.job.now in
    let t = tree j.grain (edge_at j.marks j.places c.loop-e.e) in
    let us = trees_from j.grain j.marks j.places j.count (c.loop-e.e + 1) in
    let i = more_is j.grain j.marks j.places j.count c.loop-e.e (omega arith) (λ z. omega arith) in
    let h = rw i at c.loop-e.invariant in
    let p = c.in-Some.ensures.told in
    let m = stands_more t us c.loop-e.rest.now p.1 in
    rw (tail (width * c.in-Some.nodes) c.loop-e.rest.now, p.0) ((λ w. m.0 (h.0 w)), (λ q. h.1 (m.1 q)))

pub returns : goal.returns
returns c =
    let j = c.args.job.now in
    let i = end_is j.grain j.marks j.places j.count c.loop-e.e (omega arith) in
    let h = rw i at c.loop-e.invariant in
    record { holds = ((λ w. h.1 (refl, refl)), (λ w. refl)) }
