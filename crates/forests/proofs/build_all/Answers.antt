use Rattle.std.proofs.Common.{◌≡◌, sym, ◌∙◌, refl, ◌+◌, ◌-◌, length, length-drop, arith}
use Rattle.std.proofs.lemmas.List.{take-append-drop}
use Rattle.model.specs.Jobs.{edge_at}
use Rattle.model.specs.Trees.{tree}
use Rattle.subtrees.specs.Preorder.{tail}
use Rattle.forests.specs.Walk.{trees_from, from_first, end_is}
use Rattle.forests.proofs.NextEdge.{split, from_start, as_long, built}
use Rattle.forests.proofs.build_all.Goals as goal

pub loop-e-init : goal.loop-e-init
loop-e-init c =
    let z : length c.args.store.now - 0 ≡ length c.args.store.now = omega arith in
    record { few = omega arith; within = omega arith; ahead = rw z (from_start c.args.job (length c.args.store.now) c.requires.ready); same = rw (from_first c.args.job) refl }

pub build_edge-requires-clause-ready : goal.build_edge-requires-clause-ready
build_edge-requires-clause-ready c =
    let j = c.args.job in
    let p = split j.grain j.marks j.places j.count c.loop-e.e (length c.loop-e.store - c.loop-e.at) c.loop-e.invariant.ahead (λ z. omega arith) in
    rw (tail c.loop-e.at c.loop-e.store, length-drop) p.first

pub overflow_mul-at : goal.overflow_mul-at
overflow_mul-at c =
    let j = c.args.job in
    let p = split j.grain j.marks j.places j.count c.loop-e.e (length c.loop-e.store - c.loop-e.at) c.loop-e.invariant.ahead (λ z. omega arith) in
    omega (arith, c.build_edge.ensures.nodes, p.first_few)

pub overflow_add-at : goal.overflow_add-at
overflow_add-at c =
    let j = c.args.job in
    let p = split j.grain j.marks j.places j.count c.loop-e.e (length c.loop-e.store - c.loop-e.at) c.loop-e.invariant.ahead (λ z. omega arith) in
    omega (arith, c.build_edge.ensures.nodes, p.first_few, c.loop-e.invariant.few, c.requires.ready.legal.few)

pub loop-e-preserved : goal.loop-e-preserved
loop-e-preserved c =
    let j = c.args.job in
    let t = tree j.grain (edge_at j.marks j.places c.loop-e.e) in
    let us = trees_from j.grain j.marks j.places j.count (c.loop-e.e + 1) in
    let v = c.loop-e.invariant in
    let z = c.loop-e.store in
    let u = c.build_edge.new.s in
    let k = c.build_edge.ensures.nodes in
    let p = split j.grain j.marks j.places j.count c.loop-e.e (length z - c.loop-e.at) v.ahead (λ z. omega arith) in
    let long = as_long z u c.loop-e.at v.within c.build_edge.auto.s in
    let h = rw p.is at v.same in
    record {
      few = omega (arith, k, p.first_few, v.few);
      within = omega (arith, k, p.room, long);
      ahead = p.others _ (omega (arith, k, p.room, long));
      same = built z u c.loop-e.at c.build_edge.result t us v.within k c.build_edge.ensures.written ∙ h;
    }

pub returns : goal.returns
returns c =
    let j = c.args.job in
    let i = end_is j.grain j.marks j.places j.count c.loop-e.e (omega arith) in
    let h = rw i at c.loop-e.invariant.same in
    record { written = sym (take-append-drop c.loop-e.at c.loop-e.store) ∙ h }
