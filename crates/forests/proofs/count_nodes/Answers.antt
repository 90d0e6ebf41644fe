use Rattle.std.proofs.Common.{sym, ◌∙◌, ◌+◌, zero-add, add-zero, arith}
use Rattle.model.specs.Jobs.{edge_at}
use Rattle.model.specs.Trees.{tree}
use Rattle.subtrees.specs.Sizes.{few_nodes}
use Rattle.strip_trees.specs.Counted.{kept}
use Rattle.forests.specs.Walk.{trees_from, from_first, end_is, more_is}
use Rattle.forests.proofs.NextEdge.{count_stop, count_go}
use Rattle.forests.proofs.count_nodes.Goals as goal

pub loop-e-init : goal.loop-e-init
loop-e-init c = record { same = rw (from_first c.args.job, zero-add); few = omega arith }

pub returns-in_err-nodes-clause-counted : goal.returns-in_err-nodes-clause-counted
returns-in_err-nodes-clause-counted c =
    let j = c.args.job in
    let t = tree j.grain (edge_at j.marks j.places c.loop-e.e) in
    let us = trees_from j.grain j.marks j.places j.count (c.loop-e.e + 1) in
    let i = more_is j.grain j.marks j.places j.count c.loop-e.e (omega arith) (λ z. omega arith) in
    let h = rw i at c.loop-e.invariant.same in
    c.from_residual.ensures ∙ sym (count_stop t us c.loop-e.nodes (sym c.in_err-nodes.ensures.counted)) ∙ h

pub overflow_add-nodes : goal.overflow_add-nodes
overflow_add-nodes c =
    let j = c.args.job in
    let e = edge_at j.marks j.places c.loop-e.e in
    omega (arith, (kept (tree j.grain e) c.in_ok-nodes.field-0 c.in_ok-nodes.ensures.counted).1, few_nodes j.grain e, c.requires.legal.few, c.loop-e.invariant.few)

pub loop-e-preserved : goal.loop-e-preserved
loop-e-preserved c =
    let j = c.args.job in
    let t = tree j.grain (edge_at j.marks j.places c.loop-e.e) in
    let us = trees_from j.grain j.marks j.places j.count (c.loop-e.e + 1) in
    let i = more_is j.grain j.marks j.places j.count c.loop-e.e (omega arith) (λ z. omega arith) in
    let h = rw i at c.loop-e.invariant.same in
    let k = c.in_ok-nodes.ensures.counted in
    record {
      same = count_go t us c.loop-e.nodes c.in_ok-nodes.field-0 k ∙ h;
      few = omega (arith, (kept t c.in_ok-nodes.field-0 k).1, few_nodes j.grain (edge_at j.marks j.places c.loop-e.e), c.loop-e.invariant.few);
    }

pub returns-clause-counted : goal.returns-clause-counted
returns-clause-counted c =
    let j = c.args.job in
    let i = end_is j.grain j.marks j.places j.count c.loop-e.e (omega arith) in
    rw (i, add-zero) at c.loop-e.invariant.same
