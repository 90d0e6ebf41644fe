use Rattle.std.proofs.Common.{ap, ◌∙◌, arith}
use Rattle.model.specs.Trees.{is_long}
use Rattle.model.specs.Store.{size}
use Rattle.subtrees.specs.Subtrees.{whole_edge}
use Rattle.model.specs.Jobs.{edge_at}
use Rattle.strips.specs.Structs.{strips_of}
use Rattle.forests.proofs.Whole.{whole_is}
use Rattle.forests.proofs.build_edge.Goals as goal

pub build-requires-clause-ready : goal.build-requires-clause-ready
build-requires-clause-ready c =
    let j = c.args.job.now in
    let e = whole_is j c.from.result (edge_at j.marks j.places c.args.e) (strips_of c.shape_of.result) c.requires.legal c.from.ensures c.shape_of.ensures.strips in
    let r = c.requires.ready in
    record { piece = whole_edge; short = ap is_long e ∙ r.short; fits = omega (arith, ap size e, r.fits) }

pub returns-clause-nodes : goal.returns-clause-nodes
returns-clause-nodes c =
    let j = c.args.job.now in
    let e = whole_is j c.from.result (edge_at j.marks j.places c.args.e) (strips_of c.shape_of.result) c.requires.legal c.from.ensures c.shape_of.ensures.strips in
    rw e at c.build.ensures.nodes

pub returns-clause-written : goal.returns-clause-written
returns-clause-written c =
    let j = c.args.job.now in
    let e = whole_is j c.from.result (edge_at j.marks j.places c.args.e) (strips_of c.shape_of.result) c.requires.legal c.from.ensures c.shape_of.ensures.strips in
    rw e at c.build.ensures.written
