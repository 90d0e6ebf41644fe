use Rattle.model.specs.Jobs.{edge_at}
use Rattle.strips.specs.Structs.{strips_of}
use Rattle.forests.proofs.Whole.{whole_is}
use Rattle.forests.proofs.check_edge.Goals as goal

pub returns : goal.returns
returns c =
    let j = c.args.job.now in
    let e = whole_is j c.from.result (edge_at j.marks j.places c.args.e) (strips_of c.shape_of.result) c.requires.legal c.from.ensures c.shape_of.ensures.strips in
    rw e at c.begins_with.ensures
