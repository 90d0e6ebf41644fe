use Rattle.std.proofs.Common.{refl, true, false, pos, get_or, FitsSigned, arith, rules}
use Rattle.std.specs.Int.{w32}
use Rattle.model.specs.Strips.{straight, curved}
use Rattle.strips.specs.Structs.{form, strips_of}
use Rattle.forests.specs.Kinds.{edge_is}
use Rattle.forests.proofs.Controls.{cubic_mark, line_mark}
use Rattle.forests.proofs.shape_of.Goals as goal

pub returns-then-job-e-eq0-clause-strips : goal.returns-then-job-e-eq0-clause-strips
unfolding strips_of
returns-then-job-e-eq0-clause-strips c =
    let j = c.args.job.now in
    let f : FitsSigned w32 (get_or j.marks c.args.e (pos 0)) = search rules in
    let m = cubic_mark (get_or j.marks c.args.e (pos 0)) f c.if-job-e-eq0.true in
    edge_is j.marks j.places c.args.e false (curved (form c.cubic_at.result)) (curved (form c.cubic_at-then-job-e-eq0.result)) m refl c.cubic_at.ensures.sides (omega arith) c.cubic_at-then-job-e-eq0.ensures.sides refl

pub returns-else-job-e-eq0-clause-strips : goal.returns-else-job-e-eq0-clause-strips
unfolding strips_of
returns-else-job-e-eq0-clause-strips c =
    let j = c.args.job.now in
    let x = c.line_at.result in
    let y = c.line_at-else-job-e-eq0.result in
    let m = line_mark (get_or j.marks c.args.e (pos 0)) c.if-job-e-eq0.false in
    edge_is j.marks j.places c.args.e true (straight x.c0 x.c1) (straight y.c0 y.c1) m refl c.line_at.ensures.sides (omega arith) c.line_at-else-job-e-eq0.ensures.sides refl
