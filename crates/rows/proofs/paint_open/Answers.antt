use Rattle.std.proofs.Common.{ap, arith}
use Rattle.spans.specs.declared.Span.{Span}
use Rattle.spans.specs.Among.{among}
use Rattle.levels.specs.Open.{open_in}
use Rattle.rows.proofs.Turns.{none_painted, more_painted, all_painted}
use Rattle.rows.proofs.paint_open.Goals as goal

pub loop-j-init : goal.loop-j-init
loop-j-init c = none_painted c.args.n c.args.rows (open_in c.args.levels.now c.args.d) 68 c.args.map.now

pub loop-j-preserved : goal.loop-j-preserved
loop-j-preserved c =
    let a = c.args in
    more_painted a.n a.rows (open_in a.levels.now a.d) 68 c.loop-j.j c.columns_at.result (omega arith) (omega arith) c.raise_row.ensures.stretch
    (λ i. ap (λ (s : Span). among s i) c.columns_at.ensures.columns)
    c.loop-j.invariant

pub returns : goal.returns
returns c = record { cells = all_painted c.args.n c.args.rows (open_in c.args.levels.now c.args.d) 68 c.loop-j.j (omega arith) c.loop-j.invariant }
