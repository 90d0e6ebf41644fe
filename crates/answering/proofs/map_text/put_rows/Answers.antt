-- A turn of the loop of `answering::map_text::put_rows` writes one more row.
use Rattle.std.proofs.Common.{◌*◌}
use Rattle.answering.proofs.MapText as steps
use Rattle.answering.proofs.map_text.put_rows.Goals as goal

pub loop-j-init : goal.loop-j-init
loop-j-init c = steps.no_rows c.args.out.now c.args.cells.now c.args.at c.args.n

pub loop-j-preserved : goal.loop-j-preserved
loop-j-preserved c =
    let s = c.args in
    let l = c.loop-j in
    let r = c.put_row-next in
    steps.next_row s.out.now l.out s.at l.next s.cells.now s.n l.j l.invariant c.loop-j-test.true c.requires.sizes.1 r.new.out r.result _ r.ensures.wrote r.auto.out (steps.row_part s.cells.now (l.j * s.n) s.n)
