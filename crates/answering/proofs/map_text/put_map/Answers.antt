use Rattle.answering.proofs.MapText as steps
use Rattle.answering.proofs.map_text.put_map.Goals as goal

pub returns-clause-wrote : goal.returns-clause-wrote
returns-clause-wrote c =
    let a = c.put_head-a in
    let b = c.put_rows-b in
    let e = c.put_bytes in
    steps.map_put c.args.out.now a.new.out b.new.out e.new.out a.result b.result e.result c.args.n c.args.cells.now a.ensures.wrote b.ensures.wrote e.ensures.answer
