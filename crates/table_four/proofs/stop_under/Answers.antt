use Rattle.std.proofs.Common.{◌+◌, ◌*◌, arith}
use Rattle.table_four.proofs.Loops as loops
use Rattle.table_four.proofs.stop_under.Goals as goal

pub loop-row-init : goal.loop-row-init
loop-row-init c = λ r h l. absurd (omega (arith, h, l))

pub returns-in-Some : goal.returns-in-Some
returns-in-Some c =
    let a = c.args in
    let at = c.loop-row.row * a.n + a.clamp.column in
    let f = c.in-Some.ensures.first in
    let r = loops.row_room c.requires.within c.loop-row-test.true in
    let p = loops.part_stops a.cells.now at a.clamp.columns r.0 c.in-Some.left f.0 f.1 f.2 in
    record { first = loops.rows_stop a.n a.cells.now a.clamp c.loop-row.invariant (omega arith) c.loop-row-test.true p.0 p.1 }

pub loop-row-preserved : goal.loop-row-preserved
loop-row-preserved c =
    let a = c.args in
    let at = c.loop-row.row * a.n + a.clamp.column in
    let r = loops.row_room c.requires.within c.loop-row-test.true in
    loops.rows_on a.n a.cells.now a.clamp c.loop-row.invariant (loops.part_clear a.cells.now at a.clamp.columns r.0 c.in_default.ensures.first)

pub returns : goal.returns
returns c = record { first = loops.rows_clear c.args.n c.args.cells.now c.args.clamp c.loop-row.invariant (omega arith) }
