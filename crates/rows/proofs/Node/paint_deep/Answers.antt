use Rattle.std.proofs.Common.{ap, ◌∙◌, mul-le-mul_right, arith}
use Rattle.std.specs.Prelude.{◌&&◌, ◌+◌, ◌*◌, ◌≤◌, get_or}
use Rattle.integers.specs.Signed.{back}
use Rattle.raising.specs.Raised.{raised}
use Rattle.levels.specs.Open.{open_in}
use Rattle.columns.specs.Views.{inside_in}
use Rattle.rows.proofs.Deep.{x_made, y_made, deep_x_made, deep_y_made, found_is, rows_are}
use Rattle.rows.proofs.Narrows.{read_most}
use Rattle.rows.proofs.Turns.{none_painted, more_painted, all_painted}
use Rattle.rows.proofs.Node.paint_deep.Goals as goal

pub overflow_sub-frame : goal.overflow_sub-frame
overflow_sub-frame c = (deep_y_made c.args.self.now.v c.args.self.now.frame c.args.self.now.view_sized c.args.self.now.frame_sized).fits

pub reached-requires : goal.reached-requires
reached-requires c =
    let r = c.args.self.now in
    let e = deep_y_made c.args.self.now.v c.args.self.now.frame r.view_sized r.frame_sized in
    rw (back (y_made c.args.self.now.v c.args.self.now.frame r.view_sized r.frame_sized), back e) (record { sizes = (r.view_sized.y_size, omega (arith, e.within), r.frame_sized) })

pub overflow_sub-frame-2 : goal.overflow_sub-frame-2
overflow_sub-frame-2 c = (deep_x_made c.args.self.now.v c.args.self.now.frame c.args.self.now.view_sized c.args.self.now.frame_sized).fits

pub reached-aside-requires : goal.reached-aside-requires
reached-aside-requires c =
    let r = c.args.self.now in
    let e = deep_x_made c.args.self.now.v c.args.self.now.frame r.view_sized r.frame_sized in
    rw (back (x_made c.args.self.now.v c.args.self.now.frame r.view_sized r.frame_sized), back e) (record { sizes = (r.view_sized.x_size, omega (arith, e.within), r.frame_sized) })

pub loop-j-init : goal.loop-j-init
loop-j-init c = none_painted c.args.self.now.frame.n c.meet-near.result (λ i y. open_in c.args.levels.now c.args.self.now.d i y && inside_in c.args.self.now.frame c.args.self.now.v i y) 73 c.args.map.now

pub raise_row-requires : goal.raise_row-requires
raise_row-requires c =
    let fits = read_most c.args.levels.now _ c.requires.ready.0 c.columns_at-held.ensures.columns in
    let below : c.loop-j.j + 1 ≤ c.args.self.now.rows.hi = omega (arith, c.meet-near.ensures.inner) in
    record { within = (omega (arith, fits, c.meet.ensures.inner, c.deep-found.ensures.inner), omega (arith, c.requires.ready.1, mul-le-mul_right c.args.self.now.frame.n below)) }

pub loop-j-preserved : goal.loop-j-preserved
loop-j-preserved c =
    let a = c.args in
    let r = c.args.self.now in
    let l = c.loop-j in
    let aside = rw (back (x_made a.self.now.v a.self.now.frame r.view_sized r.frame_sized), back (deep_x_made a.self.now.v a.self.now.frame r.view_sized r.frame_sized)) at c.reached-aside.ensures.near in
    more_painted a.self.now.frame.n c.meet-near.result (λ i y. open_in a.levels.now a.self.now.d i y && inside_in a.self.now.frame a.self.now.v i y) 73 l.j c.deep-found.result (omega arith) (omega arith) c.raise_row.ensures.stretch
    (λ i. found_is a.self.now.v a.self.now.frame r.view_sized r.frame_sized c.reached-aside.result a.levels.now a.self.now.d i l.j c.columns_at-held.result c.meet.result c.deep-found.result aside c.columns_at-held.ensures.columns (c.meet.ensures.shared i) (c.deep-found.ensures.found i))
    l.invariant

pub returns : goal.returns
returns c =
    let a = c.args in
    let r = c.args.self.now in
    let near = rw (back (y_made a.self.now.v a.self.now.frame r.view_sized r.frame_sized), back (deep_y_made a.self.now.v a.self.now.frame r.view_sized r.frame_sized)) at c.reached.ensures.near in
    let painted = all_painted a.self.now.frame.n c.meet-near.result (λ i y. open_in a.levels.now a.self.now.d i y && inside_in a.self.now.frame a.self.now.v i y) 73 c.loop-j.j (omega arith) c.loop-j.invariant in
    record {
      cells = record {
        cells = λ i y i<.
            painted.cells i y i<
            ∙ ap (λ b. raised b 73 (get_or a.map.now (y * a.self.now.frame.n + i) 0))
            (rows_are a.self.now.v a.self.now.frame r.view_sized r.frame_sized c.reached.result a.self.now.rows c.meet-near.result (open_in a.levels.now a.self.now.d i y) i y near (c.meet-near.ensures.shared y));
      };
    }
