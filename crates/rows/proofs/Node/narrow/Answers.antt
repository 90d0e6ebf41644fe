use Rattle.std.proofs.Common.{sym, ap, ◌∙◌, subst, arith}
use Rattle.std.specs.Prelude.{T, not, ◌&&◌}
use Rattle.integers.specs.Signed.{held, back}
use Rattle.spans.specs.declared.Span.{Span}
use Rattle.spans.specs.Among.{among}
use Rattle.levels.specs.Open.{open_in}
use Rattle.columns.specs.Views.{away_in}
use Rattle.columns.specs.Reaches.{kept_x}
use Rattle.rows.proofs.Deep.{x_made, kept_x_made}
use Rattle.rows.proofs.Tests.{free}
use Rattle.rows.proofs.Narrows.{read_most, none_narrowed, row_narrowed, rows_narrowed}
use Rattle.rows.proofs.Node.narrow.Goals as goal

pub overflow_add-v : goal.overflow_add-v
overflow_add-v c = (kept_x_made c.args.self.now.v c.args.self.now.frame c.args.self.now.view_sized c.args.self.now.frame_sized).fits

pub reached-aside-requires : goal.reached-aside-requires
reached-aside-requires c =
    let r = c.args.self.now in
    let e = kept_x_made c.args.self.now.v c.args.self.now.frame r.view_sized r.frame_sized in
    rw (back (x_made c.args.self.now.v c.args.self.now.frame r.view_sized r.frame_sized), back e) (record { sizes = (r.view_sized.x_size, omega (arith, e.within), r.frame_sized) })

pub loop-j-init : goal.loop-j-init
loop-j-init c = none_narrowed c.args.self.now.frame c.args.self.now.v c.args.self.now.d c.args.self.now.rows.lo c.args.levels.now c.requires.fits

pub kept-requires : goal.kept-requires
kept-requires c =
    let r = c.args.self.now in
    let room = c.room_of-room in
    let fits = read_most c.loop-j.levels _ c.loop-j.invariant.fits c.columns_at.ensures.columns in
    rw (back (held room.result room.ensures.room.size tt)) (record { sizes = (r.view_sized, r.frame_sized, room.ensures.room, omega (arith, r.few), omega (arith, fits, c.meet-c.ensures.inner)) })

pub loop-j-preserved : goal.loop-j-preserved
loop-j-preserved c =
    let a = c.args in
    let r = c.args.self.now in
    let l = c.loop-j in
    let fits = read_most l.levels _ l.invariant.fits c.columns_at.ensures.columns in
    row_narrowed a.self.now.frame a.self.now.v a.self.now.d a.self.now.rows.lo l.j a.levels.now l.levels c.put.new.self c.kept.result l.invariant (omega (arith, r.few, r.frame_sized.n_size)) c.put.ensures.columns c.put.ensures.others
    (omega (arith, fits, c.meet-c.ensures.inner, c.kept.ensures.inner)) r.frame_sized.n_size
    (λ i.
    let aside = rw (back (x_made a.self.now.v a.self.now.frame r.view_sized r.frame_sized), back (kept_x_made a.self.now.v a.self.now.frame r.view_sized r.frame_sized)) at (c.reached-aside.ensures.near i) in
    c.kept.ensures.found i
    ∙ ap (λ t. t && not (away_in a.self.now.frame a.self.now.v i l.j)) (c.meet-c.ensures.shared i ∙ ap (λ (x : Span). among x i && among c.reached-aside.result i) c.columns_at.ensures.columns)
    ∙ free (open_in l.levels a.self.now.d i l.j) (among c.reached-aside.result i) (not (away_in a.self.now.frame a.self.now.v i l.j)) (λ t. subst T (sym aside) (kept_x a.self.now.frame a.self.now.v r.frame_sized r.view_sized i l.j t)))

pub returns : goal.returns
returns c = record { kept = rows_narrowed c.args.self.now.frame c.args.self.now.v c.args.self.now.d c.loop-j.j c.args.self.now.rows c.args.levels.now c.loop-j.levels (omega arith) c.loop-j.invariant }
