use Rattle.integers.specs.Signed.{back}
use Rattle.nodes.specs.Structs.{known}
use Rattle.columns.specs.Frames.{x_made, y_made}
use Rattle.columns.proofs.Sides.{centre, box, upright, same_view}
use Rattle.columns.proofs.view_of.Goals as goal

pub overflow_sub-result : goal.overflow_sub-result
overflow_sub-result c =
    let s = c.requires.sizes in
    (centre c.args.frame s.2 (known _ _ c.extent_at-h.ensures.side s.1.x_sized) (x_made c.args.frame s.2)).fits

pub overflow_sub-result-2 : goal.overflow_sub-result-2
overflow_sub-result-2 c =
    let s = c.requires.sizes in
    (centre c.args.frame s.2 (known _ _ c.extent_at-v.ensures.side s.1.y_sized) (y_made c.args.frame s.2)).fits

pub overflow_add-result-3 : goal.overflow_add-result-3
overflow_add-result-3 c =
    let s = c.requires.sizes in
    (upright c.args.frame s.2 (known _ _ c.extent_at-h.ensures.side s.1.x_sized) c.abs.ensures.value).fits

pub overflow_add-result-4 : goal.overflow_add-result-4
overflow_add-result-4 c =
    let s = c.requires.sizes in
    (upright c.args.frame s.2 (known _ _ c.extent_at-v.ensures.side s.1.y_sized) c.abs-2.ensures.value).fits

pub returns : goal.returns
returns c =
    let f = c.args.frame in
    let s = c.requires.sizes in
    let h = known _ _ c.extent_at-h.ensures.side s.1.x_sized in
    let v = known _ _ c.extent_at-v.ensures.side s.1.y_sized in
    record {
      view = same_view (back (centre f s.2 h (x_made f s.2))) (back (centre f s.2 v (y_made f s.2))) (back h.axis) (back v.axis) (back (box f s.2 h)) (back (box f s.2 v))
          (back (upright f s.2 h c.abs.ensures.value)) (back (upright f s.2 v c.abs-2.ensures.value));
    }
