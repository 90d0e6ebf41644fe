-- Either way the plate is drawn over what the map held.
use mathlib.Core.Path.{◌≡◌, sym, ap, ◌∙◌, subst}
use mathlib.Core.List.{List, ◌++◌}
use Prim.Native.Nat.{ℕ, ◌*◌, ◌≤◌, zero-le}
use native.Mathlib.Omega.{arith}
use lib.IntN.{ℤ}
use lib.ListN.{length, take, drop, replicate, length-append, length-drop}
use lib.Seq.{length-take-le}
use Rattle.std.proofs.Common.{take_at}
use Rattle.model.specs.declared.Job.{Job}
use Rattle.model.specs.Store.{forest}
use Rattle.model.specs.Plates.{map_of}
use Rattle.model.specs.Entries.{over as written}
use Rattle.inheritance.specs.Edges.{EachInherits}
use Rattle.subtrees.specs.Fronts.{Holds}
use Rattle.open_edges.specs.Starts.{Starts}
use Rattle.filling.specs.Squares.{over, Drawn}
use Rattle.columns.specs.declared.Frame.{Frame}
use Rattle.drawing.specs.ByRows.{ShallowTrees}
use Rattle.drawing.specs.Letters.{way_of, frame_of, own_letter}
use Rattle.drawing.specs.Ready.{Ready, MapReady}
use Rattle.drawing.proofs.Depths.{forest_shallow}
use Rattle.drawing.proofs.Maps.{frame_sized, held, count_most, whole_ready, inherits, map_is}
use Rattle.drawing.proofs.draw_by.Goals as goal

abbrev none : List ℕ
none = replicate 64 0

module _ {j : Job} {cells : List ℕ} {store : List ℤ} (h : MapReady j cells store) where
  -- the places that are listed, at the front of the array
  front_long : length (take j.count none) ≡ j.count
  front_long = length-take-le j.count none (count_most j cells store h)

  holds : Holds store (length (take j.count none)) (forest j)
  holds = subst (λ (k : ℕ). Holds store k (forest j)) (sym front_long) (held j cells store h)

  module _ {new : List ℕ} (long : length new ≡ length (take j.count none)) (starts : Starts store new (forest j)) where
    listed : take j.count (new ++ drop j.count none) ≡ new
    listed = take_at new (drop j.count none) j.count (long ∙ front_long)

    whole_long : length (new ++ drop j.count none) ≡ 64
    whole_long = omega (arith, length-append new (drop j.count none), long, front_long, length-drop j.count none, count_most j cells store h)

    by_rows : ShallowTrees store (take j.count (new ++ drop j.count none))
    by_rows = record { trees = forest j; starts = rw listed starts; shallow = forest_shallow j }

  module _ {f : Frame} (e : f ≡ frame_of j 0) where
    each : EachInherits (way_of f) (forest j)
    each = subst (λ (f : Frame). EachInherits (way_of f) (forest j)) (sym e) (inherits j h.accepted)

    room : f.n * f.n ≤ length cells
    room = rw e (omega (arith, h.room))

    -- the letters drawn are the map's
    finished : {new : List ℕ} → length new ≡ length cells → Drawn f.n new cells (over (own_letter f (forest j)) 0 0 f.n) → new ≡ written (map_of j) cells
    finished {new} l d =
        map_is j h.accepted new cells l h.room
        (subst (λ (f : Frame). Drawn f.n new cells (over (own_letter f (forest j)) 0 0 f.n)) e d)

pub slice_bounds-list-end : goal.slice_bounds-list-end
slice_bounds-list-end c = count_most c.args.job c.args.cells.now c.args.store.now c.requires.ready

pub slice_bounds-list_starts-end : goal.slice_bounds-list_starts-end
slice_bounds-list_starts-end c = sym (front_long c.requires.ready)

pub list_starts-requires : goal.list_starts-requires
list_starts-requires c = record { held = record { trees = forest c.args.job; holds = holds c.requires.ready } }

pub draw_by_rows-requires : goal.draw_by_rows-requires
draw_by_rows-requires c =
    let h = c.requires.ready in
    let l = c.list_starts in
    record {
      trees = by_rows h l.auto.list (l.ensures.starts (forest c.args.job) (holds h));
      ready = (rw c.frame_of-frame.ensures.frame (frame_sized c.args.job h.accepted 0 zero-le), room h c.frame_of-frame.ensures.frame);
    }

pub slice_bounds-list-end-2 : goal.slice_bounds-list-end-2
slice_bounds-list-end-2 c = omega (arith, whole_long c.requires.ready c.list_starts.auto.list (c.list_starts.ensures.starts (forest c.args.job) (holds c.requires.ready)), count_most c.args.job c.args.cells.now c.args.store.now c.requires.ready)

pub slice_bounds-places-end : goal.slice_bounds-places-end
slice_bounds-places-end c =
    let h = c.requires.ready in
    let l = c.list_starts in
    let s = l.ensures.starts (forest c.args.job) (holds h) in
    sym (ap (λ (ps : List ℕ). length ps) (listed h l.auto.list s) ∙ l.auto.list ∙ front_long h)

pub draw-requires-clause-ready : goal.draw-requires-clause-ready
draw-requires-clause-ready c =
    let h = c.requires.ready in
    let l = c.list_starts in
    let s = l.ensures.starts (forest c.args.job) (holds h) in
    subst (λ (ps : List ℕ). Ready c.args.store.now ps c.frame_of-frame.result (record { c = 0; r = 0; w = c.frame_of-frame.result.n })) (sym (listed h l.auto.list s))
    (subst (λ (f : Frame). Ready c.args.store.now l.new.list f (record { c = 0; r = 0; w = f.n })) (sym c.frame_of-frame.ensures.frame)
    (whole_ready c.args.job c.args.cells.now c.args.store.now h l.new.list (l.auto.list ∙ front_long h) s))

pub returns-in-Rows : goal.returns-in-Rows
returns-in-Rows c =
    let h = c.requires.ready in
    let l = c.list_starts in
    let s = l.ensures.starts (forest c.args.job) (holds h) in
    let d = c.draw_by_rows in
    record { map = finished h c.frame_of-frame.ensures.frame d.auto.map (d.ensures.letters (forest c.args.job) (rw (listed h l.auto.list s) s) (forest_shallow c.args.job)) }

pub returns-in-Quarters : goal.returns-in-Quarters
returns-in-Quarters c =
    let h = c.requires.ready in
    let l = c.list_starts in
    let s = l.ensures.starts (forest c.args.job) (holds h) in
    let d = c.draw in
    record { map = finished h c.frame_of-frame.ensures.frame d.auto.map (d.ensures.letters (forest c.args.job) (rw (listed h l.auto.list s) s) (each h c.frame_of-frame.ensures.frame)) }
