-- The sides are those of the first node, from the probe.
use mathlib.Core.Path.{◌≡◌, ◌∙◌}
use lib.IntN.{ℤ, nat_abs, ◌+ℤ◌, ◌-ℤ◌}
use Prim.Native.Nat.{◌≤◌}
use Rattle.integers.specs.Signed.{bits, held, plus, minus, back}
use Rattle.model.specs.Strips.{Strip}
use Rattle.model.specs.Strips as model
use Rattle.ranges.specs.Sizes.{SideSized, Sized}
use Rattle.strip_tests.specs.declared.Side.{Side}
use Rattle.strip_tests.specs.Limits.{NodeSized}
use Rattle.strip_tests.specs.PlainTests.{judge_is}
use Rattle.nodes.specs.declared.Extent.{Extent}
use Rattle.nodes.specs.Places.{strip_in}
use Rattle.nodes.specs.Structs.{side as side_of}
use Rattle.search.specs.Probes.{cell_at, Fair}
use Rattle.search.specs.declared.Probe.{Probe}
use Rattle.search.proofs.own.Goals as goal

-- one side, read where S is stored
module _ (at s : ℤ) (ha : nat_abs at ≤ 536870912) (hs : nat_abs s ≤ 134217728) {e : Extent} {S : model.Side} (h : side_of e ≡ S) where
  asked : SideSized S → SideSized (side_of e) × (nat_abs (bits at) ≤ 536870912) × (nat_abs (bits s) ≤ 134217728)
  asked z = rw (h, back (held at ha tt), back (held s hs tt)) (z, ha, hs)

  seen : {r : Side} → ◌≡◌ {A = Side} r (record { w = bits at -ℤ e.centre; axis = e.axis; half = e.half +ℤ bits s }) → ◌≡◌ {A = Side} r (record { w = at -ℤ S.centre; axis = S.axis; half = S.box +ℤ s })
  seen i = i ∙ same (back (held at ha tt)) (back (held s hs tt)) h
    where
      same : {a a' t t' : ℤ} {T : model.Side} → a ≡ a' → t ≡ t' → side_of e ≡ T → ◌≡◌ {A = Side} (record { w = a -ℤ (side_of e).centre; axis = (side_of e).axis; half = (side_of e).box +ℤ t }) (record { w = a' -ℤ T.centre; axis = T.axis; half = T.box +ℤ t' })
      same f g k = cc

module _ {p : Probe} (f : Fair p) {S : Strip} (z : Sized S) where
  node_sized : NodeSized (p.x -ℤ S.x.centre) (p.y -ℤ S.y.centre) S.x.axis S.y.axis (S.x.box +ℤ p.s) (S.y.box +ℤ p.s) p.r
  node_sized =
      let s = held p.s f.cell.s_size tt in
      record {
        wx_size = (minus (held p.x f.cell.cx_size tt) (held S.x.centre z.x_sized.centre_size tt) tt).within;
        wy_size = (minus (held p.y f.cell.cy_size tt) (held S.y.centre z.y_sized.centre_size tt) tt).within;
        p_size = z.x_sized.axis_size;
        q_size = z.y_sized.axis_size;
        a_size = (plus (held S.x.box z.x_sized.box_size tt) s tt).within;
        b_size = (plus (held S.y.box z.y_sized.box_size tt) s tt).within;
        node_reach = f.cell.reach_sized;
      }

  r_back : bits p.r ≡ p.r
  r_back = back (held p.r f.cell.reach_sized.r_size tt)

pub side-x-requires : goal.side-x-requires
side-x-requires c = let z = c.requires.sizes in record { sizes = asked c.args.probe.x c.args.probe.s z.2.cell.cx_size z.2.cell.s_size c.extent_at.ensures.side z.1.x_sized }

pub side-y-requires : goal.side-y-requires
side-y-requires c = let z = c.requires.sizes in record { sizes = asked c.args.probe.y c.args.probe.s z.2.cell.cy_size z.2.cell.s_size c.extent_at-2.ensures.side z.1.y_sized }

pub judge-requires : goal.judge-requires
judge-requires c =
    let z = c.requires.sizes in
    let p = c.args.probe in
    let x = seen p.x p.s z.2.cell.cx_size z.2.cell.s_size c.extent_at.ensures.side c.side-x.ensures.side in
    let y = seen p.y p.s z.2.cell.cy_size z.2.cell.s_size c.extent_at-2.ensures.side c.side-y.ensures.side in
    record { sizes = rw (x, y, r_back z.2 z.1) (node_sized z.2 z.1) }

pub returns : goal.returns
returns c =
    let z = c.requires.sizes in
    let p = c.args.probe in
    let x = seen p.x p.s z.2.cell.cx_size z.2.cell.s_size c.extent_at.ensures.side c.side-x.ensures.side in
    let y = seen p.y p.s z.2.cell.cy_size z.2.cell.s_size c.extent_at-2.ensures.side c.side-y.ensures.side in
    record { answer = (rw (x, y, r_back z.2 z.1) at c.judge.ensures.answer) ∙ judge_is p.r (cell_at p.x p.y p.s) (strip_in c.args.part.now) }
