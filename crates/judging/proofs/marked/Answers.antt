use Rattle.std.proofs.Common.{arith, ◌≡◌, ◌<◌}
use Rattle.std.specs.Prelude.{ℤ}
use Rattle.std.proofs.lemmas.List.{length-take, get_or-take}
use Rattle.judging.proofs.Rows.{marks_stop, marks_go, marks_end}
use Rattle.judging.proofs.marked.Goals as goal

pub returns-then-not-kind : goal.returns-then-not-kind
returns-then-not-kind c =
    let h : c.loop-i.i < c.args.n = omega (arith, length-take {A = ℤ}) in
    record {
      answer = marks_stop c.args.n c.loop-i.i c.args.marks.now c.args.places.now c.requires.within.0 _ c.loop-i.invariant h _ _ (grind (arith, get_or-take)) c.kind.ensures.answer c.if-not-kind.true;
    }

pub loop-i-preserved : goal.loop-i-preserved
loop-i-preserved c =
    let h : c.loop-i.i < c.args.n = omega (arith, length-take {A = ℤ}) in
    marks_go c.args.n c.loop-i.i c.args.marks.now c.args.places.now c.requires.within.0 _ c.loop-i.invariant h _ _ (grind (arith, get_or-take)) c.kind.ensures.answer c.if-not-kind.false

pub returns : goal.returns
returns c =
    let u : c.loop-i.i ≡ c.args.n = omega (arith, length-take {A = ℤ}) in
    record { answer = marks_end c.args.n c.loop-i.i c.args.marks.now c.args.places.now c.requires.within.0 _ c.loop-i.invariant _ _ c.zeros.ensures.answer (omega arith) u }
