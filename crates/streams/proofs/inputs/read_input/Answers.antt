-- A turn of the loop of `streams::inputs::read_input` is one read more.
use Rattle.std.proofs.Common.{refl, sym, ◌∙◌}
use Rattle.streams.proofs.Turns.{at_first, turn, fewer}
use Rattle.streams.proofs.inputs.read_input.Goals as goal

pub loop-reader-init : goal.loop-reader-init
loop-reader-init g c = (refl, at_first c.args.held.now)

pub loop-reader-smaller : goal.loop-reader-smaller
loop-reader-smaller g c =
    let l = c.loop-reader in
    let r = c.read_more-input in
    fewer l.held r.new.held l.input r.result l.invariant.1 r.ensures.read r.auto.held (sym c.goes_on.ensures.more ∙ c.loop-reader-test.true)

pub loop-reader-preserved : goal.loop-reader-preserved
loop-reader-preserved g c =
    let l = c.loop-reader in
    let r = c.read_more-input in (
      r.auto.held ∙ l.invariant.0,
      turn l.held r.new.held l.input r.result l.invariant.1 r.ensures.read r.auto.held (sym c.goes_on.ensures.more ∙ c.loop-reader-test.true),
    )
