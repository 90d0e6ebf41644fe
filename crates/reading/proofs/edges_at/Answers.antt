-- A turn of the loop of `reading::edges_at` keeps one more edge; it ends where no edge's line is.
use Rattle.reading.proofs.EdgeLines as lines
use Rattle.reading.proofs.edges_at.Goals as goal

pub loop-edge-init : goal.loop-edge-init
loop-edge-init c = lines.starts c.args.s.now c.args.at c.requires.start c.requires.short

pub loop-edge-smaller : goal.loop-edge-smaller
loop-edge-smaller c = lines.less c.args.s.now c.args.at c.loop-edge.value c.loop-edge.next c.loop-edge.invariant c.in-Some.edge c.in-Some.ensures.answer

pub loop-edge-preserved : goal.loop-edge-preserved
loop-edge-preserved c = lines.goes_on c.args.s.now c.args.at c.loop-edge.value c.loop-edge.next c.loop-edge.invariant c.in-Some.edge c.in-Some.ensures.answer c.keep.new.self c.keep.ensures.count c.keep.ensures.places c.keep.ensures.marks

pub returns : goal.returns
returns c = record { answer = lines.ends c.args.s.now c.args.at c.loop-edge.value c.loop-edge.next c.loop-edge.invariant c.in_default.ensures.answer }
