-- The quarters that `drawing::draw` draws are narrower than their block.
use Rattle.drawing.proofs.+draw.Given as goal

abbrev pub decreases-draw : goal.decreases-draw
decreases-draw l = l.block.w
