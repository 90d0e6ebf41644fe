-- What the trees raise C to are the letters.
use Rattle.drawing.proofs.Raises.{over_clear}
use Rattle.drawing.proofs.draw_by_rows.Goals as goal

pub returns : goal.returns
returns c = record { letters = λ ts h w. over_clear c.args.frame ts c.args.map.now c.fill_square.new.map c.draw_trees.new.map c.fill_square.ensures.square (c.draw_trees.ensures.letters ts h w) }
