-- A number up to 256 is small.
use Rattle.answering.proofs.MapText as steps
use Rattle.answering.proofs.map_text.put_line.Goals as goal

pub put_form-requires-clause-small : goal.put_form-requires-clause-small
put_form-requires-clause-small c = steps.one_small c.args.n _ c.requires.sizes.0 (steps.number_read c.args.n c.requires.sizes.0)
