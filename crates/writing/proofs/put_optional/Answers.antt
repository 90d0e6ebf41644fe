-- What `writing::put_optional` leaves, where the line is left out and where it is written.
use Rattle.std.proofs.Common.{rules}
use Rattle.writing.proofs.Lines as lines
use Rattle.writing.proofs.put_optional.Goals as goal

pub put_form-requires-clause-small : goal.put_form-requires-clause-small
put_form-requires-clause-small c = search (rules, lines.one_small)

pub returns-then-v-other-clause-answer : goal.returns-then-v-other-clause-answer
returns-then-v-other-clause-answer c = search (rules, lines.out_left)

pub returns-else-v-other-clause-answer : goal.returns-else-v-other-clause-answer
returns-else-v-other-clause-answer c = search (rules, lines.out_put)
