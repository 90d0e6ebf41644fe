-- The text of a number, by its sign.
use Rattle.std.proofs.Common.{rules}
use Rattle.formatting.proofs.Texts as texts
use Rattle.formatting.proofs.put_number.Goals as goal

pub put_digits-requires-clause-small : goal.put_digits-requires-clause-small
put_digits-requires-clause-small c = search (rules, texts.small_digits)

pub put_digits-requires-else-v-lt0-clause-small : goal.put_digits-requires-else-v-lt0-clause-small
put_digits-requires-else-v-lt0-clause-small c = search (rules, texts.small_digits)

pub returns-then-v-lt0 : goal.returns-then-v-lt0
returns-then-v-lt0 c = search (rules, texts.minus_text)

pub returns-else-v-lt0 : goal.returns-else-v-lt0
returns-else-v-lt0 c = search (rules, texts.plus_text)
