use Rattle.std.proofs.Common.{rules}
use Rattle.formatting.specs.Texts as puts
use Rattle.formatting.proofs.+put_digits.Goals as goal

pub returns-then-n-lt10 : goal.returns-then-n-lt10
returns-then-n-lt10 t c = search (rules, puts.digits_small)

pub put_byte-requires-2 : goal.put_byte-requires-2
put_byte-requires-2 t c = search (rules, puts.digits_room)

pub returns : goal.returns
returns t c = search (rules, puts.digits_large)
