-- What a copy into a part of the bytes lent leaves.
use Rattle.std.proofs.Common.{rules, refl}
use Rattle.std.proofs.lemmas.Slice.{overwrites}
use Rattle.formatting.proofs.put_bytes.Goals as goal

pub returns : goal.returns
returns c = record { answer = record { next_is = refl; wrote = search (rules, overwrites); rest = search (rules, overwrites) } }
