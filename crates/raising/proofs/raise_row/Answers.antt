-- The part from column c.lo on and below c.hi is raised, and nothing else is touched.
use Rattle.std.proofs.Common.{arith}
use Rattle.raising.proofs.Parts.{row_raised}
use Rattle.raising.proofs.raise_row.Goals as goal

pub returns-then-c : goal.returns-then-c
returns-then-c c =
    let a = c.args in
    record { stretch = row_raised a.map.now c.raise.new.s a.n a.j a.b a.c (omega arith) c.requires.within.0 c.requires.within.1 c.raise.auto.s c.raise.ensures.larger }
