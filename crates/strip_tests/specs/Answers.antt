-- What an answer of the code means, and that answers are told apart by their numbers. Assumes nothing.
use Rattle.std.specs.Prelude.{◌≡◌, refl, ◌≤◌}
use Rattle.std.proofs.Common.{arith}
use Rattle.model.specs.Explore as model
use Rattle.strip_tests.specs.declared.Answer.{Answer}
use Rattle.strip_tests.specs.declared.Answer.TheVariants.{Away, Maybe, Inside}
use Rattle.strip_tests.specs.PlainTests.{code}

abbrev pub meaning : Answer → model.Answer
meaning Away = model.away
meaning Maybe = model.maybe
meaning Inside = model.inside

pub code_few : (a : model.Answer) → code a ≤ 2
code_few model.inside = omega arith
code_few model.away = omega arith
code_few model.maybe = omega arith

pub same_code : (a b : model.Answer) → code a ≡ code b → a ≡ b
same_code model.inside model.inside e = refl
same_code model.inside model.away e = absurd (omega arith)
same_code model.inside model.maybe e = absurd (omega arith)
same_code model.away model.inside e = absurd (omega arith)
same_code model.away model.away e = refl
same_code model.away model.maybe e = absurd (omega arith)
same_code model.maybe model.inside e = absurd (omega arith)
same_code model.maybe model.away e = absurd (omega arith)
same_code model.maybe model.maybe e = refl
