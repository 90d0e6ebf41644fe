-- Where the program writes. Assumes nothing.
use Rattle.std.specs.Prelude.{ℤ, pos}
use Rattle.streams.specs.declared.outputs.Stream.{Stream}
use Rattle.streams.specs.declared.outputs.Stream.TheVariants.{Output, Errors}

-- the descriptors of standard output and of standard error
abbrev pub descriptor : Stream → ℤ
descriptor Output = pos 1
descriptor Errors = pos 2
