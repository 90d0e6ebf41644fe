use Rattle.std.proofs.Common.{◌≡◌, length}
use Rattle.streams.proofs.Turns.{So, left}
use Rattle.streams.proofs.inputs.read_input.Given as goal

abbrev pub invariant-loop-reader : goal.invariant-loop-reader
invariant-loop-reader g l = (length l.held ≡ length l.initial.held) × So l.held l.input

abbrev pub decreases-loop-reader : goal.decreases-loop-reader
decreases-loop-reader g l = left (length l.held) l.input
