-- What one read of `streams::inputs::read_more` comes to: the end, bytes, or a failure.
use Rattle.streams.proofs.Turns.{gave, gave_none, failed_read}
use Rattle.streams.proofs.inputs.read_more.Goals as goal

pub returns-in-Ok-eq0 : goal.returns-in-Ok-eq0
returns-in-Ok-eq0 g c = record { read = gave_none c.args.held.now c.read.new.buf c.args.input c.read.auto.buf c.requires.within }

pub returns-in-Ok : goal.returns-in-Ok
returns-in-Ok g c = record { read = gave c.args.held.now c.read.new.buf c.args.input c.read.auto.buf c.requires.within c.in-Ok.n c.in-Ok.ensures.bound.0 c.in-Ok.n-test.1 }

pub returns-in-Err : goal.returns-in-Err
returns-in-Err g c = record { read = failed_read c.args.held.now c.read.new.buf c.args.input c.read.auto.buf c.requires.within }
