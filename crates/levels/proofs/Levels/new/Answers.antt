use Rattle.levels.proofs.Kept.{none_open}
use Rattle.levels.proofs.Levels.new.Goals as goal

pub returns : goal.returns
returns c = record { closed = none_open 3072 }
