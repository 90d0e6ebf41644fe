use mathlib.Core.Path.{sym, subst}
use Prim.Native.Nat.{zero-le}
use Rattle.columns.specs.Limits.{FrameSized}
use Rattle.drawing.proofs.Maps.{frame_sized}
use Rattle.drawing.proofs.draw_map.Goals as goal

pub is_by_rows-requires : goal.is_by_rows-requires
is_by_rows-requires c = record { sizes = subst FrameSized (sym c.frame_of.ensures.frame) (frame_sized c.args.job c.requires.ready.accepted 0 zero-le) }
