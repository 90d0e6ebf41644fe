-- RULES, "Figures": those of trees of 2,047 nodes but for the first ones, which tell depth 10 from 9 and stand in `model`. Everything is computed.
-- Assumes nothing.
use Rattle.std.specs.Prelude.{refl, List, [], ◌∷◌, pos, negsuc}
use Rattle.basics.specs.Numbers.{absℤ}
use Rattle.model.specs.Refusals.{accepted}
use Rattle.model.specs.Jobs.{between, coordinate, is_zero, placed, is_one, spare, kind, marked, counted, ranged, celled, edges_from, outline}
use Rattle.model.specs.Strips.{curved, straight, side_at, strip}
use Rattle.model.specs.Trees.{pieces, tree}
use Rattle.model.specs.Store.{forest}
use Rattle.model.specs.Lookup.{visit, visit_all}
use Rattle.model.specs.Entries.{map_refusal, map}
use Rattle.model.specs.FigureTables.{AllHold, ◌and◌}
use Rattle.model.specs.Figures.{Figure, looked_up, map_of_is, Holds, even, ruled}

abbrev pub figures : List Figure
figures =
    -- a lookup of a straight edge at its start, over its start, at half of it and at its end: of 2,047 nodes it reads these
    looked_up (even (pos 489)) (pos 0) (pos 0) (record { lo = pos 0; hi = pos 244140625; edge = 0; reads = 21 })
    ∷ looked_up (even (pos 489)) (pos 0) (pos 1000000) (record { lo = pos 256000000000000; hi = pos 256000244140625; edge = 0; reads = 21 })
    ∷ looked_up (even (pos 489)) (pos 500000) (pos 0) (record { lo = pos 0; hi = pos 243890689; edge = 0; reads = 1043 })
    ∷ looked_up (even (pos 489)) (pos 999999) (pos 0) (record { lo = pos 0; hi = pos 244140625; edge = 0; reads = 2047 })
    -- the longest line there is, and one just short of a half of it: depth 10 is enough for one grain, and not for the next
    ∷ map_of_is (ruled (pos 977) (negsuc 999999) (pos 0) (pos 1000000) (pos 0)) 22517 1 (record { refusal = 0; nodes = 2047 })
    ∷ map_of_is (ruled (pos 976) (negsuc 999999) (pos 0) (pos 1000000) (pos 0)) 22517 1 (record { refusal = 5; nodes = 0 })
    ∷ map_of_is (ruled (pos 489) (pos 0) (pos 0) (pos 999999) (pos 0)) 22517 1 (record { refusal = 0; nodes = 2047 })
    ∷ map_of_is (ruled (pos 488) (pos 0) (pos 0) (pos 999999) (pos 0)) 22517 1 (record { refusal = 5; nodes = 0 })
    ∷ []

pub figures_hold : AllHold Holds figures
unfolding curved straight side_at tree pieces strip absℤ map map_refusal accepted counted ranged celled between coordinate is_zero placed is_one spare kind marked forest outline edges_from visit visit_all
figures_hold = refl and refl and refl and refl and refl and refl and refl and refl and tt
