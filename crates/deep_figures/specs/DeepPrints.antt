-- RULES, "Figures": what the program prints of many nodes and of many cells, on either side of the store that it lends. Everything is computed. Assumes
-- nothing.
use Rattle.std.specs.Prelude.{refl, List, [], ◌∷◌}
use Rattle.basics.specs.Lists.{table, row_major}
use Rattle.basics.specs.Numbers.{absℤ}
use Rattle.model.specs.Refusals.{accepted}
use Rattle.model.specs.Jobs.{between, coordinate, is_zero, placed, is_one, spare, kind, marked, counted, ranged, celled, judge, edges_from, outline}
use Rattle.model.specs.Bytes.{digit}
use Rattle.model.specs.Numbers.{decimal, text, more_digits, natural, number}
use Rattle.model.specs.Forms.{write_form, byte, read_form}
use Rattle.model.specs.Layouts.{read_line, read_lines, read_all}
use Rattle.model.specs.Sheets.{job_form, plate_form, cell_form, reach_form, grain_form, edge_form, line_form, end_form, tail_layout, layout, joined, fit, marks_of, places_of, ended, read_sheet}
use Rattle.model.specs.Strips.{curved, straight, side_at, strip}
use Rattle.model.specs.Trees.{pieces, tree}
use Rattle.model.specs.Store.{forest}
use Rattle.model.specs.Roots.{root_by, root}
use Rattle.model.specs.Explore.{is_inside, is_away₁, is_away₂, explore, explore_all}
use Rattle.model.specs.Plates.{drawn, mapped, map_of}
use Rattle.model.specs.Entries.{read_answer, read, map_refusal}
use Rattle.model.specs.Printing.{row_text, rows_text, map_form, refused_form, map_text, answered, map_answered, printed}
use Rattle.model.specs.FigureTables.{AllHold, ◌and◌}
use Rattle.model.specs.EntryFigures.{Figure, Holds, prints, prints_first}

abbrev pub figures : List Figure
figures =
    -- 22,517 numbers are more than are lent
    prints "(job\n(plate 0 0 0)\n(cell 0)\n(reach 1)\n(grain 489)\n(edge (0 0) (333333 0) (666666 0) (999999 0))\n)\n" "(refused 6)\n"
    -- 256 · 256 cells are drawn
    ∷ prints_first "(job\n(plate 0 0 8)\n(cell 0)\n(reach 1)\n(edge (0 0) (0 0) (0 0) (0 0))\n)\n" "(map 256\n"
    -- 1,489 nodes, and 1,490
    ∷ prints "(job\n(plate 0 0 0)\n(cell 0)\n(reach 1)\n(grain 489)\n(edge (0 0) (150000 0) (300000 0) (450000 0))\n(edge (0 0) (41000 0) (82000 0) (123000 0))\n(edge (0 0) (20000 0) (40000 0) (60000 0))\n(edge (0 0) (10000 0) (20000 0) (30000 0))\n(edge (0 0) (2000 0) (4000 0) (6000 0))\n(edge (0 0) (500 0) (1000 0) (1500 0))\n(edge (0 0) (500 0) (1000 0) (1500 0))\n)\n" "(map 1\n(row D)\n)\n"
    ∷ prints "(job\n(plate 0 0 0)\n(cell 0)\n(reach 1)\n(grain 489)\n(edge (0 0) (150000 0) (300000 0) (450000 0))\n(edge (0 0) (41000 0) (82000 0) (123000 0))\n(edge (0 0) (20000 0) (40000 0) (60000 0))\n(edge (0 0) (10000 0) (20000 0) (30000 0))\n(edge (0 0) (2000 0) (4000 0) (6000 0))\n(edge (0 0) (500 0) (1000 0) (1500 0))\n(edge (0 0) (500 0) (1000 0) (1500 0))\n(edge (0 0) (0 0) (0 0) (0 0))\n)\n" "(refused 6)\n"
    ∷ []

pub figures_hold : AllHold Holds figures
unfolding printed map_answered answered map_text rows_text row_text map_form refused_form read read_answer read_sheet ended layout tail_layout job_form plate_form cell_form reach_form grain_form edge_form line_form end_form read_all read_lines read_line read_form byte number natural more_digits digit joined fit marks_of places_of judge accepted counted ranged celled between coordinate is_zero placed is_one spare kind marked write_form text decimal map_refusal forest outline edges_from curved straight side_at strip absℤ tree pieces map_of mapped row_major table drawn explore_all explore is_inside is_away₁ is_away₂ root root_by
figures_hold = refl and refl and refl and refl and tt
