-- Figures on either side of each number and each comparison that a result shows, of a number's text, a layout of lines and a sheet.
-- Everything is computed. Assumes nothing.
use Rattle.std.specs.Prelude.{◌≡◌, refl, List, [], ◌∷◌, ◌++◌, ℕ, zero, suc, ℤ, pos, negsuc, get_or, replicate}
use Prim.Native.String.{String}
use Rattle.model.specs.declared.Job.{Job}
use Rattle.model.specs.Answers.{Read}
use Rattle.model.specs.Jobs.{between, coordinate, is_zero, placed, is_one, spare, kind, marked, counted, ranged, celled, judge}
use Rattle.model.specs.Refusals.{accepted}
use Rattle.model.specs.Bytes.{got, none, bytes, digit}
use Rattle.model.specs.Numbers.{decimal, text, more_digits, natural, number}
use Rattle.model.specs.Forms.{write_form, byte, read_form}
use Rattle.model.specs.Layouts.{Section, section, Line, Lines, plain, write_line, write_lines, write_all, read_line, read_lines, read_all}
use Rattle.model.specs.Sheets.{job_form, plate_form, cell_form, reach_form, grain_form, edge_form, line_form, end_form, tail_layout, layout, job_at, plate_at, cell_at, reach_at, grain_at, edges_at, end_at, same, stated, edge_lines, lines_of, sheet_of, joined, fit, marks_of, places_of, job_of, ended, read_sheet}
use Rattle.model.specs.Entries.{read_answer, read}
use Rattle.model.specs.FigureTables.{AllHold, ◌and◌, job, mixed_job}

pub data Figure : Type 0 where
  -- a number and its text
  writes_number : ℤ → String → Figure
  -- a text, and the number at its front with what is left
  reads_number : String → ℤ → String → Figure
  no_number : String → Figure
  -- a layout, lines of it and their text
  writes_lines : List Section → List Lines → String → Figure
  -- a layout, a text, the lines at its front and what is left
  reads_lines : List Section → String → List Lines → String → Figure
  no_lines : List Section → String → Figure
  -- the form of a place of the sheet's layout, with the least and the most lines of it
  stands : ℕ → List (List ℕ) → ℕ → ℕ → Figure
  -- the job of some lines
  lines_job : List Lines → Job → Figure
  -- a sheet's bytes and what reading them answers
  reads : List ℕ → Read → Figure
  -- the number alone
  reads_refused : List ℕ → ℕ → Figure
  -- a job and its sheet, which reads back as the job
  sheet_of_is : Job → String → Figure
  -- a job and the lines of its sheet
  job_lines : Job → List Lines → Figure
  -- a job and its sheet alone
  writes_sheet : Job → String → Figure

abbrev pub Holds : Figure → Type 0
Holds (writes_number z s) = text z ≡ bytes s
Holds (reads_number s z t) = number (bytes s) ≡ got z (bytes t)
Holds (no_number s) = number (bytes s) ≡ none
Holds (writes_lines ss gs s) = write_all ss gs ≡ bytes s
Holds (reads_lines ss s gs t) = read_all ss [] (bytes s) ≡ got gs (bytes t)
Holds (no_lines ss s) = read_all ss [] (bytes s) ≡ none
Holds (stands k Fs lo hi) = get_or layout k (section [] 0 0) ≡ section Fs lo hi
Holds (lines_job gs j) = job_of gs ≡ j
Holds (reads s a) = read s ≡ a
Holds (reads_refused s k) = (read s).refusal ≡ k
Holds (sheet_of_is j s) = (sheet_of j ≡ bytes s) × (read (bytes s) ≡ record { refusal = 0; job = j })
Holds (job_lines j gs) = lines_of j ≡ gs
Holds (writes_sheet j s) = sheet_of j ≡ bytes s

-- ---- numbers
abbrev pub number_figures : List Figure
number_figures =
    writes_number (pos 0) "0"
    ∷ writes_number (pos 9) "9"
    ∷ writes_number (pos 10) "10"
    ∷ writes_number (negsuc 0) "-1"
    ∷ writes_number (pos 9876543) "9876543"
    ∷ writes_number (negsuc 1000000) "-1000001"
    -- of eight digits the last seven are left
    ∷ writes_number (pos 98765432) "8765432"
    ∷ writes_number (negsuc 98765431) "-8765432"
    ∷ reads_number "0" (pos 0) ""
    ∷ reads_number "9" (pos 9) ""
    ∷ reads_number "1 2" (pos 1) " 2"
    ∷ reads_number "-1" (negsuc 0) ""
    ∷ reads_number "-1000001" (negsuc 1000000) ""
    -- seven digits, and of eight the last is left
    ∷ reads_number "9876543" (pos 9876543) ""
    ∷ reads_number "98765432" (pos 9876543) "2"
    -- after a zero no digit belongs to the number
    ∷ reads_number "07" (pos 0) "7"
    ∷ no_number "-0"
    ∷ no_number "-"
    ∷ no_number "--1"
    ∷ no_number ""
    -- the bytes on either side of the minus
    ∷ no_number ",1"
    ∷ no_number ".1"
    -- the bytes on either side of the digits
    ∷ no_number "/"
    ∷ no_number ":"
    ∷ reads_number "1/" (pos 1) "/"
    ∷ reads_number "1:" (pos 1) ":"
    ∷ reads_number "109" (pos 109) ""
    ∷ []

-- ---- layouts: one or two lines, each a number after an a or after a b
abbrev pub either_layout : List Section
either_layout = section (bytes "a#\n" ∷ bytes "b#\n" ∷ []) 1 2 ∷ section (bytes "c# #\n" ∷ []) 0 1 ∷ []

abbrev pub second : ℤ → Line
second v = record { which = 1; numbers = v ∷ [] }

abbrev pub layout_figures : List Figure
layout_figures =
    writes_lines either_layout ((plain (pos 5 ∷ []) ∷ second (pos 6) ∷ []) ∷ (plain (pos 7 ∷ pos 8 ∷ []) ∷ []) ∷ []) "a5\nb6\nc7 8\n"
    -- a number that is not there is written as 0
    ∷ writes_lines either_layout ([] ∷ (plain (pos 7 ∷ []) ∷ []) ∷ []) "c7 0\n"
    ∷ writes_lines either_layout ((plain [] ∷ []) ∷ []) "a0\n"
    ∷ reads_lines either_layout "b6\na5\nc7 8\n)" ((second (pos 6) ∷ plain (pos 5 ∷ []) ∷ []) ∷ (plain (pos 7 ∷ pos 8 ∷ []) ∷ []) ∷ []) ")"
    ∷ reads_lines either_layout "a5\n" ((plain (pos 5 ∷ []) ∷ []) ∷ [] ∷ []) ""
    -- a third line of the first section, a second of the other and half a line are left
    ∷ reads_lines either_layout "a5\na6\nb7\n" ((plain (pos 5 ∷ []) ∷ plain (pos 6 ∷ []) ∷ []) ∷ [] ∷ []) "b7\n"
    ∷ reads_lines either_layout "a5\nc7 8\nc7 8\n" ((plain (pos 5 ∷ []) ∷ []) ∷ (plain (pos 7 ∷ pos 8 ∷ []) ∷ []) ∷ []) "c7 8\n"
    ∷ reads_lines either_layout "a5\nc7 8" ((plain (pos 5 ∷ []) ∷ []) ∷ [] ∷ []) "c7 8"
    -- a line without one of its numbers is none
    ∷ reads_lines either_layout "a5\nc7 x\n" ((plain (pos 5 ∷ []) ∷ []) ∷ [] ∷ []) "c7 x\n"
    ∷ no_lines either_layout "a\n"
    -- the bytes on either side of a and b
    ∷ no_lines either_layout "`5\n"
    ∷ no_lines either_layout "c5\n"
    ∷ no_lines either_layout "c7 8\n"
    ∷ no_lines either_layout ""
    ∷ []

-- ---- sheets
-- k copies of a text
unfoldable pub times : ℕ → List ℕ → List ℕ
times zero s = []
times (suc k) s = s ++ times k s

abbrev pub point_line : List ℕ
point_line = bytes "(edge (0 0) (0 0) (0 0) (0 0))\n"

-- k edges, and a reach r: with 262 of them and a reach of three digits 8,192 bytes
abbrev pub long_sheet : ℕ → String → List ℕ
long_sheet k r = bytes "(job\n(plate -1000000 -1000000 -1000000)\n(cell -1000000)\n(reach " ++ (bytes r ++ (bytes ")\n" ++ (times k point_line ++ bytes ")\n")))

abbrev pub two_edges : List ℤ
two_edges = pos 1 ∷ pos 2 ∷ pos 3 ∷ pos 4 ∷ pos 5 ∷ pos 6 ∷ pos 7 ∷ pos 8 ∷ negsuc 0 ∷ negsuc 1 ∷ negsuc 2 ∷ negsuc 3 ∷ negsuc 4 ∷ negsuc 5 ∷ negsuc 6 ∷ negsuc 7 ∷ []

abbrev pub two_sheet : ℤ → Job
two_sheet t = job (pos 11) (negsuc 11) (pos 6) (pos 3) (pos 14) t 2 two_edges

-- a line, a cubic and a line
abbrev pub mixed_sheet : Job
mixed_sheet = mixed_job (pos 11) (negsuc 11) (pos 6) (pos 3) (pos 14) (pos 10) 3 (pos 1 ∷ pos 2 ∷ pos 3 ∷ pos 4 ∷ pos 0 ∷ pos 0 ∷ pos 0 ∷ pos 0 ∷ pos 1 ∷ pos 2 ∷ pos 3 ∷ pos 4 ∷ pos 5 ∷ pos 6 ∷ pos 7 ∷ pos 8 ∷ negsuc 0 ∷ negsuc 1 ∷ negsuc 2 ∷ negsuc 3 ∷ []) (pos 1 ∷ pos 0 ∷ pos 1 ∷ [])

-- an outline of these lines under a short head
abbrev pub outlined : String → List ℕ
outlined s = bytes "(job\n(plate 0 0 0)\n(cell 0)\n(reach 1)\n" ++ (bytes s ++ bytes ")\n")

abbrev pub dot_line : List ℕ
dot_line = bytes "(line (0 0) (0 0))\n"

abbrev pub zeros : Read
zeros = record { refusal = 1; job = job (pos 0) (pos 0) (pos 0) (pos 0) (pos 0) (pos 0) 0 [] }

abbrev pub sheet_figures : List Figure
sheet_figures =
    stands job_at (job_form ∷ []) 1 1
    ∷ stands plate_at (plate_form ∷ []) 1 1
    ∷ stands cell_at (cell_form ∷ []) 1 1
    ∷ stands reach_at (reach_form ∷ []) 1 1
    ∷ stands grain_at (grain_form ∷ []) 0 1
    ∷ stands edges_at (edge_form ∷ line_form ∷ []) 0 8192
    ∷ stands end_at (end_form ∷ []) 1 1
    -- the grain on either side of the one that is not written
    ∷ sheet_of_is (two_sheet (pos 9)) "(job\n(plate 11 -12 6)\n(cell 3)\n(reach 14)\n(grain 9)\n(edge (1 2) (3 4) (5 6) (7 8))\n(edge (-1 -2) (-3 -4) (-5 -6) (-7 -8))\n)\n"
    ∷ sheet_of_is (two_sheet (pos 10)) "(job\n(plate 11 -12 6)\n(cell 3)\n(reach 14)\n(edge (1 2) (3 4) (5 6) (7 8))\n(edge (-1 -2) (-3 -4) (-5 -6) (-7 -8))\n)\n"
    ∷ sheet_of_is (two_sheet (pos 11)) "(job\n(plate 11 -12 6)\n(cell 3)\n(reach 14)\n(grain 11)\n(edge (1 2) (3 4) (5 6) (7 8))\n(edge (-1 -2) (-3 -4) (-5 -6) (-7 -8))\n)\n"
    -- lines among the edge lines
    ∷ sheet_of_is mixed_sheet "(job\n(plate 11 -12 6)\n(cell 3)\n(reach 14)\n(line (1 2) (3 4))\n(edge (1 2) (3 4) (5 6) (7 8))\n(line (-1 -2) (-3 -4))\n)\n"
    -- each line has its own numbers and no more
    ∷ job_lines (two_sheet (pos 10))
    ((plain [] ∷ []) ∷ (plain (pos 11 ∷ negsuc 11 ∷ pos 6 ∷ []) ∷ []) ∷ (plain (pos 3 ∷ []) ∷ []) ∷ (plain (pos 14 ∷ []) ∷ []) ∷ []
    ∷ (plain (pos 1 ∷ pos 2 ∷ pos 3 ∷ pos 4 ∷ pos 5 ∷ pos 6 ∷ pos 7 ∷ pos 8 ∷ []) ∷ plain (negsuc 0 ∷ negsuc 1 ∷ negsuc 2 ∷ negsuc 3 ∷ negsuc 4 ∷ negsuc 5 ∷ negsuc 6 ∷ negsuc 7 ∷ []) ∷ [])
    ∷ (plain [] ∷ []) ∷ [])
    ∷ job_lines mixed_sheet
    ((plain [] ∷ []) ∷ (plain (pos 11 ∷ negsuc 11 ∷ pos 6 ∷ []) ∷ []) ∷ (plain (pos 3 ∷ []) ∷ []) ∷ (plain (pos 14 ∷ []) ∷ []) ∷ []
    ∷ (record { which = 1; numbers = pos 1 ∷ pos 2 ∷ pos 3 ∷ pos 4 ∷ [] } ∷ plain (pos 1 ∷ pos 2 ∷ pos 3 ∷ pos 4 ∷ pos 5 ∷ pos 6 ∷ pos 7 ∷ pos 8 ∷ []) ∷ record { which = 1; numbers = negsuc 0 ∷ negsuc 1 ∷ negsuc 2 ∷ negsuc 3 ∷ [] } ∷ [])
    ∷ (plain [] ∷ []) ∷ [])
    -- an edge without a mark is a cubic
    ∷ writes_sheet (record { x = pos 0; y = pos 0; n = pos 0; m = pos 0; reach = pos 1; grain = pos 10; count = 1; places = []; marks = [] }) "(job\n(plate 0 0 0)\n(cell 0)\n(reach 1)\n(edge (0 0) (0 0) (0 0) (0 0))\n)\n"
    -- a grain that no accepted job has is written too
    ∷ writes_sheet (job (pos 0) (pos 0) (pos 0) (pos 0) (pos 0) (negsuc 9) 0 []) "(job\n(plate 0 0 0)\n(cell 0)\n(reach 0)\n(grain -10)\n)\n"
    -- the default grain may be written
    ∷ reads_refused (bytes "(job\n(plate 0 0 0)\n(cell 0)\n(reach 1)\n(grain 10)\n(edge (0 0) (0 0) (0 0) (0 0))\n)\n") 0
    -- the job of no lines at all, and of more edge lines than there are places
    ∷ lines_job [] (job (pos 0) (pos 0) (pos 0) (pos 0) (pos 0) (pos 10) 0 [])
    ∷ lines_job ([] ∷ [] ∷ [] ∷ [] ∷ [] ∷ replicate 65 (plain (replicate 8 (pos 1))) ∷ []) (job (pos 0) (pos 0) (pos 0) (pos 0) (pos 0) (pos 10) 65 (replicate 512 (pos 1)))
    -- of more line lines than there are places
    ∷ lines_job ([] ∷ [] ∷ [] ∷ [] ∷ [] ∷ replicate 65 (record { which = 1; numbers = replicate 4 (pos 0) }) ∷ []) (mixed_job (pos 0) (pos 0) (pos 0) (pos 0) (pos 0) (pos 10) 65 [] (replicate 64 (pos 1)))
    -- what is refused is a job of zeros
    ∷ reads (bytes "") zeros
    ∷ reads (bytes "(job\n(plate 0 0 0)\n(cell 0)\n(reach 1)\n)\n") (record { refusal = 2; job = zeros.job })
    -- a line that is missing, comes twice, or comes where another belongs
    ∷ reads_refused (bytes "(plate 0 0 0)\n(cell 0)\n(reach 1)\n(edge (0 0) (0 0) (0 0) (0 0))\n)\n") 1
    ∷ reads_refused (bytes "(job\n(cell 0)\n(reach 1)\n(edge (0 0) (0 0) (0 0) (0 0))\n)\n") 1
    ∷ reads_refused (bytes "(job\n(plate 0 0 0)\n(reach 1)\n(edge (0 0) (0 0) (0 0) (0 0))\n)\n") 1
    ∷ reads_refused (bytes "(job\n(plate 0 0 0)\n(cell 0)\n(edge (0 0) (0 0) (0 0) (0 0))\n)\n") 1
    ∷ reads_refused (bytes "(job\n(plate 0 0 0)\n(cell 0)\n(reach 1)\n(edge (0 0) (0 0) (0 0) (0 0))\n") 1
    ∷ reads_refused (bytes "(job\n(job\n(plate 0 0 0)\n(cell 0)\n(reach 1)\n(edge (0 0) (0 0) (0 0) (0 0))\n)\n") 1
    ∷ reads_refused (bytes "(job\n(plate 0 0 0)\n(plate 0 0 0)\n(cell 0)\n(reach 1)\n(edge (0 0) (0 0) (0 0) (0 0))\n)\n") 1
    ∷ reads_refused (bytes "(job\n(plate 0 0 0)\n(cell 0)\n(cell 0)\n(reach 1)\n(edge (0 0) (0 0) (0 0) (0 0))\n)\n") 1
    ∷ reads_refused (bytes "(job\n(plate 0 0 0)\n(cell 0)\n(reach 1)\n(reach 1)\n(edge (0 0) (0 0) (0 0) (0 0))\n)\n") 1
    ∷ reads_refused (bytes "(job\n(plate 0 0 0)\n(cell 0)\n(reach 1)\n(grain 9)\n(grain 9)\n(edge (0 0) (0 0) (0 0) (0 0))\n)\n") 1
    ∷ reads_refused (bytes "(job\n(plate 0 0 0)\n(cell 0)\n(reach 1)\n(edge (0 0) (0 0) (0 0) (0 0))\n)\n)\n") 1
    -- a byte after the last line
    ∷ reads_refused (bytes "(job\n(plate 0 0 0)\n(cell 0)\n(reach 1)\n(edge (0 0) (0 0) (0 0) (0 0))\n)\n ") 1
    -- a line of one point and of three, with two spaces, with another word, with another zero, and one that is right
    ∷ reads_refused (outlined "(line (0 0))\n") 1
    ∷ reads_refused (outlined "(line (0 0) (0 0) (0 0))\n") 1
    ∷ reads_refused (outlined "(line  (0 0) (0 0))\n") 1
    ∷ reads_refused (outlined "(Line (0 0) (0 0))\n") 1
    ∷ reads_refused (outlined "(line (-0 0) (0 0))\n") 1
    ∷ reads_refused (outlined "(edge (0 0) (0 0))\n") 1
    ∷ reads_refused (outlined "(line (0 0) (0 0) (0 0) (0 0))\n") 1
    ∷ reads_refused (outlined "(line (0 0) (0 0))\n") 0
    ∷ reads_refused (outlined "(line (0 0) (0 1000000))\n") 0
    ∷ reads_refused (outlined "(line (0 0) (0 1000001))\n") 3
    -- 33 edges and 31 lines, and 32; 428 lines in 8,192 bytes, and 429
    ∷ reads_refused (bytes "(job\n(plate 0 0 0)\n(cell 0)\n(reach 1)\n" ++ (times 33 point_line ++ (times 31 dot_line ++ bytes ")\n"))) 0
    ∷ reads_refused (bytes "(job\n(plate 0 0 0)\n(cell 0)\n(reach 1)\n" ++ (times 33 point_line ++ (times 32 dot_line ++ bytes ")\n"))) 2
    ∷ reads_refused (bytes "(job\n(plate -8 -8 4)\n(cell 1)\n(reach 4)\n(grain 1)\n" ++ (times 428 dot_line ++ bytes ")\n")) 2
    ∷ reads_refused (bytes "(job\n(plate -8 -8 4)\n(cell 1)\n(reach 4)\n(grain 1)\n" ++ (times 429 dot_line ++ bytes ")\n")) 1
    -- 64 edges and 65, 8,192 bytes and 8,193
    ∷ reads_refused (bytes "(job\n(plate 0 0 0)\n(cell 0)\n(reach 1)\n" ++ (times 64 point_line ++ bytes ")\n")) 0
    ∷ reads_refused (bytes "(job\n(plate 0 0 0)\n(cell 0)\n(reach 1)\n" ++ (times 65 point_line ++ bytes ")\n")) 2
    ∷ reads_refused (long_sheet 262 "100") 2
    ∷ reads_refused (long_sheet 262 "1000") 1
    ∷ []

-- ---- the statements
pub numbers_hold : AllHold Holds number_figures
unfolding text decimal number natural more_digits digit
numbers_hold =
    refl and refl and refl and refl and refl and refl and refl and refl and refl and refl and refl and refl and refl and refl and refl and refl
    and refl and refl and refl and refl and refl and refl and refl and refl and refl and refl and refl
    and tt

pub layouts_hold : AllHold Holds layout_figures
unfolding text decimal number natural more_digits digit write_all write_lines write_line write_form read_all read_lines read_line read_form byte
layouts_hold =
    refl and refl and refl and refl and refl and refl and refl and refl and refl and refl and refl and refl and refl and refl
    and tt

pub sheets_hold : AllHold Holds sheet_figures
unfolding text decimal number natural more_digits digit write_all write_lines write_line write_form read_all read_lines read_line read_form byte times layout tail_layout job_form plate_form cell_form reach_form grain_form edge_form line_form end_form same stated edge_lines sheet_of joined fit marks_of places_of ended read_sheet read read_answer accepted judge counted ranged celled between coordinate is_zero placed is_one spare kind marked
sheets_hold =
    refl and refl and refl and refl and refl and refl and refl
    and (refl, refl) and (refl, refl) and (refl, refl) and (refl, refl) and refl and refl and refl and refl and refl and refl and refl and refl and refl and refl and refl and refl and refl and refl and refl and refl and refl and refl
    and refl and refl and refl and refl and refl and refl and refl and refl and refl and refl and refl and refl and refl and refl
    and refl and refl and refl and refl and refl and refl and refl and refl
    and tt
