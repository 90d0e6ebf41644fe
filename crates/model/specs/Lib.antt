-- The rules as definitions: docs/RULES.md has a section for each file, in this order. This, and `basics` before it, is what a reader has to
-- believe; all else in the repository is proved of it. The words that both are written in are the kit's: ℕ, ℤ, their operations and tests, lists, equality
-- and logic (`Rattle.std.specs.Prelude`, `Rattle.std.specs.Int.Signed`), a string's bytes.
-- Each file is one concern. Nothing here is proved beyond what a definition needs, apart from the last files, in which worked figures hold of
-- the definitions.

-- ---- the refusals: their numbers, and which one is given
pub mod Refusals
-- ---- the job's limits, and its outline
pub mod Jobs
-- ---- the job sheet: a number's text, a line, a layout of lines, the sheet
pub mod Bytes
pub mod Numbers
pub mod Forms
pub mod Layouts
pub mod Sheets
-- ---- strips, strip trees, the boxes around their leaves, and the store
pub mod Strips
pub mod Trees
pub mod Boxes
pub mod Store
-- ---- exploring the plate
pub mod Roots
pub mod Explore
pub mod Plates
-- ---- what a map means
pub mod Fractions
pub mod Exact
-- ---- the distance of a point, and how it is looked up
pub mod Distance
pub mod Lookup
-- ---- what each public entry answers and leaves, and the cases in which it refuses
pub mod Answers
pub mod Entries
pub mod Cases
-- ---- what the program prints
pub mod Printing
-- ---- what is proved of all this
pub mod Promises
-- ---- worked figures
pub mod FigureTables
pub mod Figures
-- ---- figures on either side of each number and comparison, a file for each part above
pub mod SheetFigures
pub mod JobFigures
pub mod StripFigures
pub mod BoxFigures
pub mod PlateFigures
pub mod EntryFigures
pub mod GridFigures
pub mod CaseFigures
pub mod PointFigures
pub mod ExactFigures
