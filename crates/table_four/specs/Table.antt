-- RULES, "Clamps": the four clamps of table four on a map, and the one answer for every job, map and clamps. Assumes nothing.
use Rattle.std.specs.Prelude.{Bool, true, false, ◌&&◌, ◌||◌, List, [], ◌++◌, ℕ, zero, suc, ◌+◌, ◌*◌, ◌-◌, leb, ltb, eqb, length, get_or}
use Rattle.model.specs.declared.Job.{Job}
use Rattle.model.specs.Refusals as refused
use Rattle.model.specs.Refusals.{Checks, check, first, accepted}
use Rattle.model.specs.Jobs.{own}
use Rattle.model.specs.Plates.{letter, clear, within, doubtful, columns, cells_of}
use Rattle.table_four.specs.declared.Clamp.{Clamp}
use Rattle.table_four.specs.Answers.{Placed}

-- ---- how many of k, from i on, pass a test before the first that does not; and whether all do
abbrev pub onward : Bool → ℕ → ℕ
onward true n = suc n
onward false n = 0

unfoldable pub leading : (ℕ → Bool) → ℕ → ℕ → ℕ
leading f zero i = 0
leading f (suc k) i = onward (f i) (leading f k (suc i))

abbrev pub every : (ℕ → Bool) → ℕ → ℕ → Bool
every f k i = eqb (leading f k i) k

-- ---- a clamp: where it begins, by column and row from 0, and how many it spans of each; four of them are 16 numbers
abbrev pub clamp_at : List ℕ → ℕ → Clamp
clamp_at cs k = record { column = get_or cs (4 * k) 0; row = get_or cs (4 * k + 1) 0; columns = get_or cs (4 * k + 2) 0; rows = get_or cs (4 * k + 3) 0 }

-- some, and all of them, from the first on, lie below n: compared without a sum, so that any numbers will do
abbrev pub lies : ℕ → ℕ → ℕ → Bool
lies n begin count = leb 1 count && (ltb begin n && leb count (n - begin))

abbrev pub on_plate : ℕ → Clamp → Bool
on_plate n c = lies n c.column c.columns && lies n c.row c.rows

-- ---- the bytes of a map
abbrev pub is_clear : List ℕ → ℕ → Bool
is_clear cells p = eqb (get_or cells p 0) (letter clear)

abbrev pub letter_byte : ℕ → Bool
letter_byte b = eqb b (letter clear) || (eqb b (letter within) || eqb b (letter doubtful))

abbrev pub is_letter : List ℕ → ℕ → Bool
is_letter cells p = letter_byte (get_or cells p 0)

-- ---- on a map of n cells a side: of a clamp's row its first clear cells, of a clamp its first clear rows, of the four the first clear clamps
abbrev pub clear_cells : ℕ → List ℕ → Clamp → ℕ → ℕ
clear_cells n cells c r = leading (is_clear cells) c.columns (r * n + c.column)

abbrev pub clear_rows : ℕ → List ℕ → Clamp → ℕ
clear_rows n cells c = leading (λ r. eqb (clear_cells n cells c r) c.columns) c.rows c.row

abbrev pub clear_clamps : ℕ → List ℕ → List ℕ → ℕ
clear_clamps n cells cs = leading (λ k. eqb (clear_rows n cells (clamp_at cs k)) (clamp_at cs k).rows) 4 0

-- ---- the refusals: the job's own, 7 for a map that is too short, 10 for a clamp that is not on it, 11 for a cell that is no letter
abbrev pub place_checks : Job → List ℕ → List ℕ → Checks
place_checks j cells cs =
    own j [] ++ (check refused.space (leb (cells_of j) (length cells))
    ++ (check refused.off_plate (every (λ k. on_plate (columns j) (clamp_at cs k)) 4 0) ++ check refused.letter (every (is_letter cells) (cells_of j) 0)))

unfoldable pub place_refusal : Job → List ℕ → List ℕ → ℕ
place_refusal j cells cs = first (place_checks j cells cs)

-- ---- the answer: refused, a go, or the first clamp that is not clear with its first cell that is not
abbrev pub turned_away : ℕ → Placed
turned_away k = record { refusal = k; go = false; clamp = 0; column = 0; row = 0 }

abbrev pub gone : Placed
gone = record { refusal = 0; go = true; clamp = 0; column = 0; row = 0 }

abbrev pub stopped : ℕ → List ℕ → Clamp → ℕ → Placed
stopped n cells c k =
    let r : ℕ = c.row + clear_rows n cells c in
    record { refusal = 0; go = false; clamp = k; column = c.column + clear_cells n cells c r; row = r }

abbrev pub either : Bool → Placed → Placed → Placed
either true p q = p
either false p q = q

-- with so many clear clamps before the first that is not
unfoldable pub placed_by : ℕ → List ℕ → List ℕ → ℕ → Placed
placed_by n cells cs k = either (eqb k 4) gone (stopped n cells (clamp_at cs k) k)

unfoldable pub place : Job → List ℕ → List ℕ → Placed
place j cells cs = accepted (place_refusal j cells cs) (placed_by (columns j) cells cs (clear_clamps (columns j) cells cs)) (turned_away (place_refusal j cells cs))
