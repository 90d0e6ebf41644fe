-- The needs of the checks and of the answer, over plain variables. Assumes nothing.
use Rattle.std.proofs.Common.{◌≡◌, refl, sym, ap, ◌∙◌, subst, Bool, true, false, cond, List, [], ◌++◌, ℕ, zero, suc, ◌+◌, ◌*◌, ◌≤◌, ◌<◌, leb, eqb, length, get_or, take, slice_index_or, All, arith, eqb-true, eq-eqb, ne_eqb, length-take-le, Fits, w64, Result, Ok, Err}
use Rattle.std.proofs.Math.Nat.{mul-le-mul}
use Rattle.std.proofs.lemmas.List.{get_or-take, get_or_default}
use borrow.Author.Tests.{lt-leb, le-leb}
use Rattle.model.specs.declared.Job.{Job}
use Rattle.model.specs.Answers.{Grid, as_grid, meant, number_of}
use Rattle.model.specs.declared.Refusal.{Refusal}
use Rattle.model.specs.Refusals as refused
use Rattle.model.specs.Refusals.{check, accepted}
use Rattle.model.specs.Jobs.{own, judge}
use Rattle.model.specs.Plates.{columns, cells_of}
use Rattle.model.specs.Entries.{grid}
use Rattle.model.specs.Promises.{MapHolds}
use Rattle.ranges.specs.Refusals.{when_passed, when_refused, accepted_is, refused_is, some_number}
use Rattle.clearance.specs.Demands.{grid_few}
use Rattle.table_four.specs.declared.Clamp.{Clamp}
use Rattle.table_four.specs.declared.Placed.{Placed as Told}
use Rattle.table_four.specs.Answers.{Placed, as_placed}
use Rattle.table_four.specs.declared.Stop.{Stop}
use Rattle.table_four.specs.Table.{leading, every, is_letter, letter_byte, on_plate, clamp_at, clear_cells, clear_rows, clear_clamps, place_refusal, turned_away, gone, either, stopped, placed_by, place}
use Rattle.table_four.specs.Promises.{GoMeans}
use Rattle.table_four.specs.Leading.{every_first}
use Rattle.table_four.specs.Places.{Within, four_in, on_is}
use Rattle.table_four.specs.Stops.{FirstCell, FirstStop}
use Rattle.table_four.proofs.Loops.{leading_is, leading_all}
use Rattle.table_four.proofs.Go.{go_true}

-- ---- a test of the four clamps, and of a map's first cells, as all of them pass it
four_at : (cs : List ℕ) (m : ℕ) (d : Clamp) → m < 4 → slice_index_or (four_in cs) m d ≡ clamp_at cs m
four_at cs zero d h = refl
four_at cs (suc zero) d h = refl
four_at cs (suc (suc zero)) d h = refl
four_at cs (suc (suc (suc zero))) d h = refl
four_at cs (suc (suc (suc (suc m)))) d h = absurd (omega arith)

untrue : (b : Bool) → (b ≡ true → ⊥) → b ≡ false
untrue true h = absurd (h refl)
untrue false h = refl

module _ (f : ℕ → Bool) (k : ℕ) where
  every_true : ((m : ℕ) → m < k → f m ≡ true) → every f k 0 ≡ true
  every_true h = eq-eqb (leading f k 0) k (leading_all f k 0 (λ m l. ap f (let z : 0 + m ≡ m = omega arith in z) ∙ h m l))

  every_false : (((m : ℕ) → m < k → f m ≡ true) → ⊥) → every f k 0 ≡ false
  every_false h = untrue (every f k 0) (λ e. h (λ m l. every_first f k m e l))

module _ (f : Clamp → Bool) (cs : List ℕ) where
  four_pass : All (λ c. f c ≡ true) (four_in cs) → (m : ℕ) → m < 4 → f (clamp_at cs m) ≡ true
  four_pass all m h = ap f (sym (four_at cs m (clamp_at cs m) h)) ∙ all m (clamp_at cs m) h

  pub four_true : All (λ c. f c ≡ true) (four_in cs) → every (λ k. f (clamp_at cs k)) 4 0 ≡ true
  four_true all = every_true (λ k. f (clamp_at cs k)) 4 (four_pass all)

  pub four_false : (All (λ c. f c ≡ true) (four_in cs) → ⊥) → every (λ k. f (clamp_at cs k)) 4 0 ≡ false
  four_false h = every_false (λ k. f (clamp_at cs k)) 4 (λ all. h (λ m d l. ap f (four_at cs m d l) ∙ all m l))

module _ (cells : List ℕ) (k : ℕ) (room : k ≤ length cells) where
  long : length (take k cells) ≡ k
  long = length-take-le k cells room

  at : (m : ℕ) → m < k → get_or (take k cells) m 0 ≡ get_or cells m 0
  at m h = get_or-take k cells m 0 h

  pub letters_true : All (λ b. letter_byte b ≡ true) (take k cells) → every (is_letter cells) k 0 ≡ true
  letters_true all = every_true (is_letter cells) k (λ m h. ap letter_byte (sym (at m h)) ∙ all m 0 (omega (arith, long, h)))

  pub letters_false : (All (λ b. letter_byte b ≡ true) (take k cells) → ⊥) → every (is_letter cells) k 0 ≡ false
  letters_false h = every_false (is_letter cells) k (λ all. h (λ m d l. let i : m < k = omega (arith, long, l) in ap letter_byte (get_or_default (take k cells) m d 0 l ∙ at m i) ∙ all m i))

module _ (j : Job) (cells cs : List ℕ) where
  abbrev Roomy : Bool
  Roomy = leb (cells_of j) (length cells)

  abbrev OnAll : Bool
  OnAll = every (λ k. on_plate (columns j) (clamp_at cs k)) 4 0

  abbrev Lettered : Bool
  Lettered = every (is_letter cells) (cells_of j) 0

  by_own : judge j ≡ 0 → place_refusal j cells cs ≡ cond Roomy (cond OnAll (cond Lettered 0 11) 10) 7
  unfolding place_refusal judge
  by_own e = when_passed (own j []) (check refused.space Roomy ++ (check refused.off_plate OnAll ++ check refused.letter Lettered)) e

  -- ---- a refusal, by its number
  pub refused_as : {k : ℕ} → k ≡ place_refusal j cells cs → (k ≡ 0 → ⊥) → turned_away k ≡ place j cells cs
  unfolding place
  refused_as e h = ap turned_away e ∙ sym (refused_is (place_refusal j cells cs) (placed_by (columns j) cells cs (clear_clamps (columns j) cells cs)) (turned_away (place_refusal j cells cs)) (λ z. h (e ∙ z)))

  -- the job's own
  judged : (r : Result ℕ Refusal) → as_grid r ≡ grid j → (as_grid r).refusal ≡ judge j
  unfolding grid
  judged r q = ap (λ (u : Grid). u.refusal) q

  pub own_refused : (k : Refusal) (r : Result Told Refusal) → as_grid (Err k) ≡ grid j → r ≡ Err k → as_placed r ≡ place j cells cs
  unfolding place_refusal judge
  own_refused k r q e =
      let above : number_of k ≡ 0 → ⊥ = λ z. omega (arith, some_number (meant k), z) in
      let own : number_of k ≡ place_refusal j cells cs = judged (Err k) q ∙ sym (when_refused (own j []) (check refused.space Roomy ++ (check refused.off_plate OnAll ++ check refused.letter Lettered)) (λ z. above (judged (Err k) q ∙ z))) in
      ap as_placed e ∙ refused_as own above

  -- ---- an accepted job
  module _ {side : ℕ} (q : as_grid (Ok side) ≡ grid j) where
    pub few : side ≤ 256
    few = omega (arith, grid_few j, ap (λ (u : Grid). u.side) q)

    pub square : Fits w64 (side * side)
    square = record { fits = omega (arith, mul-le-mul few few) }

    side_is : side ≡ columns j
    unfolding grid
    side_is = ap (λ (u : Grid). u.side) q ∙ accepted_is (judge j) (columns j) 0 (sym (judged (Ok side) q))

    cells_are : side * side ≡ cells_of j
    cells_are = ap (λ (n : ℕ). n * n) side_is

    chain : place_refusal j cells cs ≡ cond Roomy (cond OnAll (cond Lettered 0 11) 10) 7
    chain = by_own (sym (judged (Ok side) q))

    pub too_short : length cells < side * side → turned_away 7 ≡ place j cells cs
    too_short h = refused_as {k = 7} (sym (chain ∙ ap (λ (b : Bool). cond b (cond OnAll (cond Lettered 0 11) 10) 7) (lt-leb (cells_of j) (length cells) (omega (arith, h, cells_are))))) (λ z. omega (arith, z))

    module _ (h : side * side ≤ length cells) where
      chain₂ : place_refusal j cells cs ≡ cond OnAll (cond Lettered 0 11) 10
      chain₂ = chain ∙ ap (λ (b : Bool). cond b (cond OnAll (cond Lettered 0 11) 10) 7) (le-leb (cells_of j) (length cells) (omega (arith, h, cells_are)))

      pub off_plate_is : (All (λ c. on_plate side c ≡ true) (four_in cs) → ⊥) → turned_away 10 ≡ place j cells cs
      off_plate_is w = refused_as {k = 10} (sym (chain₂ ∙ ap (λ (b : Bool). cond b (cond Lettered 0 11) 10) (four_false (on_plate (columns j)) cs (subst (λ (n : ℕ). All (λ c. on_plate n c ≡ true) (four_in cs) → ⊥) side_is w)))) (λ z. omega (arith, z))

      module _ (on : All (λ c. on_plate side c ≡ true) (four_in cs)) where
        chain₃ : place_refusal j cells cs ≡ cond Lettered 0 11
        chain₃ = chain₂ ∙ ap (λ (b : Bool). cond b (cond Lettered 0 11) 10) (four_true (on_plate (columns j)) cs (subst (λ (n : ℕ). All (λ c. on_plate n c ≡ true) (four_in cs)) side_is on))

        pub no_letter : (All (λ b. letter_byte b ≡ true) (take (side * side) cells) → ⊥) → turned_away 11 ≡ place j cells cs
        no_letter w = refused_as {k = 11} (sym (chain₃ ∙ ap (λ (b : Bool). cond b 0 11) (ap (λ (n : ℕ). every (is_letter cells) n 0) (sym cells_are) ∙ letters_false cells (side * side) h w))) (λ z. omega (arith, z))

        pub within : All (Within side cells) (four_in cs)
        within m d l = record { on = on_is side _ (on m d l); few = few; room = h }

        module _ (all : All (λ b. letter_byte b ≡ true) (take (side * side) cells)) where
          well : place_refusal j cells cs ≡ 0
          well = chain₃ ∙ ap (λ (b : Bool). cond b 0 11) (ap (λ (n : ℕ). every (is_letter cells) n 0) (sym cells_are) ∙ letters_true cells (side * side) h all)

          answer : place j cells cs ≡ placed_by (columns j) cells cs (clear_clamps (columns j) cells cs)
          unfolding place
          answer = accepted_is (place_refusal j cells cs) (placed_by (columns j) cells cs (clear_clamps (columns j) cells cs)) (turned_away (place_refusal j cells cs)) well

          at_side : placed_by (columns j) cells cs (clear_clamps (columns j) cells cs) ≡ placed_by side cells cs (clear_clamps side cells cs)
          at_side = ap (λ (n : ℕ). placed_by n cells cs (clear_clamps n cells cs)) (sym side_is)

          clear_is : (c : Clamp) → clear_rows side cells c ≡ c.rows → eqb (clear_rows side cells c) c.rows ≡ true
          clear_is c e = eq-eqb (clear_rows side cells c) c.rows e

          pub go_answer : All (λ c. clear_rows side cells c ≡ c.rows) (four_in cs) → gone ≡ place j cells cs
          unfolding placed_by
          go_answer clear =
              let e = eqb-true _ _ (four_true (λ c. eqb (clear_rows side cells c) c.rows) cs (λ m d l. clear_is _ (clear m d l))) in
              sym (answer ∙ at_side ∙ ap (λ (b : Bool). either b gone (stopped side cells (clamp_at cs (clear_clamps side cells cs)) (clear_clamps side cells cs))) (eq-eqb (clear_clamps side cells cs) 4 e))

          pub stop_answer : (s : Stop) → FirstStop side cells (four_in cs) s → record { refusal = 0; go = false; clamp = s.clamp; column = s.cell.column; row = s.cell.row } ≡ place j cells cs
          unfolding placed_by
          stop_answer s f = named ∙ sym (answer ∙ at_side ∙ ap (λ (k : ℕ). placed_by side cells cs k) first ∙ ap (λ (b : Bool). either b gone (stopped side cells (clamp_at cs s.clamp) s.clamp)) (ne_eqb s.clamp 4 (λ z. omega (arith, f.there, z))))
            where
              cell : FirstCell side cells (clamp_at cs s.clamp) s.cell
              cell = subst (λ (c : Clamp). FirstCell side cells c s.cell) (four_at cs s.clamp (clamp_at cs s.clamp) f.there) (f.here (clamp_at cs s.clamp))

              first : clear_clamps side cells cs ≡ s.clamp
              first =
                  leading_is (λ k. eqb (clear_rows side cells (clamp_at cs k)) (clamp_at cs k).rows) 4 0 s.clamp f.there
                  (λ m l. subst (λ (k : ℕ). eqb (clear_rows side cells (clamp_at cs k)) (clamp_at cs k).rows ≡ true) (let z : m ≡ 0 + m = omega arith in z) (subst (λ (c : Clamp). eqb (clear_rows side cells c) c.rows ≡ true) (four_at cs m (clamp_at cs m) (omega (arith, f.there, l))) (clear_is _ (f.before m (clamp_at cs m) l))))
                  (subst (λ (k : ℕ). eqb (clear_rows side cells (clamp_at cs k)) (clamp_at cs k).rows ≡ false) (let z : s.clamp ≡ 0 + s.clamp = omega arith in z) (ne_eqb (clear_rows side cells (clamp_at cs s.clamp)) (clamp_at cs s.clamp).rows (λ z. omega (arith, cell.some, z))))

              named : record { refusal = 0; go = false; clamp = s.clamp; column = s.cell.column; row = s.cell.row } ≡ stopped side cells (clamp_at cs s.clamp) s.clamp
              named = λ t. record { refusal = 0; go = false; clamp = s.clamp; column = column t; row = cell.row_is t }
                where
                  column : s.cell.column ≡ (clamp_at cs s.clamp).column + clear_cells side cells (clamp_at cs s.clamp) ((clamp_at cs s.clamp).row + clear_rows side cells (clamp_at cs s.clamp))
                  column = cell.column_is ∙ ap (λ (r : ℕ). (clamp_at cs s.clamp).column + clear_cells side cells (clamp_at cs s.clamp) r) cell.row_is

          pub go_means : All (λ c. clear_rows side cells c ≡ c.rows) (four_in cs) → MapHolds j cells → GoMeans j cs
          go_means clear = go_true j cells cs (ap (λ (p : Placed). p.go) (sym (go_answer clear)))
