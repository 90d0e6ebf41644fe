-- The trip's steps, from the laws of the face alone. Assumes nothing.
use Rattle.std.specs.Prelude.{◌≡◌, List, ℕ, ℤ, ◌≤◌, T, ltb, length, take, Result, Ok, Err, OnOk}
use Rattle.std.proofs.Common.{sym, ap, ap₂, subst, ◌∙◌, arith}
use Rattle.model.specs.declared.Job.{Job}
use Rattle.model.specs.declared.Refusal.{Refusal}
use Rattle.model.specs.Answers.{meant, number_of, told, Read, Written, Map, as_read, as_written, as_map}
use Rattle.model.specs.Entries as entries
use Rattle.model.specs.Promises.{Whole, MapHolds}
use Rattle.clearance.specs.Sheets.{write_read, write_fits}

module _ (j : Job) (out after : List ℕ) (left : after ≡ entries.write_leaves j out) where
  -- writing was refused
  pub not_written : (k : Refusal) → as_written (Err k) ≡ entries.write j out → number_of k ≡ (entries.write j out).refusal
  not_written k e = ap (λ (w : Written). w.refusal) e

  module _ (n : ℕ) (wrote : as_written (Ok n) ≡ entries.write j out) where
    pub accepted : 0 ≡ (entries.write j out).refusal
    accepted = ap (λ (w : Written). w.refusal) wrote

    -- the bytes written are there to be read
    pub in_reach : length after ≡ length out → n ≤ length after
    in_reach long = omega (arith, write_fits j out, ap (λ (w : Written). w.bytes) wrote)

    module _ (whole : Whole j) where
      came : entries.read (take n after) ≡ record { refusal = 0; job = j }
      came = ap₂ (λ (n : ℕ) (s : List ℕ). entries.read (take n s)) (ap (λ (w : Written). w.bytes) wrote) left ∙ write_read j out whole (sym accepted)

      -- they are no sheet that is refused
      pub not_refused : (k : Refusal) → as_read (Err k) ≡ entries.read (take n after) → ⊥
      not_refused k e = subst (λ (n : ℕ). T (ltb 0 n)) (ap (λ (r : Read). r.refusal) (e ∙ came)) (meant k).above

      -- the job came back
      pub job_is : (back : Job) → as_read (Ok back) ≡ entries.read (take n after) → back ≡ j
      job_is back e = ap (λ (r : Read). r.job) (e ∙ came)

-- ---- the map of the job that came back
module _ (j back : Job) (same : back ≡ j) (store : List ℤ) (cells letters : List ℕ) (m : Result ℕ Refusal) where
  numbered : (m : Result ℕ Refusal) → told m ≡ (as_map m).refusal
  numbered (Ok n) = λ i. 0
  numbered (Err k) = λ i. number_of k

  pub map_told : as_map m ≡ entries.map back store cells → told m ≡ (entries.map j store cells).refusal
  map_told e = numbered m ∙ ap (λ (r : Map). r.refusal) (e ∙ ap (λ (i : Job). entries.map i store cells) same)

  pub map_true : OnOk m (MapHolds back letters) → OnOk m (MapHolds j letters)
  map_true h = subst (λ (i : Job). OnOk m (MapHolds i letters)) same h
