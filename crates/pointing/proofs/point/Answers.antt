use Rattle.std.proofs.Common.{rules, ◌≡◌, refl, sym, ap, ◌∙◌, ◌&&◌, Bool, List, ℤ}
use mir.Facts.{to_z-of_z}
use mir.Syntax.{w64}
use mir.Val.{to_z, of_z}
use Rattle.model.specs.declared.Job.{Job}
use Rattle.model.specs.Answers.{number_of}
use Rattle.model.specs.Refusals.{first}
use Rattle.model.specs.Jobs.{coordinate, judge_with}
use Rattle.model.specs.Store.{forest}
use Rattle.model.specs.Lookup.{State}
use Rattle.ranges.specs.Legal.{Legal}
use Rattle.subtrees.specs.Fronts.{Holds}
use Rattle.subtrees.specs.Sizes.{forest_held}
use Rattle.forests.specs.Stored.{store_checks, found_held}
use Rattle.pointing.proofs.Found.{above, refused, accept, asked, Passed, passed, store_told, lookup_found}
use Rattle.pointing.proofs.point.Goals as goal

-- ---- the checks of numbers, from what they told, and a store that holds the job's trees
good : (j : Job) (x y : ℤ) (store : List ℤ) (b : Bool) → b ≡ (coordinate x && coordinate y) → 0 ≡ judge_with j b → Passed j x y store
good j x y store b s e = passed j x y store (sym (e ∙ ap (judge_with j) s))

holds : (j : Job) (store : List ℤ) → Legal j → 0 ≡ first (store_checks j store) → Holds store j.count (forest j)
holds j store l e = forest_held j store l (found_held j store 0 e refl)

pub returns-in_err-judge_with : goal.returns-in_err-judge_with
returns-in_err-judge_with c =
    let k = c.in_err-judge_with.field-0.0 in
    let spot : c.in_range.result ≡ (coordinate c.args.x && coordinate c.args.y) = search rules in
    let e = c.in_err-judge_with.ensures.answer ∙ ap (judge_with c.args.job) spot in
    record { answer = refused c.args.job c.args.x c.args.y c.args.store.now c.from_residual.result k (search rules) (asked c.args.job c.args.x c.args.y c.args.store.now (number_of k) e (above k)) }

pub check_store-requires : goal.check_store-requires
check_store-requires c =
    let spot : c.in_range.result ≡ (coordinate c.args.x && coordinate c.args.y) = search rules in
    record { legal = (good c.args.job c.args.x c.args.y c.args.store.now c.in_range.result spot c.in_ok-judge_with.ensures.answer).job }

pub returns-in_err-check_store : goal.returns-in_err-check_store
returns-in_err-check_store c =
    let spot : c.in_range.result ≡ (coordinate c.args.x && coordinate c.args.y) = search rules in
    let k = c.in_err-check_store.field-0.0 in
    record {
      answer =
          refused c.args.job c.args.x c.args.y c.args.store.now c.from_residual-in_err-check_store.result k (search rules)
          (store_told c.args.job c.args.x c.args.y c.args.store.now (good c.args.job c.args.x c.args.y c.args.store.now c.in_range.result spot c.in_ok-judge_with.ensures.answer) (number_of k) c.in_err-check_store.ensures.refusal);
    }

pub nearest-found-requires : goal.nearest-found-requires
nearest-found-requires c =
    let spot : c.in_range.result ≡ (coordinate c.args.x && coordinate c.args.y) = search rules in
    let p = good c.args.job c.args.x c.args.y c.args.store.now c.in_range.result spot c.in_ok-judge_with.ensures.answer in
    rw (to_z-of_z c.ranges.x, to_z-of_z c.ranges.y) (record { held = (record { trees = forest c.args.job; holds = holds c.args.job c.args.store.now p.job c.in_ok-check_store.ensures.refusal }, p.x_in, p.y_in) })

pub returns : goal.returns
returns c =
    let spot : c.in_range.result ≡ (coordinate c.args.x && coordinate c.args.y) = search rules in
    let p = good c.args.job c.args.x c.args.y c.args.store.now c.in_range.result spot c.in_ok-judge_with.ensures.answer in
    let a = rw (to_z-of_z c.ranges.x, to_z-of_z c.ranges.y) at (c.nearest-found.ensures.found (forest c.args.job) (holds c.args.job c.args.store.now p.job c.in_ok-check_store.ensures.refusal)) in
    let w = lookup_found c.args.job c.args.x c.args.y c.args.store.now p in
    let z = store_told c.args.job c.args.x c.args.y c.args.store.now p 0 c.in_ok-check_store.ensures.refusal in
    let low : to_z w64 (of_z w64 c.nearest-found.result.lo) ≡ c.nearest-found.result.lo = search rules in
    let high : to_z w64 (of_z w64 c.nearest-found.result.hi) ≡ c.nearest-found.result.hi = search rules in
    record {
      answer =
          accept c.args.job c.args.x c.args.y c.args.store.now _ z refl (low ∙ ap (λ (st : State). st.lo) a ∙ w.lo_is)
          (high ∙ ap (λ (st : State). st.hi) a ∙ w.hi_is)
          (ap (λ (st : State). st.edge) a ∙ w.edge_is);
    }
