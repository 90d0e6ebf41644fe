-- What the answer for a cell means, for any list of trees that covers a set. Assumes nothing.
use Rattle.std.specs.Prelude.{◌≡◌, List, ℤ, pos}
use Rattle.std.proofs.Common.{sym, ◌∙◌}
use Rattle.integers.specs.Order.{◌≼◌, num, ◌⊞◌, ◌⊠◌}
use Rattle.model.specs.Fractions.{Point}
use Rattle.model.specs.Exact.{Points}
use Rattle.model.specs.Trees.{Tree}
use Rattle.model.specs.Explore.{Cell, inside, away, maybe, judged, explore_all}
use Rattle.enclosure.specs.Covers.{CoversAll}
use Rattle.verdicts.specs.AnswerCases.{maybe≢inside, maybe≢away}
use Rattle.verdicts.specs.Tests.{AllCloser, AllClear, AllAtLeast, AllAtMost}
use Rattle.verdicts.proofs.Tests.{reach_sound}
use Rattle.verdicts.specs.Trees.{Sound, AllShorts, all_inside, all_away, all_lower, all_upper}

module _ (S : Points) (ts : List Tree) (cov : CoversAll S ts) (r T : ℤ) (hr : pos 0 ≼ r) (hT : pos 0 ≼ T) (c : Cell) (hs : pos 0 ≼ c.s) where
  sound : Sound T (judged r c) (AllCloser r c) (AllClear r c) (AllAtLeast r T c) (AllAtMost r T c)
  sound = reach_sound r T c hr (num 2 ⊠ hs ⊞ num 32 ⊠ hT)

  pub cell_inside : explore_all (judged r c) ts ≡ inside → (P : Point) × S P × AllCloser r c P
  cell_inside = all_inside T (judged r c) (AllCloser r c) (AllClear r c) (AllAtLeast r T c) (AllAtMost r T c) sound cov

  pub cell_away : explore_all (judged r c) ts ≡ away → (P : Point) → S P → AllClear r c P
  cell_away = all_away T (judged r c) (AllCloser r c) (AllClear r c) (AllAtLeast r T c) (AllAtMost r T c) sound cov

  pub cell_lower : AllShorts T ts → explore_all (judged r c) ts ≡ maybe → (P : Point) → S P → AllAtLeast r T c P
  cell_lower sh e = all_lower T (judged r c) (AllCloser r c) (AllClear r c) (AllAtLeast r T c) (AllAtMost r T c) sound cov sh (λ k. maybe≢inside (sym e ∙ k))

  pub cell_upper : AllShorts T ts → explore_all (judged r c) ts ≡ maybe → (P : Point) × S P × AllAtMost r T c P
  cell_upper sh e = all_upper T (judged r c) (AllCloser r c) (AllClear r c) (AllAtLeast r T c) (AllAtMost r T c) sound cov sh (λ k. maybe≢away (sym e ∙ k))
