-- Edges: the answers of a list of trees are inherited, and a tree that is away for a cell may be left out for its parts. Assumes nothing.
use Rattle.std.specs.Prelude.{◌≡◌, Bool, ℤ, pos}
use Rattle.std.proofs.Math.Path.{refl, ap}
use Rattle.std.proofs.Common.{sym, ◌∙◌}
use mathlib.Core.List.{List, [], ◌∷◌}
use Rattle.std.proofs.Math.Logic.{⊎_elim}
use Rattle.integers.specs.Order.{◌≼◌}
use Rattle.model.specs.Strips.{Strip}
use Rattle.model.specs.Exact.{Points}
use Rattle.model.specs.Trees.{Tree}
use Rattle.model.specs.Plates.{Verdict, doubtful, settled}
use Rattle.model.specs.Explore.{Cell, Answer, inside, away, maybe, join, explore, explore_all}
use Rattle.enclosure.specs.Covers.{CoversAll, at_end, at_cons}
use Rattle.verdicts.specs.AnswerCases.{clash, join_inside, join_away}
use Rattle.inheritance.specs.Parts.{PartOf, whole, quarter_of, quarter_part}
use Rattle.inheritance.specs.Trees.{Judges, tree_inside_part, tree_away_part, left_inside, right_inside, both_away}

-- what a tree is known to have where it covers something: parts of a cell inherit its answers, for a way v to judge
pub record Inherits (v : Cell → Strip → Answer) (t : Tree) : Type 0 where
  pub inside_too : (c d : Cell) → PartOf d c → explore (v c) t ≡ inside → explore (v d) t ≡ inside
  pub away_too : (c d : Cell) → PartOf d c → explore (v c) t ≡ away → explore (v d) t ≡ away

abbrev pub EachInherits : (Cell → Strip → Answer) → List Tree → Type 0
EachInherits v [] = Unit {0}
EachInherits v (t ∷ ts) = Inherits v t × EachInherits v ts

pub covered_inherits : (v : Cell → Strip → Answer) → Judges v → {S : Points} {ts : List Tree} → CoversAll S ts → EachInherits v ts
covered_inherits v w (at_end z) = tt
covered_inherits v w (at_cons A B c f g p q) =
    let rest = covered_inherits v w q in
    (record { inside_too = λ c d h. tree_inside_part v w c d h p; away_too = λ c d h. tree_away_part v w c d h p }, rest)

-- the quarters of a cell among them
module _ {v : Cell → Strip → Answer} {t : Tree} (i : Inherits v t) (right upper : Bool) (x y h : ℤ) (hh : pos 0 ≼ h) where
  pub quarter_inside : explore (v (whole x y h)) t ≡ inside → explore (v (quarter_of right upper x y h)) t ≡ inside
  quarter_inside e = i.inside_too (whole x y h) (quarter_of right upper x y h) (quarter_part right upper x y h hh) e

  pub quarter_away : explore (v (whole x y h)) t ≡ away → explore (v (quarter_of right upper x y h)) t ≡ away
  quarter_away e = i.away_too (whole x y h) (quarter_of right upper x y h) (quarter_part right upper x y h hh) e

-- the trees that are not away
abbrev pub keep : Answer → Tree → List Tree → List Tree
keep inside t ts = t ∷ ts
keep away t ts = ts
keep maybe t ts = t ∷ ts

unfoldable pub opened : (Strip → Answer) → List Tree → List Tree
opened v [] = []
opened v (t ∷ ts) = let rest : List Tree = opened v ts in keep (explore v t) t rest

module _ (v : Cell → Strip → Answer) (c d : Cell) (part : PartOf d c) where
  pub all_inside_part : (ts : List Tree) → EachInherits v ts → explore_all (v c) ts ≡ inside → explore_all (v d) ts ≡ inside
  unfolding explore_all
  all_inside_part [] k e = clash (cc)
  all_inside_part (t ∷ ts) k e = ⊎_elim
      (λ (i : explore (v c) t ≡ inside). left_inside (explore (v d) t) (explore_all (v d) ts) (k.0.inside_too c d part i))
      (λ (i : explore_all (v c) ts ≡ inside). right_inside (explore (v d) t) (explore_all (v d) ts) (all_inside_part ts k.1 i))
      (join_inside (explore (v c) t) (explore_all (v c) ts) e)

  pub all_away_part : (ts : List Tree) → EachInherits v ts → explore_all (v c) ts ≡ away → explore_all (v d) ts ≡ away
  unfolding explore_all
  all_away_part [] k e = refl
  all_away_part (t ∷ ts) k e =
      let i = join_away (explore (v c) t) (explore_all (v c) ts) e in
      both_away (explore (v d) t) (explore_all (v d) ts) (k.0.away_too c d part i.0) (all_away_part ts k.1 i.1)

  pub leave_out : (ts : List Tree) → EachInherits v ts → explore_all (v d) (opened (v c) ts) ≡ explore_all (v d) ts
  unfolding opened explore_all
  leave_out [] k = refl
  leave_out (t ∷ ts) k = kept (explore (v c) t) t (opened (v c) ts) ts (k.0.away_too c d part) (leave_out ts k.1)
    where
      -- left out or kept, a tree that is away for c does not count for d
      kept : (a : Answer) (t : Tree) (ts us : List Tree) → (a ≡ away → explore (v d) t ≡ away) → explore_all (v d) ts ≡ explore_all (v d) us → explore_all (v d) (keep a t ts) ≡ join (explore (v d) t) (explore_all (v d) us)
      kept inside t ts us f e = ap (λ x. join (explore (v d) t) x) e
      kept away t ts us f e = e ∙ ap (λ x. join x (explore_all (v d) us)) (sym (f refl))
      kept maybe t ts us f e = ap (λ x. join (explore (v d) t) x) e

  -- the letter of a part, where the whole is not maybe: its own is the whole's
  pub part_settled : (ts : List Tree) → EachInherits v ts → (a : Answer) → explore_all (v c) ts ≡ a → (x : Verdict) → x ≡ settled (explore_all (v d) ts) doubtful → settled a x ≡ settled (explore_all (v d) ts) doubtful
  part_settled ts k inside e x l = ap (λ a. settled a doubtful) (sym (all_inside_part ts k e))
  part_settled ts k away e x l = ap (λ a. settled a doubtful) (sym (all_away_part ts k e))
  part_settled ts k maybe e x l = l

-- the trees that are still open inherit too
pub opened_inherits : (v : Cell → Strip → Answer) (a : Strip → Answer) (ts : List Tree) → EachInherits v ts → EachInherits v (opened a ts)
unfolding opened
opened_inherits v a [] k = tt
opened_inherits v a (t ∷ ts) k = keep_each v (explore a t) t (opened a ts) k.0 (opened_inherits v a ts k.1)
  where
    keep_each : (v : Cell → Strip → Answer) (a : Answer) (t : Tree) (ts : List Tree) → Inherits v t → EachInherits v ts → EachInherits v (keep a t ts)
    keep_each v inside t ts h k = (h, k)
    keep_each v away t ts h k = k
    keep_each v maybe t ts h k = (h, k)
