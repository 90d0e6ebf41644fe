-- The walk of a part node by node: what was found so far, joined with what the trees still to be looked at tell, is the tree's answer. Answers are
-- compared by their numbers here, so that joining is the larger of two and each step is arithmetic. Assumes nothing.
use mathlib.Core.Path.{◌≡◌, refl, sym, ap, ◌∙◌, subst}
use mathlib.Core.List.{List, [], ◌∷◌}
use Prim.Native.Nat.{ℕ, ◌+◌, ◌*◌, ◌≤◌, ◌<◌, max}
use native.Mathlib.Omega.{arith}
use lib.IntN.{ℤ, pos, nat_abs}
use lib.Dec.{T}
use lib.Signed.{non_neg}
use lib.ListN.{length, get_or, drop, length-drop}
use Rattle.model.specs.Strips.{Strip}
use Rattle.model.specs.Trees.{Tree, leaf, long, node}
use Rattle.model.specs.Explore.{Answer, inside, away, maybe, explore, explore_all, join}
use Rattle.model.specs.Store.{width, size, flatten}
use Rattle.ranges.specs.Sizes.{Sized, AllSized}
use Rattle.strip_tests.specs.Answers.{code_few, same_code}
use Rattle.strip_tests.specs.PlainTests.{code}
use Rattle.nodes.specs.Places.{count_place, strip_in}
use Rattle.subtrees.specs.Preorder.{size_pos, top}
use Rattle.subtrees.specs.Pending as pending
use Rattle.subtrees.specs.Pending.{Rest}
use Rattle.search.proofs.Finds.{join_is, open_is, closed, alone}

-- what lies from a place on, as a part of its own
from : (l : List ℤ) (k : ℕ) (ts : List Tree) → Rest l k ts → Rest (drop k l) 0 ts
from l k ts r = record { is = r.is; long = omega (arith, r.long, length-drop k l); sized = r.sized }

module _ (v : Strip → Answer) where
  abbrev told : List Tree → ℕ
  told ts = code (explore_all v ts)

  told_none : told [] ≡ 0
  unfolding explore_all
  told_none = refl

  told_more : (t : Tree) (ts : List Tree) → told (t ∷ ts) ≡ max (code (explore v t)) (told ts)
  unfolding explore_all
  told_more t ts = join_is (explore v t) (explore_all v ts)

  -- of the tree t the rest is still to be walked: nothing inside was met, and `found` joined with what is pending is t's answer
  pub record Sofar (rest : List ℤ) (t : Tree) (found : Answer) : Type 0 where
    pub low : code found ≤ 1
    pub pending : List Tree
    pub holds : Rest rest 0 pending
    pub joined : code (explore v t) ≡ max (code found) (told pending)

  pub begin : (part : List ℤ) (t : Tree) → AllSized t → part ≡ flatten t → Sofar part t away
  begin part t f e = record { low = omega arith; pending = t ∷ []; holds = pending.whole part t e f; joined = omega (arith, told_more t [], told_none) }

  pub end : {rest : List ℤ} {t : Tree} {found : Answer} → Sofar rest t found → length rest ≤ 0 → found ≡ explore v t
  end {rest} {t} {found} w h = same_code found (explore v t) (omega (arith, w.joined, ap told (pending.done rest 0 w.pending w.holds h), told_none))

  -- ---- the node that comes next, with its count
  pub record Next (rest : List ℤ) (t : Tree) (found : Answer) : Type 0 where
    pub low : code found ≤ 1
    pub tree : Tree
    pub others : List Tree
    pub holds : Rest rest 0 (tree ∷ others)
    pub joined : code (explore v t) ≡ max (code found) (max (code (explore v tree)) (told others))

  pub next : {rest : List ℤ} {t : Tree} {found : Answer} → Sofar rest t found → 0 < length rest → Next rest t found
  next {rest} {t} {found} w h =
      let f = pending.more rest 0 w.pending w.holds h in
      record {
        low = w.low;
        tree = f.tree;
        others = f.others;
        holds = subst (λ (ts : List Tree). Rest rest 0 ts) f.are w.holds;
        joined = omega (arith, w.joined, ap told f.are, told_more f.tree f.others);
      }

module _ {v : Strip → Answer} {rest : List ℤ} {t : Tree} {found : Answer} (w : Next v rest t found) where
  -- what is read of it
  pub strip_sized : Sized (strip_in rest)
  strip_sized = pending.strip_sized w.holds

  pub counted : T (non_neg (get_or rest count_place (pos 0)))
  counted = rw (pending.count_is w.holds) tt

  pub front : width ≤ length rest
  front = omega (arith, pending.room w.holds, size_pos w.tree)

  answer_is : v (strip_in rest) ≡ v (top w.tree)
  answer_is = ap v (pending.strip_is w.holds)

  module _ {n : ℕ} (e : n ≡ nat_abs (get_or rest count_place (pos 0))) where
    n_is : n ≡ size w.tree
    n_is = e ∙ ap nat_abs (pending.count_is w.holds)

    -- it has a node, and all of them lie within the part
    pub room : (1 ≤ n) × (width * n ≤ length rest)
    room = (omega (arith, n_is, size_pos w.tree), omega (arith, pending.room w.holds, n_is))

    -- one that is away is done with, and its halves too
    pub past_away : {k : ℕ} → k ≡ width * n → away ≡ v (strip_in rest) → Sofar v (drop k rest) t found
    past_away i f = record {
      low = w.low;
      pending = w.others;
      holds = subst (λ (k : ℕ). Rest (drop k rest) 0 w.others) (omega (arith, n_is, i)) (from rest (0 + width * size w.tree) w.others (pending.past rest 0 w.tree w.others w.holds));
      joined = omega (arith, w.joined, ap code f, ap code answer_is, closed v w.tree (λ k. omega (arith, k, ap code f, ap code answer_is)));
    }

    -- a leaf that is maybe is found
    pub past_leaf : {k : ℕ} → k ≡ width → maybe ≡ v (strip_in rest) → n ≡ 1 → Sofar v (drop k rest) t maybe
    past_leaf {k} i f o = record {
      low = omega arith;
      pending = w.others;
      holds = let one : 0 + width * size w.tree ≡ k = omega (arith, n_is, o, i) in subst (λ (k : ℕ). Rest (drop k rest) 0 w.others) one (from rest (0 + width * size w.tree) w.others (pending.past rest 0 w.tree w.others w.holds));
      joined = omega (arith, w.joined, w.low, ap code f, ap code answer_is, alone v w.tree (sym n_is ∙ o));
    }

    -- and settles all where no node answers above that
    pub leaf_ends : maybe ≡ v (strip_in rest) → n ≡ 1 → code (explore v t) ≤ 1 → maybe ≡ explore v t
    leaf_ends f k h = same_code maybe (explore v t) (omega (arith, w.joined, ap code f, ap code answer_is, alone v w.tree (sym n_is ∙ k)))

    -- the halves of any other come next
    pub into_halves : {k : ℕ} → k ≡ width → maybe ≡ v (strip_in rest) → (n ≡ 1 → ⊥) → Sofar v (drop k rest) t found
    unfolding explore
    into_halves {k} i f h = subst (λ (k : ℕ). Sofar v (drop k rest) t found) (sym i) (go w.tree w.holds w.joined (f ∙ answer_is) (λ z. h (n_is ∙ z)))
      where
        go : (u : Tree) → Rest rest 0 (u ∷ w.others) → code (explore v t) ≡ max (code found) (max (code (explore v u)) (told v w.others)) → maybe ≡ v (top u) → (size u ≡ 1 → ⊥) → Sofar v (drop width rest) t found
        go (leaf s) r j f z = absurd (z refl)
        go (long s) r j f z = absurd (z refl)
        go (node s a b) r j f z = record {
          low = w.low;
          pending = a ∷ b ∷ w.others;
          holds = from rest (0 + width) (a ∷ b ∷ w.others) (pending.into rest 0 s a b w.others r);
          joined = omega (arith, j, open_is (v s) (join (explore v a) (explore v b)) (sym (ap code f)), join_is (explore v a) (explore v b), told_more v a (b ∷ w.others), told_more v b w.others);
        }

  -- one that is inside settles all
  pub inside_ends : inside ≡ v (strip_in rest) → inside ≡ explore v t
  inside_ends f = same_code inside (explore v t) (omega (arith, w.joined, ap code f, ap code answer_is, closed v w.tree (λ k. omega (arith, k, ap code f, ap code answer_is)), code_few (explore v t)))
