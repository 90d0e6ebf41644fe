-- The walk over a store that lists where its trees start: what is listed, and what lies ahead. Assumes nothing.
use mathlib.Core.Path.{◌≡◌, refl, sym, ap, subst}
use mathlib.Core.List.{List, [], ◌∷◌, ◌++◌}
use Prim.Native.Nat.{ℕ, zero, suc, ◌+◌, ◌*◌, ◌<◌}
use native.Mathlib.Numerals.{add-one}
use native.Mathlib.Omega.{arith}
use lib.IntN.{ℤ, pos, nat_abs}
use lib.ListN.{length, get_or, set, take, drop}
use lib.Seq.{take_all, take-suc-set}
use Rattle.model.specs.Trees.{Tree}
use Rattle.model.specs.Store.{width, size}
use Rattle.nodes.specs.Places.{count_place}
use Rattle.subtrees.specs.Fronts.{Holds}
use Rattle.subtrees.specs.At.{At, here, Ahead, first_at, next_ahead}
use Rattle.open_edges.specs.Starts.{Starts, none}
use Rattle.open_edges.specs.Looked.{starts_snoc}

-- the e-th tree of a list
pub record Nth (ts : List Tree) (e : ℕ) : Type 0 where
  pub tree : Tree
  pub later : drop e ts ≡ tree ∷ drop (suc e) ts
  pub sooner : take (suc e) ts ≡ take e ts ++ (tree ∷ [])

nth : (e : ℕ) (ts : List Tree) → e < length ts → Nth ts e
nth e [] h = absurd (omega arith)
nth zero (t ∷ ts) h = record { tree = t; later = refl; sooner = refl }
nth (suc e) (t ∷ ts) h = let n = nth e ts (omega arith) in record { tree = n.tree; later = n.later; sooner = ap (λ l. t ∷ l) n.sooner }

-- e trees are listed, and the next begins at place a
pub record Listed (store : List ℤ) (ts : List Tree) (list : List ℕ) (a e : ℕ) : Type 0 where
  pub done : Starts store (take e list) (take e ts)
  pub ahead : Ahead store a (drop e ts)

pub begin : (store : List ℤ) (count : ℕ) (ts : List Tree) (list : List ℕ) → Holds store count ts → Listed store ts list 0 0
begin store count ts list h = record { done = none; ahead = record { begins = h.begins; sized = h.sized } }

-- the next tree, and the list with its place
pub record Step (store : List ℤ) (ts : List Tree) (list : List ℕ) (a e : ℕ) : Type 0 where
  pub tree : Tree
  pub at : At store a tree
  pub listed : (n : ℕ) → n ≡ nat_abs (get_or store (a + count_place) (pos 0)) → (z : ℕ) → z ≡ a + width * n → Listed store ts (set list e a) z (e + 1)

pub step : (store : List ℤ) (ts : List Tree) (list : List ℕ) (a e : ℕ) → e < length ts → e < length list → Listed store ts list a e → Step store ts list a e
step store ts list a e l m h =
    let x : Nth ts e = nth e ts l in
    let next : Ahead store a (x.tree ∷ drop (suc e) ts) = subst (λ us. Ahead store a us) x.later h.ahead in
    let at : At store a x.tree = first_at store a x.tree (drop (suc e) ts) next in
    record {
      tree = x.tree;
      at = at;
      listed = λ n k z f.
          let i : n ≡ size x.tree = (here store a n x.tree at k).n_is in
          let d : Starts store (take (suc e) (set list e a)) (take (suc e) ts) =
          subst (λ us. Starts store (take (suc e) (set list e a)) us) (sym x.sooner)
          (subst (λ ps. Starts store ps (take e ts ++ (x.tree ∷ []))) (sym (take-suc-set list e a m)) (starts_snoc h.done at)) in
          let b : Ahead store (a + width * n) (drop (suc e) ts) = subst (λ k. Ahead store (a + width * k) (drop (suc e) ts)) (sym i) (next_ahead store a x.tree (drop (suc e) ts) next) in
          let r : Listed store ts (set list e a) (a + width * n) (suc e) = record { done = d; ahead = b } in
          subst (λ z. Listed store ts (set list e a) z (e + 1)) (sym f) (subst (λ k. Listed store ts (set list e a) (a + width * n) k) (sym (add-one e)) r);
    }

pub finish : (store : List ℤ) (ts : List Tree) (list : List ℕ) (a e : ℕ) → length ts ≡ e → Listed store ts list a e → Starts store (take e list) ts
finish store ts list a e k h = subst (λ us. Starts store (take e list) us) (take_all e ts (omega arith)) h.done
