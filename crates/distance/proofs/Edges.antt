-- The walk over the edges' trees: visiting those ahead, from what was found so far, gives what the lookup of all gives. Assumes nothing.
use mathlib.Core.Path.{◌≡◌, refl, sym, ap, ◌∙◌, subst}
use mathlib.Core.List.{List, [], ◌∷◌}
use Prim.Native.Nat.{ℕ, suc, ◌+◌, ◌*◌, ◌≤◌, ◌<◌}
use native.Mathlib.Numerals.{add-one}
use native.Mathlib.Omega.{arith}
use lib.Dec.{T}
use lib.Signed.{non_neg}
use lib.IntN.{ℤ, pos, nat_abs}
use lib.ListN.{length, get_or, take, drop, length-drop}
use Rattle.model.specs.Trees.{Tree}
use Rattle.model.specs.Explore.{Cell}
use Rattle.model.specs.Store.{width, size, flatten}
use Rattle.model.specs.Lookup.{State, start, visit, visit_all}
use Rattle.ranges.specs.Sizes.{AllSized, EachSized}
use Rattle.nodes.specs.Places.{count_place}
use Rattle.subtrees.specs.Preorder.{size_pos, Begins, BeginsAll, all_first, all_others}
use Rattle.subtrees.specs.Fronts as fronts
use Rattle.subtrees.specs.Fronts.{Holds, TreesOf}
use Rattle.subtrees.specs.Pending.{TreeOf}

module _ (p : Cell) (count : ℕ) (store : List ℤ) where
  -- l is left of the store, and begins with the trees of edge e and of those behind it; the state has become st
  pub record Sofar (ts : List Tree) (st : State) (l : List ℤ) (e : ℕ) : Type 0 where
    pub others : List Tree
    pub begins : BeginsAll others l
    pub sized : EachSized others
    pub many : e + length others ≡ count
    pub left : visit_all p 0 ts start ≡ visit_all p e others st
    pub few : width * st.reads + length l ≤ length store

  -- of any trees that the store holds
  abbrev pub Walk : State → List ℤ → ℕ → Type 0
  Walk st l e = (ts : List Tree) → Holds store count ts → Sofar ts st l e

  pub begin : Walk start store 0
  begin ts h = record { others = ts; begins = h.begins; sized = h.sized; many = omega (arith, h.many); left = refl; few = omega arith }

  -- ---- the tree that comes next, with the count that was read of it
  pub record Next (ts : List Tree) (st : State) (l : List ℤ) (e : ℕ) : Type 0 where
    pub tree : Tree
    pub begins : Begins tree l
    pub sized : AllSized tree
    pub past : {r : State} {n : ℕ} → n ≡ size tree → r ≡ visit p e tree st → width * r.reads ≤ width * st.reads + width * n → Sofar ts r (drop (width * n) l) (e + 1)

  next' : (ts : List Tree) (st : State) (l : List ℤ) (e : ℕ) (us : List Tree) → BeginsAll us l → EachSized us → e + length us ≡ count → visit_all p 0 ts start ≡ visit_all p e us st → width * st.reads + length l ≤ length store → e < count → Next ts st l e
  unfolding visit_all
  next' ts st l e [] b z m k f h = absurd (omega arith)
  next' ts st l e (u ∷ us) b z m k f h = record {
    tree = u;
    begins = all_first u us l b;
    sized = z.0;
    past = λ {r} {n} i v o. record {
      others = us;
      begins = subst (λ (m : ℕ). BeginsAll us (drop (width * m) l)) (sym i) (all_others u us l b);
      sized = z.1;
      many = omega (arith, m);
      left = k ∙ ap (λ (x : State). visit_all p (suc e) us x) (sym v) ∙ ap (λ (x : ℕ). visit_all p x us r) (sym (add-one e));
      few = omega (arith, f, o, i, fronts.room u l (all_first u us l b), length-drop (width * n) l);
    };
  }

module _ {p : Cell} {count : ℕ} {store : List ℤ} where
  pub end : {ts : List Tree} {st : State} {l : List ℤ} {e : ℕ} → Sofar p count store ts st l e → count ≤ e → st ≡ visit_all p 0 ts start
  unfolding visit_all
  end {ts} {st} {l} {e} w h = sym (w.left ∙ go w.others (omega (arith, w.many)))
    where
      go : (us : List Tree) → length us ≡ 0 → visit_all p e us st ≡ st
      go [] i = refl
      go (u ∷ us) i = absurd (omega arith)

  module _ {ts : List Tree} {st : State} {l : List ℤ} {e : ℕ} where
    pub next : Sofar p count store ts st l e → e < count → Next p count store ts st l e
    next w h = next' p count store ts st l e w.others w.begins w.sized w.many w.left w.few h

    -- its part is a tree's, and visiting that is visiting it
    module _ (w : Next p count store ts st l e) {n : ℕ} (i : n ≡ nat_abs (get_or l count_place (pos 0))) where
      pub n_is : n ≡ size w.tree
      n_is = fronts.size_read w.tree l n w.begins i

      pub part_is : take (width * n) l ≡ flatten w.tree
      part_is = fronts.first_part w.tree l (width * n) w.begins (omega (arith, n_is))

      pub held : TreeOf (take (width * n) l)
      held = record { tree = w.tree; is = part_is; sized = w.sized }

  -- ---- of the trees that the store is known to hold
  module _ (t : TreesOf store count) {st : State} {l : List ℤ} {e : ℕ} (w : Walk p count store st l e) (h : e < count) where
    pub known : Next p count store t.trees st l e
    known = next (w t.trees t.holds) h

    pub few : width * st.reads + length l ≤ length store
    few = (w t.trees t.holds).few

    pub front : (count_place < length l) × T (non_neg (get_or l count_place (pos 0)))
    front = (omega (arith, fronts.room known.tree l known.begins, size_pos known.tree), fronts.counted known.tree l known.begins)

    pub inside : {n : ℕ} → n ≡ nat_abs (get_or l count_place (pos 0)) → width * n ≤ length l
    inside i = omega (arith, n_is known i, fronts.room known.tree l known.begins)
