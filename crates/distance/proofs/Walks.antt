-- The walk of a part node by node: visiting the trees still to be looked at, from what was found so far, gives what visiting the whole tree gives from what was found before it.
-- Assumes nothing.
use mathlib.Core.Path.{◌≡◌, refl, sym, ap, ◌∙◌, subst}
use mathlib.Core.Bool.{Bool, true, false}
use mathlib.Core.List.{List, [], ◌∷◌}
use Prim.Native.Nat.{ℕ, ◌+◌, ◌*◌, ◌≤◌}
use native.Mathlib.Numerals.{add-one}
use native.Mathlib.Omega.{arith}
use lib.Dec.{T}
use lib.Signed.{non_neg, le_z}
use lib.IntN.{ℤ, pos, nat_abs}
use lib.ListN.{length, get_or, drop, length-drop}
use Rattle.model.specs.Strips.{Strip}
use Rattle.model.specs.Trees.{Tree, leaf, long, node}
use Rattle.model.specs.Boxes.{Box, box_of}
use Rattle.model.specs.Explore.{Cell}
use Rattle.model.specs.Distance.{near², far²}
use Rattle.model.specs.Store.{width, size, flatten}
use Rattle.model.specs.Lookup.{State, looked, skipped, taken, visit}
use Rattle.ranges.specs.Sizes.{AllSized, BoxSized}
use Rattle.nodes.specs.Places.{count_place, box_in}
use Rattle.boxes.specs.declared.Bounds.{Bounds}
use Rattle.subtrees.specs.Preorder.{size_pos, length_flatten}
use Rattle.subtrees.specs.Pending as pending
use Rattle.subtrees.specs.Pending.{Rest, TreeOf}
use Rattle.distance.specs.States.{state, Taken, took}
use Rattle.distance.specs.declared.Found.{Found}

module _ (p : Cell) (e : ℕ) where
  -- one tree after the other, all of the same edge
  abbrev visits : List Tree → State → State
  visits [] st = st
  visits (t ∷ ts) st = visits ts (visit p e t st)

  -- ---- a visit by its first node
  skip : (t : Tree) (st : State) → skipped p (box_of t) st ≡ true → visit p e t st ≡ looked st
  unfolding visit
  skip (leaf s) st h = rw h
  skip (long s) st h = rw h
  skip (node s l r) st h = rw h

  take : (t : Tree) (st : State) → skipped p (box_of t) st ≡ false → size t ≡ 1 → visit p e t st ≡ taken p e (box_of t) (looked st)
  unfolding visit
  take (leaf s) st h i = rw h
  take (long s) st h i = rw h
  take (node s l r) st h i = absurd (omega (arith, i, size_pos l))

  enter : (s : Strip) (l r : Tree) (st : State) → skipped p (box_of (node s l r)) st ≡ false → visit p e (node s l r) st ≡ visit p e r (visit p e l (looked st))
  unfolding visit
  enter s l r st h = rw h

  -- ---- from `from` the state has become st, and l is left of the part that holds t
  pub record Sofar (t : Tree) (from st : State) (l : List ℤ) : Type 0 where
    pub pending : List Tree
    pub rest : Rest l 0 pending
    pub ahead : visit p e t from ≡ visits pending st
    pub few : width * st.reads + length l ≤ width * (from.reads + size t)
    pub short : length l ≤ width * size t

  pub begin : (t : Tree) (from : State) (l : List ℤ) → AllSized t → l ≡ flatten t → Sofar t from from l
  begin t from l f i = let r = pending.whole l t i f in record { pending = t ∷ []; rest = r; ahead = refl; few = omega (arith, r.long); short = omega (arith, r.long) }

  pub end : {t : Tree} {from st : State} {l : List ℤ} → Sofar t from st l → length l ≡ 0 → st ≡ visit p e t from
  end {t} {from} {st} {l} w h = sym (w.ahead ∙ ap (λ (ts : List Tree). visits ts st) (pending.done l 0 w.pending w.rest (omega (arith, h))))

  -- ---- the node that comes next, with the box and the count that were read of it
  pub record Next (t : Tree) (from st : State) (l : List ℤ) (b : Box) (n : ℕ) : Type 0 where
    pub tree : Tree
    pub others : List Tree
    pub rest : Rest l 0 (tree ∷ others)
    pub ahead : visit p e t from ≡ visits others (visit p e tree st)
    pub few : width * st.reads + length l ≤ width * (from.reads + size t)
    pub short : length l ≤ width * size t
    pub b_is : b ≡ box_of tree
    pub n_is : n ≡ size tree

  pub next : {t : Tree} {from st : State} {l : List ℤ} {b : Box} {n : ℕ} → Sofar t from st l → (length l ≡ 0 → ⊥) → b ≡ box_in l → n ≡ nat_abs (get_or l count_place (pos 0)) → Next t from st l b n
  next {t} {from} {st} {l} {b} {n} w h i k =
      let f = pending.more l 0 w.pending w.rest (omega (arith, h)) in
      let r : Rest l 0 (f.tree ∷ f.others) = subst (λ (ts : List Tree). Rest l 0 ts) f.are w.rest in
      record {
        tree = f.tree;
        others = f.others;
        rest = r;
        ahead = w.ahead ∙ ap (λ (ts : List Tree). visits ts st) f.are;
        few = w.few;
        short = w.short;
        b_is = i ∙ pending.box_is r;
        n_is = k ∙ ap nat_abs (pending.count_is r);
      }

-- one node more is read
pub read_one : (st : State) → ◌≡◌ {A = State} (record { lo = st.lo; hi = st.hi; edge = st.edge; reads = st.reads + 1 }) (looked st)
read_one st = ap (λ (n : ℕ). record { lo = st.lo; hi = st.hi; edge = st.edge; reads = n }) (add-one st.reads)

module _ {p : Cell} {e : ℕ} {t : Tree} {from st : State} {l : List ℤ} {b : Box} {n : ℕ} (w : Next p e t from st l b n) where
  -- it has a node, and all of them lie within the rest
  pub room : (1 ≤ n) × (width * n ≤ length l)
  room = (omega (arith, w.n_is, size_pos w.tree), omega (arith, pending.room w.rest, w.n_is))

  -- the test of its box
  tested : {lo : ℤ} (c : Bool) → lo ≡ near² p b → le_z st.hi lo ≡ c → skipped p (box_of w.tree) st ≡ c
  tested {lo} c k h = ap (λ (z : Box). skipped p z st) (sym w.b_is) ∙ ap (le_z st.hi) (sym k) ∙ h

  -- what is left past q numbers
  left : (q m : ℕ) (ts : List Tree) → Rest l m ts → q ≡ m → Rest (drop q l) 0 ts
  left q m ts r i = rw i (record { is = r.is; long = omega (arith, r.long, length-drop m l); sized = r.sized })

  -- one that is skipped is done with, and its halves too
  pub past_skipped : {lo : ℤ} {r : State} {q : ℕ} → q ≡ width * n → lo ≡ near² p b → le_z st.hi lo ≡ true → r ≡ looked st → Sofar p e t from r (drop q l)
  past_skipped {lo} {r} {q} i m h j = record {
    pending = w.others;
    rest = left q (0 + width * size w.tree) w.others (pending.past l 0 w.tree w.others w.rest) (omega (arith, i, w.n_is));
    ahead = w.ahead ∙ ap (visits p e w.others) (skip p e w.tree st (tested true m h) ∙ sym j);
    few = omega (arith, i, w.few, ap (λ (z : State). z.reads) j, room, length-drop q l);
    short = omega (arith, w.short, length-drop q l);
  }

  -- a leaf gives its bounds
  pub past_leaf : {bounds : Bounds} {f r : Found} {q : ℕ} → q ≡ width → bounds.lo ≡ near² p b → bounds.hi ≡ far² p b → le_z st.hi bounds.lo ≡ false → n ≡ 1 → state f ≡ looked st → Taken f bounds e r → Sofar p e t from (state r) (drop q l)
  past_leaf {bounds} {f} {r} {q} i m o h k u v = let j : state r ≡ taken p e b (looked st) = took p e b v m o u in record {
    pending = w.others;
    rest = left q (0 + width * size w.tree) w.others (pending.past l 0 w.tree w.others w.rest) (omega (arith, i, w.n_is, k));
    ahead = w.ahead ∙ ap (visits p e w.others) (take p e w.tree st (tested false m h) (sym w.n_is ∙ k) ∙ ap (λ (z : Box). taken p e z (looked st)) (sym w.b_is) ∙ sym j);
    few = omega (arith, i, w.few, ap (λ (z : State). z.reads) j, room, length-drop q l);
    short = omega (arith, w.short, length-drop q l);
  }

  -- the halves of any other come next
  pub into_halves : {lo : ℤ} {r : State} {q : ℕ} → q ≡ width → lo ≡ near² p b → le_z st.hi lo ≡ false → (n ≡ 1 → ⊥) → r ≡ looked st → Sofar p e t from r (drop q l)
  into_halves {lo} {r} {q} i m h k j = go w.tree w.rest w.ahead (tested false m h) (λ z. k (w.n_is ∙ z))
    where
      go : (u : Tree) → Rest l 0 (u ∷ w.others) → visit p e t from ≡ visits p e w.others (visit p e u st) → skipped p (box_of u) st ≡ false → (size u ≡ 1 → ⊥) → Sofar p e t from r (drop q l)
      go (leaf s) o a c z = absurd (z refl)
      go (long s) o a c z = absurd (z refl)
      go (node s x y) o a c z = record {
        pending = x ∷ y ∷ w.others;
        rest = left q (0 + width) (x ∷ y ∷ w.others) (pending.into l 0 s x y w.others o) i;
        ahead = a ∙ ap (visits p e w.others) (enter p e s x y st c ∙ ap (λ (z : State). visit p e y (visit p e x z)) (sym j));
        few = omega (arith, i, w.few, ap (λ (z : State). z.reads) j, room, length-drop q l);
        short = omega (arith, w.short, length-drop q l);
      }

-- ---- of any tree that the part holds, and of the one that it is known to hold
abbrev pub Walk : Cell → ℕ → List ℤ → State → State → List ℤ → Type 0
Walk p e part from st l = (t : Tree) → AllSized t → part ≡ flatten t → Sofar p e t from st l

module _ {p : Cell} {e : ℕ} {part : List ℤ} {from st : State} {l : List ℤ} (held : TreeOf part) (w : Walk p e part from st l) where
  own : Sofar p e held.tree from st l
  own = w held.tree held.sized held.is

  pub few : (width * st.reads + length l ≤ width * from.reads + length part) × (length l ≤ length part)
  few = let n = length_flatten held.tree in (omega (arith, own.few, ap length held.is, n), omega (arith, own.short, ap length held.is, n))

  module _ (h : length l ≡ 0 → ⊥) where
    known : Next p e held.tree from st l (box_in l) (nat_abs (get_or l count_place (pos 0)))
    known = next p e own h refl refl

    pub fronts : (width ≤ length l) × T (non_neg (get_or l count_place (pos 0))) × BoxSized (box_in l)
    fronts = (omega (arith, (room known).0, (room known).1), rw (pending.count_is known.rest) tt, pending.around_sized known.rest)

    pub inside : {n : ℕ} → n ≡ nat_abs (get_or l count_place (pos 0)) → (1 ≤ n) × (width * n ≤ length l) × (length l ≤ length part)
    inside {n} i = (omega (arith, i, (room known).0), omega (arith, i, (room known).1), few.1)
