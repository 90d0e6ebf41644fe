-- The walk over a part of a store: what the cells have by now, raised to what the trees that wait will raise them to, is what the whole tree raises
-- them to. Each turn is a law. Assumes nothing.
use Rattle.std.specs.Prelude.{◌≡◌, Bool, true, false, not, cond, ◌&&◌, List, [], ◌∷◌, ℕ, suc, ◌+◌, ◌*◌, ◌≤◌, ◌<◌, max, T, ℤ, pos, ◌+ℤ◌, length, get_or}
use Rattle.std.proofs.Common.{refl, sym, ap, ap₂, ◌∙◌, subst, drop, arith}
use Rattle.std.specs.Int.Signed.{le_z}
use Rattle.integers.specs.Absolute.{absℤ}
use Rattle.integers.specs.Tests.{both}
use Rattle.model.specs.Strips.{Strip}
use Rattle.model.specs.Trees.{Tree, leaf, long, node}
use Rattle.model.specs.Store.{width, size, flatten}
use Rattle.model.specs.Explore.{Answer, away, by_tests, settle, join, explore}
use Rattle.ranges.specs.Sizes.{AllSized}
use Rattle.nodes.specs.Places.{strip_in}
use Rattle.subtrees.specs.Preorder.{top, size_pos}
use Rattle.subtrees.specs.Pending as pending
use Rattle.subtrees.specs.Pending.{Rest}
use Rattle.filling.specs.Squares.{Drawn}
use Rattle.spans.specs.declared.Span.{Span}
use Rattle.spans.specs.Among.{among}
use Rattle.raising.specs.Raised.{raised}
use Rattle.row_laws.specs.Columns.{off}
use Rattle.columns.specs.declared.Frame.{Frame}
use Rattle.columns.specs.declared.View.{View}
use Rattle.columns.specs.Views.{view_of, away_in, inside_in, asked₁, cell_answer}
use Rattle.columns.specs.Limits.{FrameSized, ViewSized}
use Rattle.columns.specs.Reaches.{view_sized, kept_y, deep_kept_y}
use Rattle.levels.specs.Open.{open_in}
use Rattle.rows.specs.declared.Band.{Band}
use Rattle.rows.specs.Bands.{ends_of, rows_of}
use Rattle.rows.specs.Weights.{weight, weight_join, leaf_paints, node_paints}
use Rattle.rows.specs.Waiting.{Waiting, trees_of, At, Placed, depth, ended, of_last, halved, heaviest, heaviest_same}
use Rattle.rows.specs.Levels.{Narrowed}
use Rattle.rows.proofs.Tests.{clip, shut, turned, second, empty}
use Rattle.rows.proofs.Narrows.{next_open}

-- the cells that a level leaves open
abbrev pub open_at : List Span → List Band → ℕ → ℕ → ℕ → Bool
open_at levels bands i j k = among (rows_of bands k) j && open_in levels k i j

parted : (o : Bool) (a b : Answer) → cond o (weight (join a b)) 0 ≡ max (cond o (weight a) 0) (cond o (weight b) 0)
parted true a b = weight_join a b
parted false a b = refl

-- what a node raises to, and then its halves and the others
grouped : (a b c : ℕ) → max a (max b c) ≡ max (max a b) c
grouped a b c = omega arith

shared : (A X C H M K P Q H' : ℕ) → A ≡ max X (max C H) → max M K ≡ max X C → K ≡ max P Q → H' ≡ H → A ≡ max M (max P (max Q H'))
shared A X C H M K P Q H' e f g k =
    e ∙ grouped X C H ∙ ap (λ z. max z H) (sym f) ∙ ap₂ (λ y z. max (max M y) z) g (sym k) ∙ sym (grouped M (max P Q) H') ∙ ap (max M) (sym (grouped P Q H'))

-- a tree of one node answers as its strip
alone : (v : Strip → Answer) (t : Tree) → size t ≡ 1 → explore v t ≡ v (top t)
unfolding explore
alone v (leaf s) e = refl
alone v (long s) e = refl
alone v (node s a b) e = absurd (omega (arith, size_pos a, e))

-- a tree whose top strip is away is away
away_all : (v : Strip → Answer) (t : Tree) → v (top t) ≡ away → explore v t ≡ away
unfolding explore
away_all v (leaf s) e = e
away_all v (long s) e = e
away_all v (node s a b) e = ap (λ z. settle z (join (explore v a) (explore v b))) e

module _ (f : Frame) (high : ℕ) (l : List ℤ) (t : Tree) (old : List ℕ) where
  -- the letter of a cell in one map or another
  abbrev cell : List ℕ → ℕ → ℕ → ℕ
  cell map i j = get_or map (j * f.n + i) 0

  pub record State (map : List ℕ) (levels : List Span) (bands : List Band) (d at : ℕ) : Type 0 where
    pub waiting : List Waiting
    pub rest : Rest l at (trees_of waiting)
    pub placed : Placed (ends_of bands) d at waiting
    pub cells : (i j : ℕ) → i < f.n → j < high → max (cell old i j) (weight (explore (asked₁ f i j) t)) ≡ max (cell map i j) (heaviest (asked₁ f i j) (open_at levels bands i j) waiting)

  pub begin : (map : List ℕ) (levels : List Span) (bands : List Band) → map ≡ old → l ≡ flatten t → AllSized t → depth t ≤ 10 → ends_of bands 0 ≡ length l → ((i j : ℕ) → i < f.n → j < high → open_at levels bands i j 0 ≡ true) → State map levels bands 0 0
  begin map levels bands m e s p h o =
      let r = pending.whole l t e s in
      record {
        waiting = record { tree = t; level = 0 } ∷ [];
        rest = r;
        placed = (record { low = omega arith; within = omega (arith, h, r.long); above = λ k a b. absurd (omega arith); shallow = omega arith }, tt);
        cells = λ i j a b. omega (arith, ap (λ (x : List ℕ). cell x i j) m, ap (λ (c : Bool). cond c (weight (explore (asked₁ f i j) t)) 0) (o i j a b));
      }

  -- at the end nothing waits
  pub end : {map : List ℕ} {levels : List Span} {bands : List Band} {d at : ℕ} → State map levels bands d at → length l ≤ at → (i j : ℕ) → i < f.n → j < high → cell map i j ≡ max (cell old i j) (weight (explore (asked₁ f i j) t))
  end {map} {levels} {bands} {d} {at} s h i j a b = done s.waiting (pending.done l at (trees_of s.waiting) s.rest h) (s.cells i j a b)
    where
      done : (ws : List Waiting) → trees_of ws ≡ [] → max (cell old i j) (weight (explore (asked₁ f i j) t)) ≡ max (cell map i j) (heaviest (asked₁ f i j) (open_at levels bands i j) ws) → cell map i j ≡ max (cell old i j) (weight (explore (asked₁ f i j) t))
      done [] e k = omega (arith, k)
      done (w ∷ ws) e k = cc

  -- ---- the tree that comes next, at the last level that has not ended
  pub record Next (map : List ℕ) (levels : List Span) (bands : List Band) (d at : ℕ) : Type 0 where
    pub tree : Tree
    pub others : List Waiting
    pub rest : Rest l at (tree ∷ trees_of others)
    pub placed : Placed (ends_of bands) d at (record { tree = tree; level = d } ∷ others)
    pub cells : (i j : ℕ) → i < f.n → j < high → max (cell old i j) (weight (explore (asked₁ f i j) t)) ≡ max (cell map i j) (max (cond (open_at levels bands i j d) (weight (explore (asked₁ f i j) tree)) 0) (heaviest (asked₁ f i j) (open_at levels bands i j) others))

  pub next : {map : List ℕ} {levels : List Span} {bands : List Band} {d e at : ℕ} → State map levels bands d at → at < length l → e ≤ d → at < ends_of bands e → ((k : ℕ) → e < k → k ≤ d → ends_of bands k ≤ at) → Next map levels bands e at
  next {map} {levels} {bands} {d} {e} {at} s h m a b = go s.waiting s.rest (ended (ends_of bands) d e at s.waiting m b s.placed) s.cells
    where
      go : (ws : List Waiting) → Rest l at (trees_of ws) → Placed (ends_of bands) e at ws → ((i j : ℕ) → i < f.n → j < high → max (cell old i j) (weight (explore (asked₁ f i j) t)) ≡ max (cell map i j) (heaviest (asked₁ f i j) (open_at levels bands i j) ws)) → Next map levels bands e at
      go [] r p c = absurd (omega (arith, h, r.long))
      go (w ∷ ws) r p c =
          let g : w.level ≡ e = of_last (ends_of bands) e at w p.0 a in
          record {
            tree = w.tree;
            others = ws;
            rest = r;
            placed = (subst (λ (k : ℕ). At (ends_of bands) e at (record { tree = w.tree; level = k })) g p.0, p.1);
            cells = λ i j x y. subst (λ (k : ℕ). max (cell old i j) (weight (explore (asked₁ f i j) t)) ≡ max (cell map i j) (max (cond (open_at levels bands i j k) (weight (explore (asked₁ f i j) w.tree)) 0) (heaviest (asked₁ f i j) (open_at levels bands i j) ws))) g (c i j x y);
          }

  module _ {map : List ℕ} {levels : List Span} {bands : List Band} {d at : ℕ} (w : Next map levels bands d at) where
    pub room : at + width * size w.tree ≤ length l
    room = pending.room w.rest

    pub has_node : 1 ≤ size w.tree
    has_node = size_pos w.tree

    pub shallow : d ≤ 10
    shallow = omega (arith, w.placed.0.shallow)

    -- ---- the view of its top strip, the rows of its level that the strip reaches, and their cells
    module _ (h : FrameSized f) (v : View) (e : v ≡ view_of f (strip_in (drop at l))) (near rows : Span)
        (n_is : (j : ℕ) → among near j ≡ le_z (absℤ (off f.q v.y (pos j))) (v.ey +ℤ f.reach))
        (r-is : (j : ℕ) → among rows j ≡ (among (rows_of bands d) j && among near j)) where
      abbrev S : Strip
      S = strip_in (drop at l)

      pub sized : ViewSized v
      sized = subst ViewSized (sym e) (view_sized f S h (pending.strip_sized w.rest))

      answer : (i j : ℕ) → by_tests (inside_in f v i j) (away_in f v i j) ≡ asked₁ f i j (top w.tree)
      answer i j =
          ap (λ (z : View). by_tests (inside_in f z i j) (away_in f z i j)) e
          ∙ cell_answer f S i j
          ∙ ap (asked₁ f i j) (pending.strip_is w.rest)

      is_near : (i j : ℕ) → T (not (away_in f v i j)) → T (among near j)
      is_near i j s = subst T (sym (n_is j)) (kept_y f v h sized i j s)

      deep_near : (i j : ℕ) → T (inside_in f v i j) → T (among near j)
      deep_near i j s = subst T (sym (n_is j)) (deep_kept_y f v h sized i j s)

      -- in a row that the strip does not reach it is away
      unreached : (i j : ℕ) → among near j ≡ false → asked₁ f i j (top w.tree) ≡ away
      unreached i j c =
          sym (answer i j)
          ∙ ap₂ by_tests (shut (among near j) (inside_in f v i j) c (deep_near i j)) (turned (away_in f v i j) (shut (among near j) (not (away_in f v i j)) c (is_near i j)))

      -- what is asked in those rows is what is asked where the level is open
      test_deep : (i j : ℕ) → (among rows j && open_in levels d i j && inside_in f v i j) ≡ (open_at levels bands i j d && inside_in f v i j)
      test_deep i j = ap (λ b. b && open_in levels d i j && inside_in f v i j) (r-is j) ∙ clip (among (rows_of bands d) j) (among near j) (open_in levels d i j) (inside_in f v i j) (deep_near i j)

      test_kept : (i j : ℕ) → (among rows j && open_in levels d i j && not (away_in f v i j)) ≡ (open_at levels bands i j d && not (away_in f v i j))
      test_kept i j = ap (λ b. b && open_in levels d i j && not (away_in f v i j)) (r-is j) ∙ clip (among (rows_of bands d) j) (among near j) (open_in levels d i j) (not (away_in f v i j)) (is_near i j)

      -- ---- no row is left: where its level is open the tree is away
      nothing : rows.hi ≤ rows.lo → (i j : ℕ) → cond (open_at levels bands i j d) (weight (explore (asked₁ f i j) w.tree)) 0 ≡ 0
      nothing z i j = go (open_at levels bands i j d) refl
        where
          far : open_at levels bands i j d ≡ true → among near j ≡ false
          far c = second (among (rows_of bands d) j) (among near j) (both (among (rows_of bands d) j) (open_in levels d i j) c).0 (sym (r-is j) ∙ empty rows j (λ p q. omega arith))

          go : (o : Bool) → open_at levels bands i j d ≡ o → cond o (weight (explore (asked₁ f i j) w.tree)) 0 ≡ 0
          go true c = ap weight (away_all (asked₁ f i j) w.tree (unreached i j (far c)))
          go false c = refl

      pub past : {p : ℕ} → rows.hi ≤ rows.lo → p ≡ at + width * size w.tree → State map levels bands d p
      past z q = record {
        waiting = w.others;
        rest = subst (λ (k : ℕ). Rest l k (trees_of w.others)) (sym q) (pending.past l at w.tree (trees_of w.others) w.rest);
        placed = subst (λ (k : ℕ). Placed (ends_of bands) d k w.others) (sym q) w.placed.1;
        cells = λ i j a b. omega (arith, w.cells i j a b, nothing z i j);
      }

      -- ---- the node is visited
      module _ (few : high ≤ 256) (map' : List ℕ) (levels' : List Span)
          (N : Narrowed f v d rows levels levels') where
        below : (i j k : ℕ) → j < high → k ≤ d → open_at levels' bands i j k ≡ open_at levels bands i j k
        below i j k c m = ap (λ (s : Span). among (rows_of bands k) j && among s i) (N.same k j m (omega arith))

        -- a leaf is done with
        pub past_leaf : {p : ℕ} → Drawn f.n map' map (λ i j x. raised (among rows j && open_in levels d i j && not (away_in f v i j)) 68 (raised (among rows j && open_in levels d i j && inside_in f v i j) 73 x)) → size w.tree ≡ 1 → p ≡ at + width → State map' levels' bands d p
        past_leaf {p} D z q = record {
          waiting = w.others;
          rest = subst (λ (k : ℕ). Rest l k (trees_of w.others)) (omega (arith, q, z)) (pending.past l at w.tree (trees_of w.others) w.rest);
          placed = subst (λ (k : ℕ). Placed (ends_of bands) d k w.others) (omega (arith, q, z)) w.placed.1;
          cells = λ i j a c. own i j a c;
        }
          where
            own : (i j : ℕ) → i < f.n → j < high → max (cell old i j) (weight (explore (asked₁ f i j) t)) ≡ max (cell map' i j) (heaviest (asked₁ f i j) (open_at levels' bands i j) w.others)
            own i j a c =
                let o : Bool = open_at levels bands i j d in
                let h₁ = w.cells i j a c in
                let h₂ : cell map' i j ≡ max (cell map i j) (cond o (weight (explore (asked₁ f i j) w.tree)) 0) =
                D.cells i j a ∙ ap₂ (λ (s u : Bool). raised s 68 (raised u 73 (cell map i j))) (test_kept i j) (test_deep i j)
                ∙ leaf_paints o (inside_in f v i j) (away_in f v i j) (cell map i j)
                ∙ ap (λ (s : Answer). max (cell map i j) (cond o (weight s) 0)) (answer i j ∙ sym (alone (asked₁ f i j) w.tree z)) in
                let h₃ = heaviest_same (asked₁ f i j) (open_at levels bands i j) (open_at levels' bands i j) (ends_of bands) d (at + width * size w.tree) w.others (λ k m. below i j k c m) w.placed.1 in
                omega (arith, h₁, h₂, h₃)

        -- any other's halves wait in its place
        module _ (bands' : List Band) (e-same : (k : ℕ) → k ≤ d → ends_of bands' k ≡ ends_of bands k) (r-same : (k : ℕ) → k ≤ d → rows_of bands' k ≡ rows_of bands k)
            (e-new : ends_of bands' (suc d) ≡ at + width * size w.tree) (r-new : rows_of bands' (suc d) ≡ rows) where
          below' : (i j k : ℕ) → j < high → k ≤ d → open_at levels' bands' i j k ≡ open_at levels bands i j k
          below' i j k c m = ap (λ (s : Span). among s j && open_in levels' k i j) (r-same k m) ∙ below i j k c m

          opened : (i j : ℕ) → open_at levels' bands' i j (suc d) ≡ (open_at levels bands i j d && not (away_in f v i j))
          opened i j =
              ap (λ (s : Span). among s j && open_in levels' (suc d) i j) r-new
              ∙ next_open f v d rows levels levels' N i j
              ∙ test_kept i j

          pub into : {p : ℕ} → Drawn f.n map' map (λ i j. raised (among rows j && open_in levels d i j && inside_in f v i j) 73) → (size w.tree ≡ 1 → ⊥) → p ≡ at + width → (suc d ≤ 10) × State map' levels' bands' (suc d) p
          unfolding explore
          into {p} D z q = go w.tree w.rest w.placed w.cells (λ i j. answer i j) e-new z
            where
              go : (u : Tree) → Rest l at (u ∷ trees_of w.others) → Placed (ends_of bands) d at (record { tree = u; level = d } ∷ w.others)
                  → ((i j : ℕ) → i < f.n → j < high → max (cell old i j) (weight (explore (asked₁ f i j) t)) ≡ max (cell map i j) (max (cond (open_at levels bands i j d) (weight (explore (asked₁ f i j) u)) 0) (heaviest (asked₁ f i j) (open_at levels bands i j) w.others)))
                  → ((i j : ℕ) → by_tests (inside_in f v i j) (away_in f v i j) ≡ asked₁ f i j (top u))
                  → ends_of bands' (suc d) ≡ at + width * size u → (size u ≡ 1 → ⊥) → (suc d ≤ 10) × State map' levels' bands' (suc d) p
              go (leaf s) r pl c an en no-leaf = absurd (no-leaf refl)
              go (long s) r pl c an en no-leaf = absurd (no-leaf refl)
              go (node s x y) r pl c an en no-leaf = (
                omega (arith, pl.0.shallow),
                record {
                  waiting = record { tree = x; level = suc d } ∷ record { tree = y; level = suc d } ∷ w.others;
                  rest = subst (λ (k : ℕ). Rest l k (x ∷ y ∷ trees_of w.others)) (sym q) (pending.into l at s x y (trees_of w.others) r);
                  placed = subst (λ (k : ℕ). Placed (ends_of bands') (suc d) k (record { tree = x; level = suc d } ∷ record { tree = y; level = suc d } ∷ w.others)) (sym q) (halved (ends_of bands) (ends_of bands') d e-same at s x y w.others en pl);
                  cells = own;
                },
              )
                where
                  own : (i j : ℕ) → i < f.n → j < high → max (cell old i j) (weight (explore (asked₁ f i j) t)) ≡ max (cell map' i j) (heaviest (asked₁ f i j) (open_at levels' bands' i j) (record { tree = x; level = suc d } ∷ record { tree = y; level = suc d } ∷ w.others))
                  own i j a k =
                      let o : Bool = open_at levels bands i j d in
                      let o' : Bool = open_at levels' bands' i j (suc d) in
                      let halves : Answer = join (explore (asked₁ f i j) x) (explore (asked₁ f i j) y) in
                      let h₁ = c i j a k in
                      let h₂ : max (raised (o && inside_in f v i j) 73 (cell map i j)) (cond (o && not (away_in f v i j)) (weight halves) 0) ≡ max (cell map i j) (cond o (weight (settle (asked₁ f i j s) halves)) 0) =
                      node_paints o (inside_in f v i j) (away_in f v i j) (cell map i j) halves ∙ ap (λ (z : Answer). max (cell map i j) (cond o (weight (settle z halves)) 0)) (an i j) in
                      let h₃ : cell map' i j ≡ raised (o && inside_in f v i j) 73 (cell map i j) = D.cells i j a ∙ ap (λ (u : Bool). raised u 73 (cell map i j)) (test_deep i j) in
                      let h₄ : cond (o && not (away_in f v i j)) (weight halves) 0 ≡ max (cond o' (weight (explore (asked₁ f i j) x)) 0) (cond o' (weight (explore (asked₁ f i j) y)) 0) =
                      ap (λ (z : Bool). cond z (weight halves) 0) (sym (opened i j)) ∙ parted o' (explore (asked₁ f i j) x) (explore (asked₁ f i j) y) in
                      let h₅ = heaviest_same (asked₁ f i j) (open_at levels bands i j) (open_at levels' bands' i j) (ends_of bands) d (at + width * size (node s x y)) w.others (λ n m. below' i j n k m) pl.1 in
                      shared (max (cell old i j) (weight (explore (asked₁ f i j) t))) (cell map i j) (cond o (weight (settle (asked₁ f i j s) halves)) 0) (heaviest (asked₁ f i j) (open_at levels bands i j) w.others) (cell map' i j)
                      (cond (o && not (away_in f v i j)) (weight halves) 0) (cond o' (weight (explore (asked₁ f i j) x)) 0) (cond o' (weight (explore (asked₁ f i j) y)) 0) (heaviest (asked₁ f i j) (open_at levels' bands' i j) w.others)
                      h₁ (ap (λ (z : ℕ). max z (cond (o && not (away_in f v i j)) (weight halves) 0)) h₃ ∙ h₂) h₄ h₅
