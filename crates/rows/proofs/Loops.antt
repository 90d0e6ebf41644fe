-- The loop over a part of a store: what holds of the map and of the levels' arrays at each turn, and what is left at the end. Assumes nothing.
use Rattle.std.specs.Prelude.{◌≡◌, Bool, true, false, not, cond, ◌&&◌, List, ℕ, zero, suc, ◌+◌, ◌*◌, ◌≤◌, ◌<◌, max, T, leb, ltb, eqb, ℤ, pos, nat_abs, ◌+ℤ◌, length, get_or, replicate}
use Rattle.std.proofs.Common.{refl, ap, ◌∙◌, sym, subst, set, drop, arith, lt-ltb, le-leb, ltb-true, ltb-false, eqb-true, length-set, get_or-set_same, get_or-set_other}
use Rattle.std.proofs.lemmas.Bool.{eqb-false}
use Rattle.std.specs.Int.Signed.{le_z, non_neg}
use Rattle.model.specs.Trees.{Tree}
use Rattle.model.specs.Store.{flatten, width, size}
use Rattle.model.specs.Explore.{explore}
use Rattle.ranges.specs.Sizes.{Sized, AllSized}
use Rattle.subtrees.specs.Pending as pending
use Rattle.filling.specs.Squares.{Drawn}
use Rattle.spans.specs.declared.Span.{Span}
use Rattle.spans.specs.Among.{among}
use Rattle.raising.specs.Raised.{raised}
use Rattle.columns.specs.declared.Frame.{Frame}
use Rattle.columns.specs.declared.View.{View}
use Rattle.columns.specs.Views.{away_in, inside_in, asked₁, view_of}
use Rattle.levels.specs.Open.{Fits, open_in}
use Rattle.rows.specs.declared.Band.{Band}
use Rattle.rows.specs.Bands.{no_band, ends_of, rows_of}
use Rattle.rows.specs.Weights.{weight}
use Rattle.rows.specs.Waiting.{depth, ShallowTree}
use Rattle.rows.specs.Levels.{AllOpen, Narrowed}
use Rattle.rows.proofs.Tests.{empty}
use Rattle.rows.proofs.Walks.{State, end, open_at, Next, begin, next, room, has_node, past, past_leaf, into}
use Rattle.integers.specs.Absolute.{absℤ}
use Rattle.nodes.specs.Places.{count_place, strip_in}
use Rattle.row_laws.specs.Columns.{off}
use Rattle.columns.specs.Limits.{FrameSized, ViewSized}
use Rattle.columns.specs.Reaches.{view_sized}

-- what holds of the arrays whatever the tree is, and the state of each tree that the part may hold
pub record Sofar (f : Frame) (high : ℕ) (l : List ℤ) (old map : List ℕ) (levels : List Span) (bands : List Band) (d at : ℕ) : Type 0 where
  pub fits : Fits f.n levels
  pub opened : AllOpen f.n high levels
  pub long : length bands ≡ 12
  pub whole : length map ≡ length old
  pub first : ends_of bands 0 ≡ length l
  pub most : (k : ℕ) → (rows_of bands k).hi ≤ high
  pub shallow_enough : d ≤ 10
  pub beyond : (i j : ℕ) → i < f.n → high ≤ j → get_or map (j * f.n + i) 0 ≡ get_or old (j * f.n + i) 0
  pub states : (t : Tree) → AllSized t → depth t ≤ 10 → l ≡ flatten t → State f high l t old map levels bands d at

-- a cell past the rows is not touched, by a node or by a leaf
past_end : (c : Span) (k : ℕ) → c.hi ≤ k → among c k ≡ false
past_end c k h = empty c k (λ p q. omega arith)

module _ (f : Frame) (v : View) (d : ℕ) (rows : Span) (map map' : List ℕ) (levels : List Span) where
  pub untouched : Drawn f.n map' map (λ i j. raised (among rows j && open_in levels d i j && inside_in f v i j) 73) → (i j : ℕ) → i < f.n → rows.hi ≤ j → get_or map' (j * f.n + i) 0 ≡ get_or map (j * f.n + i) 0
  untouched D i j a h = D.cells i j a ∙ ap (λ (t : Bool). raised (t && open_in levels d i j && inside_in f v i j) 73 (get_or map (j * f.n + i) 0)) (past_end rows j h)

  pub untouched_leaf : Drawn f.n map' map (λ i j x. raised (among rows j && open_in levels d i j && not (away_in f v i j)) 68 (raised (among rows j && open_in levels d i j && inside_in f v i j) 73 x)) → (i j : ℕ) → i < f.n → rows.hi ≤ j → get_or map' (j * f.n + i) 0 ≡ get_or map (j * f.n + i) 0
  untouched_leaf D i j a h = D.cells i j a ∙ ap (λ (t : Bool). raised (t && open_in levels d i j && not (away_in f v i j)) 68 (raised (t && open_in levels d i j && inside_in f v i j) 73 (get_or map (j * f.n + i) 0))) (past_end rows j h)

-- at the start every cell is open at level 0
pub all_open : (f : Frame) (high : ℕ) (levels : List Span) (bands : List Band) → AllOpen f.n high levels → rows_of bands 0 ≡ record { lo = 0; hi = high } → (i j : ℕ) → i < f.n → j < high → open_at levels bands i j 0 ≡ true
all_open f high levels bands o e i j a b =
    ap (λ (r : Span). among r j && open_in levels 0 i j) e
    ∙ ap (λ (c : Span). leb 0 j && ltb j high && among c i) (o j b)
    ∙ rw (le-leb 0 j (omega arith), lt-ltb j high b, le-leb 0 i (omega arith), lt-ltb i f.n a) refl

-- no level goes past the rows, at the start and with one written
pub first_most : (n high e k : ℕ) → (rows_of (replicate n (record { end = e; rows = record { lo = 0; hi = high } })) k).hi ≤ high
first_most zero high e k = omega arith
first_most (suc n) high e zero = omega arith
first_most (suc n) high e (suc k) = first_most n high e k

most_still : (bands : List Band) (d high : ℕ) (b : Band) → d < length bands → b.rows.hi ≤ high → ((k : ℕ) → (rows_of bands k).hi ≤ high) → (k : ℕ) → (rows_of (set bands d b) k).hi ≤ high
most_still bands d high b l h m k = go (eqb k d) refl
  where
    go : (t : Bool) → eqb k d ≡ t → (rows_of (set bands d b) k).hi ≤ high
    go true e = let z : k ≡ d = eqb-true k d e in rw z (subst (λ (x : Band). x.rows.hi ≤ high) (sym (get_or-set_same bands d b no_band l)) h)
    go false e = subst (λ (x : Band). x.rows.hi ≤ high) (sym (get_or-set_other bands d k b no_band (eqb-false k d e))) (m k)

-- the start
pub started : (f : Frame) (high : ℕ) (l : List ℤ) (map : List ℕ) (levels : List Span) → Fits f.n levels → AllOpen f.n high levels → Sofar f high l map map levels (replicate 12 (record { end = length l; rows = record { lo = 0; hi = high } })) 0 0
started f high l map levels h o = record {
  fits = h;
  opened = o;
  long = refl;
  whole = refl;
  first = refl;
  most = first_most 12 high (length l);
  shallow_enough = omega arith;
  beyond = λ i j x y. refl;
  states = λ t z p e. begin f high l t map map levels (replicate 12 (record { end = length l; rows = record { lo = 0; hi = high } })) refl e z p refl (all_open f high levels (replicate 12 (record { end = length l; rows = record { lo = 0; hi = high } })) o refl);
}

-- at the end
pub finished : (f : Frame) (high : ℕ) (l : List ℤ) (old map : List ℕ) (levels : List Span) (bands : List Band) (d at : ℕ) → Sofar f high l old map levels bands d at → length l ≤ at → (t : Tree) → AllSized t → depth t ≤ 10 → l ≡ flatten t → Drawn f.n map old (λ i j x. cond (ltb j high) (max x (weight (explore (asked₁ f i j) t))) x)
finished f high l old map levels bands d at s h t z p e = record { cells = λ i j a. go i j a (ltb j high) refl }
  where
    go : (i j : ℕ) → i < f.n → (b : Bool) → ltb j high ≡ b → get_or map (j * f.n + i) 0 ≡ cond b (max (get_or old (j * f.n + i) 0) (weight (explore (asked₁ f i j) t))) (get_or old (j * f.n + i) 0)
    go i j a true k = end f high l t old (s.states t z p e) h i j a (ltb-true j high k)
    go i j a false k = s.beyond i j a (ltb-false j high k)

-- ---- a turn: the last level that has not ended is e, the view of the node at hand v, the rows of that level that it reaches `rows`, its count n
module _ {f : Frame} {high : ℕ} {l : List ℤ} {old map : List ℕ} {levels : List Span} {bands : List Band} {d e at : ℕ} (S : Sofar f high l old map levels bands d at) (more : at < length l)
    (e-is : (e ≤ d) × (at < ends_of bands e) × ((k : ℕ) → e < k → k ≤ d → ends_of bands k ≤ at)) where
  -- of any tree that the part may hold the node is the next
  pub node : (t : Tree) → AllSized t → depth t ≤ 10 → l ≡ flatten t → Next f high l t old map levels bands e at
  node t z p k = next f high l t old (S.states t z p k) more e-is.0 e-is.1 e-is.2

  -- of the one that the part does hold
  module _ (k : ShallowTree l) where
    known : Next f high l k.tree old map levels bands e at
    known = node k.tree k.sized k.shallow k.is

    pub front : at + width ≤ length l
    front = omega (arith, room f high l k.tree old known, has_node f high l k.tree old known)

    pub counted : T (non_neg (get_or l (at + count_place) (pos 0)))
    counted = rw (pending.count_is known.rest) tt

    pub strip_fits : Sized (strip_in (drop at l))
    strip_fits = pending.strip_sized known.rest

    pub view_fits : (v : View) → FrameSized f → v ≡ view_of f (strip_in (drop at l)) → ViewSized v
    view_fits v s h = subst ViewSized (sym h) (view_sized f (strip_in (drop at l)) s strip_fits)

    pub subtree : (n : ℕ) → n ≡ nat_abs (get_or l (at + count_place) (pos 0)) → (1 ≤ n) × (at + width * n ≤ length l)
    subtree n h =
        let e : n ≡ size known.tree = h ∙ ap nat_abs (pending.count_is known.rest) in
        (omega (arith, e, has_node f high l k.tree old known), omega (arith, e, room f high l k.tree old known))

  pub low : e ≤ 10
  low = omega (arith, e-is.0, S.shallow_enough)

  module _ (fs : FrameSized f) (within : high ≤ f.n) (v : View) (v-is : v ≡ view_of f (strip_in (drop at l))) (near rows : Span)
      (near_is : (j : ℕ) → among near j ≡ le_z (absℤ (off f.q v.y (pos j))) (v.ey +ℤ f.reach))
      (rows_are : (j : ℕ) → among rows j ≡ (among (rows_of bands e) j && among near j)) (few : rows.hi ≤ high)
      (n : ℕ) (n_is : n ≡ nat_abs (get_or l (at + count_place) (pos 0))) where
    size_is : (t : Tree) (w : Next f high l t old map levels bands e at) → n ≡ size w.tree
    size_is t w = n_is ∙ ap nat_abs (pending.count_is w.rest)

    -- no row is left: past the whole subtree
    pub gone : {p : ℕ} → rows.hi ≤ rows.lo → p ≡ at + width * n → Sofar f high l old map levels bands e p
    gone h q = record {
      fits = S.fits;
      opened = S.opened;
      long = S.long;
      whole = S.whole;
      first = S.first;
      most = S.most;
      shallow_enough = low;
      beyond = S.beyond;
      states = λ t z p k. let w = node t z p k in past f high l t old w fs v v-is near rows near_is rows_are h (omega (arith, q, size_is t w));
    }

    -- the node was visited
    module _ (map' : List ℕ) (levels' : List Span) (same_length : length map' ≡ length map) (N : Narrowed f v e rows levels levels') where
      narrow_enough : high ≤ 256
      narrow_enough = omega (arith, within, fs.n_size)

      still_open : AllOpen f.n high levels'
      still_open j h = N.same 0 j (omega arith) (omega (arith, h, narrow_enough)) ∙ S.opened j h

      -- a leaf
      pub done : {p : ℕ} → Drawn f.n map' map (λ i j x. raised (among rows j && open_in levels e i j && not (away_in f v i j)) 68 (raised (among rows j && open_in levels e i j && inside_in f v i j) 73 x)) → n ≡ 1 → p ≡ at + width → Sofar f high l old map' levels' bands e p
      done D one q = record {
        fits = N.fits;
        opened = still_open;
        long = S.long;
        whole = same_length ∙ S.whole;
        first = S.first;
        most = S.most;
        shallow_enough = low;
        beyond = λ i j h k. untouched_leaf f v e rows map map' levels D i j h (omega (arith, few, k)) ∙ S.beyond i j h k;
        states = λ t z p k. let w = node t z p k in past_leaf f high l t old w fs v v-is near rows near_is rows_are narrow_enough map' levels' N D (omega (arith, size_is t w, one)) q;
      }

      -- any other: a level more, which ends where its subtree does and has its rows
      module _ (k : ShallowTree l) (D : Drawn f.n map' map (λ i j. raised (among rows j && open_in levels e i j && inside_in f v i j) 73)) (many : n ≡ 1 → ⊥) where
        abbrev band : Band
        band = record { end = at + width * n; rows = rows }

        abbrev bands' : List Band
        bands' = set bands (e + 1) band

        up : suc e ≡ e + 1
        up = omega arith

        new : get_or bands' (suc e) no_band ≡ band
        new = subst (λ (x : ℕ). get_or bands' x no_band ≡ band) (sym up) (get_or-set_same bands (e + 1) band no_band (omega (arith, S.long, low)))

        other : (x : ℕ) → x ≤ e → get_or bands' x no_band ≡ get_or bands x no_band
        other x h = get_or-set_other bands (e + 1) x band no_band (λ r. omega (arith, r, h))

        halves : (t : Tree) → AllSized t → depth t ≤ 10 → l ≡ flatten t → (suc e ≤ 10) × State f high l t old map' levels' bands' (suc e) (at + width)
        halves t z p i =
            let w = node t z p i in
            into f high l t old w fs v v-is near rows near_is rows_are narrow_enough map' levels' N bands'
            (λ x h. ap (λ (b : Band). b.end) (other x h))
            (λ x h. ap (λ (b : Band). b.rows) (other x h))
            (ap (λ (b : Band). b.end) new ∙ omega (arith, size_is t w))
            (ap (λ (b : Band). b.rows) new)
            D (λ r. many (size_is t w ∙ r)) refl

        below : Sofar f high l old map' levels' bands' (e + 1) (at + width)
        below = record {
          fits = N.fits;
          opened = still_open;
          long = length-set bands (e + 1) band ∙ S.long;
          whole = same_length ∙ S.whole;
          first = ap (λ (b : Band). b.end) (other 0 (omega arith)) ∙ S.first;
          most = most_still bands (e + 1) high band (omega (arith, S.long, low)) few S.most;
          shallow_enough = omega (arith, (halves k.tree k.sized k.shallow k.is).0);
          beyond = λ i j h m. untouched f v e rows map map' levels D i j h (omega (arith, few, m)) ∙ S.beyond i j h m;
          states = λ t z p i. subst (λ (x : ℕ). State f high l t old map' levels' bands' x (at + width)) up (halves t z p i).1;
        }

        -- with what was written for it
        pub deeper : {m x p : ℕ} → m ≡ e + 1 → x ≡ at + width * n → p ≡ at + width → Sofar f high l old map' levels' (set bands m (record { end = x; rows = rows })) m p
        deeper a c p = rw (a, c, p) below
