-- The open columns of each row at each level. Assumes nothing.
use Rattle.std.specs.Prelude.{◌≡◌, refl, Bool, true, false, cond, ◌&&◌, List, ℕ, ◌+◌, ◌*◌, ◌≤◌, ◌<◌, T, leb, ltb, get_or}
use Rattle.std.proofs.Common.{sym, ap, ◌∙◌, subst, arith, ltb-true, ltb-false, le-ltb, leb→le, ltb→lt}
use Rattle.integers.specs.Tests.{t_both, and_false}
use Rattle.spans.specs.declared.Span.{Span}
use Rattle.spans.specs.Among.{among}

-- of 256 rows at each level
abbrev pub place_of : ℕ → ℕ → ℕ
place_of d j = 256 * d + j

-- the empty stretch
abbrev pub closed : Span
closed = record { lo = 0; hi = 0 }

abbrev pub span_in : List Span → ℕ → ℕ → Span
span_in l d j = get_or l (place_of d j) closed

-- column i of row j is open at level d
abbrev pub open_in : List Span → ℕ → ℕ → ℕ → Bool
open_in l d i j = among (span_in l d j) i

-- no stretch goes past column n, nor begins past the 256th
abbrev pub Fits : ℕ → List Span → Type 0
Fits n l = (k : ℕ) → ((get_or l k closed).lo ≤ 256) × ((get_or l k closed).hi ≤ n)

none_first : (i : ℕ) → (leb 0 i && ltb i 0) ≡ false
none_first i = ap (λ t. leb 0 i && t) (le-ltb i 0 (omega arith)) ∙ and_false (leb 0 i)

-- a stretch as it is kept: an empty one is kept as the first such
abbrev pub normal_of : Span → Span
normal_of c = cond (ltb c.lo c.hi) c closed

-- holds what it did
pub normal_same : (c : Span) (i : ℕ) → among (normal_of c) i ≡ among c i
normal_same c i = go (ltb c.lo c.hi) refl
  where
    none : c.hi ≤ c.lo → (t : Bool) → among c i ≡ t → false ≡ t
    none h false e = refl
    none h true e =
        let p = t_both (leb c.lo i) (ltb i c.hi) (subst T (sym e) tt) in
        let a : c.lo ≤ i = leb→le c.lo i p.0 in
        let b : i < c.hi = ltb→lt i c.hi p.1 in
        absurd (omega arith)

    go : (t : Bool) → ltb c.lo c.hi ≡ t → among (cond t c closed) i ≡ among c i
    go true e = refl
    go false e = none_first i ∙ none (ltb-false c.lo c.hi e) (among c i) refl

-- and goes no farther
pub normal_most : (c : Span) (n : ℕ) → c.hi ≤ n → ((normal_of c).lo ≤ n) × ((normal_of c).hi ≤ n)
normal_most c n h = go (ltb c.lo c.hi) refl
  where
    go : (t : Bool) → ltb c.lo c.hi ≡ t → ((cond t c closed).lo ≤ n) × ((cond t c closed).hi ≤ n)
    go true e = (omega (arith, ltb-true c.lo c.hi e), h)
    go false e = (omega arith, omega arith)
