-- Each number is a step away from the arguments, within their sizes.
use lib.Dec.{T}
use lib.Signed.{non_neg}
use mathlib.Core.Path.{◌≡◌, refl}
use lib.IntN.{ℤ, pos, ◌+ℤ◌, ◌-ℤ◌, ◌*ℤ◌, nat_abs}
use Rattle.std.specs.Int.{int_max}
use Rattle.model.specs.Explore.{squares}
use Rattle.integers.specs.Absolute.{absℤ}
use Rattle.integers.specs.Signed.{Made, bits, plus, times, minus, widen, back}
use Rattle.strip_tests.specs.Limits.{NodeSized, CrossSized}
use Rattle.strip_tests.proofs.Calls.{abs_fits, abs_of, most_of, squares_is, low, node_made}
use Rattle.strip_tests.proofs.slanted.Goals as goal

nonneg : (p q : ℤ) → T (non_neg (squares p q))
nonneg p q = rw (squares_is p q) tt

module _ {wx wy p q a b r : ℤ} (s : NodeSized wx wy p q a b r) where
  -- before it is taken without its sign
  turned : Made (bits (bits wx *ℤ bits q) -ℤ bits (bits wy *ℤ bits p)) (wx *ℤ q -ℤ wy *ℤ p) 1152921504606846976
  turned = let m = node_made s in minus (times m.wx_made m.q_made tt) (times m.wy_made m.p_made tt) tt

  pp : Made (bits (bits p *ℤ bits p) +ℤ bits (bits q *ℤ bits q)) (squares p q) 576460752303423488
  pp = let m = node_made s in plus (times m.p_made m.p_made tt) (times m.q_made m.q_made tt) tt

module _ {wx wy p q a b r : ℤ} (s : NodeSized wx wy p q a b r) {u v w : ℤ} (hp : u ≡ pos (nat_abs (bits p))) (hq : v ≡ pos (nat_abs (bits q))) (hw : w ≡ pos (nat_abs (bits (bits (bits wx *ℤ bits q) -ℤ bits (bits wy *ℤ bits p))))) where
  ap : Made u (absℤ p) 536870912
  ap = abs_of (node_made s).p_made hp tt

  aq : Made v (absℤ q) 536870912
  aq = abs_of (node_made s).q_made hq tt

  -- what the boxes take off
  by_a : Made (bits a *ℤ bits v) (a *ℤ absℤ q) 144115188075855872
  by_a = times (node_made s).a_made aq tt

  by_b : Made (bits b *ℤ bits u) (b *ℤ absℤ p) 144115188075855872
  by_b = times (node_made s).b_made ap tt

  less_a : Made (bits w -ℤ bits (bits a *ℤ bits v)) (absℤ (wx *ℤ q -ℤ wy *ℤ p) -ℤ a *ℤ absℤ q) 1297036692682702848
  less_a = minus (abs_of (turned s) hw tt) by_a tt

  cross : Made (bits (bits w -ℤ bits (bits a *ℤ bits v)) -ℤ bits (bits b *ℤ bits u)) (absℤ (wx *ℤ q -ℤ wy *ℤ p) -ℤ a *ℤ absℤ q -ℤ b *ℤ absℤ p) 1441151880758558720
  cross = minus less_a by_b tt

  least : {m : ℤ} → m ≡ int_max (bits u) (bits v) → Made m (int_max (absℤ p) (absℤ q)) 536870912
  least e = most_of ap aq e tt

  cross_sized : CrossSized (absℤ (wx *ℤ q -ℤ wy *ℤ p) -ℤ a *ℤ absℤ q -ℤ b *ℤ absℤ p) r (int_max (absℤ p) (absℤ q)) (squares p q)
  cross_sized =
      let l = low p q in
      record {
        cross_size = (widen 2305843009213693952 cross tt).within;
        cross_reach = s.node_reach;
        low_size = (widen 1073741824 (most_of ap aq refl tt) tt).within;
        low_nonneg = l.is_nonneg;
        pp_nonneg = nonneg p q;
        pp_size = (widen 1152921504606846976 (pp s) tt).within;
        low_under = l.is_low;
      }

pub overflow_sub-x : goal.overflow_sub-x
overflow_sub-x c = (turned c.requires.sizes).fits

pub abs-requires : goal.abs-requires
abs-requires c = abs_fits (turned c.requires.sizes) tt

pub overflow_mul-cross : goal.overflow_mul-cross
overflow_mul-cross c = (by_a c.requires.sizes c.abs-p.ensures.value c.abs-q.ensures.value c.abs.ensures.value).fits

pub overflow_sub-cross : goal.overflow_sub-cross
overflow_sub-cross c = (less_a c.requires.sizes c.abs-p.ensures.value c.abs-q.ensures.value c.abs.ensures.value).fits

pub overflow_mul-cross-2 : goal.overflow_mul-cross-2
overflow_mul-cross-2 c = (by_b c.requires.sizes c.abs-p.ensures.value c.abs-q.ensures.value c.abs.ensures.value).fits

pub overflow_sub-cross-2 : goal.overflow_sub-cross-2
overflow_sub-cross-2 c = (cross c.requires.sizes c.abs-p.ensures.value c.abs-q.ensures.value c.abs.ensures.value).fits

pub overflow_mul-x-2 : goal.overflow_mul-x-2
overflow_mul-x-2 c = let m = node_made c.requires.sizes in (times m.p_made m.p_made tt).fits

pub overflow_mul-y-2 : goal.overflow_mul-y-2
overflow_mul-y-2 c = let m = node_made c.requires.sizes in (times m.q_made m.q_made tt).fits

pub overflow_add-x : goal.overflow_add-x
overflow_add-x c = (pp c.requires.sizes).fits

pub beyond-requires : goal.beyond-requires
beyond-requires c =
    let s = c.requires.sizes in
    let k = cross s c.abs-p.ensures.value c.abs-q.ensures.value c.abs.ensures.value in
    let l = least s c.abs-p.ensures.value c.abs-q.ensures.value c.abs.ensures.value c.max.ensures.value in
    record { sizes = rw (back k, back (node_made s).r_made, back l, back (pp s)) (cross_sized s c.abs-p.ensures.value c.abs-q.ensures.value c.abs.ensures.value) }

pub returns : goal.returns
returns c =
    let s = c.requires.sizes in
    let k = cross s c.abs-p.ensures.value c.abs-q.ensures.value c.abs.ensures.value in
    record { told = rw (back k, back (node_made s).r_made, back (pp s)) at c.beyond.ensures.told }
