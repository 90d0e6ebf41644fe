-- What the tests' steps give, as numbers made of numbers made, with their bounds. Assumes nothing.
use mathlib.Core.Path.{◌≡◌, refl, sym, ap, ◌∙◌}
use mathlib.Core.Bool.{Bool, true, false, cond}
use Prim.Native.Nat.{ℕ, ◌+◌, ◌*◌, ◌≤◌, ◌^◌}
use native.Mathlib.Omega.{arith}
use borrow.Author.Tests.{ltb-false}
use lib.Dec.{T, ltb}
use lib.IntN.{ℤ, pos, negsuc, neg_ℤ, nat_abs, ◌+ℤ◌, ◌-ℤ◌}
use lib.Signed.{lt_z, non_neg}
use mir.Syntax.{w64}
use mir.Val.{SFits, to_z, of_z}
use Rattle.std.specs.Int.{int_max}
use Rattle.integers.specs.Signed.{Made, bits, called, held, plus, back, fits64, nat_abs_add, nat_abs_neg}
use Rattle.integers.specs.Absolute.{absℤ, abs_size}
use Rattle.model.specs.Explore.{squares, at_least0}
use Rattle.strip_tests.specs.Limits.{NodeSized, SpanSized}
use Rattle.strip_tests.specs.PlainTests.{excess_by, excess_is}

-- ---- absolute values
pub abs_fits : {u x : ℤ} {B : ℕ} → Made u x B → T (ltb B (2 ^ 63)) → SFits w64 (neg_ℤ (to_z w64 (of_z w64 u)))
abs_fits m t = rw (back m) (fits64 (rw nat_abs_neg m.within) t)

pub abs_of : {u x v : ℤ} {B : ℕ} → Made u x B → v ≡ pos (nat_abs (to_z w64 (of_z w64 u))) → T (ltb B (2 ^ 63)) → Made v (absℤ x) B
unfolding absℤ
abs_of {u} {x} {v} {B} m e t = called (e ∙ ap absℤ (back m)) (rw (abs_size x) m.within) t

-- ---- the larger of two numbers
excess_max : (z : ℤ) → int_max z (pos 0) ≡ at_least0 z
excess_max (pos n) = go (ltb 0 n) refl
  where
    go : (t : Bool) → ltb 0 n ≡ t → cond t (pos n) (pos 0) ≡ pos n
    go true e = refl
    go false e = ap pos (omega (arith, ltb-false 0 n e))
excess_max (negsuc n) = refl

at_least0_size : (z : ℤ) (B : ℕ) → nat_abs z ≤ B → nat_abs (at_least0 z) ≤ B
at_least0_size (pos n) B h = h
at_least0_size (negsuc n) B h = omega arith

pub excess_of : {u w : ℤ} {B : ℕ} (a e : ℤ) → Made u (a -ℤ e) B → w ≡ int_max (to_z w64 (of_z w64 u)) (pos 0) → T (ltb B (2 ^ 63)) → Made w (excess_by a e) B
excess_of {u} {w} {B} a e m h t =
    let k = excess_is (a -ℤ e) a e refl (lt_z a e) refl in
    called (rw (back m) at h ∙ excess_max (a -ℤ e) ∙ sym k) (rw k (at_least0_size (a -ℤ e) B m.within)) t

most_size : (a b : ℤ) (B : ℕ) → nat_abs a ≤ B → nat_abs b ≤ B → nat_abs (int_max a b) ≤ B
most_size a b B h k = go (lt_z b a)
  where
    go : (t : Bool) → nat_abs (cond t a b) ≤ B
    go true = h
    go false = k

pub most_of : {u v a b w : ℤ} {B : ℕ} → Made u a B → Made v b B → w ≡ int_max (to_z w64 (of_z w64 u)) (to_z w64 (of_z w64 v)) → T (ltb B (2 ^ 63)) → Made w (int_max a b) B
most_of {u} {v} {a} {b} {w} {B} m n h t = called (rw (back m, back n) at h) (most_size a b B m.within n.within) t

-- the reach of the upright boxes, from the sizes of a node
pub span_of_is : {wx wy p q a b r : ℤ} → NodeSized wx wy p q a b r → SpanSized (absℤ wx) (absℤ wy) (absℤ p +ℤ a) (absℤ q +ℤ b) r
span_of_is {wx} {wy} {p} {q} {a} {b} n = record {
  ax_size = rw (abs_size wx) n.wx_size;
  ay_size = rw (abs_size wy) n.wy_size;
  ex_size = omega (arith, nat_abs_add (absℤ p) a, abs_size p, n.p_size, n.a_size);
  ey_size = omega (arith, nat_abs_add (absℤ q) b, abs_size q, n.q_size, n.b_size);
  span_reach = n.node_reach.r_size;
}

-- ---- squares
pub squares_is : (p q : ℤ) → squares p q ≡ pos (nat_abs p * nat_abs p + nat_abs q * nat_abs q)
squares_is (pos m) (pos n) = refl
squares_is (pos m) (negsuc n) = refl
squares_is (negsuc m) (pos n) = refl
squares_is (negsuc m) (negsuc n) = refl

-- the larger of two numbers not below 0
pub record Low (p q : ℤ) : Type 0 where
  pub is_nonneg : T (non_neg (int_max (absℤ p) (absℤ q)))
  pub is_low : nat_abs (int_max (absℤ p) (absℤ q)) * nat_abs (int_max (absℤ p) (absℤ q)) ≤ nat_abs (squares p q)

low' : (a b : ℕ) (t : Bool) → T (non_neg (cond t (pos a) (pos b))) × (nat_abs (cond t (pos a) (pos b)) * nat_abs (cond t (pos a) (pos b)) ≤ a * a + b * b)
low' a b true = (tt, omega arith)
low' a b false = (tt, omega arith)

pub low : (p q : ℤ) → Low p q
unfolding absℤ
low p q =
    let h = low' (nat_abs p) (nat_abs q) (ltb (nat_abs q) (nat_abs p)) in
    record { is_nonneg = h.0; is_low = rw (squares_is p q) h.1 }

-- ---- the arguments of the tests, with their bounds
pub record SpanMade (ax ay ex ey r : ℤ) : Type 0 where
  pub ax_made : Made ax ax 1073741824
  pub ay_made : Made ay ay 1073741824
  pub ex_made : Made ex ex 805306368
  pub ey_made : Made ey ey 805306368
  pub r_made : Made r r 16777216

pub span_made : {ax ay ex ey r : ℤ} → SpanSized ax ay ex ey r → SpanMade ax ay ex ey r
span_made {ax} {ay} {ex} {ey} {r} s = record {
  ax_made = held ax s.ax_size tt;
  ay_made = held ay s.ay_size tt;
  ex_made = held ex s.ex_size tt;
  ey_made = held ey s.ey_size tt;
  r_made = held r s.span_reach tt;
}

pub record NodeMade (wx wy p q a b r : ℤ) : Type 0 where
  pub wx_made : Made wx wx 1073741824
  pub wy_made : Made wy wy 1073741824
  pub p_made : Made p p 536870912
  pub q_made : Made q q 536870912
  pub a_made : Made a a 268435456
  pub b_made : Made b b 268435456
  pub r_made : Made r r 16777216

pub node_made : {wx wy p q a b r : ℤ} → NodeSized wx wy p q a b r → NodeMade wx wy p q a b r
node_made {wx} {wy} {p} {q} {a} {b} {r} s = record {
  wx_made = held wx s.wx_size tt;
  wy_made = held wy s.wy_size tt;
  p_made = held p s.p_size tt;
  q_made = held q s.q_size tt;
  a_made = held a s.a_size tt;
  b_made = held b s.b_size tt;
  r_made = held r s.node_reach.r_size tt;
}

-- ---- the five numbers of a node's upright boxes, read back: they are those of the definition
pub record Spanned (u v s t ax ay ex ey r : ℤ) : Type 0 where
  pub ax_back : bits u ≡ ax
  pub ay_back : bits v ≡ ay
  pub ex_back : bits s ≡ ex
  pub ey_back : bits t ≡ ey
  pub r_back : bits r ≡ r

module _ {wx wy p q a b r : ℤ} (n : NodeSized wx wy p q a b r) {u v s t : ℤ} (hu : u ≡ pos (nat_abs (bits wx))) (hv : v ≡ pos (nat_abs (bits wy))) (hs : s ≡ pos (nat_abs (bits p))) (ht : t ≡ pos (nat_abs (bits q))) where
  pub spanned : Spanned u v (bits s +ℤ bits a) (bits t +ℤ bits b) (absℤ wx) (absℤ wy) (absℤ p +ℤ a) (absℤ q +ℤ b) r
  spanned =
      let m = node_made n in
      record {
        ax_back = back (abs_of m.wx_made hu tt);
        ay_back = back (abs_of m.wy_made hv tt);
        ex_back = back (plus (abs_of m.p_made hs tt) m.a_made tt);
        ey_back = back (plus (abs_of m.q_made ht tt) m.b_made tt);
        r_back = back m.r_made;
      }
