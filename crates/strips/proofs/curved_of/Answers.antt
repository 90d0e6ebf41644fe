use Rattle.std.proofs.Common.{◌≡◌, ap₂, ◌∙◌, subst, le_trans, ℕ, ◌*◌, ◌≤◌, pos, nat_abs, ◌*ℤ◌}
use Rattle.integers.specs.Signed.{Made, bits, held, times, back}
use Rattle.model.specs.Strips.{Side, Strip, Numerators, numerators, pad_of, curved}
use Rattle.ranges.specs.PowerForm.{FormSized, n_most, cube_most, second_most, third_most, cube_above, second_in, third_in}
use Rattle.rounding.specs.declared.Quotient.{Quotient}
use Rattle.nodes.specs.declared.Extent.{Extent}
use Rattle.nodes.specs.Structs.{side}
use Rattle.strips.specs.declared.Power.{Power}
use Rattle.strips.specs.declared.Coefficients.{Coefficients}
use Rattle.strips.specs.Structs.{form, tops, left_all, padded, RoundedAll}
use Rattle.strips.proofs.Roundings.{padded_is}
use Rattle.strips.proofs.curved_of.Goals as goal

-- ---- N, m and N³, as they are and as the machine's steps give them
module _ (n m : ℕ) (h : n ≤ n_most) (k : m ≤ n) where
  whole : Made (pos n) (pos n) n_most
  whole = held (pos n) h tt

  centre : Made (pos m) (pos m) n_most
  centre = held (pos m) (le_trans k h) tt

  cube : Made (bits (bits (pos n) *ℤ bits (pos n)) *ℤ bits (pos n)) (pos (n * n * n)) cube_most
  cube = times (times whole whole tt) whole tt

  -- the quotients of the model's numerators
  quotients_are : (c : Power) (a : Numerators) (q : Coefficients Quotient) → a ≡ numerators (form c) (bits (pos n)) (bits (pos m)) → RoundedAll q a (nat_abs (bits (bits (bits (pos n) *ℤ bits (pos n)) *ℤ bits (pos n)))) → RoundedAll q (numerators (form c) (pos n) (pos m)) (n * n * n)
  quotients_are c a q e r = subst (λ (a : Numerators). RoundedAll q a (n * n * n)) (rw (back whole, back centre) at e) (rw (back cube) at r)

-- ---- one coordinate
module _ (c : Power) (n m : ℕ) (q : Coefficients Quotient) (h : RoundedAll q (numerators (form c) (pos n) (pos m)) (n * n * n)) where
  small : FormSized (form c) → 2 ≤ n → m ≤ n → (nat_abs q.second.nearest ≤ second_most) × (nat_abs q.third.nearest ≤ third_most)
  small s t k = (rw h.second.nearest_is (second_in (form c) n m s t k), rw h.third.nearest_is (third_in (form c) n m s t k))

  side_is : (p : ℕ) (r : Extent) → p ≡ pad_of (left_all q) → side r ≡ padded q p → side r ≡ curved (form c) n m
  unfolding curved
  side_is p r e f = f ∙ padded_is q (numerators (form c) (pos n) (pos m)) (n * n * n) p h e

pub overflow_mul-cube-2 : goal.overflow_mul-cube-2
overflow_mul-cube-2 c = let h = c.requires.sizes in (cube c.args.n c.args.m h.3 h.4).fits

pub quotients_of-x-requires : goal.quotients_of-x-requires
quotients_of-x-requires c =
    let h = c.requires.sizes in
    let k = cube c.args.n c.args.m h.3 h.4 in
    record { sizes = rw (back k) (c.numerators_of.ensures.sized, k.within, cube_above c.args.n h.2, tt) }

pub quotients_of-y-requires : goal.quotients_of-y-requires
quotients_of-y-requires c =
    let h = c.requires.sizes in
    let k = cube c.args.n c.args.m h.3 h.4 in
    record { sizes = rw (back k) (c.numerators_of-2.ensures.sized, k.within, cube_above c.args.n h.2, tt) }

pub extent_of-requires : goal.extent_of-requires
extent_of-requires c =
    let h = c.requires.sizes in
    let r = quotients_are c.args.n c.args.m h.3 h.4 c.args.p (tops c.numerators_of.result) c.quotients_of-x.result c.numerators_of.ensures.numerators c.quotients_of-x.ensures.quotients in
    let s = small c.args.p c.args.n c.args.m c.quotients_of-x.result r h.0 h.2 h.4 in
    record { sizes = (s.0, s.1, c.pad_of.ensures.small) }

pub extent_of-requires-2 : goal.extent_of-requires-2
extent_of-requires-2 c =
    let h = c.requires.sizes in
    let r = quotients_are c.args.n c.args.m h.3 h.4 c.args.q (tops c.numerators_of-2.result) c.quotients_of-y.result c.numerators_of-2.ensures.numerators c.quotients_of-y.ensures.quotients in
    let s = small c.args.q c.args.n c.args.m c.quotients_of-y.result r h.1 h.2 h.4 in
    record { sizes = (s.0, s.1, c.pad_of-2.ensures.small) }

pub returns : goal.returns
returns c =
    let h = c.requires.sizes in
    let x = quotients_are c.args.n c.args.m h.3 h.4 c.args.p (tops c.numerators_of.result) c.quotients_of-x.result c.numerators_of.ensures.numerators c.quotients_of-x.ensures.quotients in
    let y = quotients_are c.args.n c.args.m h.3 h.4 c.args.q (tops c.numerators_of-2.result) c.quotients_of-y.result c.numerators_of-2.ensures.numerators c.quotients_of-y.ensures.quotients in
    record {
      strip = ap₂ {C = Strip} (λ (x y : Side). record { x = x; y = y })
          (side_is c.args.p c.args.n c.args.m c.quotients_of-x.result x c.pad_of.result c.extent_of.result c.pad_of.ensures.pad c.extent_of.ensures.strip)
          (side_is c.args.q c.args.n c.args.m c.quotients_of-y.result y c.pad_of-2.result c.extent_of-2.result c.pad_of-2.ensures.pad c.extent_of-2.ensures.strip);
    }
