use Rattle.std.proofs.Common.{◌≡◌, sym, ap₂, ◌∙◌, subst, add-one, ◌*◌, ◌%◌, ◌^◌, ◌≤◌, ℕ, arith}
use Rattle.std.proofs.Math.Nat.{pow-suc, mod-eq_of_lt}
use Rattle.std.proofs.Math.Pow.{pow_pos, pow_mono}
use Rattle.model.specs.Strips.{Side, Strip, denominator, middle}
use Rattle.model.specs.Trees.{deepest}
use Rattle.ranges.specs.Sizes.{Sized}
use Rattle.ranges.specs.PowerForm.{n_most, curved_sized, straight_sized}
use Rattle.subtrees.specs.Subtrees.{PieceAt}
use Rattle.nodes.specs.Structs.{strip_of}
use Rattle.strips.specs.declared.Shape.{Shape}
use Rattle.strips.specs.declared.Shape.TheVariants.{Line, Cubic}
use Rattle.strips.specs.Structs.{form, linear, strips_of, ShapeSized}
use Rattle.strips.proofs.strip_of.Goals as goal

-- N as it is shifted, and as the model has it
record Doubled (d k : ℕ) : Type 0 where
  pub is : (2 * 2 ^ d) % 2 ^ 64 ≡ denominator d
  pub two : 2 ≤ denominator d
  pub most : denominator d ≤ n_most
  pub middle_in : middle k ≤ denominator d

doubled : (d k : ℕ) → PieceAt d k → Doubled d k
doubled d k p =
    let e : denominator d ≡ 2 * 2 ^ d = rw (add-one d, pow-suc 2 d) (omega arith) in
    let h : 2 ^ d ≤ 2 ^ deepest = pow_mono {i = d} {j = deepest} p.depth in
    record {
      is = mod-eq_of_lt (omega arith) ∙ sym e;
      two = omega (arith, e, pow_pos d);
      most = omega (arith, e, h);
      middle_in = omega (arith, e, p.place);
    }

-- a shape's strips are sized
all_sized : (shape : Shape) (d k : ℕ) → ShapeSized shape → PieceAt d k → Sized (strips_of shape d k)
unfolding strips_of
all_sized (Line x y) d k h p =
    let q = doubled d k p in
    record { x_sized = straight_sized (linear x) (denominator d) (middle k) h.0 q.two q.middle_in; y_sized = straight_sized (linear y) (denominator d) (middle k) h.1 q.two q.middle_in }
all_sized (Cubic x y) d k h p =
    let q = doubled d k p in
    record { x_sized = curved_sized (form x) (denominator d) (middle k) h.0 q.two q.middle_in; y_sized = curved_sized (form y) (denominator d) (middle k) h.1 q.two q.middle_in }

pub straight_of-requires : goal.straight_of-requires
straight_of-requires c =
    let s = rw c.in-Line.is at c.requires.sizes.0 in
    let p = doubled c.args.d c.args.k c.requires.sizes.1 in
    record { sizes = rw p.is (s.0, p.two, p.most, p.middle_in) }

pub straight_of-requires-in-Line : goal.straight_of-requires-in-Line
straight_of-requires-in-Line c =
    let s = rw c.in-Line.is at c.requires.sizes.0 in
    let p = doubled c.args.d c.args.k c.requires.sizes.1 in
    record { sizes = rw p.is (s.1, p.two, p.most, p.middle_in) }

pub curved_of-requires : goal.curved_of-requires
curved_of-requires c =
    let s = rw c.in-Cubic.is at c.requires.sizes.0 in
    let p = doubled c.args.d c.args.k c.requires.sizes.1 in
    record { sizes = rw p.is (s.0, s.1, p.two, p.most, p.middle_in) }

line_is : (c : goal.After-straight_of-in-Line) → strip_of c.straight_of.result c.straight_of-in-Line.result ≡ strips_of c.args.shape c.args.d c.args.k
unfolding strips_of
line_is c =
    let p = doubled c.args.d c.args.k c.requires.sizes.1 in
    rw c.in-Line.is (ap₂ {C = Strip} (λ (x y : Side). record { x = x; y = y }) (rw p.is at c.straight_of.ensures.strip) (rw p.is at c.straight_of-in-Line.ensures.strip))

pub returns-in-Line-clause-strip : goal.returns-in-Line-clause-strip
returns-in-Line-clause-strip c = line_is c

pub returns-in-Line-clause-sized : goal.returns-in-Line-clause-sized
returns-in-Line-clause-sized c = subst Sized (sym (line_is c)) (all_sized c.args.shape c.args.d c.args.k c.requires.sizes.0 c.requires.sizes.1)

cubic_is : (c : goal.After-curved_of) → strip_of c.curved_of.result.x c.curved_of.result.y ≡ strips_of c.args.shape c.args.d c.args.k
unfolding strips_of
cubic_is c = let p = doubled c.args.d c.args.k c.requires.sizes.1 in rw c.in-Cubic.is (rw p.is at c.curved_of.ensures.strip)

pub returns-in-Cubic-clause-strip : goal.returns-in-Cubic-clause-strip
returns-in-Cubic-clause-strip c = cubic_is c

pub returns-in-Cubic-clause-sized : goal.returns-in-Cubic-clause-sized
returns-in-Cubic-clause-sized c = subst Sized (sym (cubic_is c)) (all_sized c.args.shape c.args.d c.args.k c.requires.sizes.0 c.requires.sizes.1)
