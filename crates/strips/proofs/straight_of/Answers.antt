use Rattle.std.proofs.Common.{◌≡◌, ap, ◌∙◌, ◌+◌, ◌*ℤ◌, ◌*◌, ◌+ℤ◌, ◌≤◌, ℕ, le_trans, pos, FitsSigned, to_z-of_z, arith, rules}
use Rattle.std.specs.Int.{w64}
use Rattle.integers.specs.Signed.{Made, bits, held, lit, widen, plus, times, back, called}
use Rattle.integers.specs.Whole.{rest, rest_most}
use Rattle.model.specs.Strips.{centre_top, axis_top, straight}
use Rattle.ranges.specs.PowerForm.{FormSized, c0_most, c1_most, n_most, cube_most}
use Rattle.nodes.specs.Places.{side_eq}
use Rattle.strips.specs.declared.Linear.{Linear}
use Rattle.strips.specs.Structs.{linear, top_most}
use Rattle.strips.proofs.Roundings.{asks, gives}
use Rattle.strips.proofs.straight_of.Goals as goal

-- ---- the two numerators, as the machine's steps give them
module _ (c : Linear) (n m : ℕ) (h : FormSized (linear c)) (k : n ≤ n_most) (l : m ≤ n) where
  whole : Made (pos n) (pos n) n_most
  whole = held (pos n) k tt

  sum : Made (bits (bits c.c0 *ℤ bits (pos n)) +ℤ bits (bits c.c1 *ℤ bits (pos m))) (c.c0 *ℤ pos n +ℤ c.c1 *ℤ pos m) (c0_most * n_most + c1_most * n_most)
  sum = plus (times (held c.c0 h.c0_size tt) whole tt) (times (held c.c1 h.c1_size tt) (held (pos m) (le_trans l k) tt) tt) tt

  top : Made (bits (pos 16) *ℤ bits (bits (bits c.c0 *ℤ bits (pos n)) +ℤ bits (bits c.c1 *ℤ bits (pos m)))) (centre_top c.c0 c.c1 (pos n) (pos m)) (16 * (c0_most * n_most + c1_most * n_most))
  top = times (lit 16 tt) sum tt

  slant : Made (bits (pos 16) *ℤ bits c.c1) (axis_top c.c1) (16 * c1_most)
  slant = times (lit 16 tt) (held c.c1 h.c1_size tt) tt

pub overflow_add-c : goal.overflow_add-c
overflow_add-c c = let h = c.requires.sizes in (sum c.args.c c.args.n c.args.m h.0 h.2 h.3).fits

pub overflow_mul-c-3 : goal.overflow_mul-c-3
overflow_mul-c-3 c = let h = c.requires.sizes in (top c.args.c c.args.n c.args.m h.0 h.2 h.3).fits

pub rounded-centre-requires : goal.rounded-centre-requires
rounded-centre-requires c =
    let h = c.requires.sizes in
    record { sizes = asks (widen top_most (top c.args.c c.args.n c.args.m h.0 h.2 h.3) tt) (widen cube_most (whole c.args.c c.args.n c.args.m h.0 h.2 h.3) tt) (omega (arith, h.1)) }

pub returns : goal.returns
unfolding straight
returns c =
    let h = c.requires.sizes in
    let n = widen cube_most (whole c.args.c c.args.n c.args.m h.0 h.2 h.3) tt in
    let a = gives (widen top_most (top c.args.c c.args.n c.args.m h.0 h.2 h.3) tt) n c.rounded-centre.ensures.nearest c.rounded-centre.ensures.whole in
    let b = gives (widen top_most (slant c.args.c c.args.n c.args.m h.0 h.2 h.3) tt) n c.rounded-axis.ensures.nearest c.rounded-axis.ensures.whole in
    let A = centre_top c.args.c.c0 c.args.c.c1 (pos c.args.n) (pos c.args.m) in
    let B = axis_top c.args.c.c1 in
    let e : c.slack.result + c.slack-2.result ≡ rest A c.args.n + rest B c.args.n = omega (arith, a.rest_is, b.rest_is, c.slack.ensures.slack, c.slack-2.ensures.slack) in
    let half : Made c.from.result (pos (rest A c.args.n + rest B c.args.n)) 2 = called (c.from.ensures ∙ ap pos e) (omega (arith, rest_most A c.args.n, rest_most B c.args.n)) tt in
    let centre : FitsSigned w64 c.rounded-centre.result.nearest = search rules in
    let axis : FitsSigned w64 c.rounded-axis.result.nearest = search rules in
    record { strip = side_eq (to_z-of_z centre ∙ a.nearest_is) (to_z-of_z axis ∙ b.nearest_is) (back half) }
