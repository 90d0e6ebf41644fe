use Rattle.std.proofs.Common.{◌≡◌, ◌∙◌, ◌-ℤ◌, arith}
use Rattle.integers.specs.Signed.{read32}
use Rattle.model.specs.Boxes.{greater}
use Rattle.model.specs.Distance.{near, far}
use Rattle.nodes.specs.Structs.{span}
use Rattle.boxes.proofs.Sizes.{greater_is, clamped_is, difference_fits, difference, least_sum, greatest_sum, near_small, far_small}
use Rattle.boxes.proofs.range_of.Goals as goal

pub overflow_sub-c-2 : goal.overflow_sub-c-2
overflow_sub-c-2 c =
    let h = least_sum c.args.c (span c.args.limits) c.requires.sizes.1 c.requires.sizes.0 in
    difference_fits c.args.c c.args.limits.least (omega arith)

pub overflow_sub-greatest : goal.overflow_sub-greatest
overflow_sub-greatest c =
    let h = greatest_sum c.args.c (span c.args.limits) c.requires.sizes.1 c.requires.sizes.0 in
    difference_fits c.args.limits.greatest c.args.c h

pub returns : goal.returns
returns c =
    let p = c.args.c in
    let b = c.args.limits in
    let h = least_sum p (span b) c.requires.sizes.1 c.requires.sizes.0 in
    let k = greatest_sum p (span b) c.requires.sizes.1 c.requires.sizes.0 in
    let off : c.max.result ≡ greater (b.least -ℤ p) (p -ℤ b.greatest) = rw (difference b.least p h, difference p b.greatest (omega arith)) at c.max.ensures.value ∙ greater_is (b.least -ℤ p) (p -ℤ b.greatest) in
    let near_is : c.max-2.result ≡ near p (span b) = rw (read32 c.max.result c.max.type_inv, off) at c.max-2.ensures.value ∙ clamped_is (greater (b.least -ℤ p) (p -ℤ b.greatest)) in
    let far_is : c.max-3.result ≡ far p (span b) = rw (difference p b.least (omega arith), difference b.greatest p k) at c.max-3.ensures.value ∙ greater_is (p -ℤ b.least) (b.greatest -ℤ p) in
    let n = read32 c.max-2.result c.max-2.type_inv ∙ near_is in
    let f = read32 c.max-3.result c.max-3.type_inv ∙ far_is in
    record {
      range = record {
        near_is = n;
        far_is = f;
        near_size = rw n (near_small p (span b) c.requires.sizes.1 c.requires.sizes.0);
        far_size = rw f (far_small p (span b) c.requires.sizes.1 c.requires.sizes.0);
      };
    }
