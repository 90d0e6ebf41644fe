-- The three tests are asked of the numbers that the definition takes, read back from their bits.
use mathlib.Core.Path.{◌≡◌, sym, ◌∙◌}
use mathlib.Core.Bool.{Bool, true, false, ◌||◌}
use lib.IntN.{ℤ}
use Rattle.integers.specs.Signed.{bits, back}
use Rattle.model.specs.Explore.{inside, away, maybe, by_tests}
use Rattle.strip_tests.specs.Limits.{NodeSized}
use Rattle.strip_tests.specs.PlainTests.{inside_by, apart_by, slanted_by}
use Rattle.strip_tests.proofs.Calls.{node_made, span_of_is, Spanned, spanned}
use Rattle.strip_tests.proofs.judge.Goals as goal
use Rattle.strip_tests.proofs.judge.Goals.{then-apart, else-apart}

module _ {u v s t ax ay ex ey r : ℤ} (k : Spanned u v s t ax ay ex ey r) {i n : Bool} where
  inside_is : i ≡ inside_by (bits u) (bits v) (bits s) (bits t) (bits r) → i ≡ n → inside_by ax ay ex ey r ≡ n
  inside_is e f = sym (rw (k.ax_back, k.ay_back, k.ex_back, k.ey_back, k.r_back) at e) ∙ f

  apart_is : i ≡ apart_by (bits u) (bits v) (bits s) (bits t) (bits r) → i ≡ n → apart_by ax ay ex ey r ≡ n
  apart_is e f = sym (rw (k.ax_back, k.ay_back, k.ex_back, k.ey_back, k.r_back) at e) ∙ f

slanted_is : {wx wy p q a b r : ℤ} {i n : Bool} → NodeSized wx wy p q a b r → i ≡ slanted_by wx wy p q a b (bits r) → i ≡ n → slanted_by wx wy p q a b r ≡ n
slanted_is s e f = sym (rw (back (node_made s).r_made) at e) ∙ f

by_inside : (i w : Bool) → i ≡ true → inside ≡ by_tests i w
by_inside i w e = rw e

by_apart : (i a s : Bool) → i ≡ false → a ≡ true → away ≡ by_tests i (a || s)
by_apart i a s e f = rw (e, f)

by_slanted : (i a s : Bool) → i ≡ false → a ≡ false → s ≡ true → away ≡ by_tests i (a || s)
by_slanted i a s e f g = rw (e, f, g)

by_none : (i a s : Bool) → i ≡ false → a ≡ false → s ≡ false → maybe ≡ by_tests i (a || s)
by_none i a s e f g = rw (e, f, g)

pub apart-requires : goal.apart-requires
apart-requires c =
    let k = spanned c.requires.sizes c.abs-ax.ensures.value c.abs-ay.ensures.value c.abs.ensures.value c.abs-2.ensures.value in
    record { sizes = rw (k.ax_back, k.ay_back, k.ex_back, k.ey_back, k.r_back) (span_of_is c.requires.sizes) }

pub returns-then-inside : goal.returns-then-inside
returns-then-inside c =
    let k = spanned c.requires.sizes c.abs-ax.ensures.value c.abs-ay.ensures.value c.abs.ensures.value c.abs-2.ensures.value in
    record { answer = by_inside _ _ (inside_is k c.inside.ensures.told c.if-inside.true) }

pub returns-then-slanted : goal.returns-then-slanted
returns-then-slanted c =
    let k = spanned c.requires.sizes c.abs-ax.ensures.value c.abs-ay.ensures.value c.abs.ensures.value c.abs-2.ensures.value in
    record {
      answer = elim c.if-apart.branch [
        | then-apart w ↦ by_apart _ _ _ (inside_is k c.inside.ensures.told c.if-inside.false) (apart_is k c.apart.ensures.told w.if-apart.true)
        | else-apart w ↦ by_slanted _ _ _ (inside_is k c.inside.ensures.told c.if-inside.false) (apart_is k c.apart.ensures.told w.if-apart.false) (slanted_is c.requires.sizes w.slanted.ensures.told (sym w.value-is ∙ c.if-slanted.true))
      ];
    }

pub returns-else-slanted : goal.returns-else-slanted
returns-else-slanted c =
    let k = spanned c.requires.sizes c.abs-ax.ensures.value c.abs-ay.ensures.value c.abs.ensures.value c.abs-2.ensures.value in
    record {
      answer = elim c.if-apart.branch [
        | then-apart w ↦ let e : true ≡ false = sym w.if-apart.true ∙ sym w.value-is ∙ c.if-slanted.false in cc
        | else-apart w ↦ by_none _ _ _ (inside_is k c.inside.ensures.told c.if-inside.false) (apart_is k c.apart.ensures.told w.if-apart.false) (slanted_is c.requires.sizes w.slanted.ensures.told (sym w.value-is ∙ c.if-slanted.false))
      ];
    }
