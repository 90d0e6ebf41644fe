-- Where a strip can be inside the reach of a cell, and the numbers by which that is told. Assumes nothing.
use Rattle.std.specs.Prelude.{◌≡◌, Bool, true, false, ◌&&◌, List, ℕ, T, ℤ, pos, ◌+ℤ◌, ◌-ℤ◌, ◌*ℤ◌}
use Rattle.std.proofs.Common.{refl, sym, ap, ◌∙◌, subst}
use Rattle.std.specs.Int.Signed.{le_z, lt_z, clash_ℤ}
use Rattle.integers.specs.Order.{◌≼◌, ◌⊞◌}
use Rattle.integers.specs.Signed.{Made, bits, held, times, plus, minus, nonneg}
use Rattle.integers.specs.Absolute.{absℤ, abs_nonneg}
use Rattle.integers.specs.Tests.{lt_false}
use Rattle.model.specs.Explore.{squares}
use Rattle.spans.specs.declared.Span.{Span}
use Rattle.spans.specs.Among.{among}
use Rattle.levels.specs.Open.{span_in, open_in}
use Rattle.row_laws.specs.Columns.{off}
use Rattle.row_laws.specs.Clips.{box_inside}
use Rattle.columns.specs.declared.Frame.{Frame}
use Rattle.columns.specs.declared.View.{View}
use Rattle.columns.specs.Views.{inside_in}
use Rattle.columns.specs.Limits.{FrameSized, ViewSized}
use Rattle.columns.specs.Reaches.{ex_size, ey_size, deep_x, deep_y}
use Rattle.rows.proofs.Tests.{free, clip, regroup}

-- ---- numbers of a view and a frame
module _ (v : View) (f : Frame) (k : ViewSized v) (h : FrameSized f) where
  pub x_made : Made v.x v.x 578813952
  x_made = held v.x k.x_size tt

  pub y_made : Made v.y v.y 578813952
  y_made = held v.y k.y_size tt

  pub ex_made : Made v.ex v.ex 805306368
  ex_made = held v.ex (ex_size v k) tt

  pub ey_made : Made v.ey v.ey 805306368
  ey_made = held v.ey (ey_size v k) tt

  reach_made : Made f.reach f.reach 16777216
  reach_made = held f.reach h.reach_sized.r_size tt

  -- how far the cells that it is inside of can be along an axis
  pub deep_x_made : Made (bits f.reach -ℤ bits v.ex) (f.reach -ℤ v.ex) 822083584
  deep_x_made = minus reach_made ex_made tt

  pub deep_y_made : Made (bits f.reach -ℤ bits v.ey) (f.reach -ℤ v.ey) 822083584
  deep_y_made = minus reach_made ey_made tt

  -- and those that it is not away from
  pub kept_x_made : Made (bits v.ex +ℤ bits f.reach) (v.ex +ℤ f.reach) 822083584
  kept_x_made = plus ex_made reach_made tt

  pub kept_y_made : Made (bits v.ey +ℤ bits f.reach) (v.ey +ℤ f.reach) 822083584
  kept_y_made = plus ey_made reach_made tt

  pub square_made : Made (bits f.reach *ℤ bits f.reach) (f.reach *ℤ f.reach) 281474976710656
  square_made = times reach_made reach_made tt

  pub box_made : Made (bits (bits v.ex *ℤ bits v.ex) +ℤ bits (bits v.ey *ℤ bits v.ey)) (squares v.ex v.ey) 1297036692682702848
  box_made = plus (times ex_made ex_made tt) (times ey_made ey_made tt) tt

  -- ---- a strip whose upright box is not smaller than the reach is inside nowhere
  ex_nonneg : pos 0 ≼ v.ex
  ex_nonneg = subst (λ z. pos 0 ≼ z) (sym k.ex_is) (abs_nonneg v.p ⊞ nonneg v.a k.a_nonneg)

  ey_nonneg : pos 0 ≼ v.ey
  ey_nonneg = subst (λ z. pos 0 ≼ z) (sym k.ey_is) (abs_nonneg v.q ⊞ nonneg v.b k.b_nonneg)

  pub nowhere : lt_z (squares v.ex v.ey) (f.reach *ℤ f.reach) ≡ false → (i j : ℕ) → inside_in f v i j ≡ false
  nowhere e i j = go (inside_in f v i j) refl
    where
      x : ℤ
      x = off f.q v.x (pos i)

      y : ℤ
      y = off f.q v.y (pos j)

      large : f.reach *ℤ f.reach ≼ squares v.ex v.ey
      large = lt_false e

      go : (t : Bool) → inside_in f v i j ≡ t → t ≡ false
      go false g = refl
      go true g = clash_ℤ (box_inside (absℤ x) (absℤ y) v.ex v.ey f.reach (abs_nonneg x) (abs_nonneg y) ex_nonneg ey_nonneg g) large

  -- ---- what is clipped by how far such cells can be is free
  module _ (near : Span) where
    -- columns of a row
    pub found_is : (l : List Span) (d i j : ℕ) (s c r : Span) → ((i : ℕ) → among near i ≡ le_z (absℤ (off f.q v.x (pos i))) (f.reach -ℤ v.ex)) → s ≡ span_in l d j → among c i ≡ (among s i && among near i) → among r i ≡ (among c i && inside_in f v i j) → among r i ≡ (open_in l d i j && inside_in f v i j)
    found_is l d i j s c r n_is s-is c-is e =
        e
        ∙ ap (λ b. b && inside_in f v i j) (c-is ∙ ap (λ (u : Span). among u i && among near i) s-is)
        ∙ free (open_in l d i j) (among near i) (inside_in f v i j) (λ t. subst T (sym (n_is i)) (deep_x f v h k i j t))

    -- rows
    pub rows_are : (rows left : Span) (o : Bool) (i j : ℕ) → ((j : ℕ) → among near j ≡ le_z (absℤ (off f.q v.y (pos j))) (f.reach -ℤ v.ey)) → among left j ≡ (among rows j && among near j) → (among left j && (o && inside_in f v i j)) ≡ (among rows j && o && inside_in f v i j)
    rows_are rows left o i j n_is e =
        regroup (among left j) o (inside_in f v i j)
        ∙ ap (λ b. b && o && inside_in f v i j) e
        ∙ clip (among rows j) (among near j) o (inside_in f v i j) (λ t. subst T (sym (n_is j)) (deep_y f v h k i j t))
