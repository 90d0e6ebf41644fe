-- An edge by whether it is a line, as the code has it. Assumes nothing.
use Rattle.std.specs.Prelude.{◌≡◌, refl, Bool, true, false, not, cond, List, ℤ, pos, get_or}
use Rattle.std.proofs.Common.{ap, ◌∙◌}
use Rattle.std.proofs.Math.Path.{ap₂}
use Prim.Native.Nat.{ℕ, ◌+◌, ◌*◌}
use Rattle.model.specs.Jobs.{Component, cubic, line, is_zero, component_at, edge_at}
use Rattle.model.specs.Strips.{Side, Strip, denominator, middle, side_at, strip}

abbrev pub component_by : Bool → List ℤ → ℕ → Component
component_by t l b = cond t (line (get_or l b (pos 0)) (get_or l (b + 2) (pos 0))) (cubic (get_or l b (pos 0)) (get_or l (b + 2) (pos 0)) (get_or l (b + 4) (pos 0)) (get_or l (b + 6) (pos 0)))

-- that is what its mark says
pub by_mark : (m : ℤ) (t : Bool) (l : List ℤ) (b : ℕ) → t ≡ not (is_zero m) → component_by t l b ≡ component_at m l b
by_mark m t l b e = ap (λ (t : Bool). component_by t l b) e ∙ go (is_zero m)
  where
    go : (z : Bool) → component_by (not z) l b ≡ cond z (cubic (get_or l b (pos 0)) (get_or l (b + 2) (pos 0)) (get_or l (b + 4) (pos 0)) (get_or l (b + 6) (pos 0))) (line (get_or l b (pos 0)) (get_or l (b + 2) (pos 0)))
    go true = refl
    go false = refl

-- ---- an edge's strips from its two coordinates' sides, f and g, made of the numbers from b and from c on, of the kind that mark k says
module _ (ms l : List ℤ) (e : ℕ) (t : Bool) where
  mark_is : {k : ℕ} → t ≡ not (is_zero (get_or ms k (pos 0))) → k ≡ e → t ≡ not (is_zero (get_or ms e (pos 0)))
  mark_is {k} h p = h ∙ ap (λ (n : ℕ). not (is_zero (get_or ms n (pos 0)))) p

  side_is : (i : ℕ) (f : ℕ → ℕ → Side) {b : ℕ} → t ≡ not (is_zero (get_or ms e (pos 0))) → f ≡ side_at (component_by t l b) → b ≡ 8 * e + i → f ≡ side_at (component_at (get_or ms e (pos 0)) l (8 * e + i))
  side_is i f h p q = p ∙ ap (λ (n : ℕ). side_at (component_by t l n)) q ∙ ap side_at (by_mark (get_or ms e (pos 0)) t l (8 * e + i) h)

  pub edge_is : {k b c : ℕ} (f g : ℕ → ℕ → Side) → t ≡ not (is_zero (get_or ms k (pos 0))) → k ≡ e → f ≡ side_at (component_by t l b) → b ≡ 8 * e + 0 → g ≡ side_at (component_by t l c) → c ≡ 8 * e + 1
      → ◌≡◌ {A = ℕ → ℕ → Strip} (λ d k. record { x = f (denominator d) (middle k); y = g (denominator d) (middle k) }) (strip (edge_at ms l e))
  unfolding strip
  edge_is f g h p x u y w =
      let m = mark_is h p in
      ap₂ {C = ℕ → ℕ → Strip} (λ (f g : ℕ → ℕ → Side). λ (d k : ℕ). record { x = f (denominator d) (middle k); y = g (denominator d) (middle k) }) (side_is 0 f m x u) (side_is 1 g m y w)
