-- What `==` of two structs tells of what they stand for. Assumes nothing.
use Rattle.std.proofs.Common.{◌≡◌, ap, ◌∙◌, sym, Bool, true, false, not, ◌&&◌}
use Rattle.std.specs.Bool.{Decides}
use Rattle.std.specs.Ordering.{int_eq}
use Rattle.std.proofs.lemmas.Bool.Decides.{Decides-int_eq, Decides-and, Decides-like, Decides-at, Decides-not}
use Rattle.model.specs.Strips as model
use Rattle.model.specs.Boxes.{Span, Box}
use Rattle.nodes.specs.declared.Extent.{Extent}
use Rattle.nodes.specs.declared.Limits.{Limits}
use Rattle.nodes.specs.declared.Strip.{Strip}
use Rattle.nodes.specs.declared.Upright.{Upright}
use Rattle.nodes.specs.Places.{side_eq, strip_eq, span_eq, box_eq}
use Rattle.nodes.specs.Structs.{side, span, as_strip, as_box}

abbrev same_side : Extent → Extent → Bool
same_side a b = int_eq a.centre b.centre && (int_eq a.axis b.axis && int_eq a.half b.half)

abbrev pub same_strip : Strip → Strip → Bool
same_strip a b = same_side a.x b.x && same_side a.y b.y

abbrev same_span : Limits → Limits → Bool
same_span a b = int_eq a.least b.least && int_eq a.greatest b.greatest

abbrev pub same_box : Upright → Upright → Bool
same_box a b = same_span a.x b.x && same_span a.y b.y

sides : (a b : Extent) → Decides (same_side a b) (side a ≡ side b)
sides a b =
    Decides-like (same_side a b)
    (λ h. side_eq h.0 h.1.0 h.1.1)
    (λ e. (ap (λ (s : model.Side). s.centre) e, (ap (λ (s : model.Side). s.axis) e, ap (λ (s : model.Side). s.box) e)))
    (Decides-and (int_eq a.centre b.centre) (int_eq a.axis b.axis && int_eq a.half b.half) (Decides-int_eq a.centre b.centre) (Decides-and (int_eq a.axis b.axis) (int_eq a.half b.half) (Decides-int_eq a.axis b.axis) (Decides-int_eq a.half b.half)))

strips : (a b : Strip) → Decides (same_strip a b) (as_strip a ≡ as_strip b)
strips a b =
    Decides-like (same_strip a b)
    (λ h. strip_eq h.0 h.1)
    (λ e. (ap (λ (s : model.Strip). s.x) e, ap (λ (s : model.Strip). s.y) e))
    (Decides-and (same_side a.x b.x) (same_side a.y b.y) (sides a.x b.x) (sides a.y b.y))

pub strips_agree : (a b : Strip) (r : Bool) → r ≡ not (same_strip a b) → r ≡ false → as_strip a ≡ as_strip b
strips_agree a b r e f = (strips a b).0 (go (same_strip a b) (sym e ∙ f))
  where
    go : (t : Bool) → not t ≡ false → t ≡ true
    go true h = cc
    go false h = cc

pub strips_differ : (a b : Strip) (r : Bool) → r ≡ not (same_strip a b) → r ≡ true → as_strip a ≡ as_strip b → ⊥
strips_differ a b r e f = (Decides-at r (not (same_strip a b)) e (Decides-not (same_strip a b) (strips a b))).0 f

spans : (a b : Limits) → Decides (same_span a b) (span a ≡ span b)
spans a b =
    Decides-like (same_span a b)
    (λ h. span_eq h.0 h.1)
    (λ e. (ap (λ (s : Span). s.least) e, ap (λ (s : Span). s.greatest) e))
    (Decides-and (int_eq a.least b.least) (int_eq a.greatest b.greatest) (Decides-int_eq a.least b.least) (Decides-int_eq a.greatest b.greatest))

pub boxes : (a b : Upright) (r : Bool) → r ≡ same_box a b → Decides r (as_box a ≡ as_box b)
boxes a b r e =
    Decides-at r (same_box a b) e
    (Decides-like (same_box a b)
    (λ h. box_eq h.0 h.1)
    (λ f. (ap (λ (s : Box). s.x) f, ap (λ (s : Box). s.y) f))
    (Decides-and (same_span a.x b.x) (same_span a.y b.y) (spans a.x b.x) (spans a.y b.y)))
