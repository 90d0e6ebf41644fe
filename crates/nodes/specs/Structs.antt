-- What the code's structs stand for in the model, and their numbers once they are read. Assumes nothing.
use Rattle.std.specs.Prelude.{◌≡◌}
use Rattle.std.proofs.Common.{ap}
use Rattle.integers.specs.Signed.{Made, called}
use Rattle.model.specs.Strips.{Side, Strip}
use Rattle.model.specs.Boxes.{Span, Box}
use Rattle.ranges.specs.Sizes.{SideSized}
use Rattle.nodes.specs.declared.Extent.{Extent}
use Rattle.nodes.specs.declared.Limits.{Limits}
use Rattle.nodes.specs.declared.Strip as declared
use Rattle.nodes.specs.declared.Upright.{Upright}

abbrev pub side : Extent → Side
side s = record { centre = s.centre; axis = s.axis; box = s.half }

abbrev pub strip_of : Extent → Extent → Strip
strip_of x y = record { x = side x; y = side y }

abbrev pub as_strip : declared.Strip → Strip
as_strip s = strip_of s.x s.y

abbrev pub span : Limits → Span
span v = record { least = v.least; greatest = v.greatest }

abbrev pub box_by : Limits → Limits → Box
box_by h v = record { x = span h; y = span v }

abbrev pub as_box : Upright → Box
as_box b = box_by b.x b.y

-- ---- e was read where s is stored, and s is sized
pub record Known (e : Extent) (s : Side) : Type 0 where
  pub centre : Made e.centre s.centre 536870912
  pub axis : Made e.axis s.axis 536870912
  pub half : Made e.half s.box 134217728

pub known : (e : Extent) (s : Side) → side e ≡ s → SideSized s → Known e s
known e s h k = record {
  centre = called (ap (λ (z : Side). z.centre) h) k.centre_size tt;
  axis = called (ap (λ (z : Side). z.axis) h) k.axis_size tt;
  half = called (ap (λ (z : Side). z.box) h) k.box_size tt;
}
