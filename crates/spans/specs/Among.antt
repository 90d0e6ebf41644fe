-- What a stretch holds, and the steps by which its ends are found. Assumes nothing.
use Rattle.std.specs.Prelude.{Bool, ◌&&◌, ℕ, ◌≤◌, ◌<◌, ◌^◌, leb, ltb}
use Rattle.spans.specs.declared.Span.{Span}
use Rattle.spans.specs.declared.Step.{Step}
use Rattle.spans.specs.declared.Step.TheVariants.{Length, PowerOfTwo}

-- i is one of the stretch
abbrev pub among : Span → ℕ → Bool
among c i = leb c.lo i && ltb i c.hi

abbrev pub length_of : Step → ℕ
length_of (Length d) = d
length_of (PowerOfTwo k) = 2 ^ k

-- above 0 and at most 2^60
abbrev pub StepSized : Step → Type 0
StepSized (Length d) = (0 < d) × (d ≤ 1152921504606846976)
StepSized (PowerOfTwo k) = k ≤ 60
