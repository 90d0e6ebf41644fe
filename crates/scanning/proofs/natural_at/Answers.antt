-- Seven digits fit: what each turn of the loop of `scanning::natural_at` adds.
use Rattle.std.proofs.Common.{arith}
use Rattle.sheet_text.specs.Numbers.{seven_digits}
use Rattle.scanning.proofs.Numbers.{digit_small}
use Rattle.scanning.proofs.natural_at.Goals as goal

pub overflow_mul-value : goal.overflow_mul-value
overflow_mul-value c = let small = seven_digits c.loop.counter c.loop.value (omega arith) c.loop.invariant.small in omega arith

pub overflow_add-value : goal.overflow_add-value
overflow_add-value c = let small = seven_digits c.loop.counter c.loop.value (omega arith) c.loop.invariant.small in grind (arith, digit_small)
