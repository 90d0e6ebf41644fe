-- What the loop of `scanning::natural_at` keeps: what is left to read from here on, with the digits read so far, is the number; it has at most one digit more than turns were taken.
use Rattle.std.proofs.Common.{◌≡◌, ◌-◌, ◌^◌, ◌≤◌, ◌<◌, length, drop, suc}
use Rattle.model.specs.Numbers.{natural, more_digits}
use Rattle.scanning.specs.Scanned.{following}
use Rattle.scanning.proofs.natural_at.Given as goal

abbrev pub invariant-loop : goal.invariant-loop
invariant-loop l = record {
  whole : natural (drop l.at l.s) ≡ more_digits (following - l.counter) l.value (drop l.next l.s);
  within : l.next ≤ length l.s;
  small : l.value < 10 ^ suc l.counter;
}
