-- What the loop of `scanning::form_at` keeps: the form is read so far, its numbers are the first values, those past them are zeros, and the rest has the remaining marks.
use Rattle.std.proofs.Common.{◌≡◌, ◌+◌, ◌≤◌, length, drop, take, []}
use Rattle.model.specs.Forms.{read_form}
use Rattle.sheet_text.specs.Forms.{marks}
use Rattle.scanning.proofs.Forms.{Spare}
use Rattle.scanning.proofs.form_at.Given as goal

abbrev pub invariant-loop-f : goal.invariant-loop-f
invariant-loop-f l = record {
  whole : read_form l.form [] (drop l.at l.s) ≡ read_form (drop l.f-index l.form) (take l.count l.value) (drop l.next l.s);
  left : l.count + marks (drop l.f-index l.form) ≡ marks l.form;
  within : l.next ≤ length l.s;
  long : length l.value ≡ 8;
  spare : Spare l.count l.value;
}
