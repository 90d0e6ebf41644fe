-- What the loop of `formatting::put_form` keeps: the form is written so far, and there is room for the rest.
use Rattle.formatting.proofs.Forms.{Going}
use Rattle.formatting.proofs.put_form.Given as goal

abbrev pub invariant-loop-f : goal.invariant-loop-f
invariant-loop-f l = Going l.form l.values l.initial.out l.at l.out l.next l.k l.f-index
