-- A turn of the loop of `formatting::put_form`, by whether the form has a # or another byte there, and its end.
use Rattle.std.proofs.Common.{rules}
use Rattle.formatting.proofs.Forms as forms
use Rattle.formatting.proofs.put_form.Goals as goal
use Rattle.formatting.proofs.put_form.Goals.{then-f-eq35, else-f-eq35}

pub bounds-values-k : goal.bounds-values-k
bounds-values-k c = search (rules, forms.has_value)

pub put_number-next-requires-clause-small : goal.put_number-next-requires-clause-small
put_number-next-requires-clause-small c = search (rules, forms.number_small)

pub put_number-next-requires-clause-space : goal.put_number-next-requires-clause-space
put_number-next-requires-clause-space c = search (rules, forms.number_room)

pub put_byte-next-requires : goal.put_byte-next-requires
put_byte-next-requires c = search (rules, forms.byte_room)

pub loop-f-preserved : goal.loop-f-preserved
loop-f-preserved c =
    elim c.if-f-eq35.branch [
      | then-f-eq35 w ↦ rw (w.out-is, w.next-is, w.k-is) (search (rules, forms.number_on))
      | else-f-eq35 w ↦ rw (w.out-is, w.next-is, w.k-is) (search (rules, forms.byte_on))
    ]

pub returns-clause-answer : goal.returns-clause-answer
returns-clause-answer c = search (rules, forms.ends)

pub returns-clause-bound : goal.returns-clause-bound
returns-clause-bound c = search (rules, forms.ends_by)
