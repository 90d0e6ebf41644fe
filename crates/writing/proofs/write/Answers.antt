-- What `writing::write` leaves where it writes the sheet.
use Rattle.std.proofs.Common.{arith, rules}
use Rattle.writing.proofs.Sheets as sheets
use Rattle.writing.proofs.write.Goals as goal

pub returns-clause-left : goal.returns-clause-left
returns-clause-left c =
    sheets.done_left c.args.job c.args.out.now (search rules) (omega (arith, c.put_sheet-n.ensures.answer.next_is)) _ c.put_sheet-n.new.out c.put_bytes.new.out c.put_sheet-n.result c.put_bytes.result
    c.put_sheet-n.ensures.answer c.put_bytes.ensures.answer
