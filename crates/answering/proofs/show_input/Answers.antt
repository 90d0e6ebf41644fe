use Rattle.std.proofs.Common.{ap, ◌∙◌, ◌≤◌, length, take, arith}
use Rattle.model.specs.Printing.{printed}
use Rattle.streams.specs.Inputs.{answers_input}
use Rattle.answering.proofs.show_input.Goals as goal

pub hand_on-requires-clause-answer : goal.hand_on-requires-clause-answer
hand_on-requires-clause-answer g c =
    let i = c.read_input-input in
    let p = c.put_front-end in
    let room : 8193 ≤ length i.new.held = omega (arith, c.requires.space, i.auto.held) in
    λ input e. p.ensures.wrote.wrote ∙ ap (λ n. printed (take n i.new.held)) c.bytes_of.ensures.count ∙ answers_input i.new.held i.result.count room input e
