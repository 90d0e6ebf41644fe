use Rattle.columns.proofs.Numbers.{p_made, q_made}
use Rattle.columns.proofs.Crossings.{zero_taken, no_room_p, no_room_q}
use Rattle.columns.proofs.Rooms.{a_part, b_part, two_parts, r_part, parts, room, room_for}
use Rattle.columns.proofs.room_of.Goals as goal
use Rattle.columns.proofs.room_of.Goals.{then-v-eq0-via-then-v-eq0, then-v-eq0-via-else-v-eq0+then-v-eq0-2}

pub returns-then-v-eq0 : goal.returns-then-v-eq0
returns-then-v-eq0 c =
    let f = c.args.frame in
    let v = c.args.v in
    elim c.then-v-eq0.branch [
      | then-v-eq0-via-then-v-eq0 w ↦ record { room = no_room_p f v (zero_taken (p_made v c.requires.sizes.0) w.if-v-eq0.true) }
      | then-v-eq0-via-else-v-eq0+then-v-eq0-2 w ↦ record { room = no_room_q f v (zero_taken (q_made v c.requires.sizes.0) w.if-v-eq0-2.true) }
    ]

pub overflow_mul-result : goal.overflow_mul-result
overflow_mul-result c = (a_part c.args.frame c.requires.sizes.1 c.args.v c.requires.sizes.0 c.abs-ap.ensures.value c.abs-aq.ensures.value).fits

pub overflow_mul-result-2 : goal.overflow_mul-result-2
overflow_mul-result-2 c = (b_part c.args.frame c.requires.sizes.1 c.args.v c.requires.sizes.0 c.abs-ap.ensures.value c.abs-aq.ensures.value).fits

pub overflow_add-result : goal.overflow_add-result
overflow_add-result c = (two_parts c.args.frame c.requires.sizes.1 c.args.v c.requires.sizes.0 c.abs-ap.ensures.value c.abs-aq.ensures.value).fits

pub overflow_mul-result-3 : goal.overflow_mul-result-3
overflow_mul-result-3 c = (r_part c.args.frame c.requires.sizes.1 c.args.v c.requires.sizes.0 c.abs-ap.ensures.value c.abs-aq.ensures.value _ c.length-length.ensures.size).fits

pub overflow_add-result-2 : goal.overflow_add-result-2
overflow_add-result-2 c = (parts c.args.frame c.requires.sizes.1 c.args.v c.requires.sizes.0 c.abs-ap.ensures.value c.abs-aq.ensures.value _ c.length-length.ensures.size).fits

pub overflow_sub-result : goal.overflow_sub-result
overflow_sub-result c = (room c.args.frame c.requires.sizes.1 c.args.v c.requires.sizes.0 c.abs-ap.ensures.value c.abs-aq.ensures.value _ c.length-length.ensures.size).fits

pub returns : goal.returns
returns c = record { room = room_for c.args.frame c.requires.sizes.1 c.args.v c.requires.sizes.0 c.abs-ap.ensures.value c.abs-aq.ensures.value _ c.length-length.ensures.size c.length-length.ensures.length }
