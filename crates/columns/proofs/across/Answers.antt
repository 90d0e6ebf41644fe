use Rattle.std.proofs.Common.{◌∙◌, arith}
use Rattle.integers.specs.Signed.{arg, back}
use Rattle.spans.specs.Among.{among}
use Rattle.columns.proofs.Numbers.{p_made, q_made}
use Rattle.columns.proofs.Crossings.{zero_taken, zero_left, all_p, all_q, across_is}
use Rattle.columns.proofs.Rooms.{first, second, place, step, step_nonneg, step_above, near_is}
use Rattle.columns.proofs.across.Goals as goal
use Rattle.columns.proofs.across.Goals.{then-v-eq0-via-then-v-eq0, then-v-eq0-via-else-v-eq0+then-v-eq0-2}

pub returns-then-v-eq0-clause-found : goal.returns-then-v-eq0-clause-found
returns-then-v-eq0-clause-found c i =
    let a = c.args in
    elim c.then-v-eq0.branch [
      | then-v-eq0-via-then-v-eq0 w ↦ all_p a.frame a.v a.w i (among a.c i) (zero_taken (p_made a.v c.requires.sizes.0) w.if-v-eq0.true)
      | then-v-eq0-via-else-v-eq0+then-v-eq0-2 w ↦ all_q a.frame a.v a.w i (among a.c i) (zero_taken (q_made a.v c.requires.sizes.0) w.if-v-eq0-2.true)
    ]

pub overflow_mul-u : goal.overflow_mul-u
overflow_mul-u c = let s = c.requires.sizes in (first c.args.frame s.1 c.args.v s.0 (arg s.3 c.ranges.w) c.along.ensures.turned c.abs-aq.ensures.value).fits

pub overflow_mul-u-2 : goal.overflow_mul-u-2
overflow_mul-u-2 c = let s = c.requires.sizes in (second c.args.frame s.1 c.args.v s.0 (arg s.3 c.ranges.w) c.along.ensures.turned c.abs-aq.ensures.value).fits

pub overflow_add-u : goal.overflow_add-u
overflow_add-u c = let s = c.requires.sizes in (place c.args.frame s.1 c.args.v s.0 (arg s.3 c.ranges.w) c.along.ensures.turned c.abs-aq.ensures.value).fits

pub overflow_mul-d-2 : goal.overflow_mul-d-2
overflow_mul-d-2 c = let s = c.requires.sizes in (step c.args.frame s.1 c.args.v s.0 (arg s.3 c.ranges.w) c.along.ensures.turned c.abs-aq.ensures.value).fits

pub overflow_cast-d : goal.overflow_cast-d
overflow_cast-d c =
    let s = c.requires.sizes in
    let m = arg s.3 c.ranges.w in
    let d = step c.args.frame s.1 c.args.v s.0 m c.along.ensures.turned c.abs-aq.ensures.value in
    rw (back d) (step_nonneg c.args.frame s.1 c.args.v s.0 m c.along.ensures.turned c.abs-aq.ensures.value, omega (arith, d.within))

pub around-requires : goal.around-requires
around-requires c =
    let s = c.requires.sizes in
    let m = arg s.3 c.ranges.w in
    let u = place c.args.frame s.1 c.args.v s.0 m c.along.ensures.turned c.abs-aq.ensures.value in
    let d = step c.args.frame s.1 c.args.v s.0 m c.along.ensures.turned c.abs-aq.ensures.value in
    let above = step_above c.args.frame s.1 c.args.v s.0 m c.along.ensures.turned c.abs-aq.ensures.value (zero_left (q_made c.args.v s.0) c.if-v-eq0-2.false) in
    rw (back u, back d, back (arg s.2.size c.ranges.room)) (record { sizes = (omega (arith, u.within), s.2.size, (above, omega (arith, d.within))) })

pub returns-clause-found : goal.returns-clause-found
returns-clause-found c i =
    let a = c.args in
    let s = c.requires.sizes in
    let near = near_is a.frame s.1 a.v s.0 (arg s.3 c.ranges.w) c.along.ensures.turned c.abs-aq.ensures.value i a.room (rw (back (arg s.2.size c.ranges.room)) at (c.around.ensures.near i)) in
    c.meet.ensures.shared i ∙ across_is a.frame a.v a.w i (among a.c i) a.room s.2 (zero_left (p_made a.v s.0) c.if-v-eq0.false) (zero_left (q_made a.v s.0) c.if-v-eq0-2.false) near
