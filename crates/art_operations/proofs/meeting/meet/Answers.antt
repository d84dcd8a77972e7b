use Rattle.std.proofs.Common.{◌<◌, arith, length, sym, ◌∙◌}
use Rattle.art_operations.proofs.Meetings.{both_end, first_ends, second_ends, parts, agreeing-within}
use Rattle.art_operations.proofs.meeting.meet.Goals as goal

pub returns-then-matched-new : goal.returns-then-matched-new
returns-then-matched-new c = both_end c.args.old.now c.args.new.now (sym c.count_agreeing-matched.ensures.value ∙ c.if-matched-old.true) (sym c.count_agreeing-matched.ensures.value ∙ c.if-matched-new.true)

pub returns-then-matched-old : goal.returns-then-matched-old
returns-then-matched-old c = first_ends c.args.old.now c.args.new.now (sym c.count_agreeing-matched.ensures.value ∙ c.if-matched-old.true) (λ e. c.if-matched-new.false (c.count_agreeing-matched.ensures.value ∙ e))

pub returns-then-matched-new-2 : goal.returns-then-matched-new-2
returns-then-matched-new-2 c = second_ends c.args.old.now c.args.new.now (sym c.count_agreeing-matched.ensures.value ∙ c.if-matched-new-2.true) (λ e. c.if-matched-old.false (c.count_agreeing-matched.ensures.value ∙ e))

pub bounds-old-matched : goal.bounds-old-matched
bounds-old-matched c = omega (arith, (agreeing-within c.args.old.now c.args.new.now).0, c.count_agreeing-matched.ensures.value, c.if-matched-old.false)

pub bounds-new-matched : goal.bounds-new-matched
bounds-new-matched c = omega (arith, (agreeing-within c.args.old.now c.args.new.now).1, c.count_agreeing-matched.ensures.value, c.if-matched-new-2.false)

pub returns : goal.returns
returns c =
    let old = c.args.old.now in
    let new = c.args.new.now in
    let w = agreeing-within old new in
    let lx : c.count_agreeing-matched.result < length old = omega (arith, w.0, c.count_agreeing-matched.ensures.value, c.if-matched-old.false) in
    let ly : c.count_agreeing-matched.result < length new = omega (arith, w.1, c.count_agreeing-matched.ensures.value, c.if-matched-new-2.false) in
    let p = parts old new c.count_agreeing-matched.result (sym c.count_agreeing-matched.ensures.value) lx ly in
    record { front = p.front; old_rest = p.x_rest; new_rest = p.y_rest; len = p.len; old_is = p.x_is; new_is = p.y_is; differs = p.apart }
