use Rattle.std.proofs.Common.{◌==◌, length, not, sym, ap, ◌∙◌}
use Rattle.art_c.specs.Handles.{Pairs}
use Rattle.art_c.specs.Spans.{met_of, reach_of}
use Rattle.art_c.proofs.Walks.{met-all, met-next, not-zero}
use Rattle.art_c.proofs.calls.walks.goes_further.Goals as goal

pub returns-then-span-le2 : goal.returns-then-span-le2
returns-then-span-le2 g c = ap not (c.is_empty.ensures ∙ ap (λ n. n == 0) (sym (met-all (reach_of c.args.span) c.if-span-le2.true c.args.pairs.now)))

pub returns-in-Some : goal.returns-in-Some
returns-in-Some g c =
    let r = reach_of c.args.span in
    let met = met-next r (c.in-Some._pair.0.now, c.in-Some._pair.1.now) c.args.pairs.now c.next_pair.new.pairs c.in-Some.ensures.0 c.in-Some.ensures.1 in
    sym (ap (λ (ps : Pairs g.row.V.Denot). not (length ps == 0)) met ∙ ap not (not-zero (length (met_of r c.next_pair.new.pairs))))

pub returns-in-None : goal.returns-in-None
returns-in-None g c = sym (ap (λ (ps : Pairs g.row.V.Denot). not (length ps == 0)) c.in-None.ensures)
