-- The invariant is what was copied out so far, as `CopiedOut` has it.
use Rattle.std.proofs.Common.{ℕ, ◌+◌, ◌≤◌, ◌-◌, List, ◌∷◌, length, Some, sym, ap, subst, ◌∙◌, arith}
use Rattle.std.proofs.Math.ListN.{set}
use Rattle.art_map.proofs.Common.{first_item}
use Rattle.art_c.specs.Spans.{met_of, reach_of}
use Rattle.art_c.specs.Walks.{many_rooms, NoneElseFits}
use Rattle.art_c.proofs.Walks.{all-copied, fewer, met-next, no-bytes, no-place, one-more-of}
use Rattle.art_c.proofs.calls.walks.copy_out.Goals as goal
use Rattle.art_c.proofs.calls.walks.copy_out.Goals.{then-count-items-via-then-count-items, then-count-items-via-else-count-items+then-not-fits}

pub returns-then-count-items : goal.returns-then-count-items
returns-then-count-items g c =
    let text = g.V.Value.text_of in let item = g.V.Value.item_of in let r = reach_of c.args.span in
    let all = met_of r c.args.pairs.now in let x = many_rooms c.args.room.now c.args.items.now 0 in
    let p : List ℕ × g.row.V.Denot = (c.in-Some.key.now, c.in-Some.value.now) in
    let met = met-next r p c.loop-key.pairs c.next_pair.new.pairs c.in-Some.ensures.0 c.in-Some.ensures.1 in
    all-copied text item all x c.loop-key.invariant (Some p) (sym (ap first_item met))
    (subst (λ l. NoneElseFits text item c.loop-key.invariant.given l x) (sym met)
    (elim c.then-count-items.branch [
      | then-count-items-via-then-count-items w ↦ no-place text item all x c.loop-key.invariant p w.if-count-items.true
      | then-count-items-via-else-count-items+then-not-fits w ↦
          (let no : length c.as_bytes-key_bytes.result.now + length c.text-text.result.now ≤ length c.loop-key.room - c.loop-key.at → ⊥ = λ le. absurd (cc (w.fits.ensures.1 le, w.if-not-fits.true)) in
          no-bytes text item all x c.loop-key.invariant p (omega (arith, no, ap length c.as_bytes-key_bytes.ensures.value, ap length c.text-text.ensures)))
    ]))

pub loop-key-smaller : goal.loop-key-smaller
loop-key-smaller g c = fewer c.args.span.end (c.in-Some.key.now, c.in-Some.value.now) c.loop-key.pairs c.next_pair.new.pairs c.in-Some.ensures.0

pub loop-key-preserved : goal.loop-key-preserved
loop-key-preserved g c =
    let text = g.V.Value.text_of in let item = g.V.Value.item_of in let r = reach_of c.args.span in
    let all = met_of r c.args.pairs.now in let x = many_rooms c.args.room.now c.args.items.now 0 in
    let v = c.in-Some.value.now in let q : List ℕ × g.row.V.Denot = (c.in-Some.key.now, v) in let rest = met_of r c.next_pair.new.pairs in
    let p : List ℕ × g.row.V.Denot = (c.as_bytes-key_bytes.result.now, v) in
    let met = met-next r q c.loop-key.pairs c.next_pair.new.pairs c.in-Some.ensures.0 c.in-Some.ensures.1
    ∙ ap (λ k. (k, v) ∷ rest) (sym c.as_bytes-key_bytes.ensures.value) in
    one-more-of text item all x c.loop-key.invariant p c.text-text.result.now c.text-text.ensures rest c.write_pair.new.room
    (set c.loop-key.items c.loop-key.count c.item.result) met
    (omega (arith, c.loop-key.invariant.at_is, c.loop-key.invariant.fit.0))
    (c.fits.ensures.0 c.if-not-fits.false)
    (omega (arith, c.loop-key.invariant.count_is, c.loop-key.invariant.fit.1))
    c.write_pair.ensures
    (ap (λ i. set c.loop-key.items c.loop-key.count i) c.item.ensures)
