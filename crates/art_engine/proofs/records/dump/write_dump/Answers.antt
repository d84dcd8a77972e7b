use Rattle.std.proofs.Common.{◌+◌, ap₂, sym}
use Rattle.art_lines.proofs.Common.{line_of, end_words, cut_before, cut_same, taken_from, taken_more, taken_through, taken_cut, writes_cut, writes_rest}
use Rattle.art_engine.proofs.Dumping.{dump_all, dump_begun}
use Rattle.art_engine.proofs.records.dump.write_dump.Goals as goal

pub returns-in_err-keys : goal.returns-in_err-keys
returns-in_err-keys g c =
    writes_cut _ _ _ _ _ c.from_residual.ensures.0 c.in_err-keys.ensures.failed
    (cut_same _ _ _ _ (dump_all c.args.records.now.pairs c.args.numbers.now.pairs) (cut_before _ _ _ _ c.in_err-keys.ensures.cut))

pub returns-in_err-held : goal.returns-in_err-held
returns-in_err-held g c =
    let begun = dump_begun c.args.records.now.pairs c.args.numbers.now.pairs _ _ _ c.in_ok-keys.ensures.taken in
    writes_cut _ _ _ _ _ c.from_residual-in_err-held.ensures.0 c.in_err-held.ensures.failed (taken_cut _ _ _ _ _ _ begun c.in_err-held.ensures.cut)

pub returns-in_err-write_piece : goal.returns-in_err-write_piece
returns-in_err-write_piece g c =
    let begun = dump_begun c.args.records.now.pairs c.args.numbers.now.pairs _ _ _ c.in_ok-keys.ensures.taken in
    let held = taken_through _ _ _ _ _ _ _ begun c.in_ok-held.ensures.taken in
    writes_cut _ _ _ _ _ c.from_residual-in_err-write_piece.ensures.0 c.in_err-write_piece.ensures.failed (taken_cut _ _ _ _ _ _ held c.in_err-write_piece.ensures.cut)

pub returns : goal.returns
returns g c =
    let begun = dump_begun c.args.records.now.pairs c.args.numbers.now.pairs _ _ _ c.in_ok-keys.ensures.taken in
    let held = taken_through _ _ _ _ _ _ _ begun c.in_ok-held.ensures.taken in
    let last = ap₂ (λ a b. line_of (end_words (a + b))) (sym c.len.ensures) (sym c.len-2.ensures) in
    writes_rest _ _ _ _ _ _ _ (taken_from _ _ _ _ _ last (taken_more _ _ _ _ _ _ held c.in_ok-write_piece.ensures.ok)) c.write_total.ensures
