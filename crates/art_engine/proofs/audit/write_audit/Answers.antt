use Rattle.std.proofs.Common.{◌++◌, ap, sym, ◌∙◌, append-nil}
use Rattle.std.specs.Prelude.{codes}
use Rattle.art_lines.proofs.Common.{line_of, writes_same}
use Rattle.art_engine.proofs.Terms.{count_words}
use Rattle.art_lines.proofs.Gathering.{puts_then}
use Rattle.art_engine.proofs.audit.write_audit.Goals as goal

pub returns : goal.returns
returns g c =
    let both = puts_then _ _ _ _ _ _ _ _ c.put_counts-second.ensures.output c.put_counts-end.ensures.output in
    let text = both.output ∙ ap (λ t. line_of (count_words (codes "bytes") c.args.keys.now) ++ t) (sym (append-nil (line_of (count_words (codes "numbers") c.args.numbers.now)))) in
    writes_same _ _ _ _ _ _ text c.write_piece.ensures
