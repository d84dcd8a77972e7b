use Rattle.art_engine.proofs.Auditing.{count_parts}
use Rattle.art_lines.proofs.Gathering.{puts_then, puts_same}
use Rattle.art_engine.proofs.audit.put_counts.Goals as goal

pub returns-clause-output : goal.returns-clause-output
returns-clause-output c =
    puts_same _ _ _ _ _ _ (count_parts c.args.tree.now c.args.counts.now)
    (puts_then _ _ _ _ _ _ _ _ c.put_text-leaves.ensures (puts_then _ _ _ _ _ _ _ _ c.put_count-fours.ensures.output
    (puts_then _ _ _ _ _ _ _ _ c.put_count-sixteens.ensures.output (puts_then _ _ _ _ _ _ _ _ c.put_count-thirty_twos.ensures.output
    (puts_then _ _ _ _ _ _ _ _ c.put_count-forty_eights.ensures.output (puts_then _ _ _ _ _ _ _ _ c.put_count-most.ensures.output
    (puts_then _ _ _ _ _ _ _ _ c.put_count-newline.ensures.output c.put_text.ensures)))))))
