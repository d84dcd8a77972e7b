use Rattle.std.proofs.Common.{◌≡◌, None, Some, ap, sym, ◌∙◌, min, ◌-◌, length, ℕ}
use Rattle.art_engine.proofs.LandedLines.{find_short}
use Rattle.art_engine.proofs.records.Records.reply_landed.Goals as goal
use Rattle.art_engine.proofs.records.Records.reply_landed.Goals.{in-Some, in-None, in-Missed, in-Found}

pub write_prefix_pair-requires-clause-line : goal.write_prefix_pair-requires-clause-line
write_prefix_pair-requires-clause-line g c =
    elim c.match-len.branch [
      | in-Some w ↦ rw (w.pair-is) (elim c.match-line.branch [
        | in-Missed v ↦ absurd (let no : None ≡ Some w.in-Some.len = sym v.len-is ∙ w.in-Some.is in cc)
        | in-Found v ↦
            let len : Some w.in-Some.len ≡ Some v.in-Found.len = sym w.in-Some.is ∙ v.len-is in
            let same : w.in-Some.len ≡ v.in-Found.len = (cc) in
            find_short g.row.PREFIX_LEN c.args.self.now c.args.word c.args.line.now.fields.now c.args.line.now.landing v.in-Found.len c.args.line.now.value.now c.args.line.now.ahead w.min.result c.key-key.result.now
            c.in-Find.is v.in-Found.is c.requires.landed c.key-key.ensures.value
            (w.min.ensures ∙ ap (λ n. min n (length c.key-key.result.now)) (w.saturating_sub.ensures ∙ ap (λ n. n - 4) same))
      ])
      | in-None w ↦ rw (w.pair-is) tt
    ]
