use Rattle.std.proofs.Common.{◌≡◌, false, true, sym, ◌∙◌}
use Rattle.art_lines.proofs.Buffering.{written_on}
use Rattle.art_lines.proofs.buffered.write_to.Goals as goal

pub loop-at-preserved : goal.loop-at-preserved
loop-at-preserved g c =
    let on = written_on c.args.bytes.now (g.S.Sink.taken c.args.sink.now) (g.S.Sink.taken c.loop-at.sink) (g.S.Sink.taken c.write.new.self) c.loop-at.at c.in-Ok.n
    c.loop-at.invariant.bound c.loop-at.invariant.output c.in-Ok.ensures.bound c.in-Ok.ensures.takes in
    record {
      bound = on.0;
      output = on.1;
      stays = λ failed. let is : false ≡ true = c.in-Ok.ensures.stays_failed (c.loop-at.invariant.stays failed) in absurd (cc);
      none = λ failed. let is : false ≡ true = c.in-Ok.ensures.stays_failed (c.loop-at.invariant.stays failed) in absurd (cc);
      fine = λ _. sym c.in-Ok.ensures.failed;
    }

pub returns-clause-fewer : goal.returns-clause-fewer
returns-clause-fewer g c = λ fine failed. let is : false ≡ true = sym (c.loop-at.invariant.fine fine) ∙ failed in absurd (cc)
