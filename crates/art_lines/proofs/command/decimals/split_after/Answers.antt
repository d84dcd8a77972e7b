use Rattle.std.proofs.Common.{length, take, drop, ◌-◌, ◌+◌, arith}
use Rattle.art_lines.proofs.Decimals.{not_ended, other_end, ended_by, only_first, if_none}
use Rattle.art_lines.specs.Reading.{natural_in}
use Rattle.art_lines.proofs.command.decimals.split_after.Goals as goal

pub returns-then-len-text-clause-none : goal.returns-then-len-text-clause-none
returns-then-len-text-clause-none c = not_ended c.args.text.now c.args.len c.args.number c.requires.read (natural_in _) c.if-len-text.true

pub returns-then-text-len-ne32-clause-none : goal.returns-then-text-len-ne32-clause-none
returns-then-text-len-ne32-clause-none c =
    let within = c.if-len-text.false in
    other_end c.args.text.now c.args.len c.args.number c.requires.read (omega arith) c.if-text-len-ne32.true c.requires.end

pub returns-in_err-natural-clause-none : goal.returns-in_err-natural-clause-none
returns-in_err-natural-clause-none c =
    let within = c.if-len-text.false in
    if_none c.from_residual.result (only_first (natural_in _) c.args.text.now (take c.args.len c.args.text.now) (take (length c.args.text.now - (c.args.len + 1)) (drop (c.args.len + 1) c.args.text.now))
    (ended_by c.args.text.now c.args.len c.args.number c.requires.read (omega arith) c.if-text-len-ne32.false) c.in_err-natural.ensures.value)

pub returns-clause-some : goal.returns-clause-some
returns-clause-some c =
    let within = c.if-len-text.false in
    record {
      field = take c.args.len c.args.text.now;
      parts = ended_by c.args.text.now c.args.len c.args.number c.requires.read (omega arith) c.if-text-len-ne32.false;
      meant = c.in_ok-natural.ensures.value;
    }
