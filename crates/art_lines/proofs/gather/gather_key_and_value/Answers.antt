use Rattle.std.proofs.Common.{◌≡◌, arith}
use Rattle.art_lines.proofs.Cuts.{cut_alone, cut_before, when_err}
use Rattle.art_lines.proofs.gather.gather_key_and_value.Goals as goal

pub returns-in_err-at-clause-cut : goal.returns-in_err-at-clause-cut
returns-in_err-at-clause-cut g c = when_err _ (cut_before _ _ _ _ c.in_err-at.ensures.cut)

pub returns-in_err-write_pair-clause-cut : goal.returns-in_err-write_pair-clause-cut
returns-in_err-write_pair-clause-cut g c =
    let most = c.in_ok-at.ensures.fits in let left = c.saturating_sub.ensures in let full = c.if-at-len.false in
    let none : c.in_ok-at.at ≡ 0 = omega arith in
    when_err _ (cut_alone _ _ _ _ _ _ _ none c.in_ok-at.ensures.taken c.in_err-write_pair.ensures.cut)
