use Rattle.art_lines.proofs.Decimals.{eight_shown}
use Rattle.art_lines.proofs.command.decimals.number_of_eight.Goals as goal

pub returns : goal.returns
returns c =
    eight_shown c.args.digits c.pairs_of.result _ _ _ _ c.fits-digits.0 c.fits-digits.1 (c.are_low.ensures c.if-not-are_low.false) c.pairs_of.ensures c.from.ensures c.from-2.ensures c.from-3.ensures c.from-4.ensures
