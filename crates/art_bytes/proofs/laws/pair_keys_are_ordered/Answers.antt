-- Both numbers are in the range of their types, so the law of the pairs' keys holds of them.
use Rattle.std.proofs.Common.{rules, ◌<◌, ◌^◌, ◌∙◌}
use Rattle.std.specs.Int.{w64}
use Rattle.std.specs.Int.RustNames.{FitsSigned}
use Rattle.art_bytes.specs.lemmas.FlipLaws.{flipped-bound}
use Rattle.art_bytes.specs.lemmas.PairLaws.{pair_keys}
use Rattle.art_bytes.proofs.laws.pair_keys_are_ordered.Goals as goal

pub returns : goal.returns
returns c =
    let tenant_a : c.args.a.0 < 256 ^ 4 = search rules in
    let tenant_b : c.args.b.0 < 256 ^ 4 = search rules in
    let number_a : FitsSigned w64 c.args.a.1 = search rules in
    let number_b : FitsSigned w64 c.args.b.1 = search rules in
    c.cmp.ensures ∙ pair_keys.ordered c.args.a c.args.b
    (tenant_a, (number_a, flipped-bound w64 c.args.a.1 number_a))
    (tenant_b, (number_b, flipped-bound w64 c.args.b.1 number_b))
