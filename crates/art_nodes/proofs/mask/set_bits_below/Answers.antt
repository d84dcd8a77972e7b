use Rattle.std.proofs.Common.{◌≡◌, ◌-◌, ◌^◌, min, bit_and, sym, ap, ◌∙◌, arith}
use Rattle.std.specs.Prelude.{count_ones}
use Rattle.std.proofs.lemmas.Nat.{and_mask}
use Rattle.art_nodes.proofs.BitLemmas.{ones_below}
use Rattle.art_nodes.proofs.mask.set_bits_below.Goals as goal

pub returns-clause-value : goal.returns-clause-value
returns-clause-value c =
    let all : min c.args.bit 64 ≡ c.args.bit = omega (arith, c.requires) in
    rw (c.low_bits.ensures) (ap (λ k. count_ones (bit_and c.args.word (2 ^ k - 1))) all ∙ ap (λ n. count_ones n) (and_mask c.args.word c.args.bit) ∙ sym (ones_below c.args.word c.args.bit))
