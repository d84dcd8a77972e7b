use Rattle.std.proofs.Common.{◌<◌, length, arith, ap, sym, ◌∙◌}
use Rattle.std.proofs.lemmas.Bool.{eqb-false}
use Rattle.hex.specs.Hex.{lower_digits}
use Rattle.hex.proofs.HexLemmas.{length-encode_with}
use Rattle.art_lines.proofs.HexText.{shown-bytes}
use Rattle.art_lines.proofs.Gathering.{puts_same}
use Rattle.art_lines.proofs.room.put_bytes.Goals as goal

pub put_digits-requires : goal.put_digits-requires
put_digits-requires c =
    let some : 0 < length c.args.value.now = let h = eqb-false _ _ (sym c.is_empty.ensures ∙ c.if-is_empty.false) in omega arith in
    let same = ap length (shown-bytes c.args.value.now some) in
    let long = length-encode_with lower_digits c.args.value.now in
    let fits = c.requires in
    omega arith

pub returns : goal.returns
returns c =
    let some : 0 < length c.args.value.now = let h = eqb-false _ _ (sym c.is_empty.ensures ∙ c.if-is_empty.false) in omega arith in
    puts_same _ _ _ _ _ _ (sym (shown-bytes c.args.value.now some)) c.put_digits.ensures
