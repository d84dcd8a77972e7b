use Rattle.std.proofs.Common.{◌≡◌, ◌+◌, ◌-◌, ◌*◌, length, drop, arith}
use Rattle.std.proofs.lemmas.List.{length-drop, length-take-le}
use Rattle.hex.specs.Hex.{encode_lower}
use Rattle.art_lines.proofs.Parsing.{on_ok}
use Rattle.art_lines.proofs.Gathering.{digits_put}
use Rattle.art_lines.proofs.room.put_digits.Goals as goal

pub returns : goal.returns
returns c =
    let room = c.args.room.now in let value = c.args.value.now in let at = c.args.at in
    let after = length-drop at room in
    let fits = length-take-le (at + 2 * length value - at) (drop at room) (omega arith) in
    let output : c.encode_to_slice.new.output ≡ encode_lower value = on_ok c.encode_to_slice.result (c.encode_to_slice.ensures.fits.1 (omega arith)) c.encode_to_slice.ensures.written in
    digits_put room value c.encode_to_slice.new.output at (at + 2 * length value - at) output c.requires
