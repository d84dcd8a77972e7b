use Rattle.std.proofs.Common.{rules, ◌≡◌, length, false, arith}
use Rattle.std.specs.Prelude.{◌==◌}
use Rattle.art_engine.proofs.HeldMaps.{length-shown}
use Rattle.art_engine.proofs.records.maps.letters_of.Goals as goal

pub returns : goal.returns
returns c =
    let some : (length c.args.value.now == 0) ≡ false = search rules in
    let long = length-shown c.args.value.now some in
    let is = c.saturating_mul.ensures in
    omega arith
