use Rattle.std.proofs.Common.{◌≤◌, ◌+◌, length, min, arith, refl}
use Rattle.std.proofs.lemmas.List.{length-take}
use Rattle.art_nodes.proofs.PrefixLemmas.{take-pushed}
use Rattle.art_nodes.proofs.header.Header.push_prefix.Goals as goal

pub returns : goal.returns
returns g c =
    let asked = rw (← c.self.view_is) at c.requires in
    let covers : min (c.self.inside.prefix_len + c.args.len) g.row.PREFIX_LEN ≤ min c.self.inside.prefix_len g.row.PREFIX_LEN + length c.args.bytes.now = omega (arith, asked.covers, length-take c.self.inside.prefix_len c.self.inside.prefix) in
    rw (← c.self.view_is, c.copy_in.ensures, c.min-kept.ensures, c.min-at.ensures, take-pushed g.row.PREFIX_LEN c.self.inside.prefix_len c.args.len c.self.inside.prefix c.args.bytes.now c.self.told covers) refl
