use Rattle.std.proofs.Common.{arith}
use Rattle.std.proofs.Math.Logic.{∥∥₁_map}
use Rattle.art_map.proofs.LentRuns.{remembered, step, told}
use Rattle.art_map.proofs.Terms.{contents}
use Rattle.art_map.proofs.map.TreeMap.leaf_of.Goals as goal

pub next_of-requires : goal.next_of-requires
next_of-requires g c = (omega arith, ∥∥₁_map (rw (← c.self.view_is) at c.requires) (λ r. (r.leaves, r.walk)))

pub returns : goal.returns
returns g c =
    let m = contents c.self.inside.arena c.self.inside.root in
    let run = remembered g.K.AsBytes.bytes g.K.AsBytes.is_key g.row.PREFIX_LEN c.self.inside.arena c.self.inside.root c.self.invariant c.args.leaves.now (rw (← c.self.view_is) at c.requires) in
    let is = step m c.args.end c.args.leaves.now run c.next_of.result c.next_of.new.leaves c.next_of.ensures.taken c.next_of.ensures.none in
    rw (← c.self.view_is) (record { leaf = is.0; left = is.1; rest = told m c.args.end c.args.leaves.now run c.next_of.result c.next_of.new.leaves is })
