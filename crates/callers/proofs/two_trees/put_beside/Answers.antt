use Rattle.std.proofs.Common.{[], refl, arith}
use Rattle.art_arena.proofs.Common.{node_at, cells, holds-only, nodes-subtree}
use Rattle.art_arena.proofs.shapes.KeptTrees.{other-tree}
use Rattle.callers.proofs.two_trees.put_beside.Goals as goal

pub insert_at-requires : goal.insert_at-requires
insert_at-requires g c =
    let r = c.requires in
    (omega arith, ([], cells 4 r.0, (refl, holds-only (node_at c.args.arena.now) (cells 4 r.0) r.1.nodes.holds)))

pub returns-in-Ok : goal.returns-in-Ok
returns-in-Ok g c =
    let r = c.requires in
    let alone = holds-only (node_at c.args.arena.now) (cells 4 r.0) r.1.nodes.holds in
    let has = (c.in-Ok.ensures.ok [] (cells 4 r.0) (refl, alone)).has in
    let kept = c.in-Ok.ensures.others [] (cells 4 r.0) (refl, alone) in (
      r.0,
      has.0,
      other-tree g.K.AsBytes.bytes 4 c.args.arena.now c.insert_at.new.arena c.args.root c.in-Ok.put.new_root r.0 has.0 r.1 kept has.1,
      nodes-subtree g.K.AsBytes.bytes 4 (node_at c.insert_at.new.arena) c.in-Ok.put.new_root has.0 has.1.nodes,
    )
