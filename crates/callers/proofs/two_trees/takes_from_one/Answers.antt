use Rattle.std.proofs.Common.{[], refl, arith}
use Rattle.art_arena.proofs.Common.{cells, leaves, pairs_of}
use Rattle.art_arena.proofs.shapes.KeptTrees.{kept-subtree}
use Rattle.callers.proofs.two_trees.takes_from_one.Goals as goal

pub take_pair-requires : goal.take_pair-requires
take_pair-requires g c =
    let r = c.requires in
    (omega arith, (pairs_of (leaves r.0), cells 4 r.1, (r.0, r.2, refl)))

pub search_unchecked-requires : goal.search_unchecked-requires
search_unchecked-requires g c =
    let r = c.requires in
    let kept = c.in-Ok-Some.ensures.others (pairs_of (leaves r.0)) (cells 4 r.1) (r.0, r.2, refl) in
    (omega arith, (r.1, kept-subtree g.K.AsBytes.bytes 4 c.args.arena.now c.take_pair.new.arena c.args.other [] r.1 r.3 kept))
