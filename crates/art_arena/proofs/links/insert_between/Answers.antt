use Rattle.std.proofs.Common.{arith}
use Rattle.art_arena.proofs.shapes.LinkedLists.{can_go_between}
use Rattle.art_arena.proofs.links.insert_between.Goals as goal

pub link_between-requires : goal.link_between-requires
link_between-requires g c =
    let r = c.requires in
    (omega arith, (r.0, r.1, can_go_between _ r.0 r.1 _ _ _ r.2 r.3 r.4))

pub returns-clause-linked : goal.returns-clause-linked
returns-clause-linked g c = λ xs ys m beside last first m_is.
    c.link_between.ensures.linked xs ys m (can_go_between _ xs ys _ _ _ beside last first) m_is
