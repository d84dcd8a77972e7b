use Rattle.std.proofs.Common.{[], Some, sym, subst, arith}
use Rattle.art_arena.proofs.Common.{leaves, nodes-subtree}
use Rattle.art_operations.proofs.Terms.{HasPairs}
use Rattle.art_operations.proofs.KeptLeaves.{kept-leaves, none-in-order}
use Rattle.art_operations.proofs.build.over_leaves.keep_leaves.Goals as goal

pub minimum_unchecked-first-requires : goal.minimum_unchecked-first-requires
minimum_unchecked-first-requires g c =
    let r = c.requires in
    let has = subst (λ root. HasPairs g.K.AsBytes.bytes g.row.PREFIX_LEN c.args.arena.now root r.0) c.in-Some.is r.1 in
    (omega arith, ([], has.0, nodes-subtree g.K.AsBytes.bytes g.row.PREFIX_LEN _ _ has.0 has.1.nodes))

pub returns-clause-order : goal.returns-clause-order
returns-clause-order g c = λ pairs is.
    let has = subst (λ root. HasPairs g.K.AsBytes.bytes g.row.PREFIX_LEN c.args.arena.now root pairs) c.in-Some.is is in (
      leaves has.0,
      kept-leaves g.K.AsBytes.bytes g.row.PREFIX_LEN c.args.arena.now c.clear_inner-2.new.self c.clear_inner-2.ensures.leaves c.clear_inner-2.ensures.vacant c.in-Some.top has.0 has.1 (Some c.minimum_unchecked-first.result)
          (c.minimum_unchecked-first.ensures [] has.0 (nodes-subtree g.K.AsBytes.bytes g.row.PREFIX_LEN _ _ has.0 has.1.nodes)),
      has.2,
    )

pub returns-in_default-clause-order : goal.returns-in_default-clause-order
returns-in_default-clause-order g c = λ pairs is.
    let has = subst (λ root. HasPairs g.K.AsBytes.bytes g.row.PREFIX_LEN c.args.arena.now root pairs) c.in_default.is is in
    ([], none-in-order g.K.AsBytes.bytes g.row.PREFIX_LEN c.args.arena.now c.clear_inner.new.self c.clear_inner.ensures.leaves c.clear_inner.ensures.vacant pairs has, sym has.0)
