use Rattle.std.proofs.Common.{length, sym, ap, subst, arith}
use Rattle.std.specs.List.{AllByRecursion}
use Rattle.art_nodes.specs.declared.kind.NodeType.TheVariants.{Leaf}
use Rattle.art_arena.proofs.Common.{HasRoomOf, key_of, AscendsByKey}
use Rattle.art_operations.proofs.Common.{Builds}
use Rattle.art_operations.proofs.Terms.{HasRoomToPush}
use Rattle.art_map.proofs.map.TreeMap.moved_into.Goals as goal

pub push_all-requires : goal.push_all-requires
push_all-requires g c =
    let all = c.into_iter.ensures.into_iter_gives in (
      omega arith,
      (
        omega arith,
        (
          c.requires.none,
          (
            subst (AscendsByKey (key_of g.K.AsBytes.bytes)) (sym all) c.nodes-root.ensures.ordered,
            (subst (λ ps. HasRoomToPush c.args.builder (length ps)) (sym all) c.requires.places, subst (λ ps. HasRoomOf c.args.arena Leaf (length ps)) (sym all) c.requires.leaves),
          ),
        ),
      ),
    )

pub of_tree-requires : goal.of_tree-requires
of_tree-requires g c =
    let all = c.into_iter.ensures.into_iter_gives in
    let seen = ap (λ m. m.pairs) c.self.view_is in (
      omega arith,
      (
        omega arith,
        (
          c.requires.fits,
          (
            c.args.self.pairs,
            subst (Builds g.K.AsBytes.bytes g.row.PREFIX_LEN c.push_all.new.arena c.push_all.new.builder) all c.push_all.ensures.built,
            subst (AllByRecursion (λ p. g.K.AsBytes.is_key p.0)) seen c.self.invariant.keys,
          ),
        ),
      ),
    )

pub returns : goal.returns
returns g c =
    let all = c.into_iter.ensures.into_iter_gives in
    record { pairs = c.of_tree.ensures.pairs c.args.self.pairs (subst (Builds g.K.AsBytes.bytes g.row.PREFIX_LEN c.push_all.new.arena c.push_all.new.builder) all c.push_all.ensures.built) }
