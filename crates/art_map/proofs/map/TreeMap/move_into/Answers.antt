use Rattle.std.proofs.Common.{length, sym, subst, arith}
use Rattle.art_nodes.specs.declared.kind.NodeType.TheVariants.{Leaf}
use Rattle.art_arena.proofs.Common.{HasRoomOf}
use Rattle.art_operations.proofs.Terms.{HasRoomToPush}
use Rattle.art_map.proofs.map.TreeMap.move_into.Goals as goal

pub moved_into-requires : goal.moved_into-requires
moved_into-requires g c =
    let had = sym c.replace.ensures.value in (
      omega arith,
      (
        omega arith,
        (
          c.requires.fits,
          (
            c.requires.none,
            (subst (λ m. HasRoomToPush c.args.builder (length m.pairs)) had c.requires.places, subst (λ m. HasRoomOf c.args.arena Leaf (length m.pairs)) had c.requires.leaves),
          ),
        ),
      ),
    )

pub returns-clause-trimmed : goal.returns-clause-trimmed
returns-clause-trimmed g c = c.shrink_to_fit.ensures.trimmed c.requires.fits
