use Rattle.std.proofs.Common.{[], map, refl, subst, arith}
use Rattle.std.specs.Map.Iter.{deref_pair}
use Rattle.art_arena.proofs.Common.{HasRoom}
use Rattle.art_operations.proofs.NewNodes.{fewer}
use Rattle.art_map.proofs.Terms.{with_pairs_put, nodes_of}
use Rattle.art_map.proofs.LeafNames.{then-names}
use Rattle.art_map.proofs.Puts.{gather-extends, gather-new, next-back}
use Rattle.art_map.proofs.map.TreeMap.extend_from_refs.Goals as goal

pub returns-then-not-fits_in_memory-clause-pairs : goal.returns-then-not-fits_in_memory-clause-pairs
returns-then-not-fits_in_memory-clause-pairs g c =
    let it = c.into_iter-pairs in (
      it.result,
      [],
      it.ensures.into_iter_gives,
      refl,
      (λ n some room. subst (HasRoom c.args.self.now.nodes) (omega arith) room),
      (
        next-back g.K.AsBytes.bytes deref_pair g.U.IntoIterator.into_iter_gives g.U.IntoIter.Iterator.next_gives it.result it.result c.next.new.self [] (c.in-Some.key, c.in-Some.value) (record { key = c.in-Some.key.now; value = c.in-Some.value.now })
            c.in-Some.key.now c.in-Some.value.now refl c.in-Some.ensures.steps refl (refl, refl),
        λ room. let never = c.if-not-fits_in_memory.ensures.room (fewer c.args.self.now.nodes 1 2 (omega arith) room) in absurd (cc),
      ),
    )

pub put_back-requires : goal.put_back-requires
put_back-requires g c =
    let (it, given, gives, put, room, outcome) = c.put_copies-result.ensures.pairs in
    (omega arith, (omega arith, (c.if-not-fits_in_memory.ensures.value refl, (with_pairs_put g.K.AsBytes.bytes (map deref_pair given) c.args.self.now.pairs, put c.args.self.now.pairs c.take_into_builder-builder.ensures.pairs))))

pub returns-clause-pairs : goal.returns-clause-pairs
returns-clause-pairs g c =
    gather-extends g.K.AsBytes.bytes deref_pair g.U.IntoIterator.into_iter_gives g.U.IntoIter.Iterator.next_gives g.K.AsBytes.is_key c.take_into_builder-builder.result c.put_copies-result.new.self c.args.iter c.put_copies-result.result c.args.self.now c.put_back.new.self
    c.put_copies-result.ensures.pairs c.take_into_builder-builder.ensures.pairs c.put_back.ensures.pairs c.take_into_builder-builder.ensures.room c.put_back.ensures.room

pub returns-clause-stored : goal.returns-clause-stored
returns-clause-stored g c = λ fits.
    gather-new g.K.AsBytes.bytes deref_pair g.U.IntoIterator.into_iter_gives g.U.IntoIter.Iterator.next_gives g.K.AsBytes.is_key c.take_into_builder-builder.result c.put_copies-result.new.self c.args.iter c.put_copies-result.result c.args.self.now c.put_back.new.self
    c.put_copies-result.ensures.pairs c.take_into_builder-builder.ensures.pairs c.put_back.ensures.pairs

pub returns-then-not-fits_in_memory-clause-stored : goal.returns-then-not-fits_in_memory-clause-stored
returns-then-not-fits_in_memory-clause-stored g c = λ fits. absurd (let is = c.if-not-fits_in_memory.ensures.exact fits in cc)

pub returns-clause-names : goal.returns-clause-names
returns-clause-names g c =
    then-names g.K.AsBytes.bytes c.put_back.new.self.nodes (nodes_of c.put_copies-result.new.self) c.args.self.now.nodes c.put_back.ensures.names
    (then-names g.K.AsBytes.bytes (nodes_of c.put_copies-result.new.self) (nodes_of c.take_into_builder-builder.result) c.args.self.now.nodes c.put_copies-result.ensures.names c.take_into_builder-builder.ensures.names)

pub returns-in_default-clause-pairs : goal.returns-in_default-clause-pairs
returns-in_default-clause-pairs g c =
    let it = c.into_iter-pairs in
    (it.result, [], it.ensures.into_iter_gives, refl, (λ n some room. subst (HasRoom c.args.self.now.nodes) (omega arith) room), (c.next.new.self, (it.result, refl, c.in_default.ensures.steps)))
