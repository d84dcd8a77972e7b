use Rattle.std.proofs.Common.{[], map, refl, subst, arith}
use Rattle.art_map.proofs.Common.{with_pairs_put}
use Rattle.art_arena.proofs.Common.{HasRoom}
use Rattle.art_operations.proofs.NewNodes.{fewer}
use Rattle.art_map.proofs.LeafNames.{then-names}
use Rattle.art_map.specs.Builders.{nodes_of}
use Rattle.art_set.proofs.KeyPuts.{gather-extends, gather-new, next-back}
use Rattle.art_set.proofs.set.TreeSet.extend.Goals as goal

pub returns-then-not-fits_in_memory-clause-keys : goal.returns-then-not-fits_in_memory-clause-keys
returns-then-not-fits_in_memory-clause-keys g c =
    let it = c.into_iter-keys in (
      it.result,
      [],
      it.ensures.into_iter_gives,
      refl,
      (λ n some room. subst (HasRoom c.args.self.now.nodes) (omega arith) room),
      (
        next-back g.K.AsBytes.bytes (λ key. key) g.U.IntoIterator.into_iter_gives g.U.IntoIter.Iterator.next_gives it.result it.result c.next.new.self [] c.in-Some.key (record { key = c.in-Some.key }) c.in-Some.key refl c.in-Some.ensures.steps refl refl,
        λ room. let never = c.if-not-fits_in_memory.ensures.room (fewer c.args.self.now.nodes 1 2 (omega arith) room) in absurd (cc),
      ),
    )

pub put_all-result-requires : goal.put_all-result-requires
put_all-result-requires g c =
    let (pairs, has, same) = c.take_into_builder-builder.ensures.keys in
    (omega arith, (c.if-not-fits_in_memory.ensures.value refl, ((pairs, has), c.requires)))

pub put_back-requires : goal.put_back-requires
put_back-requires g c =
    let (pairs, has, same) = c.take_into_builder-builder.ensures.keys in
    let (it, given, gives, put, room, outcome) = c.put_all-result.ensures.keys in
    (omega arith, (omega arith, (c.if-not-fits_in_memory.ensures.value refl, (with_pairs_put g.K.AsBytes.bytes (map (λ k. (k, tt)) given) pairs, put pairs has))))

pub returns-clause-keys : goal.returns-clause-keys
returns-clause-keys g c =
    let (pairs, has, same) = c.take_into_builder-builder.ensures.keys in
    gather-extends g.K.AsBytes.bytes (λ key. key) g.U.IntoIterator.into_iter_gives g.U.IntoIter.Iterator.next_gives g.K.AsBytes.is_key c.take_into_builder-builder.result c.put_all-result.new.builder c.args.iter c.put_all-result.result pairs c.args.self.now c.put_back.new.self
    c.put_all-result.ensures.keys has same c.put_back.ensures.keys c.take_into_builder-builder.ensures.room c.put_back.ensures.room

pub returns-clause-stored : goal.returns-clause-stored
returns-clause-stored g c = λ fits.
    let (pairs, has, same) = c.take_into_builder-builder.ensures.keys in
    gather-new g.K.AsBytes.bytes (λ key. key) g.U.IntoIterator.into_iter_gives g.U.IntoIter.Iterator.next_gives g.K.AsBytes.is_key c.take_into_builder-builder.result c.put_all-result.new.builder c.args.iter c.put_all-result.result pairs c.args.self.now c.put_back.new.self
    c.put_all-result.ensures.keys has same c.put_back.ensures.keys

pub returns-then-not-fits_in_memory-clause-stored : goal.returns-then-not-fits_in_memory-clause-stored
returns-then-not-fits_in_memory-clause-stored g c = λ fits. absurd (let is = c.if-not-fits_in_memory.ensures.exact fits in cc)

pub returns-clause-names : goal.returns-clause-names
returns-clause-names g c =
    then-names g.K.AsBytes.bytes c.put_back.new.self.nodes (nodes_of c.put_all-result.new.builder) c.args.self.now.nodes c.put_back.ensures.names
    (then-names g.K.AsBytes.bytes (nodes_of c.put_all-result.new.builder) (nodes_of c.take_into_builder-builder.result) c.args.self.now.nodes c.put_all-result.ensures.names c.take_into_builder-builder.ensures.names)

pub returns-in_default-clause-keys : goal.returns-in_default-clause-keys
returns-in_default-clause-keys g c =
    let it = c.into_iter-keys in
    (it.result, [], it.ensures.into_iter_gives, refl, (λ n some room. subst (HasRoom c.args.self.now.nodes) (omega arith) room), (c.next.new.self, (it.result, refl, c.in_default.ensures.steps)))
