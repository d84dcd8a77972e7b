use Rattle.std.proofs.Common.{◌+◌, map, refl, sym, subst, arith}
use Rattle.std.specs.Map.Iter.{deref_pair}
use Rattle.art_arena.proofs.Common.{key_of}
use Rattle.art_operations.proofs.Common.{HasKey}
use Rattle.art_map.proofs.Terms.{with_pairs_put, HasGathered, nodes_of}
use Rattle.art_map.proofs.LeafNames.{then-names}
use Rattle.art_map.proofs.Puts.{gather-refused, next-back, put-item}
use Rattle.art_map.proofs.RoomLeft.{used-more, used-none, used-up}
use Rattle.art_map.proofs.map.builder.TreeMapBuilder.put_copies.Goals as goal

pub loop-key-init : goal.loop-key-init
loop-key-init g c = record { put = λ pairs has. has; names = λ slot key has. has; room = used-none c.args.self.now }

pub put-requires : goal.put-requires
put-requires g c =
    let r = c.requires.taken in
    (omega arith, (c.requires.fits_in_memory, (with_pairs_put g.K.AsBytes.bytes (map deref_pair c.loop-key.yielded) r.0, c.loop-key.invariant.put r.0 r.1)))

pub loop-key-preserved : goal.loop-key-preserved
loop-key-preserved g c = record {
  put = λ pairs has.
      subst (HasGathered g.K.AsBytes.bytes g.K.AsBytes.is_key c.put.new.self) (sym (put-item g.K.AsBytes.bytes deref_pair c.loop-key.yielded (c.in-Some.key, c.in-Some.value) pairs))
      (c.in_ok-put.ensures.ok (with_pairs_put g.K.AsBytes.bytes (map deref_pair c.loop-key.yielded) pairs) (c.loop-key.invariant.put pairs has));
  names = then-names g.K.AsBytes.bytes (nodes_of c.put.new.self) (nodes_of c.loop-key.self) (nodes_of c.args.self.now) c.put.ensures.names c.loop-key.invariant.names;
  room = λ n left. c.put.ensures.room n (c.loop-key.invariant.room (n + 2) (used-more c.args.self.now c.loop-key.yielded (c.in-Some.key, c.in-Some.value) n left));
}

pub returns-in_err-put-clause-pairs : goal.returns-in_err-put-clause-pairs
returns-in_err-put-clause-pairs g c =
    let it = c.into_iter-key-iterator in
    gather-refused g.K.AsBytes.bytes deref_pair g.U.IntoIterator.into_iter_gives g.U.IntoIter.Iterator.next_gives g.K.AsBytes.is_key c.args.self.now c.put.new.self c.args.iter it.result c.loop-key.yielded _ c.from_residual.result
    it.ensures.into_iter_gives (λ pairs has. c.in_err-put.ensures.kept _ (c.loop-key.invariant.put pairs has)) (λ n some left. c.in_err-put.ensures.kept_room n some (c.loop-key.invariant.room n left))
    (next-back g.K.AsBytes.bytes deref_pair g.U.IntoIterator.into_iter_gives g.U.IntoIter.Iterator.next_gives it.result c.loop-key.key-iterator c.next.new.self c.loop-key.yielded (c.in-Some.key, c.in-Some.value) _ c.in-Some.key.now c.in-Some.value.now
    c.loop-key.yielded_by c.in-Some.ensures.steps refl c.in_err-put.ensures.handed_back)
    (used-up c.args.self.now c.loop-key.yielded (λ left. let never = c.in_err-put.ensures.succeeds (c.loop-key.invariant.room 2 left) in absurd (cc)))
    (λ pairs has stored.
    let ps = with_pairs_put g.K.AsBytes.bytes (map deref_pair c.loop-key.yielded) pairs in
    let never = c.in_err-put.ensures.stored ps (c.loop-key.invariant.put pairs has) (subst (λ k. HasKey (key_of g.K.AsBytes.bytes) (g.K.AsBytes.bytes k) ps) c.in_err-put.ensures.handed_back.0 stored) in
    absurd (cc))
    c.from_residual.ensures.1

pub returns-in_err-put-clause-names : goal.returns-in_err-put-clause-names
returns-in_err-put-clause-names g c = then-names g.K.AsBytes.bytes (nodes_of c.put.new.self) (nodes_of c.loop-key.self) (nodes_of c.args.self.now) c.put.ensures.names c.loop-key.invariant.names

pub returns-clause-pairs : goal.returns-clause-pairs
returns-clause-pairs g c =
    let it = c.into_iter-key-iterator in
    (it.result, c.loop-key.yielded, it.ensures.into_iter_gives, c.loop-key.invariant.put, (λ n some left. c.loop-key.invariant.room n left), (c.next.new.self, (c.loop-key.key-iterator, c.loop-key.yielded_by, c.in-None.ensures.steps)))
