use Rattle.std.proofs.Common.{◌+◌, map, refl, sym, subst, arith}
use Rattle.art_map.proofs.Common.{with_pairs_put, HasGathered}
use Rattle.art_map.proofs.LeafNames.{then-names}
use Rattle.art_map.proofs.Puts.{put-item}
use Rattle.art_map.proofs.RoomLeft.{used-more, used-none, used-up}
use Rattle.art_map.specs.Builders.{nodes_of}
use Rattle.art_set.proofs.KeyPuts.{next-back, stored-pair}
use Rattle.art_set.proofs.set.builder.put_all.Goals as goal

pub loop-key-init : goal.loop-key-init
loop-key-init g c = record { put = λ pairs has. has; names = λ slot key has. has; room = used-none c.args.builder.now }

pub put-requires : goal.put-requires
put-requires g c =
    let r = c.requires.taken in
    (omega arith, (c.requires.fits_in_memory, (with_pairs_put g.K.AsBytes.bytes (map (λ k. (k, tt)) c.loop-key.yielded) r.0, c.loop-key.invariant.put r.0 r.1)))

pub loop-key-preserved : goal.loop-key-preserved
loop-key-preserved g c = record {
  put = λ pairs has.
      subst (HasGathered g.K.AsBytes.bytes g.K.AsBytes.is_key c.put.new.self) (sym (put-item g.K.AsBytes.bytes (λ k. (k, tt)) c.loop-key.yielded c.in-Some.key pairs))
      (c.in-Ok.ensures.ok (with_pairs_put g.K.AsBytes.bytes (map (λ k. (k, tt)) c.loop-key.yielded) pairs) (c.loop-key.invariant.put pairs has));
  names = then-names g.K.AsBytes.bytes (nodes_of c.put.new.self) (nodes_of c.loop-key.builder) (nodes_of c.args.builder.now) c.put.ensures.names c.loop-key.invariant.names;
  room = λ n left. c.put.ensures.room n (c.loop-key.invariant.room (n + 2) (used-more c.args.builder.now c.loop-key.yielded c.in-Some.key n left));
}

pub returns-in-Err-clause-keys : goal.returns-in-Err-clause-keys
returns-in-Err-clause-keys g c =
    let it = c.into_iter-key-iterator in (
      it.result,
      c.loop-key.yielded,
      it.ensures.into_iter_gives,
      λ pairs has. c.in-Err.ensures.kept _ (c.loop-key.invariant.put pairs has),
      (λ n some left. c.in-Err.ensures.kept_room n some (c.loop-key.invariant.room n left)),
      (
        next-back g.K.AsBytes.bytes (λ key. key) g.U.IntoIterator.into_iter_gives g.U.IntoIter.Iterator.next_gives it.result c.loop-key.key-iterator c.next.new.self c.loop-key.yielded c.in-Some.key (record { key = c.in-Err.refused.key })
            c.in-Some.key c.loop-key.yielded_by c.in-Some.ensures.steps refl c.in-Err.ensures.handed_back.0,
        used-up c.args.builder.now c.loop-key.yielded (λ left. let never = c.in-Err.ensures.succeeds (c.loop-key.invariant.room 2 left) in absurd (cc)),
        λ pairs has stored.
            let never = c.in-Err.ensures.stored _ (c.loop-key.invariant.put pairs has) (stored-pair g.K.AsBytes.bytes (λ key. key) g.U.IntoIterator.into_iter_gives g.U.IntoIter.Iterator.next_gives c.in-Err.refused.key c.in-Some.key c.in-Err.ensures.handed_back.0 c.loop-key.yielded pairs stored) in
            absurd (cc),
      ),
    )

pub returns-in-Err-clause-names : goal.returns-in-Err-clause-names
returns-in-Err-clause-names g c = then-names g.K.AsBytes.bytes (nodes_of c.put.new.self) (nodes_of c.loop-key.builder) (nodes_of c.args.builder.now) c.put.ensures.names c.loop-key.invariant.names

pub returns-clause-keys : goal.returns-clause-keys
returns-clause-keys g c =
    let it = c.into_iter-key-iterator in
    (it.result, c.loop-key.yielded, it.ensures.into_iter_gives, c.loop-key.invariant.put, (λ n some left. c.loop-key.invariant.room n left), (c.next.new.self, (c.loop-key.key-iterator, c.loop-key.yielded_by, c.in-None.ensures.steps)))
