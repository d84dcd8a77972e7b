use Rattle.std.proofs.Common.{[], map, refl, arith}
use Rattle.art_map.proofs.Common.{with_pairs_put}
use Rattle.art_set.proofs.KeyPuts.{keys-made, made-refused, next-back}
use Rattle.art_set.proofs.set.TreeSet.from_iter.Goals as goal

pub returns-then-not-nodes_fit : goal.returns-then-not-nodes_fit
returns-then-not-nodes_fit g c =
    let it = c.into_iter-keys in (
      it.result,
      [],
      it.ensures.into_iter_gives,
      (
        next-back g.K.AsBytes.bytes (λ key. key) g.U.IntoIterator.into_iter_gives g.U.IntoIter.Iterator.next_gives it.result it.result c.next.new.self [] c.in-Some.key (record { key = c.in-Some.key })
            c.in-Some.key refl c.in-Some.ensures.steps refl refl,
        λ stored. stored.1,
      ),
    )

pub put_all-requires : goal.put_all-requires
put_all-requires g c = (omega arith, (c.if-not-nodes_fit.ensures.0 refl, (([], c.new-builder.ensures), c.requires)))

pub returns-in_err-put_all : goal.returns-in_err-put_all
returns-in_err-put_all g c =
    let (it, given, gives, put, room, back) = c.in_err-put_all.ensures.keys in
    made-refused g.K.AsBytes.bytes (λ key. key) g.U.IntoIterator.into_iter_gives g.U.IntoIter.Iterator.next_gives c.args.iter it given _ c.from_residual.result gives back.0 (back.2 [] c.new-builder.ensures) c.from_residual.ensures.1

pub finish-map-requires : goal.finish-map-requires
finish-map-requires g c =
    let (it, given, gives, put, room, drains) = c.in_ok-put_all.ensures.keys in
    (omega arith, (omega arith, (c.if-not-nodes_fit.ensures.0 refl, (with_pairs_put g.K.AsBytes.bytes (map (λ k. (k, tt)) given) [], put [] c.new-builder.ensures))))

pub returns : goal.returns
returns g c =
    let (it, given, gives, put, room, drains) = c.in_ok-put_all.ensures.keys in
    keys-made g.K.AsBytes.bytes (λ key. key) g.U.IntoIterator.into_iter_gives g.U.IntoIter.Iterator.next_gives c.args.iter it given c.finish-map.result gives drains
    (c.finish-map.ensures.pairs _ (put [] c.new-builder.ensures))
