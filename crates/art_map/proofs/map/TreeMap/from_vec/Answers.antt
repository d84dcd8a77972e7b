use Rattle.std.proofs.Common.{[], IfErr, IfOk, subst, ◌≡◌}
use Rattle.art_map.proofs.Terms.{IsFirstOfList, with_pairs_put}
use Rattle.art_map.proofs.VecPairs.{handed-on, made-sorted, refused-sorted, vec-made, vec-refused}
use Rattle.art_map.proofs.map.TreeMap.from_vec.Goals as goal

pub returns-in_err-map-clause-err : goal.returns-in_err-map-clause-err
returns-in_err-map-clause-err g c =
    let made = c.from_iter.ensures in
    let bytes = g.K.AsBytes.bytes in
    let sorted = c.sort_by_key_bytes.new.pairs.items in
    let e = c.in_err-map.field-0.0 in
    let first = subst (λ r. IfErr r (IsFirstOfList bytes sorted)) c.in_err-map.was (vec-refused bytes made.0 made.1 sorted made.2.0 c.from_iter.result made.3) in
    handed-on (IsFirstOfList bytes c.args.pairs.items) c.from_residual.result e (refused-sorted bytes c.args.pairs.items sorted c.sort_by_key_bytes.ensures e first) c.from_residual.ensures.1

pub returns-clause-ok : goal.returns-clause-ok
returns-clause-ok g c =
    let made = c.from_iter.ensures in
    let bytes = g.K.AsBytes.bytes in
    let sorted = c.sort_by_key_bytes.new.pairs.items in
    let put = subst (λ r. IfOk r (λ map. map.pairs ≡ with_pairs_put bytes sorted [])) c.in_ok-map.was (vec-made bytes made.0 made.1 sorted made.2.0 c.from_iter.result made.3) in
    made-sorted bytes c.args.pairs.items sorted c.sort_by_key_bytes.ensures c.in_ok-map.map.pairs put c.nodes-nodes.ensures.ordered
