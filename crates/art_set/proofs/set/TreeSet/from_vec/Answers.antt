use Rattle.std.proofs.Common.{[], IfErr, IfOk, subst, ◌≡◌}
use Rattle.art_map.proofs.VecPairs.{handed-on}
use Rattle.art_set.proofs.KeyPuts.{made-sorted, refused-sorted, vec-made, vec-refused}
use Rattle.art_set.proofs.Terms.{with_keys_put}
use Rattle.art_set.specs.Bulk.{IsFirstOfKeys}
use Rattle.art_set.proofs.set.TreeSet.from_vec.Goals as goal

pub returns-in_err-set-clause-err : goal.returns-in_err-set-clause-err
returns-in_err-set-clause-err g c =
    let made = c.from_iter.ensures in
    let bytes = g.K.AsBytes.bytes in
    let sorted = c.sort_by_bytes.new.keys.items in
    let e = c.in_err-set.field-0.0 in
    let first = subst (λ r. IfErr r (IsFirstOfKeys bytes sorted)) c.in_err-set.was (vec-refused bytes made.0 made.1 sorted made.2.0 c.from_iter.result made.3) in
    handed-on (IsFirstOfKeys bytes c.args.keys.items) c.from_residual.result e (refused-sorted bytes c.args.keys.items sorted c.sort_by_bytes.ensures e first) c.from_residual.ensures.1

pub returns-clause-ok : goal.returns-clause-ok
returns-clause-ok g c =
    let made = c.from_iter.ensures in
    let bytes = g.K.AsBytes.bytes in
    let sorted = c.sort_by_bytes.new.keys.items in
    let put = subst (λ r. IfOk r (λ set. set.keys ≡ with_keys_put bytes sorted [])) c.in_ok-set.was (vec-made bytes made.0 made.1 sorted made.2.0 c.from_iter.result made.3) in
    made-sorted bytes c.args.keys.items sorted c.sort_by_bytes.ensures c.in_ok-set.set.keys put c.nodes-nodes.ensures.ordered
