use Rattle.std.proofs.Common.{[], sym, subst, arith, ◌∙◌}
use Rattle.art_operations.proofs.Common.{KeepsLeavesOf, CanPutOver}
use Rattle.art_map.proofs.Terms.{pairs_from}
use Rattle.art_map.proofs.Maps.{over-count, over-map, over-pairs, same-map, same-pairs}
use Rattle.art_operations.specs.Frees.{SwapsLeaves}
use Rattle.art_map.proofs.map.TreeMap.prefix_put.Goals as goal

pub insert_over-requires : goal.insert_over-requires
insert_over-requires g c = (
  omega arith,
  (
    (pairs_from c.self.inside.arena c.self.inside.root),
    [],
    subst (λ k. CanPutOver g.K.AsBytes.bytes g.row.PREFIX_LEN c.self.inside.arena c.find_place_over-place.result k
        (pairs_from c.self.inside.arena c.self.inside.root) []) c.as_bytes.ensures.value
        (c.find_place_over-place.ensures (pairs_from c.self.inside.arena c.self.inside.root) [] c.self.invariant.has),
  ),
)

pub invariant_of-self : goal.invariant_of-self
invariant_of-self g c =
    rw c.overwritten_by-left.ensures.root
    (over-map g.K.AsBytes.bytes g.K.AsBytes.is_key g.row.PREFIX_LEN c.self.inside.arena c.self.inside.root c.self.invariant c.insert_over.new.arena c.args.key c.args.value c.in-Ok.put c.as_bytes.ensures.key
    (c.in-Ok.ensures.ok (pairs_from c.self.inside.arena c.self.inside.root) []
    (subst (λ k. CanPutOver g.K.AsBytes.bytes g.row.PREFIX_LEN c.self.inside.arena c.find_place_over-place.result k
    (pairs_from c.self.inside.arena c.self.inside.root) []) c.as_bytes.ensures.value
    (c.find_place_over-place.ensures (pairs_from c.self.inside.arena c.self.inside.root) [] c.self.invariant.has))))

pub invariant_of-self-in-Err : goal.invariant_of-self-in-Err
invariant_of-self-in-Err g c = same-map g.K.AsBytes.bytes g.K.AsBytes.is_key g.row.PREFIX_LEN c.self.inside.arena c.self.inside.root c.self.invariant c.insert_over.new.arena c.in-Err.ensures.err

pub returns-in-Ok-clause-count : goal.returns-in-Ok-clause-count
returns-in-Ok-clause-count g c =
    rw (← c.self.view_is)
    (c.overwritten_by-left.ensures.count
    ∙ over-count g.K.AsBytes.bytes g.K.AsBytes.is_key g.row.PREFIX_LEN c.self.inside.arena c.self.inside.root c.self.invariant c.insert_over.new.arena c.args.key c.args.value c.in-Ok.put
    (c.in-Ok.ensures.ok (pairs_from c.self.inside.arena c.self.inside.root) []
    (subst (λ k. CanPutOver g.K.AsBytes.bytes g.row.PREFIX_LEN c.self.inside.arena c.find_place_over-place.result k
    (pairs_from c.self.inside.arena c.self.inside.root) []) c.as_bytes.ensures.value
    (c.find_place_over-place.ensures (pairs_from c.self.inside.arena c.self.inside.root) [] c.self.invariant.has))))

pub returns-in-Ok-clause-pairs : goal.returns-in-Ok-clause-pairs
returns-in-Ok-clause-pairs g c =
    rw (← c.self.view_is, c.overwritten_by-left.ensures.root)
    (over-pairs g.K.AsBytes.bytes g.K.AsBytes.is_key g.row.PREFIX_LEN c.self.inside.arena c.self.inside.root c.self.invariant c.insert_over.new.arena c.args.key c.args.value c.in-Ok.put
    (c.in-Ok.ensures.ok (pairs_from c.self.inside.arena c.self.inside.root) []
    (subst (λ k. CanPutOver g.K.AsBytes.bytes g.row.PREFIX_LEN c.self.inside.arena c.find_place_over-place.result k
    (pairs_from c.self.inside.arena c.self.inside.root) []) c.as_bytes.ensures.value
    (c.find_place_over-place.ensures (pairs_from c.self.inside.arena c.self.inside.root) [] c.self.invariant.has))))

pub returns-in-Err-clause-stored : goal.returns-in-Err-clause-stored
returns-in-Err-clause-stored g c =
    rw (← c.self.view_is)
    (c.in-Err.ensures.stored (pairs_from c.self.inside.arena c.self.inside.root) []
    (subst (λ k. CanPutOver g.K.AsBytes.bytes g.row.PREFIX_LEN c.self.inside.arena c.find_place_over-place.result k
    (pairs_from c.self.inside.arena c.self.inside.root) []) c.as_bytes.ensures.value
    (c.find_place_over-place.ensures (pairs_from c.self.inside.arena c.self.inside.root) [] c.self.invariant.has)))

pub returns-in-Err-clause-err : goal.returns-in-Err-clause-err
returns-in-Err-clause-err g c =
    rw (← c.self.view_is) (same-pairs g.K.AsBytes.bytes g.K.AsBytes.is_key g.row.PREFIX_LEN c.self.inside.arena c.self.inside.root c.self.invariant c.insert_over.new.arena c.in-Err.ensures.err)

pub returns-in-Ok-clause-leaf : goal.returns-in-Ok-clause-leaf
returns-in-Ok-clause-leaf g c =
    rw c.overwritten_by-left.ensures.leaf
    (c.in-Ok.ensures.ok (pairs_from c.self.inside.arena c.self.inside.root) []
    (subst (λ k. CanPutOver g.K.AsBytes.bytes g.row.PREFIX_LEN c.self.inside.arena c.find_place_over-place.result k
    (pairs_from c.self.inside.arena c.self.inside.root) []) c.as_bytes.ensures.value
    (c.find_place_over-place.ensures (pairs_from c.self.inside.arena c.self.inside.root) [] c.self.invariant.has))).leaf

pub returns-in-Ok-clause-names : goal.returns-in-Ok-clause-names
returns-in-Ok-clause-names g c =
    let bytes = g.K.AsBytes.bytes in
    let arena = c.self.inside.arena in
    let pairs = pairs_from arena c.self.inside.root in
    let can = subst (λ k. CanPutOver bytes g.row.PREFIX_LEN arena c.find_place_over-place.result k pairs []) c.as_bytes.ensures.value (c.find_place_over-place.ensures pairs [] c.self.invariant.has) in
    let has = over-pairs bytes g.K.AsBytes.is_key g.row.PREFIX_LEN arena c.self.inside.root c.self.invariant c.insert_over.new.arena c.args.key c.args.value c.in-Ok.put (c.in-Ok.ensures.ok pairs [] can) in
    rw (← c.self.view_is, c.overwritten_by-left.ensures.root) (subst (λ ps. KeepsLeavesOf bytes ps arena c.insert_over.new.arena) (sym has) (c.in-Ok.ensures.names pairs [] can))

pub returns-in-Ok-clause-room : goal.returns-in-Ok-clause-room
returns-in-Ok-clause-room g c = rw (← c.self.view_is) c.insert_over.ensures.room

pub returns-in-Ok-clause-stored_room : goal.returns-in-Ok-clause-stored_room
returns-in-Ok-clause-stored_room g c =
    rw (← c.self.view_is)
    (c.insert_over.ensures.stored_room (pairs_from c.self.inside.arena c.self.inside.root) []
    (subst (λ k. CanPutOver g.K.AsBytes.bytes g.row.PREFIX_LEN c.self.inside.arena c.find_place_over-place.result k
    (pairs_from c.self.inside.arena c.self.inside.root) []) c.as_bytes.ensures.value
    (c.find_place_over-place.ensures (pairs_from c.self.inside.arena c.self.inside.root) [] c.self.invariant.has)))

pub returns-in-Err-clause-room : goal.returns-in-Err-clause-room
returns-in-Err-clause-room g c = rw (← c.self.view_is) c.insert_over.ensures.room

pub returns-in-Err-clause-stored_room : goal.returns-in-Err-clause-stored_room
returns-in-Err-clause-stored_room g c =
    rw (← c.self.view_is)
    (c.insert_over.ensures.stored_room (pairs_from c.self.inside.arena c.self.inside.root) []
    (subst (λ k. CanPutOver g.K.AsBytes.bytes g.row.PREFIX_LEN c.self.inside.arena c.find_place_over-place.result k
    (pairs_from c.self.inside.arena c.self.inside.root) []) c.as_bytes.ensures.value
    (c.find_place_over-place.ensures (pairs_from c.self.inside.arena c.self.inside.root) [] c.self.invariant.has)))

pub returns-in-Ok-clause-leaf_room : goal.returns-in-Ok-clause-leaf_room
returns-in-Ok-clause-leaf_room g c =
    rw (← c.self.view_is) (subst (λ n. SwapsLeaves 1 n c.self.inside.arena c.insert_over.new.arena) (sym c.overwritten_by-left.ensures.count) c.in-Ok.ensures.leaf_room)
