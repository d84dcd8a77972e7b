use Rattle.std.proofs.Common.{◌≡◌, [], None, Some, refl, sym, subst, arith}
use Rattle.art_arena.proofs.Common.{leaves, nodes-subtree}
use Rattle.art_operations.proofs.Terms.{StandsInList, HasPairs}
use Rattle.art_operations.proofs.KeptLeaves.{kept-leaves, none-in-order}
use Rattle.art_operations.proofs.LeafListsOrdered.{after-all}
use Rattle.art_operations.proofs.leaf_list.LeafCursor.after_leaves.Goals as goal

pub minimum_unchecked-first-requires : goal.minimum_unchecked-first-requires
minimum_unchecked-first-requires g c =
    let r = c.requires in
    let has = subst (λ root. HasPairs g.K.AsBytes.bytes g.row.PREFIX_LEN c.args.arena.now root r.0) c.in-Some.is r.1 in
    (omega arith, ([], has.0, nodes-subtree g.K.AsBytes.bytes g.row.PREFIX_LEN _ _ has.0 has.1.nodes))

pub maximum_unchecked-last-requires : goal.maximum_unchecked-last-requires
maximum_unchecked-last-requires g c =
    let r = c.requires in
    let has = subst (λ root. HasPairs g.K.AsBytes.bytes g.row.PREFIX_LEN c.args.arena.now root r.0) c.in-Some.is r.1 in
    (omega arith, ([], has.0, nodes-subtree g.K.AsBytes.bytes g.row.PREFIX_LEN _ _ has.0 has.1.nodes))

pub returns-clause-list : goal.returns-clause-list
returns-clause-list g c = λ pairs is.
    let has = subst (λ root. HasPairs g.K.AsBytes.bytes g.row.PREFIX_LEN c.args.arena.now root pairs) c.in-Some.is is in
    let below = nodes-subtree g.K.AsBytes.bytes g.row.PREFIX_LEN _ _ has.0 has.1.nodes in
    let first = Some c.minimum_unchecked-first.result in
    let last = Some c.maximum_unchecked-last.result in
    let order = kept-leaves g.K.AsBytes.bytes g.row.PREFIX_LEN c.args.arena.now c.clear_inner-2.new.self c.clear_inner-2.ensures.leaves c.clear_inner-2.ensures.vacant c.in-Some.top has.0 has.1 first (c.minimum_unchecked-first.ensures [] has.0 below) in
    subst (λ ps. (among : StandsInList c.clear_inner-2.new.self (record { first = first; before = last; after = None }) g.K.AsBytes.bytes ps) × (among.back ≡ [])) has.2
    (after-all g.K.AsBytes.bytes c.clear_inner-2.new.self first last (leaves has.0) order (c.maximum_unchecked-last.ensures [] has.0 below))

pub returns-in_default-clause-list : goal.returns-in_default-clause-list
returns-in_default-clause-list g c = λ pairs is.
    let has = subst (λ root. HasPairs g.K.AsBytes.bytes g.row.PREFIX_LEN c.args.arena.now root pairs) c.in_default.is is in
    let order = none-in-order g.K.AsBytes.bytes g.row.PREFIX_LEN c.args.arena.now c.clear_inner.new.self c.clear_inner.ensures.leaves c.clear_inner.ensures.vacant pairs has in
    subst (λ ps. (among : StandsInList c.clear_inner.new.self (record { first = None; before = None; after = None }) g.K.AsBytes.bytes ps) × (among.back ≡ [])) (sym has.0)
    (after-all g.K.AsBytes.bytes c.clear_inner.new.self None None [] order refl)
