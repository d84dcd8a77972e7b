use Rattle.std.proofs.Common.{[], length, refl, sym, ap, subst, ◌∙◌, ◌*◌, arith}
use Rattle.std.proofs.lemmas.Result.{on_ok_weaker}
use Rattle.art_arena.proofs.Common.{IsIn}
use Rattle.art_map.proofs.Terms.{with_pairs_put}
use Rattle.art_map.proofs.Asks.{none-left, one-left}
use Rattle.art_map.proofs.Puts.{put-after}
use Rattle.art_operations.proofs.NewNodes.{fewer}
use Rattle.art_map.proofs.RoomUsed.{none-used-of, none-uses, uses-more}
use Rattle.art_map.proofs.map.TreeMap.append.Goals as goal

pub returns-then-is_empty-2-clause-pairs : goal.returns-then-is_empty-2-clause-pairs
returns-then-is_empty-2-clause-pairs g c =
    ap (λ m. m.pairs) c.swap.ensures.x_after
    ∙ sym (ap (with_pairs_put g.K.AsBytes.bytes c.args.other.now.pairs) (none-left c.args.self.now.pairs c.is_empty-2.ensures c.if-is_empty-2.true) ∙ put-after g.K.AsBytes.bytes [] c.args.other.now.pairs c.nodes-root.ensures.ordered)

pub append_by_search-requires : goal.append_by_search-requires
append_by_search-requires g c = (omega arith, c.if-not-fits_in_memory.ensures.value refl)

pub returns-then-is_empty-2-clause-names : goal.returns-then-is_empty-2-clause-names
returns-then-is_empty-2-clause-names g c = λ slot key has.
    let listed = c.name_leaves.ensures.listed slot key has in
    let none = subst (IsIn listed.0) (none-left c.args.self.now.pairs c.is_empty-2.ensures c.if-is_empty-2.true) listed.1 in
    absurd none

pub returns-then-is_empty-clause-swapped : goal.returns-then-is_empty-clause-swapped
returns-then-is_empty-clause-swapped g c = λ none some. absurd (some (none-left c.args.other.now.pairs c.is_empty.ensures c.if-is_empty.true))

pub returns-then-is_empty-2-clause-nothing : goal.returns-then-is_empty-2-clause-nothing
returns-then-is_empty-2-clause-nothing g c = λ none. absurd (let some = one-left c.args.other.now.pairs c.is_empty.ensures c.if-is_empty.false in let long = ap length none in omega (arith, some, long))

pub returns-then-is_empty-2-clause-swapped : goal.returns-then-is_empty-2-clause-swapped
returns-then-is_empty-2-clause-swapped g c = λ none some. (c.swap.ensures.x_after, c.swap.ensures.y_after)

pub returns-then-is_empty-2-clause-leaf_room : goal.returns-then-is_empty-2-clause-leaf_room
returns-then-is_empty-2-clause-leaf_room g c = λ some. absurd (some (none-left c.args.self.now.pairs c.is_empty-2.ensures c.if-is_empty-2.true))

pub returns-then-is_empty-2-clause-room : goal.returns-then-is_empty-2-clause-room
returns-then-is_empty-2-clause-room g c = λ some. absurd (some (none-left c.args.self.now.pairs c.is_empty-2.ensures c.if-is_empty-2.true))

pub returns-then-is_empty-clause-leaf_room : goal.returns-then-is_empty-clause-leaf_room
returns-then-is_empty-clause-leaf_room g c = λ some. none-uses c.args.self.now.nodes _

pub returns-then-is_empty-clause-room : goal.returns-then-is_empty-clause-room
returns-then-is_empty-clause-room g c = λ some. none-used-of c.args.self.now.nodes _

pub returns-then-is_empty-clause-freed : goal.returns-then-is_empty-clause-freed
returns-then-is_empty-clause-freed g c = λ some others. absurd (others (none-left c.args.other.now.pairs c.is_empty.ensures c.if-is_empty.true))

pub returns-then-is_empty-2-clause-freed : goal.returns-then-is_empty-2-clause-freed
returns-then-is_empty-2-clause-freed g c = λ some others. absurd (some (none-left c.args.self.now.pairs c.is_empty-2.ensures c.if-is_empty-2.true))

pub returns-then-len-clause-freed : goal.returns-then-len-clause-freed
returns-then-len-clause-freed g c = on_ok_weaker c.append_by_search.result (λ freed some others. freed) c.append_by_search.ensures.freed

pub returns-clause-freed : goal.returns-clause-freed
returns-clause-freed g c = on_ok_weaker c.append_many.result (λ freed some others. freed) c.append_many.ensures.freed

pub returns-then-not-fits_in_memory-clause-succeeds : goal.returns-then-not-fits_in_memory-clause-succeeds
returns-then-not-fits_in_memory-clause-succeeds g c = λ room.
    let some = one-left c.args.other.now.pairs c.is_empty.ensures c.if-is_empty.false in
    let never = c.if-not-fits_in_memory.ensures.room (fewer c.args.self.now.nodes 1 (2 * length c.args.other.now.pairs) (omega (arith, some)) room) in
    absurd (cc)

pub returns-then-len-clause-leaf_room : goal.returns-then-len-clause-leaf_room
returns-then-len-clause-leaf_room g c = on_ok_weaker c.append_by_search.result (λ uses some. uses) c.append_by_search.ensures.leaf_room

pub returns-then-len-clause-room : goal.returns-then-len-clause-room
returns-then-len-clause-room g c =
    on_ok_weaker c.append_by_search.result
    (λ uses some. uses-more (2 * length c.args.other.now.pairs) (4 * length c.args.other.now.pairs) c.args.self.now.nodes c.append_by_search.new.self.nodes (omega arith) uses) c.append_by_search.ensures.room

pub returns-clause-leaf_room : goal.returns-clause-leaf_room
returns-clause-leaf_room g c = on_ok_weaker c.append_many.result (λ uses some. uses) c.append_many.ensures.leaf_room

pub returns-clause-room : goal.returns-clause-room
returns-clause-room g c = on_ok_weaker c.append_many.result (λ uses some. uses) c.append_many.ensures.room

pub append_many-requires : goal.append_many-requires
append_many-requires g c =
    let few = c.if-len.false in
    let here = c.len-2.ensures in
    let other = c.len.ensures in
    (omega arith, (c.if-not-fits_in_memory.ensures.value refl, omega (arith, few, here, other)))
