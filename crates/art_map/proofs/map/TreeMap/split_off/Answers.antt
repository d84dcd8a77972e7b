use Rattle.std.proofs.Common.{◌≡◌, ◌*◌, [], length, refl, sym, ap, subst, ◌∙◌, arith, length-append}
use Rattle.std.proofs.lemmas.Bool.Decides.{nat_tests}
use Rattle.std.proofs.lemmas.List.{append-nil}
use Rattle.art_map.proofs.Joins.{all-from, below, from, last-moved, part-empty, parts-long}
use Rattle.art_arena.proofs.Common.{HasRoomOf}
use Rattle.art_arena.specs.arena.Arena.{HasNoRoom, UsesRoom}
use Rattle.art_nodes.specs.declared.kind.NodeType.TheVariants.{Leaf}
use Rattle.art_operations.specs.Frees.{FreesLeaves}
use Rattle.art_map.proofs.LeafNames.{kept-names}
use Rattle.art_map.proofs.RoomUsed.{none-used-of}
use Rattle.art_map.proofs.map.TreeMap.split_off.Goals as goal
use Rattle.art_map.proofs.map.TreeMap.split_off.Goals.{In_ok-off}

pub returns-then-count-len-clause-off : goal.returns-then-count-len-clause-off
returns-then-count-len-clause-off g c =
    let count = c.count_from-count in
    let same : count.result ≡ c.len.result = omega (arith, nat_tests, c.if-count-len.true) in
    let all = all-from g.K.AsBytes.bytes c.as_bytes.result.now c.args.self.now.pairs count.ensures.ordered (sym count.ensures.count ∙ same ∙ c.len.ensures) in
    ap (λ m. m.pairs) c.swap.ensures.y_after ∙ sym all.1 ∙ ap (λ q. from g.K.AsBytes.bytes q c.args.self.now.pairs) c.as_bytes.ensures.value

pub returns-then-count-len-clause-pairs : goal.returns-then-count-len-clause-pairs
returns-then-count-len-clause-pairs g c =
    let count = c.count_from-count in
    let same : count.result ≡ c.len.result = omega (arith, nat_tests, c.if-count-len.true) in
    let all = all-from g.K.AsBytes.bytes c.as_bytes.result.now c.args.self.now.pairs count.ensures.ordered (sym count.ensures.count ∙ same ∙ c.len.ensures) in
    ap (λ m. m.pairs) c.swap.ensures.x_after ∙ c.with_prefix_len-off.ensures.pairs ∙ sym all.0 ∙ ap (λ q. below g.K.AsBytes.bytes q c.args.self.now.pairs) c.as_bytes.ensures.value

pub split_last-requires : goal.split_last-requires
split_last-requires g c =
    let count = c.count_from-count in
    let parts = parts-long g.K.AsBytes.bytes c.as_bytes.result.now c.args.self.now.pairs count.ensures.ordered in
    let counted = count.ensures.count in
    let len = c.len.ensures in
    (omega arith, (c.if-not-nodes_fit.ensures.0 refl, omega (arith, nat_tests, c.if-count-len.false, parts, counted, len)))

-- what stayed, and what was moved
moved : (g : _) (c : In_ok-off g) → (c.split_last.new.self.pairs ≡ below g.K.AsBytes.bytes c.as_bytes.result.now c.args.self.now.pairs) × (c.in_ok-off.off.pairs ≡ from g.K.AsBytes.bytes c.as_bytes.result.now c.args.self.now.pairs)
moved g c =
    let count = c.count_from-count in
    last-moved g.K.AsBytes.bytes c.as_bytes.result.now c.args.self.now.pairs c.split_last.new.self.pairs c.in_ok-off.off.pairs c.args.self.now.pairs [] count.result count.ensures.ordered count.ensures.count
    refl refl (c.in_ok-off.ensures.joined ∙ sym (append-nil c.args.self.now.pairs)) c.in_ok-off.ensures.moved

pub returns-clause-off : goal.returns-clause-off
returns-clause-off g c = (moved g (goal.at.returns-clause-off g c).In_ok-off).1 ∙ ap (λ q. from g.K.AsBytes.bytes q c.args.self.now.pairs) c.as_bytes.ensures.value

pub returns-clause-pairs : goal.returns-clause-pairs
returns-clause-pairs g c = (moved g (goal.at.returns-clause-pairs g c).In_ok-off).0 ∙ ap (λ q. below g.K.AsBytes.bytes q c.args.self.now.pairs) c.as_bytes.ensures.value

pub returns-clause-names : goal.returns-clause-names
returns-clause-names g c = λ slot key has still.
    kept-names g.K.AsBytes.bytes c.args.self.now c.split_last.new.self c.name_leaves.ensures c.name_leaves-2.ensures c.in_ok-off.ensures.none_new slot key has still

-- where some are taken, and some stay
long-off : (g : _) (c : In_ok-off g) → length c.in_ok-off.off.pairs ≡ c.count_from-count.result
long-off g c =
    let both = sym (length-append c.split_last.new.self.pairs c.in_ok-off.off.pairs) ∙ ap length c.in_ok-off.ensures.joined in
    let moved = c.in_ok-off.ensures.moved in
    omega (arith, both, moved)

pub returns-then-count-len-clause-leaf_room : goal.returns-then-count-len-clause-leaf_room
returns-then-count-len-clause-leaf_room g c = λ some. absurd (some (ap (λ m. m.pairs) c.swap.ensures.x_after ∙ c.with_prefix_len-off.ensures.pairs))

pub returns-then-count-len-clause-room : goal.returns-then-count-len-clause-room
returns-then-count-len-clause-room g c = λ some. absurd (some (ap (λ m. m.pairs) c.swap.ensures.x_after ∙ c.with_prefix_len-off.ensures.pairs))

pub returns-then-count-len-clause-nothing : goal.returns-then-count-len-clause-nothing
returns-then-count-len-clause-nothing g c = λ none.
    let some = c.if-count-eq0.false in
    let same : c.count_from-count.result ≡ c.len.result = omega (arith, nat_tests, c.if-count-len.true) in
    let len = c.len.ensures in
    let gone = sym (ap (λ m. length m.pairs) c.swap.ensures.y_after) ∙ ap length none in
    absurd (omega (arith, nat_tests, some, same, len, gone))

pub returns-then-count-len-clause-swapped : goal.returns-then-count-len-clause-swapped
returns-then-count-len-clause-swapped g c = λ none some. (c.swap.ensures.y_after, subst (λ m. HasNoRoom m.nodes) (sym c.swap.ensures.x_after) c.with_prefix_len-off.ensures.no_room)

-- where none are taken
pub returns-then-count-eq0-clause-off : goal.returns-then-count-eq0-clause-off
returns-then-count-eq0-clause-off g c =
    let count = c.count_from-count in
    let none : count.result ≡ 0 = omega (arith, nat_tests, c.if-count-eq0.true) in
    let parts = last-moved g.K.AsBytes.bytes c.as_bytes.result.now c.args.self.now.pairs c.args.self.now.pairs [] c.args.self.now.pairs [] count.result count.ensures.ordered count.ensures.count refl refl refl (omega (arith, none)) in
    c.with_prefix_len.ensures.pairs ∙ parts.1 ∙ ap (λ q. from g.K.AsBytes.bytes q c.args.self.now.pairs) c.as_bytes.ensures.value

pub returns-then-count-eq0-clause-pairs : goal.returns-then-count-eq0-clause-pairs
returns-then-count-eq0-clause-pairs g c =
    let count = c.count_from-count in
    let none : count.result ≡ 0 = omega (arith, nat_tests, c.if-count-eq0.true) in
    let parts = last-moved g.K.AsBytes.bytes c.as_bytes.result.now c.args.self.now.pairs c.args.self.now.pairs [] c.args.self.now.pairs [] count.result count.ensures.ordered count.ensures.count refl refl refl (omega (arith, none)) in
    parts.0 ∙ ap (λ q. below g.K.AsBytes.bytes q c.args.self.now.pairs) c.as_bytes.ensures.value

pub returns-then-count-eq0-clause-names : goal.returns-then-count-eq0-clause-names
returns-then-count-eq0-clause-names g c = λ slot key has still. has

pub returns-then-count-eq0-clause-leaf_room : goal.returns-then-count-eq0-clause-leaf_room
returns-then-count-eq0-clause-leaf_room g c = λ some n room. subst (HasRoomOf c.args.self.now.nodes Leaf) (let none = ap length c.with_prefix_len.ensures.pairs in omega (arith, none)) room

pub returns-then-count-eq0-clause-room : goal.returns-then-count-eq0-clause-room
returns-then-count-eq0-clause-room g c = λ some. none-used-of c.args.self.now.nodes _

pub returns-then-count-eq0-clause-nothing : goal.returns-then-count-eq0-clause-nothing
returns-then-count-eq0-clause-nothing g c = λ none. (refl, c.with_prefix_len.ensures.no_room)

pub returns-then-count-eq0-clause-swapped : goal.returns-then-count-eq0-clause-swapped
returns-then-count-eq0-clause-swapped g c = λ none some. absurd (some c.with_prefix_len.ensures.pairs)

pub returns-clause-leaf_room : goal.returns-clause-leaf_room
returns-clause-leaf_room g c = λ some. subst (λ n. FreesLeaves n c.args.self.now.nodes c.split_last.new.self.nodes) (sym (long-off g (goal.at.returns-clause-leaf_room g c).In_ok-off)) c.in_ok-off.ensures.leaf_room

pub returns-clause-room : goal.returns-clause-room
returns-clause-room g c = λ some. subst (λ n. UsesRoom (4 * n) c.args.self.now.nodes c.split_last.new.self.nodes) (sym (long-off g (goal.at.returns-clause-room g c).In_ok-off)) c.in_ok-off.ensures.room

pub returns-clause-nothing : goal.returns-clause-nothing
returns-clause-nothing g c = λ none.
    let long = long-off g (goal.at.returns-clause-nothing g c).In_ok-off in
    let gone = ap length none in
    absurd (omega (arith, nat_tests, c.if-count-eq0.false, long, gone))

pub returns-clause-swapped : goal.returns-clause-swapped
returns-clause-swapped g c = λ none some.
    let count = c.count_from-count in
    let parts = parts-long g.K.AsBytes.bytes c.as_bytes.result.now c.args.self.now.pairs count.ensures.ordered in
    let counted = count.ensures.count in
    let len = c.len.ensures in
    let long = c.in_ok-off.ensures.moved in
    let gone = ap length none in
    absurd (omega (arith, nat_tests, c.if-count-len.false, parts, counted, len, long, gone))

pub returns-then-not-nodes_fit-clause-free : goal.returns-then-not-nodes_fit-clause-free
returns-then-not-nodes_fit-clause-free g c = λ fits some. let never = c.if-not-nodes_fit.ensures.1 fits in absurd (cc)

pub returns-in_err-off-clause-free : goal.returns-in_err-off-clause-free
returns-in_err-off-clause-free g c = λ fits some.
    let counted = c.count_from-count.ensures.count ∙ ap (λ q. length (from g.K.AsBytes.bytes q c.args.self.now.pairs)) c.as_bytes.ensures.value in
    let len = c.len.ensures in
    part-empty g.K.AsBytes.bytes (g.Q.AsBytes.bytes c.args.key.now) c.args.self.now.pairs c.count_from-count.result _ c.count_from-count.ensures.ordered counted
    (λ none. absurd (omega (arith, nat_tests, c.if-count-eq0.false, none))) (λ all. absurd (omega (arith, nat_tests, c.if-count-len.false, len, all))) some
