use Rattle.std.proofs.Common.{◌+◌, ◌-◌, ◌≤◌, length, [], Some, sym, ap, subst, arith}
use Rattle.art_operations.proofs.Terms.{HasInnerRoom, HoldsInOrder}
use Rattle.art_operations.proofs.InnerRooms.{fewer-leaves, fresh-room, made-all}
use Rattle.art_operations.proofs.NewNodes.{fewer}
use Rattle.art_operations.proofs.PassedLeaves.{none-rebuilt, rebuilt, some-left}
use Rattle.art_operations.proofs.Results.{never}
use Rattle.art_operations.proofs.Rebuilding.{last-stands}
use Rattle.art_operations.proofs.Unmade.{around-room, fresh-around}
use Rattle.art_operations.proofs.build.over_leaves.rebuild.Goals as goal

pub returns-in_default-clause-tree : goal.returns-in_default-clause-tree
returns-in_default-clause-tree g c = λ ls order. none-rebuilt g.K.AsBytes.bytes g.row.PREFIX_LEN c.args.arena.now ls (subst (λ f. HoldsInOrder g.K.AsBytes.bytes c.args.arena.now f ls) c.in_default.is order)

pub pass_all-last-requires : goal.pass_all-last-requires
pass_all-last-requires g c =
    let r = c.requires.order in
    let view = c.room.view_is in
    let fresh = c.room.invariant in (
      omega arith,
      (
        (r.0, subst (λ f. HoldsInOrder g.K.AsBytes.bytes c.args.arena.now f r.0) c.in-Some.is r.1, subst (λ n. length r.0 ≤ n) (sym view) r.2),
        (fresh.empty, fresh-room c.args.arena.now c.room.inside.spine c.room.inside.leaves fresh (subst (HasInnerRoom c.args.arena.now) (sym view) c.requires.room)),
      ),
    )

pub close-requires : goal.close-requires
close-requires g c =
    let r = c.requires.order in
    let up = c.pass_all-last.ensures.passed r.0 (subst (λ f. HoldsInOrder g.K.AsBytes.bytes c.args.arena.now f r.0) c.in-Some.is r.1) in
    (omega arith, ([], (_, _, last-stands g.K.AsBytes.bytes g.row.PREFIX_LEN c.pass_all-last.new.arena c.pass_all-last.new.spine c.pass_all-last.result [] r.0 up 0)))

pub unreachable-requires : goal.unreachable-requires
unreachable-requires g c = never c.close.result (c.close.ensures.succeeds 0 c.pass_all-last.ensures.room) (λ x e. c.in_default-close.not-Ok x e)

pub returns-clause-tree : goal.returns-clause-tree
returns-clause-tree g c = λ ls order.
    let here = subst (λ f. HoldsInOrder g.K.AsBytes.bytes c.args.arena.now f ls) c.in-Some.is order in
    let up = c.pass_all-last.ensures.passed ls here in
    rebuilt g.K.AsBytes.bytes g.row.PREFIX_LEN c.args.arena.now c.pass_all-last.new.arena c.close.new.arena c.pass_all-last.new.spine c.close.new.spine (Some c.in-Some.start) c.pass_all-last.result c.in-Ok.root ls here up
    (c.in-Ok.ensures.ok [] _ _ (last-stands g.K.AsBytes.bytes g.row.PREFIX_LEN c.pass_all-last.new.arena c.pass_all-last.new.spine c.pass_all-last.result [] ls up 0)) c.in-Ok.ensures.closed c.pass_all-last.ensures.leaves c.in-Ok.ensures.leaves

pub returns-in_default-clause-inner_room : goal.returns-in_default-clause-inner_room
returns-in_default-clause-inner_room g c = λ ls order most more room. fewer-leaves c.args.arena.now more (length ls - 1 + more) (omega arith) room

pub returns-clause-inner_room : goal.returns-clause-inner_room
returns-clause-inner_room g c = λ ls order most more room.
    let here = subst (λ f. HoldsInOrder g.K.AsBytes.bytes c.args.arena.now f ls) c.in-Some.is order in
    let start = some-left g.K.AsBytes.bytes g.row.PREFIX_LEN ls c.in-Some.start here.first_is in
    let long = ap length start.is in
    let view = c.room.view_is in
    let passed = c.pass_all-last.ensures.nodes ls here (subst (λ n. length ls ≤ n) (sym view) most) in
    made-all c.args.arena.now c.pass_all-last.new.arena c.close.new.arena c.room.inside.spine c.pass_all-last.new.spine c.close.new.spine (length ls) c.room.invariant.empty (omega (arith, long)) passed c.in-Ok.ensures.room.nodes more room

pub returns-clause-leaf_room : goal.returns-clause-leaf_room
returns-clause-leaf_room g c = λ n room. c.in-Ok.ensures.room.leaves n (c.pass_all-last.ensures.leaf_room n room)

pub returns-in_default-clause-room : goal.returns-in_default-clause-room
returns-in_default-clause-room g c = λ ls order most n room. fewer c.args.arena.now n (n + (length ls - 1)) (omega arith) room

pub returns-clause-room : goal.returns-clause-room
returns-clause-room g c = λ ls order most n room.
    let here = subst (λ f. HoldsInOrder g.K.AsBytes.bytes c.args.arena.now f ls) c.in-Some.is order in
    let passed = c.pass_all-last.ensures.around ls here (subst (λ k. length ls ≤ k) (sym c.room.view_is) most) n in
    around-room c.close.new.arena c.close.new.spine n (c.in-Ok.ensures.room.around n (passed (fresh-around c.args.arena.now c.room.inside.spine (n + (length ls - 1)) c.room.invariant.empty room)))
