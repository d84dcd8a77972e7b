use Rattle.art_nodes.specs.declared.kind.NodeType.TheVariants.{Node4, Node16, Node32, Node48, Node256}
use Rattle.art_operations.proofs.InnerRooms.{all-kinds}
use Rattle.art_operations.proofs.build.spine.reserve_inner.Goals as goal

pub returns-clause-room : goal.returns-clause-room
returns-clause-room g c =
    all-kinds c.reserve_over.new.arena c.reserve_over-2.new.arena c.reserve_over-3.new.arena c.reserve_over-4.new.arena c.reserve_over-5.new.arena c.args.leaves
    c.in_ok-reserve_over.ensures.room c.reserve_over-2.ensures.kept_room c.in_ok-reserve_over-2.ensures.room c.reserve_over-3.ensures.kept_room c.in_ok-reserve_over-3.ensures.room
    c.reserve_over-4.ensures.kept_room c.in_ok-reserve_over-4.ensures.room c.reserve_over-5.ensures.kept_room c.in_ok-reserve_over-5.ensures.room

pub returns-in_err-reserve_over-clause-succeeds : goal.returns-in_err-reserve_over-clause-succeeds
returns-in_err-reserve_over-clause-succeeds g c = λ some room.
    let ok = c.in_err-reserve_over.ensures.succeeds some (room Node4 (λ e. cc)) in
    absurd (cc)

pub returns-in_err-reserve_over-2-clause-succeeds : goal.returns-in_err-reserve_over-2-clause-succeeds
returns-in_err-reserve_over-2-clause-succeeds g c = λ some room.
    let ok = c.in_err-reserve_over-2.ensures.succeeds some (λ n few. c.reserve_over.ensures.kept_room Node16 n (room Node16 (λ e. cc) n few)) in
    absurd (cc)

pub returns-in_err-reserve_over-3-clause-succeeds : goal.returns-in_err-reserve_over-3-clause-succeeds
returns-in_err-reserve_over-3-clause-succeeds g c = λ some room.
    let ok = c.in_err-reserve_over-3.ensures.succeeds some (λ n few. c.reserve_over-2.ensures.kept_room Node32 n (c.reserve_over.ensures.kept_room Node32 n (room Node32 (λ e. cc) n few))) in
    absurd (cc)

pub returns-in_err-reserve_over-4-clause-succeeds : goal.returns-in_err-reserve_over-4-clause-succeeds
returns-in_err-reserve_over-4-clause-succeeds g c = λ some room.
    let ok = c.in_err-reserve_over-4.ensures.succeeds some (λ n few. c.reserve_over-3.ensures.kept_room Node48 n (c.reserve_over-2.ensures.kept_room Node48 n (c.reserve_over.ensures.kept_room Node48 n (room Node48 (λ e. cc) n few)))) in
    absurd (cc)

pub returns-in_err-reserve_over-5-clause-succeeds : goal.returns-in_err-reserve_over-5-clause-succeeds
returns-in_err-reserve_over-5-clause-succeeds g c = λ some room.
    let ok = c.in_err-reserve_over-5.ensures.succeeds some (λ n few. c.reserve_over-4.ensures.kept_room Node256 n (c.reserve_over-3.ensures.kept_room Node256 n (c.reserve_over-2.ensures.kept_room Node256 n (c.reserve_over.ensures.kept_room Node256 n (room Node256 (λ e. cc) n few))))) in
    absurd (cc)
