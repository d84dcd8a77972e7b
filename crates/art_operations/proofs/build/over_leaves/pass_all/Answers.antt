use Rattle.std.proofs.Common.{◌-◌, suc, List, length, Some, ap, sym, subst, ◌∙◌, refl, arith, lit<}
use Rattle.art_arena.proofs.Common.{LeafAt}
use Rattle.art_operations.proofs.Terms.{HasNodeRoom, HasRoomAround}
use Rattle.art_operations.proofs.InnerRooms.{fewer-to-come}
use Rattle.art_operations.proofs.PassedLeaves.{all-passed, can-pass, few-left, follows, none-left, one-passed, starts}
use Rattle.art_operations.proofs.Rebuilding.{last-is-held}
use Rattle.art_operations.proofs.build.over_leaves.pass_all.Goals as goal

pub walk-init : goal.walk-init
walk-init g c = record {
  passed = λ ls order. starts g.K.AsBytes.bytes g.row.PREFIX_LEN c.args.arena.now c.args.spine.now c.args.first c.args.leaves ls c.requires.empty order;
  leaves = λ slot. refl;
  room = c.requires.room;
  within = omega arith;
  nodes = λ more room. subst (HasNodeRoom c.args.arena.now c.args.spine.now) (omega arith) room;
  around = λ n room. subst (HasRoomAround c.args.arena.now c.args.spine.now) (omega arith) room;
  leaf_room = λ n room. room;
}

pub as_ref-requires : goal.as_ref-requires
as_ref-requires g c =
    let r = c.requires.order in
    let are = c.walk.invariant.passed r.0 r.1 in
    (lit< tt, last-is-held g.K.AsBytes.bytes g.row.PREFIX_LEN c.walk.arena c.walk.spine c.walk.last are.rest r.0 are.up_to)

pub returns-in_default-clause-passed : goal.returns-in_default-clause-passed
returns-in_default-clause-passed g c = λ ls order.
    all-passed g.K.AsBytes.bytes g.row.PREFIX_LEN c.args.arena.now c.walk.arena c.walk.spine c.walk.last c.walk.left c.args.leaves (Some c.args.first) ls order c.walk.invariant.leaves (c.walk.invariant.passed ls order) c.as_ref.result.now c.as_ref.ensures
    (sym c.next.ensures ∙ c.in_default.is)

pub returns-in_default-clause-room : goal.returns-in_default-clause-room
returns-in_default-clause-room g c =
    let r = c.requires.order in
    let few = few-left g.K.AsBytes.bytes g.row.PREFIX_LEN c.walk.arena c.walk.spine c.walk.last c.walk.left c.args.leaves r.0 (c.walk.invariant.passed r.0 r.1) r.2 in
    fewer-to-come c.walk.arena c.walk.spine 1 c.walk.left (omega (arith, few)) c.walk.invariant.room

pub returns-in_default-clause-nodes : goal.returns-in_default-clause-nodes
returns-in_default-clause-nodes g c = λ ls order most more room.
    let are = c.walk.invariant.passed ls order in
    let all = none-left g.K.AsBytes.bytes g.row.PREFIX_LEN are.rest (sym (follows g.K.AsBytes.bytes g.row.PREFIX_LEN c.args.arena.now c.walk.arena c.walk.spine c.walk.last c.walk.left c.args.leaves (Some c.args.first) ls order c.walk.invariant.leaves are c.as_ref.result.now c.as_ref.ensures)
    ∙ (sym c.next.ensures ∙ c.in_default.is)) in
    let none = ap (λ (rest : List (LeafAt g.row.K.Denot g.row.V.Denot)). length rest) all in
    let count = are.count most in
    let within = c.walk.invariant.within in
    c.walk.invariant.nodes (suc more) (subst (HasNodeRoom c.args.arena.now c.args.spine.now) (omega (arith, none, count, within)) room)

pub returns-in_default-clause-around : goal.returns-in_default-clause-around
returns-in_default-clause-around g c = λ ls order most n room.
    let are = c.walk.invariant.passed ls order in
    let all = none-left g.K.AsBytes.bytes g.row.PREFIX_LEN are.rest (sym (follows g.K.AsBytes.bytes g.row.PREFIX_LEN c.args.arena.now c.walk.arena c.walk.spine c.walk.last c.walk.left c.args.leaves (Some c.args.first) ls order c.walk.invariant.leaves are c.as_ref.result.now c.as_ref.ensures)
    ∙ (sym c.next.ensures ∙ c.in_default.is)) in
    let none = ap (λ (rest : List (LeafAt g.row.K.Denot g.row.V.Denot)). length rest) all in
    let count = are.count most in
    let within = c.walk.invariant.within in
    c.walk.invariant.around n (subst (HasRoomAround c.args.arena.now c.args.spine.now) (omega (arith, none, count, within)) room)

pub pass_to-requires : goal.pass_to-requires
pass_to-requires g c =
    let r = c.requires.order in
    let are = c.walk.invariant.passed r.0 r.1 in
    let some = sym c.next.ensures ∙ c.in-Some.is in
    let few = few-left g.K.AsBytes.bytes g.row.PREFIX_LEN c.walk.arena c.walk.spine c.walk.last c.walk.left c.args.leaves r.0 are r.2 in (
      omega arith,
      (
        (
          _,
          r.0,
          can-pass g.K.AsBytes.bytes g.row.PREFIX_LEN c.args.arena.now c.walk.arena c.walk.spine c.walk.last c.walk.left c.args.leaves (Some c.args.first) r.0 r.1 c.walk.invariant.leaves are c.as_ref.result.now c.as_ref.ensures c.in-Some.next some,
        ),
        (c.walk.left - 1, fewer-to-come c.walk.arena c.walk.spine (suc (c.walk.left - 1)) c.walk.left (omega (arith, few)) c.walk.invariant.room),
      ),
    )

pub walk-preserved : goal.walk-preserved
walk-preserved g c =
    let r = c.requires.order in
    let few = few-left g.K.AsBytes.bytes g.row.PREFIX_LEN c.walk.arena c.walk.spine c.walk.last c.walk.left c.args.leaves r.0 (c.walk.invariant.passed r.0 r.1) r.2 in
    record {
      passed = λ ls order.
          let are = c.walk.invariant.passed ls order in
          let some = sym c.next.ensures ∙ c.in-Some.is in
          let can = can-pass g.K.AsBytes.bytes g.row.PREFIX_LEN c.args.arena.now c.walk.arena c.walk.spine c.walk.last c.walk.left c.args.leaves (Some c.args.first) ls order c.walk.invariant.leaves are c.as_ref.result.now c.as_ref.ensures c.in-Some.next some in
          one-passed g.K.AsBytes.bytes g.row.PREFIX_LEN c.args.arena.now c.walk.arena c.walk.spine c.walk.last c.walk.left c.args.leaves (Some c.args.first) ls order c.walk.invariant.leaves are c.as_ref.result.now c.as_ref.ensures c.in-Some.next some
          c.pass_to.new.arena c.pass_to.new.spine (c.walk.left - 1) (c.pass_to.ensures.passes _ ls can) refl;
      leaves = λ slot. c.pass_to.ensures.leaves slot ∙ c.walk.invariant.leaves slot;
      room = c.pass_to.ensures.room (c.walk.left - 1) (fewer-to-come c.walk.arena c.walk.spine (suc (c.walk.left - 1)) c.walk.left (omega (arith, few)) c.walk.invariant.room);
      within = let within = c.walk.invariant.within in omega (arith, within);
      nodes = λ more room.
          let within = c.walk.invariant.within in
          c.pass_to.ensures.nodes more (c.walk.invariant.nodes (suc more) (subst (HasNodeRoom c.args.arena.now c.args.spine.now) (omega (arith, few, within)) room));
      around = λ n room.
          let within = c.walk.invariant.within in
          c.pass_to.ensures.around n (c.walk.invariant.around (suc n) (subst (HasRoomAround c.args.arena.now c.args.spine.now) (omega (arith, few, within)) room));
      leaf_room = λ n room. c.pass_to.ensures.leaf_room n (c.walk.invariant.leaf_room n room);
    }

pub walk-smaller : goal.walk-smaller
walk-smaller g c =
    let r = c.requires.order in
    let few = few-left g.K.AsBytes.bytes g.row.PREFIX_LEN c.walk.arena c.walk.spine c.walk.last c.walk.left c.args.leaves r.0 (c.walk.invariant.passed r.0 r.1) r.2 in
    omega (arith, few)
