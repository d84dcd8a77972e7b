use Rattle.std.proofs.Common.{◌≡◌, ◌+◌, ◌<◌, ◌≤◌, ◌∷◌, [], ◌++◌, List, length, length-append, suc, IsSome, refl, sym, ap, ap₂, subst, ◌∙◌, arith, lit<, ℕ}
use Rattle.art_nodes.proofs.Common.{IsAscending, Name}
use Rattle.art_arena.proofs.Common.{IsKindOf, LeafAt, leaf_name}
use Rattle.art_operations.proofs.Terms.{HasSpineRoom, Open, begin_of}
use Rattle.art_operations.specs.inner.Reopening.{OpensTo}
use Rattle.art_operations.proofs.OpenRooms.{around-opened, still-to-open}
use Rattle.art_operations.proofs.Results.{on-err}
use Rattle.art_operations.proofs.PutBack.{same_inner}
use Rattle.art_operations.proofs.Reopening.{inner, opened-room, opens-child, opens-same, seen-inside, seen-kind, seen-room, seen-two}
use Rattle.art_operations.proofs.Spines.{begin-after}
use Rattle.art_operations.proofs.Unmade.{around-same}
use Rattle.art_operations.proofs.build.reopen.open_top.Goals as goal
use Rattle.art_operations.proofs.build.reopen.open_top.Goals.{After-prefix_len}

-- what was read of the node
module _ (g : _) (c : After-prefix_len g) where
  abbrev bytes : g.row.K.Denot → List ℕ
  bytes = g.K.AsBytes.bytes

  count-two : 2 ≤ c.num_children-count.result
  count-two =
      let r = c.requires.stands in
      let two = seen-two bytes g.row.PREFIX_LEN c.args.arena.now c.args.spine.now c.args.part r.0 r.1 r.2 c.requires.inner c.inner.result.node c.inner.ensures.value in
      let count = c.num_children-count.ensures in
      omega (arith, two, count)

  count-still : c.num_children-count.result ≡ length c.inner-inner.result.node.children
  count-still =
      c.num_children-count.ensures
      ∙ ap (λ (m : _). length m.children) (same_inner _ c.inner.result.node c.inner-inner.result.node (c.reserve.ensures.kept c.args.part ∙ c.inner.ensures.value) c.inner-inner.ensures.value)

  count-kind : IsKindOf c.args.part.kind c.num_children-count.result
  count-kind =
      let r = c.requires.stands in
      subst (IsKindOf c.args.part.kind) (sym c.num_children-count.ensures)
      (seen-kind bytes g.row.PREFIX_LEN c.args.arena.now c.args.spine.now c.args.part r.0 r.1 r.2 c.requires.inner c.inner.result.node c.inner.ensures.value)

  module _ (leaf : LeafAt g.row.K.Denot g.row.V.Denot) (ls : List (LeafAt g.row.K.Denot g.row.V.Denot)) (is : OpensTo bytes g.row.PREFIX_LEN c.args.arena.now c.args.spine.now c.args.part leaf ls) where
    moved : OpensTo bytes g.row.PREFIX_LEN c.reserve.new.arena c.reserve.new.self c.args.part leaf ls
    moved = opens-same bytes g.row.PREFIX_LEN c.args.arena.now c.reserve.new.arena c.args.spine.now c.reserve.new.self c.args.part leaf ls c.reserve.ensures.kept c.reserve.ensures.stack c.reserve.ensures.children is

    read-inside : c.begin.result + c.prefix_len.result < length (bytes leaf.key)
    read-inside =
        let inside = seen-inside bytes g.row.PREFIX_LEN c.reserve.new.arena c.reserve.new.self c.args.part leaf ls moved c.requires.inner c.inner-inner.result.node c.inner-inner.ensures.value in
        let from = c.begin.ensures in
        let prefix = c.prefix_len.ensures in
        omega (arith, inside, from, prefix)

  read-most : c.begin.result + c.prefix_len.result < c.args.most
  read-most =
      let r = c.requires.stands in
      let inside = read-inside r.0 r.1 r.2 in
      let few = r.3 in
      omega (arith, inside, few)

pub inner-requires : goal.inner-requires
inner-requires g c =
    let r = c.requires.stands in
    let node = inner g.K.AsBytes.bytes g.row.PREFIX_LEN c.args.arena.now c.args.spine.now c.args.part r.0 r.1 r.2 c.requires.inner in
    (lit< tt, (lit< tt, (subst IsSome (sym node.there) refl, c.requires.inner)))

pub returns-in_err-reserve-clause-err : goal.returns-in_err-reserve-clause-err
returns-in_err-reserve-clause-err g c =
    let other = c.requires.inner in
    let seen = c.inner.result.node in
    on-err c.from_residual.result (record {
      stands = λ leaf ls is. opens-same g.K.AsBytes.bytes g.row.PREFIX_LEN c.args.arena.now c.reserve.new.arena c.args.spine.now c.reserve.new.self c.args.part leaf ls c.reserve.ensures.kept c.reserve.ensures.stack c.reserve.ensures.children is;
      short = λ leaf ls is room.
          let two = seen-two g.K.AsBytes.bytes g.row.PREFIX_LEN c.args.arena.now c.args.spine.now c.args.part leaf ls is other seen c.inner.ensures.value in
          let there = seen-room g.K.AsBytes.bytes g.row.PREFIX_LEN c.args.arena.now c.args.spine.now c.args.part leaf ls is other seen c.inner.ensures.value room in
          let count = c.num_children-count.ensures in
          let ok = c.in_err-reserve.ensures.succeeds (omega (arith, two, count)) (subst (HasSpineRoom c.args.arena.now c.args.spine.now) (sym count) there) in
          absurd (cc);
      stack = c.reserve.ensures.stack;
      room = c.reserve.ensures.kept_room;
    })

pub returns-in_err-reserve-clause-kept : goal.returns-in_err-reserve-clause-kept
returns-in_err-reserve-clause-kept g c = record {
  to_open = λ n room. still-to-open c.args.arena.now c.reserve.new.arena c.args.spine.now c.reserve.new.self n c.reserve.ensures.stack_places c.reserve.ensures.children_places c.reserve.ensures.room_of room;
  around = λ n room. around-same c.args.arena.now c.reserve.new.arena c.args.spine.now c.reserve.new.self n c.reserve.ensures.room_of c.reserve.ensures.stack c.reserve.ensures.children room;
  room_of = c.reserve.ensures.room_of;
  leaves = λ slot. c.reserve.ensures.kept (leaf_name slot);
}

pub overflow_add-child_depth : goal.overflow_add-child_depth
overflow_add-child_depth g c = let inside = read-most g c in omega (arith, inside)

pub overflow_add-child_depth-2 : goal.overflow_add-child_depth-2
overflow_add-child_depth-2 g c = let inside = read-most g c in omega (arith, inside)

pub unreachable-requires : goal.unreachable-requires
unreachable-requires g c =
    let two = count-two g (goal.at.unreachable-requires g c).After-prefix_len in
    let places = c.in_ok-reserve.ensures.room.places.stack in
    let full = c.in_default.ensures.full in
    let len = c.reserve.new.self.stack.ok.0 in
    absurd (omega (arith, two, places, full, len))

pub unreachable-requires-in_default-pop : goal.unreachable-requires-in_default-pop
unreachable-requires-in_default-pop g c =
    let d = (goal.at.unreachable-requires-in_default-pop g c).After-prefix_len in
    let two = count-two g d in
    let still = count-still g d in
    let none = c.in_default-pop.ensures.cases.0 in
    let len = c.note_all.new.noted.ok.0 in
    let all = ap length c.in-Ok-note_all.ensures.items ∙ length-append c.reserve.new.self.children.items c.children.result in
    let given = ap length c.children.ensures.value in
    absurd (omega (arith, two, still, none, len, all, given))

pub returns-clause-ok : goal.returns-clause-ok
returns-clause-ok g c = record {
  stands = λ leaf ls is.
      let d = (goal.at.returns-clause-ok g c).After-prefix_len in
      let was = c.reserve.new.self in
      let seen = c.inner-inner.result.node in
      let from = c.begin.ensures in
      let prefix = c.prefix_len.ensures in
      let first = c.len-first.ensures in
      let len = was.children.ok.0 in
      let child_depth_is : c.begin.result + c.prefix_len.result + 1 ≡ suc (begin_of 0 was.stack.items + seen.header.prefix_len) = omega (arith, from, prefix) in
      let first_is : c.len-first.result ≡ length was.children.items = omega (arith, first, len) in
      opens-child g.K.AsBytes.bytes g.row.PREFIX_LEN c.reserve.new.arena was c.args.part leaf ls (moved g d leaf ls is) c.requires.inner seen c.inner-inner.ensures.value (record { stack = c.push.new.self; children = c.pop.new.self }) c.in-Some.child
      (sym c.in-Some.ensures.items ∙ c.in-Ok-note_all.ensures.items ∙ ap (λ cs. was.children.items ++ cs) c.children.ensures.value) c.edit_inner.new.self
      (c.in-Ok.ensures.items ∙ ap₂ (λ b f. was.stack.items ++ record { child_depth = b; first = f } ∷ []) child_depth_is first_is) (subst IsAscending c.children.ensures.value c.children.ensures.ascending) (c.edit_inner.ensures.updates seen c.inner-inner.ensures.value);
  deeper =
      let was = c.reserve.new.self in
      let from = c.begin.ensures ∙ ap (begin_of 0) c.reserve.ensures.stack in
      let now = ap (begin_of 0) c.in-Ok.ensures.items ∙ begin-after 0 was.stack.items (record { child_depth = c.begin.result + c.prefix_len.result + 1; first = c.len-first.result }) in
      omega (arith, from, now);
  within =
      let was = c.reserve.new.self in
      let inside = read-most g (goal.at.returns-clause-ok g c).After-prefix_len in
      let now = ap (begin_of 0) c.in-Ok.ensures.items ∙ begin-after 0 was.stack.items (record { child_depth = c.begin.result + c.prefix_len.result + 1; first = c.len-first.result }) in
      omega (arith, inside, now);
  room =
      let d = (goal.at.returns-clause-ok g c).After-prefix_len in
      let was = c.reserve.new.self in
      let stack = ap length c.in-Ok.ensures.items ∙ length-append was.stack.items (record { child_depth = c.begin.result + c.prefix_len.result + 1; first = c.len-first.result } ∷ []) in
      let all = ap length c.in-Ok-note_all.ensures.items ∙ length-append was.children.items c.children.result in
      let left = ap length c.in-Some.ensures.items ∙ length-append c.pop.new.self.items (c.in-Some.child ∷ []) in
      let given = ap length c.children.ensures.value in
      let still = count-still g d in
      let stack_grows = c.push.ensures.capacity in
      let noted = c.note_all.ensures.capacity in
      let popped = c.pop.ensures.capacity in
      opened-room c.reserve.new.arena c.edit_inner.new.self was (record { stack = c.push.new.self; children = c.pop.new.self }) c.num_children-count.result (count-two g d) (omega (arith, stack)) (omega (arith, all, left, given, still))
      (omega (arith, stack_grows)) (omega (arith, noted, popped)) c.edit_inner.ensures.room_of c.in_ok-reserve.ensures.room;
}

pub returns-clause-kept : goal.returns-clause-kept
returns-clause-kept g c = record {
  to_open = λ n room.
      let stack_grows = c.push.ensures.capacity in
      let noted = c.note_all.ensures.capacity in
      let popped = c.pop.ensures.capacity in
      let stack_places = c.reserve.ensures.stack_places in
      let children_places = c.reserve.ensures.children_places in
      still-to-open c.args.arena.now c.edit_inner.new.self c.args.spine.now (record { stack = c.push.new.self; children = c.pop.new.self }) n (omega (arith, stack_grows, stack_places)) (omega (arith, noted, popped, children_places))
      (λ kind m held. c.edit_inner.ensures.room_of kind m (c.reserve.ensures.room_of kind m held)) room;
  around = λ n room.
      let d = (goal.at.returns-clause-kept g c).After-prefix_len in
      let was = c.reserve.new.self in
      let top : Open = record { child_depth = c.begin.result + c.prefix_len.result + 1; first = c.len-first.result } in
      let first = c.len-first.ensures in
      let len = was.children.ok.0 in
      let all = ap length c.in-Ok-note_all.ensures.items ∙ length-append was.children.items c.children.result in
      let left = ap length c.in-Some.ensures.items ∙ length-append c.pop.new.self.items (c.in-Some.child ∷ []) in
      let given = ap length c.children.ensures.value in
      let still = count-still g d in
      around-opened c.reserve.new.arena c.edit_inner.new.self was (record { stack = c.push.new.self; children = c.pop.new.self }) top c.args.part.kind c.num_children-count.result n (count-kind g d) c.edit_inner.ensures.room_of (c.edit_inner.ensures.frees refl)
      c.in-Ok.ensures.items (omega (arith, first, len)) (omega (arith, all, left, given, still)) (around-same c.args.arena.now c.reserve.new.arena c.args.spine.now was n c.reserve.ensures.room_of c.reserve.ensures.stack c.reserve.ensures.children room);
  room_of = λ kind m held. c.edit_inner.ensures.room_of kind m (c.reserve.ensures.room_of kind m held);
  leaves = λ slot.
      (c.edit_inner.ensures.updates c.inner-inner.result.node c.inner-inner.ensures.value).others (leaf_name slot) (λ e. c.requires.inner (sym (ap (λ (n : Name). n.kind) e)))
      ∙ c.reserve.ensures.kept (leaf_name slot);
}
