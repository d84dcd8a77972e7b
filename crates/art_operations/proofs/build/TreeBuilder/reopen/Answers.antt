use Rattle.std.proofs.Common.{◌≡◌, ◌≢◌, ◌-◌, [], length, Some, IsSome, refl, sym, ap, subst, ◌∙◌, arith, lit<}
use Rattle.art_nodes.specs.declared.kind.NodeType.TheVariants.{Leaf}
use Rattle.art_arena.proofs.Common.{Shape, LeafAt, StoresOnly, held_at, leaf_held, leaf_name, leaves}
use Rattle.art_operations.proofs.Terms.{HasSpineRoom, begin_of}
use Rattle.art_operations.specs.inner.Reopening.{OpensTo}
use Rattle.art_operations.proofs.InnerRooms.{no-room}
use Rattle.art_operations.proofs.OpenRooms.{many-leaves, fresh-to-open}
use Rattle.art_operations.proofs.Results.{never}
use Rattle.art_operations.proofs.Reopening.{below-root, leaf-is-held, leaf-there, made-again, opens-start, reopened-pairs, spine-of}
use Rattle.art_operations.proofs.Unmade.{around-room, fresh-around}
use Rattle.art_operations.proofs.build.TreeBuilder.reopen.Goals as goal
use Rattle.art_operations.proofs.build.TreeBuilder.reopen.Goals.{After-maximum_unchecked-last}

-- at the start the part is the root
start : (g : _) (c : After-maximum_unchecked-last g) (s : Shape g.row.K.Denot g.row.V.Denot) → StoresOnly g.K.AsBytes.bytes g.row.PREFIX_LEN c.args.arena.now c.args.root s
    → (leaf : LeafAt g.row.K.Denot g.row.V.Denot) × (leaf.slot ≡ c.maximum_unchecked-last.result) × OpensTo g.K.AsBytes.bytes g.row.PREFIX_LEN c.args.arena.now c.into_spine-spine.result c.args.root leaf (leaves s)
start g c s tree =
    opens-start g.K.AsBytes.bytes g.row.PREFIX_LEN c.args.arena.now c.args.root s tree c.into_spine-spine.result c.maximum_unchecked-last.result c.into_spine-spine.ensures.empty
    (c.maximum_unchecked-last.ensures [] s (below-root g.K.AsBytes.bytes g.row.PREFIX_LEN c.args.arena.now c.args.root s tree))

pub maximum_unchecked-last-requires : goal.maximum_unchecked-last-requires
maximum_unchecked-last-requires g c =
    let has = c.requires.1 in
    (lit< tt, ([], has.0, below-root g.K.AsBytes.bytes g.row.PREFIX_LEN c.args.arena.now c.args.root has.0 has.1))

pub as_key_ref-requires : goal.as_key_ref-requires
as_key_ref-requires g c =
    let has = c.requires.1 in
    let at = start g c has.0 has.1 in
    (lit< tt, subst (λ n. IsSome (held_at c.args.arena.now (leaf_name n))) at.1 (leaf-is-held g.K.AsBytes.bytes g.row.PREFIX_LEN c.args.arena.now c.into_spine-spine.result c.args.root at.0 (leaves has.0) at.2))

pub open-init : goal.open-init
open-init g c = record {
  stands = start g (goal.at.open-init g c).After-maximum_unchecked-last;
  leaves = λ slot. refl;
  room = no-room c.args.arena.now c.into_spine-spine.result 0 c.into_spine-spine.ensures.empty refl;
  closed = λ none. c.into_spine-spine.ensures.empty.0;
  to_open = λ n few room. fresh-to-open c.args.arena.now c.into_spine-spine.result n c.args.room c.into_spine-spine.ensures few room;
  around = λ n room. fresh-around c.args.arena.now c.into_spine-spine.result n c.into_spine-spine.ensures.empty room;
  leaf_alone = λ alone. alone;
  room_of = λ kind n room. room;
}

pub returns-then-is-clause-ok : goal.returns-then-is-clause-ok
returns-then-is-clause-ok g c = λ pairs has.
    let at = c.open.invariant.stands has.0 has.1 in
    record {
      built = reopened-pairs g.K.AsBytes.bytes g.row.PREFIX_LEN c.args.arena.now c.args.root has.0 has.1 c.open.arena c.open.invariant.leaves c.open.spine c.maximum_unchecked-last.result pairs has.2 c.open.part at.0 at.1 (c.is.ensures.0 c.if-is.true) at.2;
      room = c.open.invariant.room;
      closed = c.open.invariant.closed;
    }

pub returns-then-is-clause-room : goal.returns-then-is-clause-room
returns-then-is-clause-room g c = c.open.invariant.around

pub open_top-requires : goal.open_top-requires
open_top-requires g c =
    let other : c.open.part.kind ≢ Leaf = λ e. let h = c.is.ensures.1 e in cc in
    let has = c.requires.1 in
    let at = c.open.invariant.stands has.0 has.1 in
    let there = leaf-there g.K.AsBytes.bytes g.row.PREFIX_LEN c.open.arena c.open.spine c.open.part at.0 (leaves has.0) at.2 in
    let held : held_at c.args.arena.now (leaf_name c.maximum_unchecked-last.result) ≡ Some (leaf_held there.leaf) =
    sym (c.open.invariant.leaves c.maximum_unchecked-last.result) ∙ subst (λ n. held_at c.open.arena (leaf_name n) ≡ Some (leaf_held there.leaf)) at.1 there.is in
    let read : c.as_bytes-most.result.now ≡ g.K.AsBytes.bytes at.0.key = c.as_bytes-most.ensures.value ∙ ap g.K.AsBytes.bytes (c.as_key_ref.ensures there.leaf held ∙ there.key) in
    let long = ap length read in
    (lit< tt, (other, (at.0, leaves has.0, at.2, omega (arith, long))))

pub returns-then-ready-eq0-clause-err : goal.returns-then-ready-eq0-clause-err
returns-then-ready-eq0-clause-err g c = λ pairs has.
    let at = c.open.invariant.stands has.0 has.1 in
    let still = c.in_default.ensures.err.stands at.0 (leaves has.0) at.2 in
    made-again g.K.AsBytes.bytes g.row.PREFIX_LEN c.args.arena.now c.args.root has.0 has.1 c.open_top.new.arena (λ slot. c.in_default.ensures.kept.leaves slot ∙ c.open.invariant.leaves slot) c.open_top.new.spine c.maximum_unchecked-last.result pairs has.2 c.open.part (g.K.AsBytes.bytes at.0.key)
    (spine-of g.K.AsBytes.bytes g.row.PREFIX_LEN c.open_top.new.arena c.open_top.new.spine c.open.part at.0 (leaves has.0) still c.maximum_unchecked-last.result at.1)
    (ap (begin_of 0) (c.in_default.ensures.err.stack ∙ c.open.invariant.closed c.if-ready-eq0.true))

pub returns-then-ready-eq0-clause-succeeds : goal.returns-then-ready-eq0-clause-succeeds
returns-then-ready-eq0-clause-succeeds g c = λ pairs has few room.
    let at = c.open.invariant.stands has.0 has.1 in
    let count = many-leaves (leaves has.0) pairs has.2 in
    absurd (c.in_default.ensures.err.short at.0 (leaves has.0) at.2 (c.open.invariant.to_open (length (leaves has.0)) (omega (arith, count, few)) room))

pub returns-then-ready-eq0-clause-leaf_alone : goal.returns-then-ready-eq0-clause-leaf_alone
returns-then-ready-eq0-clause-leaf_alone g c = λ alone. let leaf = c.is.ensures.1 (c.open.invariant.leaf_alone alone) in absurd (cc)

pub returns-then-ready-eq0-clause-room : goal.returns-then-ready-eq0-clause-room
returns-then-ready-eq0-clause-room g c = λ n room. around-room c.open_top.new.arena c.open_top.new.spine n (c.in_default.ensures.kept.around n (c.open.invariant.around n room))

pub close_from-requires : goal.close_from-requires
close_from-requires g c =
    let has = c.requires.1 in
    let at = c.open.invariant.stands has.0 has.1 in
    let still = c.in_default.ensures.err.stands at.0 (leaves has.0) at.2 in
    (lit< tt, ([], (g.K.AsBytes.bytes at.0.key, leaves has.0, spine-of g.K.AsBytes.bytes g.row.PREFIX_LEN c.open_top.new.arena c.open_top.new.spine c.open.part at.0 (leaves has.0) still c.maximum_unchecked-last.result at.1)))

pub unreachable-requires : goal.unreachable-requires
unreachable-requires g c =
    let some = c.if-ready-eq0.false in
    let room = c.in_default.ensures.err.room c.open.ready c.open.invariant.room in
    never c.close_from.result (c.close_from.ensures.succeeds (c.open.ready - 1) (subst (HasSpineRoom c.open_top.new.arena c.open_top.new.spine) (omega (arith, some)) room)) (λ x e. c.in_default-close_from.not-Ok x e)

pub returns-in_default-clause-err : goal.returns-in_default-clause-err
returns-in_default-clause-err g c = λ pairs has.
    let at = c.open.invariant.stands has.0 has.1 in
    let key = g.K.AsBytes.bytes at.0.key in
    let still = c.in_default.ensures.err.stands at.0 (leaves has.0) at.2 in
    made-again g.K.AsBytes.bytes g.row.PREFIX_LEN c.args.arena.now c.args.root has.0 has.1 c.close_from.new.arena
    (λ slot. c.in-Ok-close_from.ensures.leaves slot ∙ c.in_default.ensures.kept.leaves slot ∙ c.open.invariant.leaves slot) c.close_from.new.spine c.maximum_unchecked-last.result pairs has.2
    c.in-Ok-close_from.node key
    (c.in-Ok-close_from.ensures.ok [] key (leaves has.0) (spine-of g.K.AsBytes.bytes g.row.PREFIX_LEN c.open_top.new.arena c.open_top.new.spine c.open.part at.0 (leaves has.0) still c.maximum_unchecked-last.result at.1)) c.in-Ok-close_from.ensures.closed

pub returns-in_default-clause-succeeds : goal.returns-in_default-clause-succeeds
returns-in_default-clause-succeeds g c = λ pairs has few room.
    let at = c.open.invariant.stands has.0 has.1 in
    let count = many-leaves (leaves has.0) pairs has.2 in
    absurd (c.in_default.ensures.err.short at.0 (leaves has.0) at.2 (c.open.invariant.to_open (length (leaves has.0)) (omega (arith, count, few)) room))

pub returns-in_default-clause-leaf_alone : goal.returns-in_default-clause-leaf_alone
returns-in_default-clause-leaf_alone g c = λ alone. let leaf = c.is.ensures.1 (c.open.invariant.leaf_alone alone) in absurd (cc)

pub returns-in_default-clause-room : goal.returns-in_default-clause-room
returns-in_default-clause-room g c = λ n room.
    around-room c.close_from.new.arena c.close_from.new.spine n (c.in-Ok-close_from.ensures.room.around n (c.in_default.ensures.kept.around n (c.open.invariant.around n room)))

pub open-preserved : goal.open-preserved
open-preserved g c = record {
  stands = λ s tree. let at = c.open.invariant.stands s tree in (at.0, at.1, c.in-Ok.ensures.ok.stands at.0 (leaves s) at.2);
  leaves = λ slot. c.in-Ok.ensures.kept.leaves slot ∙ c.open.invariant.leaves slot;
  room = c.in-Ok.ensures.ok.room;
  closed = λ none. absurd (cc);
  to_open = λ n few room. c.in-Ok.ensures.kept.to_open n (c.open.invariant.to_open n few room);
  around = λ n room. c.in-Ok.ensures.kept.around n (c.open.invariant.around n room);
  leaf_alone = λ alone. let leaf = c.is.ensures.1 (c.open.invariant.leaf_alone alone) in absurd (cc);
  room_of = λ kind n room. c.in-Ok.ensures.kept.room_of kind n (c.open.invariant.room_of kind n room);
}

pub open-smaller : goal.open-smaller
open-smaller g c = let deeper = c.in-Ok.ensures.ok.deeper in let within = c.in-Ok.ensures.ok.within in omega (arith, deeper, within)

pub returns-then-is-clause-leaf_room : goal.returns-then-is-clause-leaf_room
returns-then-is-clause-leaf_room g c = c.open.invariant.room_of Leaf

pub returns-then-ready-eq0-clause-leaf_room : goal.returns-then-ready-eq0-clause-leaf_room
returns-then-ready-eq0-clause-leaf_room g c = λ n room. c.in_default.ensures.kept.room_of Leaf n (c.open.invariant.room_of Leaf n room)

pub returns-in_default-clause-leaf_room : goal.returns-in_default-clause-leaf_room
returns-in_default-clause-leaf_room g c = λ n room. c.in-Ok-close_from.ensures.room.leaves n (c.in_default.ensures.kept.room_of Leaf n (c.open.invariant.room_of Leaf n room))
