use Rattle.std.proofs.Common.{◌≡◌, ℕ, ◌+◌, suc, length, Result, Ok, Err, IfOk, sym, subst, ◌∙◌, arith}
use Rattle.art_nodes.proofs.Common.{Name, length-ascending}
use Rattle.art_nodes.specs.declared.kind.NodeType.{NodeType}
use Rattle.art_nodes.specs.declared.kind.NodeType.TheVariants.{Node4, Node16, Node32, Node48, Node256}
use Rattle.art_arena.proofs.Common.{Arena, IsKindOf, UsesRoomOf}
use Rattle.art_operations.proofs.InnerRooms.{fewer-leaves, first-room, stored}
use Rattle.art_operations.proofs.Spines.{stored-leaves}
use Rattle.art_operations.proofs.Unmade.{fewer-room, kind-over}
use Rattle.art_operations.proofs.build.made.store_over.Goals as goal

pub returns-then-count-le4-clause-leaves : goal.returns-then-count-le4-clause-leaves
returns-then-count-le4-clause-leaves g c = stored-leaves c.args.arena.now c.store_kind.new.arena c.store_kind.result Node4 _ (λ e. cc) (c.store_kind.ensures.ok c.requires.leaf.0 c.requires.leaf.1) c.store_kind.ensures.err

pub returns-then-count-le16-clause-leaves : goal.returns-then-count-le16-clause-leaves
returns-then-count-le16-clause-leaves g c = stored-leaves c.args.arena.now c.store_kind-then-count-le16.new.arena c.store_kind-then-count-le16.result Node16 _ (λ e. cc) (c.store_kind-then-count-le16.ensures.ok c.requires.leaf.0 c.requires.leaf.1) c.store_kind-then-count-le16.ensures.err

pub returns-then-count-le32-clause-leaves : goal.returns-then-count-le32-clause-leaves
returns-then-count-le32-clause-leaves g c = stored-leaves c.args.arena.now c.store_kind-then-count-le32.new.arena c.store_kind-then-count-le32.result Node32 _ (λ e. cc) (c.store_kind-then-count-le32.ensures.ok c.requires.leaf.0 c.requires.leaf.1) c.store_kind-then-count-le32.ensures.err

pub returns-then-count-le48-clause-leaves : goal.returns-then-count-le48-clause-leaves
returns-then-count-le48-clause-leaves g c = stored-leaves c.args.arena.now c.store_kind-then-count-le48.new.arena c.store_kind-then-count-le48.result Node48 _ (λ e. cc) (c.store_kind-then-count-le48.ensures.ok c.requires.leaf.0 c.requires.leaf.1) c.store_kind-then-count-le48.ensures.err

pub store_kind-requires-2 : goal.store_kind-requires-2
store_kind-requires-2 g c =
    let few = length-ascending 0 c.args.children.now (omega arith) c.requires.ascending in
    (omega arith, (c.requires.leaf, (c.requires.prefix, (c.requires.ascending, omega (arith, few)))))

pub returns-clause-leaves : goal.returns-clause-leaves
returns-clause-leaves g c = stored-leaves c.args.arena.now c.store_kind-2.new.arena c.store_kind-2.result Node256 _ (λ e. cc) (c.store_kind-2.ensures.ok c.requires.leaf.0 c.requires.leaf.1) c.store_kind-2.ensures.err

pub returns-then-count-le4-clause-succeeds : goal.returns-then-count-le4-clause-succeeds
returns-then-count-le4-clause-succeeds g c = λ more room. c.store_kind.ensures.succeeds (first-room c.args.arena.now Node4 (length c.args.children.now) more (λ e. cc) (omega arith) room)

pub returns-then-count-le4-clause-room : goal.returns-then-count-le4-clause-room
returns-then-count-le4-clause-room g c = λ more room. stored c.args.arena.now c.store_kind.new.arena Node4 (length c.args.children.now) more (λ e. cc) (omega arith) c.store_kind.ensures.room room

pub returns-then-count-le16-clause-succeeds : goal.returns-then-count-le16-clause-succeeds
returns-then-count-le16-clause-succeeds g c = λ more room. c.store_kind-then-count-le16.ensures.succeeds (first-room c.args.arena.now Node16 (length c.args.children.now) more (λ e. cc) (omega arith) room)

pub returns-then-count-le16-clause-room : goal.returns-then-count-le16-clause-room
returns-then-count-le16-clause-room g c = λ more room. stored c.args.arena.now c.store_kind-then-count-le16.new.arena Node16 (length c.args.children.now) more (λ e. cc) (omega arith) c.store_kind-then-count-le16.ensures.room room

pub returns-then-count-le32-clause-succeeds : goal.returns-then-count-le32-clause-succeeds
returns-then-count-le32-clause-succeeds g c = λ more room. c.store_kind-then-count-le32.ensures.succeeds (first-room c.args.arena.now Node32 (length c.args.children.now) more (λ e. cc) (omega arith) room)

pub returns-then-count-le32-clause-room : goal.returns-then-count-le32-clause-room
returns-then-count-le32-clause-room g c = λ more room. stored c.args.arena.now c.store_kind-then-count-le32.new.arena Node32 (length c.args.children.now) more (λ e. cc) (omega arith) c.store_kind-then-count-le32.ensures.room room

pub returns-then-count-le48-clause-succeeds : goal.returns-then-count-le48-clause-succeeds
returns-then-count-le48-clause-succeeds g c = λ more room. c.store_kind-then-count-le48.ensures.succeeds (first-room c.args.arena.now Node48 (length c.args.children.now) more (λ e. cc) (omega arith) room)

pub returns-then-count-le48-clause-room : goal.returns-then-count-le48-clause-room
returns-then-count-le48-clause-room g c = λ more room. stored c.args.arena.now c.store_kind-then-count-le48.new.arena Node48 (length c.args.children.now) more (λ e. cc) (omega arith) c.store_kind-then-count-le48.ensures.room room

pub returns-clause-succeeds : goal.returns-clause-succeeds
returns-clause-succeeds g c = λ more room. c.store_kind-2.ensures.succeeds (first-room c.args.arena.now Node256 (length c.args.children.now) more (λ e. cc) (omega arith) room)

pub returns-clause-room : goal.returns-clause-room
returns-clause-room g c = λ more room. stored c.args.arena.now c.store_kind-2.new.arena Node256 (length c.args.children.now) more (λ e. cc) (omega arith) c.store_kind-2.ensures.room room

pub returns-then-not-fits_in_memory-clause-succeeds : goal.returns-then-not-fits_in_memory-clause-succeeds
returns-then-not-fits_in_memory-clause-succeeds g c = λ more room.
    let fits = c.fits_in_memory.ensures.room_of (first-room c.args.arena.now Node4 (length c.args.children.now) more (λ e. cc) c.requires.two room) in
    let other = c.if-not-fits_in_memory.true in
    absurd (cc)

pub returns-then-not-fits_in_memory-clause-room : goal.returns-then-not-fits_in_memory-clause-room
returns-then-not-fits_in_memory-clause-room g c = λ more room. fewer-leaves c.args.arena.now (suc more) (length c.args.children.now + more) (let two = c.requires.two in omega (arith, two)) room

-- a kind that is told by the number of children is the one that is stored
stored-kind : {K V : Type 0} (old new : Arena K V) (made kind : NodeType) (count : ℕ) → IsKindOf made count → IsKindOf kind count → UsesRoomOf made old new → UsesRoomOf kind old new
stored-kind old new made kind count is other uses = subst (λ k. UsesRoomOf k old new) (sym (kind-over made count is) ∙ kind-over kind count other) uses

no-room-used : {K V : Type 0} (arena : Arena K V) (kind : NodeType) → UsesRoomOf kind arena arena
no-room-used arena kind = record { own = λ n room. fewer-room arena kind n (n + 1) (omega arith) room; others = λ other differs n room. room }

pub returns-then-not-fits_in_memory-clause-uses : goal.returns-then-not-fits_in_memory-clause-uses
returns-then-not-fits_in_memory-clause-uses g c = λ kind is. no-room-used c.args.arena.now kind

pub returns-then-count-le4-clause-uses : goal.returns-then-count-le4-clause-uses
returns-then-count-le4-clause-uses g c = λ kind is.
    stored-kind c.args.arena.now c.store_kind.new.arena Node4 kind (length c.args.children.now) (record { two = c.requires.two; fewest = c.requires.two; most = omega arith }) is c.store_kind.ensures.room

pub returns-then-count-le16-clause-uses : goal.returns-then-count-le16-clause-uses
returns-then-count-le16-clause-uses g c = λ kind is.
    stored-kind c.args.arena.now c.store_kind-then-count-le16.new.arena Node16 kind (length c.args.children.now) (record { two = c.requires.two; fewest = omega arith; most = omega arith }) is c.store_kind-then-count-le16.ensures.room

pub returns-then-count-le32-clause-uses : goal.returns-then-count-le32-clause-uses
returns-then-count-le32-clause-uses g c = λ kind is.
    stored-kind c.args.arena.now c.store_kind-then-count-le32.new.arena Node32 kind (length c.args.children.now) (record { two = c.requires.two; fewest = omega arith; most = omega arith }) is c.store_kind-then-count-le32.ensures.room

pub returns-then-count-le48-clause-uses : goal.returns-then-count-le48-clause-uses
returns-then-count-le48-clause-uses g c = λ kind is.
    stored-kind c.args.arena.now c.store_kind-then-count-le48.new.arena Node48 kind (length c.args.children.now) (record { two = c.requires.two; fewest = omega arith; most = omega arith }) is c.store_kind-then-count-le48.ensures.room

pub returns-clause-uses : goal.returns-clause-uses
returns-clause-uses g c = λ kind is.
    stored-kind c.args.arena.now c.store_kind-2.new.arena Node256 kind (length c.args.children.now)
    (record {
      two = c.requires.two;
      fewest = omega arith;
      most
          = (let few = length-ascending 0 c.args.children.now (omega arith) c.requires.ascending in omega (arith, few));
    }) is c.store_kind-2.ensures.room

-- a kind that has room for so many children is that of a node that is stored of it
kind-stored : {E : Type 0} (C : Name → Type 0) (r : Result Name E) (kind : NodeType) (count : ℕ) → IsKindOf kind count → IfOk r (λ name. (name.kind ≡ kind) × C name) → IfOk r (λ name. IsKindOf name.kind count)
kind-stored C (Ok name) kind count is made = subst (λ k. IsKindOf k count) (sym made.0) is
kind-stored C (Err e) kind count is made = tt

pub returns-clause-kind : goal.returns-clause-kind
returns-clause-kind g c =
    kind-stored _ c.store_kind-2.result Node256 (length c.args.children.now)
    (record {
      two = c.requires.two;
      fewest = omega arith;
      most
          = (let few = length-ascending 0 c.args.children.now (omega arith) c.requires.ascending in omega (arith, few));
    }) (c.store_kind-2.ensures.ok c.requires.leaf.0 c.requires.leaf.1)
