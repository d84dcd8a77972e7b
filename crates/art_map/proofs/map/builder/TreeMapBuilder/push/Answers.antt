use Rattle.std.proofs.Common.{◌≤◌, ◌+◌, ℕ, List, refl, sym, subst, arith}
use Rattle.std.proofs.lemmas.Result.{on_err_weaker, on_ok_weaker}
use Rattle.art_operations.proofs.Common.{Builds, HasLeavesOf, HasRoomBeside, with_pair_put}
use Rattle.art_operations.specs.Builders.{IsAfterAll, IsPushRefused}
use Rattle.art_map.specs.declared.map.builder.TreeMapBuilder.{TreeMapBuilder}
use Rattle.art_map.proofs.Terms.{HasGathered, HasRoomLeft, KeepsRoomLeft, nodes_of}
use Rattle.art_map.proofs.Built.{after-these, err-of-these, in-order, is-in-order, names-of, nodes-in-order, nodes-settled, ok-of-these, settled, taken-after}
use Rattle.art_map.proofs.LeafNames.{then-names}
use Rattle.art_map.proofs.Pushed.{err-after-these, ok-so}
use Rattle.art_map.proofs.RoomLeft.{left-after, left-of-map, left-of-tree, tree-left}
use Rattle.art_map.proofs.map.builder.TreeMapBuilder.push.Goals as goal
use Rattle.art_map.proofs.map.builder.TreeMapBuilder.push.Goals.{After-push}

-- the builder, once its tree was asked to take the pair
abbrev after : (g : _) → After-push g → TreeMapBuilder g.row.K.Denot g.row.V.Denot g.row.PREFIX_LEN
after g c =
    let old = c.args.self.now in
    record { alloc = old.alloc; in_order = old.in_order; wait = old.wait; pause = old.pause; arena = c.push.new.arena; builder = c.push.new.self; map = old.map }

pub returns-then-not-self-clause-ok : goal.returns-then-not-self-clause-ok
returns-then-not-self-clause-ok g c =
    let old = c.args.self.now in
    let new = c.push_onto_map.new.self in
    ok-of-these g.K.AsBytes.bytes g.K.AsBytes.is_key old old.map.pairs c.args.key c.args.key c.args.value c.args.value
    (λ pairs has. (settled g.K.AsBytes.bytes g.K.AsBytes.is_key old pairs c.if-not-self.true has, refl, refl))
    (λ k v ps. HasGathered g.K.AsBytes.bytes g.K.AsBytes.is_key new (with_pair_put g.K.AsBytes.bytes k v ps)) c.push_onto_map.result c.push_onto_map.ensures.ok

pub returns-then-not-self-clause-after : goal.returns-then-not-self-clause-after
returns-then-not-self-clause-after g c =
    let old = c.args.self.now in
    ok-of-these g.K.AsBytes.bytes g.K.AsBytes.is_key old old.map.pairs c.args.key c.args.key c.args.value c.args.value
    (λ pairs has. (settled g.K.AsBytes.bytes g.K.AsBytes.is_key old pairs c.if-not-self.true has, refl, refl))
    (λ k v ps. IsAfterAll g.K.AsBytes.bytes (g.K.AsBytes.bytes k) ps) c.push_onto_map.result c.push_onto_map.ensures.after

pub returns-then-not-self-clause-refused : goal.returns-then-not-self-clause-refused
returns-then-not-self-clause-refused g c =
    let old = c.args.self.now in
    err-of-these g.K.AsBytes.bytes g.K.AsBytes.is_key old old.map.pairs c.args.key c.args.key c.args.value c.args.value
    (λ pairs has. (settled g.K.AsBytes.bytes g.K.AsBytes.is_key old pairs c.if-not-self.true has, refl, refl))
    (λ e k v ps. IsPushRefused k v (IsAfterAll g.K.AsBytes.bytes (g.K.AsBytes.bytes k) ps) e) c.push_onto_map.result c.push_onto_map.ensures.refused

pub returns-then-not-self-clause-kept : goal.returns-then-not-self-clause-kept
returns-then-not-self-clause-kept g c =
    let old = c.args.self.now in
    let new = c.push_onto_map.new.self in
    on_err_weaker c.push_onto_map.result
    (λ kept pairs has. subst (HasGathered g.K.AsBytes.bytes g.K.AsBytes.is_key new) (settled g.K.AsBytes.bytes g.K.AsBytes.is_key old pairs c.if-not-self.true has) kept) c.push_onto_map.ensures.kept

pub returns-then-not-self-clause-names : goal.returns-then-not-self-clause-names
returns-then-not-self-clause-names g c =
    let old = c.args.self.now in
    subst (HasLeavesOf g.K.AsBytes.bytes (nodes_of c.push_onto_map.new.self)) (sym (nodes-settled g.K.AsBytes.bytes old c.if-not-self.true)) c.push_onto_map.ensures.names

pub returns-then-not-self-clause-succeeds : goal.returns-then-not-self-clause-succeeds
returns-then-not-self-clause-succeeds g c = λ left pairs has following.
    let old = c.args.self.now in
    let same = settled g.K.AsBytes.bytes g.K.AsBytes.is_key old pairs c.if-not-self.true has in
    c.push_onto_map.ensures.succeeds (left-of-map old 2 c.if-not-self.true left) (subst (IsAfterAll g.K.AsBytes.bytes (g.K.AsBytes.bytes c.args.key)) (sym same) following)

pub returns-then-not-self-clause-room : goal.returns-then-not-self-clause-room
returns-then-not-self-clause-room g c = λ n left. c.push_onto_map.ensures.room n (left-of-map c.args.self.now (n + 2) c.if-not-self.true left)

pub returns-then-not-self-clause-kept_room : goal.returns-then-not-self-clause-kept_room
returns-then-not-self-clause-kept_room g c =
    on_err_weaker c.push_onto_map.result (λ kept n some left. kept n some (left-of-map c.args.self.now n c.if-not-self.true left)) c.push_onto_map.ensures.kept_room

pub returns-in-Ok-clause-ok : goal.returns-in-Ok-clause-ok
returns-in-Ok-clause-ok g c = λ pairs has.
    let taken = in-order g.K.AsBytes.bytes g.K.AsBytes.is_key c.args.self.now pairs c.if-not-self.false has in
    taken-after g.K.AsBytes.bytes g.K.AsBytes.is_key (after g (goal.at.returns-in-Ok-clause-ok g c).After-push)
    (with_pair_put g.K.AsBytes.bytes c.args.key c.args.value pairs) pairs c.args.key c.args.value refl c.if-not-self.false (c.in-Ok.ensures.ok pairs taken.0) taken.1 c.as_bytes-key_bytes.ensures.key taken.2

pub returns-in-Ok-clause-after : goal.returns-in-Ok-clause-after
returns-in-Ok-clause-after g c = λ pairs has.
    let taken = in-order g.K.AsBytes.bytes g.K.AsBytes.is_key c.args.self.now pairs c.if-not-self.false has in
    after-these g.K.AsBytes.bytes g.row.PREFIX_LEN c.push.new.arena c.push.new.self pairs c.args.key c.args.value (c.in-Ok.ensures.ok pairs taken.0)

-- the tree that was asked has the leaves that it had, and room for two nodes less of each kind
module _ (g : _) (c : After-push g) where
  names : HasLeavesOf g.K.AsBytes.bytes (nodes_of (after g c)) (nodes_of c.args.self.now)
  names =
      let old = c.args.self.now in
      names-of g.K.AsBytes.bytes old (after g c) old.arena c.push.new.arena
      (nodes-in-order g.K.AsBytes.bytes old c.if-not-self.false) (nodes-in-order g.K.AsBytes.bytes (after g c) c.if-not-self.false) c.push.ensures.names

  room : (n : ℕ) → HasRoomLeft c.args.self.now (n + 2) → HasRoomLeft (after g c) n
  room n = left-after c.args.self.now (after g c) n c.if-not-self.false c.if-not-self.false c.push.ensures.room

pub returns-in-Ok-clause-names : goal.returns-in-Ok-clause-names
returns-in-Ok-clause-names g c = names g (goal.at.returns-in-Ok-clause-names g c).After-push

pub returns-in-Ok-clause-room : goal.returns-in-Ok-clause-room
returns-in-Ok-clause-room g c = room g (goal.at.returns-in-Ok-clause-room g c).After-push

-- a tree that did not take it has the pairs that it had, and all room
module _ (g : _) (c : After-push g) where
  abbrev Left : Type 0
  Left = (pairs : List (g.row.K.Denot × g.row.V.Denot)) → Builds g.K.AsBytes.bytes g.row.PREFIX_LEN c.args.self.now.arena c.args.self.now.builder pairs → Builds g.K.AsBytes.bytes g.row.PREFIX_LEN c.push.new.arena c.push.new.self pairs

  abbrev Keeps : Type 0
  Keeps = (n : ℕ) → 1 ≤ n → HasRoomBeside c.args.self.now.arena c.args.self.now.builder n → HasRoomBeside c.push.new.arena c.push.new.self n

  left-has : Left → (pairs : List (g.row.K.Denot × g.row.V.Denot)) → HasGathered g.K.AsBytes.bytes g.K.AsBytes.is_key c.args.self.now pairs → HasGathered g.K.AsBytes.bytes g.K.AsBytes.is_key (after g c) pairs
  left-has left pairs has =
      let taken = in-order g.K.AsBytes.bytes g.K.AsBytes.is_key c.args.self.now pairs c.if-not-self.false has in
      is-in-order g.K.AsBytes.bytes g.K.AsBytes.is_key (after g c) pairs c.if-not-self.false (left pairs taken.0, taken.1, taken.2)

  keeps-left : Keeps → KeepsRoomLeft c.args.self.now (after g c)
  keeps-left keeps n some left = tree-left (after g c) n c.if-not-self.false (keeps n some (left-of-tree c.args.self.now n c.if-not-self.false left))

pub returns-in-Err-NotAfter-clause-refused : goal.returns-in-Err-NotAfter-clause-refused
returns-in-Err-NotAfter-clause-refused g c = λ pairs has.
    let taken = in-order g.K.AsBytes.bytes g.K.AsBytes.is_key c.args.self.now pairs c.if-not-self.false has in
    (rw c.in-Err-NotAfter.field-0-is at c.in-Err-NotAfter.ensures.refused) pairs taken.0

pub returns-in-Err-NotAfter-clause-kept : goal.returns-in-Err-NotAfter-clause-kept
returns-in-Err-NotAfter-clause-kept g c = left-has g (goal.at.returns-in-Err-NotAfter-clause-kept g c).After-push c.in-Err-NotAfter.ensures.left

pub returns-in-Err-NotAfter-clause-names : goal.returns-in-Err-NotAfter-clause-names
returns-in-Err-NotAfter-clause-names g c = names g (goal.at.returns-in-Err-NotAfter-clause-names g c).After-push

pub returns-in-Err-NotAfter-clause-succeeds : goal.returns-in-Err-NotAfter-clause-succeeds
returns-in-Err-NotAfter-clause-succeeds g c = λ room pairs has following.
    let taken = in-order g.K.AsBytes.bytes g.K.AsBytes.is_key c.args.self.now pairs c.if-not-self.false has in
    absurd (((rw c.in-Err-NotAfter.field-0-is at c.in-Err-NotAfter.ensures.refused) pairs taken.0).2 following)

pub returns-in-Err-NotAfter-clause-room : goal.returns-in-Err-NotAfter-clause-room
returns-in-Err-NotAfter-clause-room g c = room g (goal.at.returns-in-Err-NotAfter-clause-room g c).After-push

pub returns-in-Err-NotAfter-clause-kept_room : goal.returns-in-Err-NotAfter-clause-kept_room
returns-in-Err-NotAfter-clause-kept_room g c = keeps-left g (goal.at.returns-in-Err-NotAfter-clause-kept_room g c).After-push c.in-Err-NotAfter.ensures.kept_room

pub put_last-requires : goal.put_last-requires
put_last-requires g c =
    let r = c.requires.taken in
    let taken = in-order g.K.AsBytes.bytes g.K.AsBytes.is_key c.args.self.now r.0 c.if-not-self.false r.1 in
    let why = (rw c.in-Err-Memory.field-0-is at c.in-Err-Memory.ensures.refused) r.0 taken.0 in
    (omega arith, (c.requires.fits_in_memory, (r.0, left-has g (goal.at.put_last-requires g c).After-push c.in-Err-Memory.ensures.left r.0 r.1, subst (λ k. IsAfterAll g.K.AsBytes.bytes (g.K.AsBytes.bytes k) r.0) (sym why.0) why.2)))

pub returns-in-Err-Memory-clause-ok : goal.returns-in-Err-Memory-clause-ok
returns-in-Err-Memory-clause-ok g c =
    let d = (goal.at.returns-in-Err-Memory-clause-ok g c).After-push in
    let new = c.put_last.new.self in
    on_ok_weaker c.put_last.result (λ put pairs has.
    let taken = in-order g.K.AsBytes.bytes g.K.AsBytes.is_key c.args.self.now pairs c.if-not-self.false has in
    let why = (rw c.in-Err-Memory.field-0-is at c.in-Err-Memory.ensures.refused) pairs taken.0 in
    subst (λ k. HasGathered g.K.AsBytes.bytes g.K.AsBytes.is_key new (with_pair_put g.K.AsBytes.bytes k c.args.value pairs)) why.0
    (subst (λ v. HasGathered g.K.AsBytes.bytes g.K.AsBytes.is_key new (with_pair_put g.K.AsBytes.bytes c.in-Err-Memory.key v pairs)) why.1 (put pairs (left-has g d c.in-Err-Memory.ensures.left pairs has))))
    c.put_last.ensures.ok

pub returns-in-Err-Memory-clause-after : goal.returns-in-Err-Memory-clause-after
returns-in-Err-Memory-clause-after g c = ok-so c.put_last.result (λ pairs has.
    let taken = in-order g.K.AsBytes.bytes g.K.AsBytes.is_key c.args.self.now pairs c.if-not-self.false has in
    ((rw c.in-Err-Memory.field-0-is at c.in-Err-Memory.ensures.refused) pairs taken.0).2)

pub returns-in-Err-Memory-clause-refused : goal.returns-in-Err-Memory-clause-refused
returns-in-Err-Memory-clause-refused g c =
    err-after-these c.args.key c.in-Err-Memory.key c.args.value c.in-Err-Memory.value (HasGathered g.K.AsBytes.bytes g.K.AsBytes.is_key c.args.self.now)
    (IsAfterAll g.K.AsBytes.bytes (g.K.AsBytes.bytes c.args.key)) c.put_last.result (λ pairs has.
    let taken = in-order g.K.AsBytes.bytes g.K.AsBytes.is_key c.args.self.now pairs c.if-not-self.false has in
    (rw c.in-Err-Memory.field-0-is at c.in-Err-Memory.ensures.refused) pairs taken.0)
    c.put_last.ensures.refused

pub returns-in-Err-Memory-clause-kept : goal.returns-in-Err-Memory-clause-kept
returns-in-Err-Memory-clause-kept g c =
    let d = (goal.at.returns-in-Err-Memory-clause-kept g c).After-push in
    on_err_weaker c.put_last.result (λ kept pairs has. kept pairs (left-has g d c.in-Err-Memory.ensures.left pairs has)) c.put_last.ensures.kept

pub returns-in-Err-Memory-clause-names : goal.returns-in-Err-Memory-clause-names
returns-in-Err-Memory-clause-names g c =
    let d = (goal.at.returns-in-Err-Memory-clause-names g c).After-push in
    then-names g.K.AsBytes.bytes (nodes_of c.put_last.new.self) (nodes_of (after g d)) (nodes_of c.args.self.now) c.put_last.ensures.names (names g d)

pub returns-in-Err-Memory-clause-succeeds : goal.returns-in-Err-Memory-clause-succeeds
returns-in-Err-Memory-clause-succeeds g c = λ left pairs has following.
    let d = (goal.at.returns-in-Err-Memory-clause-succeeds g c).After-push in
    c.put_last.ensures.succeeds (keeps-left g d c.in-Err-Memory.ensures.kept_room 2 (omega arith) left)

pub returns-in-Err-Memory-clause-room : goal.returns-in-Err-Memory-clause-room
returns-in-Err-Memory-clause-room g c = λ n left.
    let d = (goal.at.returns-in-Err-Memory-clause-room g c).After-push in
    c.put_last.ensures.room n (keeps-left g d c.in-Err-Memory.ensures.kept_room (n + 2) (omega arith) left)

pub returns-in-Err-Memory-clause-kept_room : goal.returns-in-Err-Memory-clause-kept_room
returns-in-Err-Memory-clause-kept_room g c =
    let d = (goal.at.returns-in-Err-Memory-clause-kept_room g c).After-push in
    on_err_weaker c.put_last.result (λ kept n some left. kept n some (keeps-left g d c.in-Err-Memory.ensures.kept_room n some left)) c.put_last.ensures.kept_room
