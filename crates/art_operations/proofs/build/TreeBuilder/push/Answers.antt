use Rattle.std.proofs.Common.{◌≡◌, ◌<◌, ◌≤◌, ◌+◌, ◌-◌, ◌∷◌, [], ◌++◌, ℕ, suc, None, Option, Some, List, All, refl, sym, subst, ◌∙◌, arith}
use Rattle.std.proofs.lemmas.List.Elements.{All-get_or}
use Rattle.art_bytes.proofs.Common.{IsBefore}
use Rattle.art_nodes.specs.declared.kind.NodeType.TheVariants.{Leaf}
use Rattle.art_arena.proofs.Common.{Arena, HasRoomOf, links_at, UsesRoomOf, leaf_name, LeafAt}
use Rattle.art_operations.proofs.Terms.{Builds, BuildsTo, BuildsUpTo, IsAfterAll, HasRoomBeside, PartAt, Parted, HasStoredLast, IsListTo, Meets, CanPassAt, HasSpineRoom}
use Rattle.art_operations.specs.declared.meeting.Meeting.{Meeting}
use Rattle.art_operations.specs.declared.meeting.Meeting.TheVariants as meeting
use Rattle.art_operations.proofs.Building.{all_leaves, after-all, after-last, builds-none, builds-some, is-before, is-held, last-bytes, new-inside, not-after, old-byte, old-inside}
use Rattle.art_operations.proofs.InnerRooms.{beside-leaf}
use Rattle.art_operations.proofs.LeafNames.{same-names}
use Rattle.art_operations.proofs.Results.{failed}
use Rattle.art_operations.proofs.Pushed.{can-at as last-can, first-pair, list-to, no-list, passed-on, refused-builds, same-leaves-names, stored-names}
use Rattle.art_operations.proofs.Unmade.{around-fewer, around-leaf, fewer-room, leaf-room}
use Rattle.art_operations.proofs.build.TreeBuilder.push.Goals as goal
use Rattle.art_operations.proofs.build.TreeBuilder.push.Goals.{After-reserve_one, After-meet-met}

pub as_key_ref-requires : goal.as_key_ref-requires
as_key_ref-requires g c =
    let r = c.requires in
    let is = builds-some g.K.AsBytes.bytes g.row.PREFIX_LEN c.args.arena.now c.args.self.now r.0 r.1 c.in-Some.last c.in-Some.is in
    (omega arith, is-held g.K.AsBytes.bytes g.row.PREFIX_LEN c.args.arena.now c.args.self.now.spine c.in-Some.last r.0 is)

-- it has no last leaf
none-there : (o : Option ℕ) → ((x : ℕ) → o ≡ Some x → ⊥) → o ≡ None
none-there None not = refl
none-there (Some x) not = absurd (not x refl)

pub returns-in-Ok-clause-ok : goal.returns-in-Ok-clause-ok
returns-in-Ok-clause-ok g c = λ pairs builds.
    let bytes = g.K.AsBytes.bytes in
    let none = builds-none bytes g.row.PREFIX_LEN c.args.arena.now c.args.self.now pairs builds (none-there c.args.self.now.last c.in_default.not-Some) in
    record {
      built = subst (λ ps. BuildsUpTo bytes g.row.PREFIX_LEN c.store_last.new.arena c.args.self.now.spine c.in-Ok.first (ps ++ (c.args.key, c.args.value) ∷ [])) (sym none.0)
          (first-pair bytes g.row.PREFIX_LEN c.args.arena.now c.store_last.new.arena c.args.self.now.spine c.in-Ok.first c.args.key c.args.value
          (subst (BuildsTo bytes g.row.PREFIX_LEN c.args.arena.now c.args.self.now.spine None) none.0 none) (c.in-Ok.ensures.ok [] (no-list c.args.arena.now)));
      room = beside-leaf c.args.arena.now c.store_last.new.arena c.args.self.now.spine c.args.self.now.room c.store_last.ensures.room_of builds.room;
      closed = builds.closed;
    }

pub returns-in-Ok-clause-names : goal.returns-in-Ok-clause-names
returns-in-Ok-clause-names g c = stored-names g.K.AsBytes.bytes c.args.arena.now c.store_last.new.arena c.in-Ok.first c.args.key c.args.value [] (c.in-Ok.ensures.ok [] (no-list c.args.arena.now))

pub returns-in-Ok-clause-room : goal.returns-in-Ok-clause-room
returns-in-Ok-clause-room g c = λ n room.
    around-leaf c.args.arena.now c.store_last.new.arena c.args.self.now.spine n c.store_last.ensures.room_of (around-fewer c.args.arena.now c.args.self.now.spine (suc n) (n + 2) (omega arith) room)

pub returns-in-Err-clause-names : goal.returns-in-Err-clause-names
returns-in-Err-clause-names g c = same-names g.K.AsBytes.bytes c.args.arena.now c.store_last.new.arena c.in-Err.ensures.err

pub returns-in-Err-clause-left : goal.returns-in-Err-clause-left
returns-in-Err-clause-left g c = λ pairs builds. refused-builds g.K.AsBytes.bytes g.row.PREFIX_LEN c.args.arena.now c.store_last.new.arena c.args.self.now pairs c.in-Err.ensures.err c.store_last.ensures.room_of builds

pub returns-in-Err-clause-kept_room : goal.returns-in-Err-clause-kept_room
returns-in-Err-clause-kept_room g c = λ n some room.
    absurd (failed c.store_last.result _ c.in-Err.is (c.store_last.ensures.succeeds (leaf-room c.args.arena.now c.args.self.now.spine n some room)))

pub returns-in-Err-clause-room : goal.returns-in-Err-clause-room
returns-in-Err-clause-room g c = λ n room.
    absurd (failed c.store_last.result _ c.in-Err.is (c.store_last.ensures.succeeds (leaf-room c.args.arena.now c.args.self.now.spine (n + 2) (omega arith) room)))

-- what was read of both keys
module _ (g : _) (c : After-meet-met g) (pairs : List (g.row.K.Denot × g.row.V.Denot)) (builds : Builds g.K.AsBytes.bytes g.row.PREFIX_LEN c.args.arena.now c.args.self.now pairs) where
  stood : BuildsUpTo g.K.AsBytes.bytes g.row.PREFIX_LEN c.args.arena.now c.args.self.now.spine c.in-Some.last pairs
  stood = builds-some g.K.AsBytes.bytes g.row.PREFIX_LEN c.args.arena.now c.args.self.now pairs builds c.in-Some.last c.in-Some.is

  met : Meets (g.K.AsBytes.bytes stood.key) (g.K.AsBytes.bytes c.args.key) c.meet-met.result
  met =
      let old_is = last-bytes g.K.AsBytes.bytes g.row.PREFIX_LEN c.args.arena.now c.args.self.now.spine c.in-Some.last pairs stood c.as_key_ref.result.now c.as_bytes.result.now c.as_key_ref.ensures c.as_bytes.ensures.value in
      subst (λ o. Meets o (g.K.AsBytes.bytes c.args.key) c.meet-met.result) old_is (subst (λ n. Meets c.as_bytes.result.now n c.meet-met.result) c.as_bytes-2.ensures.value c.meet-met.ensures)

  -- where they don't part so that the new one goes on by the greater byte, it doesn't go after
  not-there : ((p : Parted) → c.meet-met.result ≡ meeting.Parts p → p.new_byte < p.old_byte) → IsAfterAll g.K.AsBytes.bytes (g.K.AsBytes.bytes c.args.key) pairs → ⊥
  not-there lower following =
      not-after (g.K.AsBytes.bytes stood.key) (g.K.AsBytes.bytes c.args.key) c.meet-met.result met lower
      (after-last g.K.AsBytes.bytes g.row.PREFIX_LEN c.args.arena.now c.args.self.now.spine c.in-Some.last pairs stood (g.K.AsBytes.bytes c.args.key) following)

pub returns-in_default-met : goal.returns-in_default-met
returns-in_default-met g c = record {
  ok = tt;
  refused = λ pairs builds. (refl, refl, apart pairs builds);
  kept = λ n. refl;
  left = λ pairs builds. builds;
  names = λ slot key has. has;
  succeeds = λ none room. absurd (cc);
  with_room = λ places leaf pairs builds following. absurd (apart pairs builds following);
  uses = tt;
  room = λ n room. around-fewer c.args.arena.now c.args.self.now.spine n (n + 2) (omega arith) room;
  kept_room = λ n some room. room;
  kept_places = λ n places. places;
  room_of = λ kind n room. room;
  leaf_room = λ n room. fewer-room c.args.arena.now Leaf n (n + 1) (omega arith) room;
}
  where
    apart : (pairs : List (g.row.K.Denot × g.row.V.Denot)) → Builds g.K.AsBytes.bytes g.row.PREFIX_LEN c.args.arena.now c.args.self.now pairs → IsAfterAll g.K.AsBytes.bytes (g.K.AsBytes.bytes c.args.key) pairs → ⊥
    apart pairs builds = not-there g (goal.at.returns-in_default-met g c).After-meet-met pairs builds (λ p e. absurd (c.in_default-met.not-Parts p e))

-- the new key goes on by the smaller byte
lower : (met : Meeting) (p : Parted) → met ≡ meeting.Parts p → p.new_byte < p.old_byte → (q : Parted) → met ≡ meeting.Parts q → q.new_byte < q.old_byte
lower met p is less q e = let same : p ≡ q = cc in subst (λ (r : Parted). r.new_byte < r.old_byte) same less

pub returns-then-parted-clause-refused : goal.returns-then-parted-clause-refused
returns-then-parted-clause-refused g c = λ pairs builds.
    (refl, refl, not-there g (goal.at.returns-then-parted-clause-refused g c).After-meet-met pairs builds (lower c.meet-met.result c.in-Parts.parted c.in-Parts.is c.if-parted.true))

pub returns-then-parted-clause-with_room : goal.returns-then-parted-clause-with_room
returns-then-parted-clause-with_room g c = λ places leaf pairs builds following.
    absurd (not-there g (goal.at.returns-then-parted-clause-with_room g c).After-meet-met pairs builds (lower c.meet-met.result c.in-Parts.parted c.in-Parts.is c.if-parted.true) following)

-- where there is room, or was none
module _ (g : _) (c : After-reserve_one g) (pairs : List (g.row.K.Denot × g.row.V.Denot)) (builds : Builds g.K.AsBytes.bytes g.row.PREFIX_LEN c.args.arena.now c.args.self.now pairs) where
  now : Builds g.K.AsBytes.bytes g.row.PREFIX_LEN c.reserve_one.new.arena c.reserve_one.new.self pairs
  now = c.reserve_one.ensures.left pairs builds

  is : BuildsUpTo g.K.AsBytes.bytes g.row.PREFIX_LEN c.reserve_one.new.arena c.reserve_one.new.self.spine c.in-Some.last pairs
  is = builds-some g.K.AsBytes.bytes g.row.PREFIX_LEN c.reserve_one.new.arena c.reserve_one.new.self pairs now c.in-Some.last (c.reserve_one.ensures.last ∙ c.in-Some.is)

  part : PartAt (g.K.AsBytes.bytes is.key) (g.K.AsBytes.bytes c.args.key) c.in-Parts.parted
  part =
      let old_is = last-bytes g.K.AsBytes.bytes g.row.PREFIX_LEN c.reserve_one.new.arena c.reserve_one.new.self.spine c.in-Some.last pairs is c.as_key_ref.result.now c.as_bytes.result.now
      (λ l held. c.as_key_ref.ensures l (sym (c.reserve_one.ensures.kept (leaf_name c.in-Some.last)) ∙ held)) c.as_bytes.ensures.value in
      subst (λ o. PartAt o (g.K.AsBytes.bytes c.args.key) c.in-Parts.parted) old_is (subst (λ n. PartAt c.as_bytes.result.now n c.in-Parts.parted) c.as_bytes-2.ensures.value c.in-Parts.ensures)

  less : IsBefore (g.K.AsBytes.bytes is.key) (g.K.AsBytes.bytes c.args.key)
  less =
      let differs = part.differs in
      let above = c.if-parted.false in
      is-before (g.K.AsBytes.bytes is.key) (g.K.AsBytes.bytes c.args.key) c.in-Parts.parted part (omega (arith, differs, above))

  following : IsAfterAll g.K.AsBytes.bytes (g.K.AsBytes.bytes c.args.key) pairs
  following = after-all g.K.AsBytes.bytes g.row.PREFIX_LEN c.reserve_one.new.arena c.reserve_one.new.self.spine c.in-Some.last pairs is (g.K.AsBytes.bytes c.args.key) less

  abbrev whole : List (LeafAt g.row.K.Denot g.row.V.Denot)
  whole = all_leaves g.K.AsBytes.bytes g.row.PREFIX_LEN c.reserve_one.new.arena c.reserve_one.new.self.spine c.in-Some.last pairs is

pub returns-in_default-reserve_one-clause-refused : goal.returns-in_default-reserve_one-clause-refused
returns-in_default-reserve_one-clause-refused g c = λ pairs builds. (refl, refl, following g (goal.at.returns-in_default-reserve_one-clause-refused g c).After-reserve_one pairs builds)

pub returns-in_default-reserve_one-clause-names : goal.returns-in_default-reserve_one-clause-names
returns-in_default-reserve_one-clause-names g c = same-names g.K.AsBytes.bytes c.args.arena.now c.reserve_one.new.arena c.reserve_one.ensures.kept

pub store_last-requires-2 : goal.store_last-requires-2
store_last-requires-2 g c =
    let r = c.requires in
    let d = (goal.at.store_last-requires-2 g c).After-reserve_one in
    (omega arith, (whole g d r.0 r.1, list-to g.K.AsBytes.bytes g.row.PREFIX_LEN c.reserve_one.new.arena c.reserve_one.new.self.spine c.in-Some.last r.0 (is g d r.0 r.1)))

-- the leaf is stored
module _ (g : _) (c : After-reserve_one g) (pairs : List (g.row.K.Denot × g.row.V.Denot)) (builds : Builds g.K.AsBytes.bytes g.row.PREFIX_LEN c.args.arena.now c.args.self.now pairs) (arena : Arena g.row.K.Denot g.row.V.Denot) (leaf : ℕ)
    (stores : (ls : List (LeafAt g.row.K.Denot g.row.V.Denot)) → IsListTo (links_at c.reserve_one.new.arena) (Some c.in-Some.last) ls → HasStoredLast c.reserve_one.new.arena arena leaf c.args.key c.args.value ls) where
  stored : HasStoredLast c.reserve_one.new.arena arena leaf c.args.key c.args.value (whole g c pairs builds)
  stored = stores _ (list-to g.K.AsBytes.bytes g.row.PREFIX_LEN c.reserve_one.new.arena c.reserve_one.new.self.spine c.in-Some.last pairs (is g c pairs builds))

  can-at : CanPassAt g.K.AsBytes.bytes g.row.PREFIX_LEN arena c.reserve_one.new.self.spine c.in-Some.last leaf c.in-Parts.parted [] (whole g c pairs builds ++ record { slot = leaf; key = c.args.key; value = c.args.value } ∷ [])
  can-at = last-can g.K.AsBytes.bytes g.row.PREFIX_LEN c.reserve_one.new.arena c.reserve_one.new.self.spine c.in-Some.last pairs (is g c pairs builds) arena leaf c.args.key c.args.value stored (less g c pairs builds) c.in-Parts.parted (part g c pairs builds)

  room : 2 ≤ c.reserve_one.new.self.room → UsesRoomOf Leaf c.reserve_one.new.arena arena → HasSpineRoom arena c.reserve_one.new.self.spine (suc (c.reserve_one.new.self.room - 1))
  room two uses =
      subst (HasSpineRoom arena c.reserve_one.new.self.spine) (omega (arith, two)) (beside-leaf c.reserve_one.new.arena arena c.reserve_one.new.self.spine c.reserve_one.new.self.room uses (now g c pairs builds).room)

pub pass_at-requires : goal.pass_at-requires
pass_at-requires g c =
    let r = c.requires in
    let d = (goal.at.pass_at-requires g c).After-reserve_one in
    let p = c.in-Parts.parted in
    let within = new-inside c.as_bytes.result.now c.as_bytes-2.result.now p c.in-Parts.ensures in
    let all = subst (λ k. All (λ b. b < 256) k) (sym c.as_bytes.ensures.value) (g.met.K.AsBytes.bytes_fit c.as_key_ref.result.now c.as_bytes.ensures.key) in
    let byte = All-get_or (λ (b : ℕ). b < 256) c.as_bytes.result.now p.matched 0 (old-inside c.as_bytes.result.now c.as_bytes-2.result.now p c.in-Parts.ensures) all in (
      omega arith,
      (
        ([], _, can-at g d r.0 r.1 c.store_last-2.new.arena c.in-Ok-store_last.leaf c.in-Ok-store_last.ensures.ok),
        (
          (
            c.reserve_one.new.self.room - 1,
            room g d r.0 r.1 c.store_last-2.new.arena c.in-Ok-store_last.leaf c.in-Ok-store_last.ensures.ok c.in-Ok-reserve_one.ensures.ok
                c.store_last-2.ensures.room_of,
          ),
          (
            omega (arith, within),
            subst (λ b. b < 256) (old-byte c.as_bytes.result.now c.as_bytes-2.result.now p c.in-Parts.ensures) byte,
          ),
        ),
      ),
    )

pub returns-in-Ok-store_last-clause-ok : goal.returns-in-Ok-store_last-clause-ok
returns-in-Ok-store_last-clause-ok g c = λ pairs builds.
    let d = (goal.at.returns-in-Ok-store_last-clause-ok g c).After-reserve_one in
    let stores = c.in-Ok-store_last.ensures.ok in
    let two = c.in-Ok-reserve_one.ensures.ok in
    record {
      built = passed-on g.K.AsBytes.bytes g.row.PREFIX_LEN c.reserve_one.new.arena c.reserve_one.new.self.spine c.in-Some.last pairs (is g d pairs builds)
          c.store_last-2.new.arena c.in-Ok-store_last.leaf c.args.key c.args.value (stored g d pairs builds c.store_last-2.new.arena c.in-Ok-store_last.leaf stores)
          (less g d pairs builds)
          c.pass_at.new.arena c.pass_at.new.spine c.pass_at.ensures.leaves (c.pass_at.ensures.passes [] _ (can-at g d pairs builds c.store_last-2.new.arena c.in-Ok-store_last.leaf stores));
      room = c.pass_at.ensures.room (c.reserve_one.new.self.room - 1) (room g d pairs builds c.store_last-2.new.arena c.in-Ok-store_last.leaf stores two c.store_last-2.ensures.room_of);
      closed = λ none. absurd (omega (arith, none, two));
    }

pub returns-in-Ok-store_last-clause-names : goal.returns-in-Ok-store_last-clause-names
returns-in-Ok-store_last-clause-names g c = λ slot key has.
    let r = c.requires in
    let d = (goal.at.returns-in-Ok-store_last-clause-names g c).After-reserve_one in
    same-leaves-names g.K.AsBytes.bytes c.store_last-2.new.arena c.pass_at.new.arena c.pass_at.ensures.leaves slot key
    (stored-names g.K.AsBytes.bytes c.reserve_one.new.arena c.store_last-2.new.arena c.in-Ok-store_last.leaf c.args.key c.args.value _ (stored g d r.0 r.1 c.store_last-2.new.arena c.in-Ok-store_last.leaf c.in-Ok-store_last.ensures.ok) slot key
    (same-names g.K.AsBytes.bytes c.args.arena.now c.reserve_one.new.arena c.reserve_one.ensures.kept slot key has))

pub returns-in-Err-store_last-clause-refused : goal.returns-in-Err-store_last-clause-refused
returns-in-Err-store_last-clause-refused g c = λ pairs builds.
    let back = c.in-Err-store_last.ensures.handed_back in
    (back.0, back.1, following g (goal.at.returns-in-Err-store_last-clause-refused g c).After-reserve_one pairs builds)

pub returns-in-Err-store_last-clause-left : goal.returns-in-Err-store_last-clause-left
returns-in-Err-store_last-clause-left g c = λ pairs builds.
    refused-builds g.K.AsBytes.bytes g.row.PREFIX_LEN c.reserve_one.new.arena c.store_last-2.new.arena c.reserve_one.new.self pairs c.in-Err-store_last.ensures.err c.store_last-2.ensures.room_of (c.reserve_one.ensures.left pairs builds)

pub returns-in-Err-store_last-clause-names : goal.returns-in-Err-store_last-clause-names
returns-in-Err-store_last-clause-names g c = λ slot key has.
    same-names g.K.AsBytes.bytes c.reserve_one.new.arena c.store_last-2.new.arena c.in-Err-store_last.ensures.err slot key (same-names g.K.AsBytes.bytes c.args.arena.now c.reserve_one.new.arena c.reserve_one.ensures.kept slot key has)

pub returns-in_default-reserve_one-clause-kept_room : goal.returns-in_default-reserve_one-clause-kept_room
returns-in_default-reserve_one-clause-kept_room g c = λ n some room. c.reserve_one.ensures.beside n room

pub returns-in_default-reserve_one-clause-room : goal.returns-in_default-reserve_one-clause-room
returns-in_default-reserve_one-clause-room g c = λ n room. around-fewer c.reserve_one.new.arena c.reserve_one.new.self.spine n (n + 2) (omega arith) (c.reserve_one.ensures.beside (n + 2) room)

pub returns-in-Ok-store_last-clause-room : goal.returns-in-Ok-store_last-clause-room
returns-in-Ok-store_last-clause-room g c = λ n room.
    let there = around-fewer c.reserve_one.new.arena c.reserve_one.new.self.spine (suc (suc n)) (n + 2) (omega arith) (c.reserve_one.ensures.beside (n + 2) room) in
    c.pass_at.ensures.around n (around-leaf c.reserve_one.new.arena c.store_last-2.new.arena c.reserve_one.new.self.spine (suc n) c.store_last-2.ensures.room_of there)

-- a leaf for which there is room is stored
module _ (g : _) (c : After-reserve_one g) (refused : (HasRoomOf c.reserve_one.new.arena Leaf 1 → ⊥)) where
  no-room : (n : ℕ) → 1 ≤ n → HasRoomBeside c.args.arena.now c.args.self.now n → ⊥
  no-room n some room = refused (leaf-room c.reserve_one.new.arena c.reserve_one.new.self.spine n some (c.reserve_one.ensures.beside n room))

pub returns-in-Err-store_last-clause-kept_room : goal.returns-in-Err-store_last-clause-kept_room
returns-in-Err-store_last-clause-kept_room g c = λ n some room.
    absurd (no-room g (goal.at.returns-in-Err-store_last-clause-kept_room g c).After-reserve_one (λ one. failed c.store_last-2.result _ c.in-Err-store_last.is (c.store_last-2.ensures.succeeds one)) n some room)

pub returns-in-Err-store_last-clause-room : goal.returns-in-Err-store_last-clause-room
returns-in-Err-store_last-clause-room g c = λ n room.
    absurd (no-room g (goal.at.returns-in-Err-store_last-clause-room g c).After-reserve_one (λ one. failed c.store_last-2.result _ c.in-Err-store_last.is (c.store_last-2.ensures.succeeds one)) (n + 2) (omega arith) room)

pub returns-in-Err-store_last-clause-with_room : goal.returns-in-Err-store_last-clause-with_room
returns-in-Err-store_last-clause-with_room g c = λ places leaf pairs builds following.
    absurd (failed c.store_last-2.result _ c.in-Err-store_last.is (c.store_last-2.ensures.succeeds (c.reserve_one.ensures.room_of Leaf 1 leaf)))

pub returns-then-parted-clause-leaf_room : goal.returns-then-parted-clause-leaf_room
returns-then-parted-clause-leaf_room g c = λ n room. fewer-room c.args.arena.now Leaf n (n + 1) (omega arith) room

pub returns-in_default-reserve_one-clause-kept_places : goal.returns-in_default-reserve_one-clause-kept_places
returns-in_default-reserve_one-clause-kept_places g c = λ n places. c.reserve_one.ensures.kept_room n places

pub returns-in_default-reserve_one-clause-room_of : goal.returns-in_default-reserve_one-clause-room_of
returns-in_default-reserve_one-clause-room_of g c = λ kind n room. c.reserve_one.ensures.room_of kind n room

pub returns-in_default-reserve_one-clause-leaf_room : goal.returns-in_default-reserve_one-clause-leaf_room
returns-in_default-reserve_one-clause-leaf_room g c = λ n room. fewer-room c.reserve_one.new.arena Leaf n (n + 1) (omega arith) (c.reserve_one.ensures.room_of Leaf (n + 1) room)

pub returns-in-Err-store_last-clause-kept_places : goal.returns-in-Err-store_last-clause-kept_places
returns-in-Err-store_last-clause-kept_places g c = λ n places. c.reserve_one.ensures.kept_room n places

pub returns-in-Err-store_last-clause-room_of : goal.returns-in-Err-store_last-clause-room_of
returns-in-Err-store_last-clause-room_of g c = λ kind n room. c.in-Err-store_last.ensures.kept_room kind n (c.reserve_one.ensures.room_of kind n room)

pub returns-in-Err-store_last-clause-leaf_room : goal.returns-in-Err-store_last-clause-leaf_room
returns-in-Err-store_last-clause-leaf_room g c = λ n room. c.store_last-2.ensures.room_of.own n (c.reserve_one.ensures.room_of Leaf (n + 1) room)

pub returns-in-Ok-store_last-clause-leaf_room : goal.returns-in-Ok-store_last-clause-leaf_room
returns-in-Ok-store_last-clause-leaf_room g c = λ n room. c.pass_at.ensures.leaf_room n (c.store_last-2.ensures.room_of.own n (c.reserve_one.ensures.room_of Leaf (n + 1) room))
