-- Room stays where the value of a leaf is written.
use Rattle.std.proofs.Common.{◌≡◌, ℕ, suc, ◌+◌, ◌-◌, ◌<◌, ◌≤◌, length, Option, Some, None, sym, subst, arith}
use Rattle.std.specs.Prelude.{Result, Ok, Err, IfNone, OnErr, OnOk, OnSome}
use Rattle.art_nodes.specs.declared.leaf.LeafNode.{LeafNode}
use Rattle.art_nodes.specs.declared.kind.NodeType.TheVariants.{Node4, Node16, Node32, Node48, Node256, Leaf}
use Rattle.art_arena.proofs.Common.{Arena, HasRoom, KeepsRoom, KeepsRoomOf, held_at, leaf_name}
use Rattle.art_arena.specs.arena.Arena.{HasRoomOf, UsesRoom}
use Rattle.art_arena.specs.arena.Lends.{with_value_in}
use Rattle.art_arena.specs.arena.Rooms.{FreesRoomOf}
use Rattle.art_arena.specs.lemmas.WrittenNodes.{kept_leaf_of}
use Rattle.art_operations.proofs.Common.{held-some}
use Rattle.art_operations.proofs.NewNodes.{fewer as more-room}
use Rattle.art_operations.specs.Frees.{FreesLeaves}
use Rattle.art_map.proofs.Terms.{option_value, taken_by, Contents, HasLeafAt, HasPairAt, IsUntouched, with_value_at}

module _ {K V : Type 0} where
  -- room of each kind is room
  pub kinds-kept : (old new : Arena K V) → KeepsRoomOf old new → KeepsRoom old new
  kinds-kept old new kept n room = record {
    leaves = kept Leaf n room.leaves;
    nodes4 = kept Node4 n room.nodes4;
    nodes16 = kept Node16 n room.nodes16;
    nodes32 = kept Node32 n room.nodes32;
    nodes48 = kept Node48 n room.nodes48;
    nodes256 = kept Node256 n room.nodes256;
  }

  module _ (m : Contents K V) (slot : ℕ) where
    pub written-room : HasLeafAt m slot → (w : V) → KeepsRoomOf m.nodes (with_value_at m slot w).nodes
    written-room there w = go _
      where
        go : (o : Option (LeafNode K V)) → KeepsRoomOf m.nodes (with_value_in m.nodes slot o w)
        go None kind n room = room
        go (Some leaf) kind n room = kept_leaf_of m.nodes slot (record leaf { value = w }) there kind n room

    pub pair-room : (p : K × V) → HasPairAt m slot p → (w : V) → KeepsRoomOf m.nodes (with_value_at m slot w).nodes
    pair-room p has w = written-room (held-some (held_at m.nodes (leaf_name slot)) _ has) w

    -- and what was used before is all that is used
    pub used-room : (old : Arena K V) (used : ℕ) → UsesRoom used old m.nodes → (p : K × V) → HasPairAt m slot p → (w : V) → UsesRoom used old (with_value_at m slot w).nodes
    used-room old used uses p has w n room = kinds-kept m.nodes (with_value_at m slot w).nodes (pair-room p has w) n (uses n room)

  -- for each pair that the map no longer has, room for one node at most is used, and there is room for one leaf more
  pub record UsesOfGone (old now : Contents K V) : Type 0 where
    pub fewer : length now.pairs ≤ length old.pairs
    pub room : (n k : ℕ) → length now.pairs + k ≡ length old.pairs → HasRoom old.nodes (n + k) → HasRoom now.nodes n
    pub leaf_room : (n k : ℕ) → length now.pairs + k ≡ length old.pairs → HasRoomOf old.nodes Leaf n → HasRoomOf now.nodes Leaf (n + k)

  pub none-gone : (old now : Contents K V) → now ≡ old → UsesOfGone old now
  none-gone old now same = subst (UsesOfGone old) (sym same) (record {
    fewer = omega arith;
    room = λ n k all room. subst (HasRoom old.nodes) (omega (arith, all)) room;
    leaf_room = λ n k all room. subst (HasRoomOf old.nodes Leaf) (omega (arith, all)) room;
  })

  pub same-gone : (old mid now : Contents K V) → UsesOfGone old mid → length now.pairs ≡ length mid.pairs → KeepsRoomOf mid.nodes now.nodes → UsesOfGone old now
  same-gone old mid now uses long kept =
      let fewer = uses.fewer in
      record {
        fewer = omega (arith, long, fewer);
        room = λ n k all room. kinds-kept mid.nodes now.nodes kept n (uses.room n k (omega (arith, all, long)) room);
        leaf_room = λ n k all room. kept Leaf (n + k) (uses.leaf_room n k (omega (arith, all, long)) room);
      }

  pub one-gone : (old mid now : Contents K V) → UsesOfGone old mid → suc (length now.pairs) ≡ length mid.pairs → UsesRoom 1 mid.nodes now.nodes → FreesRoomOf Leaf mid.nodes now.nodes → UsesOfGone old now
  one-gone old mid now uses long one frees =
      let fewer = uses.fewer in
      record {
        fewer = omega (arith, long, fewer);
        room = λ n k all room. one n (uses.room (n + 1) (k - 1) (omega (arith, all, long, fewer)) (subst (HasRoom old.nodes) (omega (arith, all, long, fewer)) room));
        leaf_room = λ n k all room. subst (HasRoomOf now.nodes Leaf) (omega (arith, all, long, fewer)) (frees (n + (k - 1)) (uses.leaf_room n (k - 1) (omega (arith, all, long, fewer)) room));
      }

  pub gone-uses : (old now : Contents K V) → UsesOfGone old now → UsesRoom (length old.pairs - length now.pairs) old.nodes now.nodes
  gone-uses old now uses n room = let fewer = uses.fewer in uses.room n (length old.pairs - length now.pairs) (omega (arith, fewer)) room

  pub gone-frees : (old now : Contents K V) → UsesOfGone old now → FreesLeaves (length old.pairs - length now.pairs) old.nodes now.nodes
  gone-frees old now uses n room = let fewer = uses.fewer in uses.leaf_room n (length old.pairs - length now.pairs) (omega (arith, fewer)) room

  -- so with room for each pair there is room for one that is still there
  pub gone-room : (old now : Contents K V) → UsesOfGone old now → 0 < length now.pairs → HasRoom old.nodes (length old.pairs) → HasRoom now.nodes 1
  gone-room old now uses some room =
      let fewer = uses.fewer in
      uses.room 1 (length old.pairs - length now.pairs) (omega (arith, fewer)) (more-room old.nodes (1 + (length old.pairs - length now.pairs)) (length old.pairs) (omega (arith, fewer, some)) room)

  -- what is kept is not used
  pub kept-uses : (old new : Arena K V) → KeepsRoomOf old new → UsesRoom 0 old new
  kept-uses old new kept n room = kinds-kept old new kept n (subst (HasRoom old) (omega arith) room)

  -- and what is used after it is all that is
  pub then-uses : (old mid new : Arena K V) (used : ℕ) → KeepsRoomOf old mid → UsesRoom used mid new → UsesRoom used old new
  then-uses old mid new used kept uses n room = uses n (kinds-kept old mid kept (n + used) room)

  -- where there is no value there is no pair
  pub none-value : (A : Type 0) (o : Option (K × V)) → IfNone o A → IfNone (option_value o) A
  none-value A None kept = kept
  none-value A (Some p) kept = tt

  -- and where there is one there is the other
  pub some-value : (A : Type 0) (o : Option (K × V)) → OnSome o A → OnSome (option_value o) A
  some-value A None frees = tt
  some-value A (Some p) frees = frees

  -- a removal of a pair, which may be refused: the room that it uses, and that for a leaf more
  module _ {A E : Type 0} (old : Arena K V) (mid new : Contents K V) (kept : KeepsRoomOf old mid.nodes) where
    pub taken-uses : (r : Result A E) → UsesRoom 1 mid.nodes new.nodes → OnErr r (IsUntouched mid new) → UsesRoom (taken_by (Some r)) old new.nodes
    taken-uses (Ok x) uses same = then-uses old mid.nodes new.nodes 1 kept uses
    taken-uses (Err e) uses same = kept-uses old new.nodes (λ kind n room. same.2 kind n (kept kind n room))

    pub taken-frees : (r : Result A E) → OnOk r (FreesRoomOf Leaf mid.nodes new.nodes) → OnErr r (IsUntouched mid new) → FreesLeaves (taken_by (Some r)) old new.nodes
    taken-frees (Ok x) frees same n room = subst (HasRoomOf new.nodes Leaf) (omega arith) (frees n (kept Leaf n room))
    taken-frees (Err e) frees same n room = subst (HasRoomOf new.nodes Leaf) (omega arith) (same.2 Leaf n (kept Leaf n room))

  -- none is taken, and all room stays
  pub kept-frees : (old new : Arena K V) → KeepsRoomOf old new → FreesLeaves 0 old new
  kept-frees old new kept n room = subst (HasRoomOf new Leaf) (omega arith) (kept Leaf n room)
