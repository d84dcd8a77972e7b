-- Room that is used up where pairs are put in, and where the inner nodes are made anew.
use Rattle.std.proofs.Common.{◌≡◌, ◌⊎◌, inl, inr, ℕ, suc, ◌+◌, ◌*◌, ◌-◌, ◌≤◌, Bool, true, false, cond, not, bytes_eq, List, [], ◌∷◌, length, refl, ap, ◌∙◌, arith}
use Rattle.art_nodes.specs.declared.kind.NodeType.TheVariants.{Node4, Node16, Node32, Node48, Node256, Leaf}
use Rattle.art_arena.proofs.Common.{Arena, HasRoom, HasRoomOf, KeepsRoomOf, AscendsByKey, bytes_from_same, key_of}
use Rattle.art_arena.specs.arena.Arena.{UsesRoom}
use Rattle.art_operations.proofs.Common.{HasKey, KeepsInnerRoom, with_pair_put, without_key}
use Rattle.art_operations.specs.Frees.{SwapsLeaves}
use Rattle.art_operations.proofs.NewNodes.{fewer as more-room}
use Rattle.art_map.proofs.ItemCounts.{ascending-apart, long-put, long-with}
use Rattle.art_map.proofs.RoomKept.{kinds-kept}
use Rattle.art_map.proofs.Terms.{Contents, IsUntouched}
use Rattle.art_map.specs.Room.{UsesLeafRoom}

module _ {X : Type 0} (key : X → List ℕ) where
  -- an item has the key, or all are there without it
  keyed : (k : List ℕ) (xs : List X) → HasKey key k xs ⊎ (length (without_key key k xs) ≡ length xs)
  keyed k [] = inr refl
  keyed k (x ∷ xs) = here (bytes_eq (key x) k) refl (keyed k xs)
    where
      here : (b : Bool) → bytes_eq (key x) k ≡ b → HasKey key k xs ⊎ (length (without_key key k xs) ≡ length xs)
          → HasKey key k (x ∷ xs) ⊎ (length (cond (not b) (x ∷ without_key key k xs) (without_key key k xs)) ≡ length (x ∷ xs))
      here true is later = inl (x, inl refl, bytes_from_same (key x) k is)
      here false is (inl has) = inl (has.0, inr has.1, has.2)
      here false is (inr same) = inr (ap suc same)

module _ {K V : Type 0} where
  -- so many pairs became so many, and of the room for leaves only that of the new ones is used up
  pub record LeavesUsed (was now : ℕ) (old new : Arena K V) : Type 0 where
    pub more : was ≤ now
    pub room : UsesLeafRoom (now - was) old new

  pub none-used : (n : ℕ) (arena : Arena K V) → LeavesUsed n n arena arena
  none-used n arena = record { more = omega arith; room = λ m room. omega (arith, room) }

  pub then-used : (a b c : ℕ) (one two three : Arena K V) → LeavesUsed a b one two → LeavesUsed b c two three → LeavesUsed a c one three
  then-used a b c one two three f g =
      let ab = f.more in
      let bc = g.more in
      record {
        more = omega (arith, ab, bc);
        room = λ n room. g.room n (f.room (n + (c - b)) (omega (arith, ab, bc, room)));
      }

  -- what is kept before is not used
  pub kept-then : (old mid new : Arena K V) (used : ℕ) → KeepsRoomOf old mid → UsesLeafRoom used mid new → UsesLeafRoom used old new
  kept-then old mid new used kept uses n room = uses n (kept Leaf (n + used) room)

  pub kept-used : (old new : Arena K V) (used : ℕ) → KeepsRoomOf old new → UsesLeafRoom used old new
  kept-used old new used kept n room = let still = kept Leaf (n + used) room in omega (arith, still)

  -- no pair goes where one is put in
  pub put-grows : (bytes : K → List ℕ) (k : K) (v : V) (ps : List (K × V)) → AscendsByKey (key_of bytes) ps → length ps ≤ length (with_pair_put bytes k v ps)
  put-grows bytes k v ps up = at-test _ (long-with (key_of bytes) (k, v) ps (ascending-apart (key_of bytes) ps up))
    where
      at-test : (b : Bool) → length (with_pair_put bytes k v ps) ≡ cond b (length ps) (suc (length ps)) → length ps ≤ length (with_pair_put bytes k v ps)
      at-test true e = omega (arith, e)
      at-test false e = omega (arith, e)

  -- it uses room for one leaf, or none if its key was there
  pub put-used : (bytes : K → List ℕ) (k : K) (v : V) (ps : List (K × V)) (old new : Arena K V) → AscendsByKey (key_of bytes) ps → (HasKey (key_of bytes) (bytes k) ps → KeepsRoomOf old new)
      → ((n : ℕ) → HasRoomOf old Leaf (n + 1) → HasRoomOf new Leaf n) → LeavesUsed (length ps) (length (with_pair_put bytes k v ps)) old new
  put-used bytes k v ps old new up kept uses = record { more = put-grows bytes k v ps up; room = here (keyed (key_of bytes) (bytes k) ps) }
    where
      long : length (with_pair_put bytes k v ps) ≡ suc (length (without_key (key_of bytes) (bytes k) ps))
      long = long-put (key_of bytes) (k, v) (without_key (key_of bytes) (bytes k) ps)

      here : HasKey (key_of bytes) (bytes k) ps ⊎ (length (without_key (key_of bytes) (bytes k) ps) ≡ length ps) → UsesLeafRoom (length (with_pair_put bytes k v ps) - length ps) old new
      here (inl has) n room = kept-used old new _ (kept has) n room
      here (inr same) n room = uses n (omega (arith, long, same, room))

  pub swap-uses : (old new : Arena K V) (freed : ℕ) → SwapsLeaves 1 freed old new → (n : ℕ) → HasRoomOf old Leaf (n + 1) → HasRoomOf new Leaf n
  swap-uses old new freed swaps n room = let still = swaps n room in omega (arith, still)

  -- room for a tree of so many leaves is left where pairs were put into others
  pub still-room : (had count leaves : ℕ) (old kept put : Arena K V) → leaves ≤ had + count → KeepsRoomOf old kept → KeepsInnerRoom kept put → UsesLeafRoom (leaves - had) kept put → (n : ℕ) → HasRoom old (n + (had - 1 + 2 * count)) → HasRoom put (n + (leaves - 1))
  still-room had count leaves old kept put few keeps inner uses n room =
      let all = more-room kept (n + (leaves - 1)) (n + (had - 1 + 2 * count)) (omega (arith, few)) (kinds-kept old kept keeps _ room) in
      let free = keeps Leaf _ room.leaves in
      record {
        leaves = uses (n + (leaves - 1)) (omega (arith, few, free));
        nodes4 = inner Node4 (λ e. absurd (cc)) _ all.nodes4;
        nodes16 = inner Node16 (λ e. absurd (cc)) _ all.nodes16;
        nodes32 = inner Node32 (λ e. absurd (cc)) _ all.nodes32;
        nodes48 = inner Node48 (λ e. absurd (cc)) _ all.nodes48;
        nodes256 = inner Node256 (λ e. absurd (cc)) _ all.nodes256;
      }

  -- more may be used up
  pub uses-more : (used many : ℕ) (old new : Arena K V) → used ≤ many → UsesRoom used old new → UsesRoom many old new
  uses-more used many old new less uses n room = uses n (more-room old (n + used) (n + many) (omega (arith, less)) room)

  -- what is untouched twice is untouched
  pub still-untouched : (old mid new : Contents K V) → IsUntouched old mid → IsUntouched mid new → IsUntouched old new
  still-untouched old mid new (same, root, kept) (then-same, then-root, then-keeps) = ((λ n. then-same n ∙ same n), then-root ∙ root, λ kind n room. then-keeps kind n (kept kind n room))

  -- nothing changed
  pub none-uses : (m : Arena K V) (used : ℕ) → UsesLeafRoom used m m
  none-uses m used n room = omega (arith, room)

  pub none-used-of : (m : Arena K V) (used : ℕ) → UsesRoom used m m
  none-used-of m used n room = more-room m n (n + used) (omega arith) room
