-- What an arena has after a command, from what it has after a pair was put in or taken out.
use Rattle.std.proofs.Common.{[], ◌≡◌, ℕ, cond, List, length, Option, Some, None, is_some, refl, sym, ap, subst, ◌∙◌}
use Rattle.art_nodes.proofs.Common.{Name}
use Rattle.art_nodes.specs.declared.leaf.LeafNode.{LeafNode}
use Rattle.art_arena.proofs.Common.{Arena, key_of}
use Rattle.art_operations.proofs.Terms.{IsBlocked, HasPairs, HasPut, HasTaken, pair_in, InsertResult, Done, Insert, Delete, IsDone}
use Rattle.art_operations.proofs.KeyedLists.{nothing_taken}

module _ {K V : Type 0} (bytes : K → List ℕ) (P : ℕ) (arena : Arena K V) (pairs : List (K × V)) where
  count : (was : Option (LeafNode K V)) → cond (is_some was) 1 0 ≡ length (pair_in was)
  count None = refl
  count (Some was) = refl

  pub done-put : (key : K) (value : V) (put : InsertResult K V) (n : ℕ) → HasPut bytes P arena key value put pairs [] → (IsBlocked (key_of bytes) (bytes key) pairs → ⊥)
      → n ≡ cond (is_some put.existing_leaf) 1 0 → IsDone bytes P arena pairs (Insert key value) (record { root = Some put.new_root; answer = Done n })
  done-put key value put n has free counted = ((counted ∙ count put.existing_leaf ∙ ap length has.old, free), has.has)

  module _ (root : Option Name) (key : K) where
    pub done-none : HasTaken bytes P arena root (bytes key) None pairs [] → IsDone bytes P arena pairs (Delete key) (record { root = root; answer = Done 0 })
    done-none has = (sym (ap length has.0), subst (HasPairs bytes P arena root) (sym (nothing_taken (key_of bytes) (bytes key) pairs has.0)) has.1)
