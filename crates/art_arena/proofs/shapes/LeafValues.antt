-- A leaf that has another value.
use Rattle.std.proofs.Common.{◌≡◌, ℕ, Option, Some, None, IsSome, refl, sym, ap, subst}
use Rattle.slab.specs.Slab.{get}
use Rattle.art_nodes.specs.declared.leaf.LeafNode.{LeafNode}
use Rattle.art_arena.proofs.Terms.{Arena, Held, leaf_held, inner_held, as_leaf, held_at, cell_of, UpdatesAt, leaf_name, with_value_in, with_leaf_value}
use Rattle.art_arena.specs.lemmas.WrittenNodes.{written_leaf}

module _ {K V : Type 0} where
  -- what is held is a cell
  pub cell-some : (o : Option (Held K V)) → IsSome o → IsSome (cell_of o)
  cell-some None there = absurd (cc)
  cell-some (Some (leaf_held leaf)) there = refl
  cell-some (Some (inner_held node)) there = refl

  module _ (arena : Arena K V) (slot : ℕ) where
    -- a leaf stands under the slab key, and where it has another value, that alone is changed
    pub record LeafThere : Type 0 where
      pub leaf : LeafNode K V
      pub held : held_at arena (leaf_name slot) ≡ Some (leaf_held leaf)
      pub written : (w : V) → UpdatesAt (held_at arena) (held_at (with_leaf_value arena slot w)) (leaf_name slot) (Some (leaf_held (record leaf { value = w })))

    pub leaf-there : IsSome (held_at arena (leaf_name slot)) → LeafThere
    leaf-there there = here (get arena.leaves slot) refl there
      where
        here : (o : Option (LeafNode K V)) → get arena.leaves slot ≡ o → IsSome (as_leaf o) → LeafThere
        here None e some = absurd (cc)
        here (Some leaf) e some = record {
          leaf = leaf;
          held = ap as_leaf e;
          written = λ w. subst (λ o. UpdatesAt (held_at arena) (held_at (with_value_in arena slot o w)) (leaf_name slot) (Some (leaf_held (record leaf { value = w })))) (sym e) (written_leaf arena slot (record leaf { value = w }) there);
        }
