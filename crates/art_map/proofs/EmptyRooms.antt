-- An empty map holds no node, and has no room once its memory was given back.
use Rattle.std.proofs.Common.{◌≡◌, ℕ, List, [], ◌∷◌, Option, Some, None, refl, ap, sym, ◌∙◌}
use Rattle.art_nodes.proofs.Common.{Name}
use Rattle.art_arena.proofs.Common.{Arena, Held, leaf_held, inner_held, cell_of, held_at, HasNoRoom, HasNoUnusedRoom, SameNodes, pairs_of, some_leaf}
use Rattle.art_operations.proofs.Common.{HasPairs}
use Rattle.art_map.proofs.Terms.{pairs_from}

module _ {K V : Type 0} (bytes : K → List ℕ) (P : ℕ) where
  unheld : (o : Option (Held K V)) → cell_of o ≡ None → o ≡ None
  unheld None e = refl
  unheld (Some (leaf_held leaf)) e = absurd (cc)
  unheld (Some (inner_held node)) e = absurd (cc)

  none-held : (arena : Arena K V) (root : Option Name) (pairs : List (K × V)) → HasPairs bytes P arena root pairs → pairs ≡ [] → (n : Name) → held_at arena n ≡ None
  none-held arena None pairs has none n = unheld (held_at arena n) (has.1 n)
  none-held arena (Some root) pairs (s, tree, e) none n =
      let leaf = some_leaf bytes [] s tree.nodes.under in
      let no : pairs_of (leaf.0 ∷ leaf.1) ≡ [] = ap pairs_of (sym leaf.2) ∙ e ∙ none in
      absurd (cc)

  pub no-room : (old new : Arena K V) (root : Option Name) → HasPairs bytes P old root (pairs_from old root) → SameNodes old new → HasNoUnusedRoom new → pairs_from old root ≡ [] → HasNoRoom new
  no-room old new root has same frees none kind room =
      let slots = λ (slot : ℕ). same (record { kind = kind; slot = slot }) ∙ none-held old root (pairs_from old root) has none (record { kind = kind; slot = slot }) in
      frees kind slots room
