-- Another tree of an arena: where its nodes are kept, its root means what it meant.
use Rattle.std.proofs.Common.{◌≡◌, ℕ, ◌≤◌, List, [], ◌∷◌, None, sym, ap, subst, inl, inr, arith}
use Rattle.art_nodes.proofs.Common.{Name}
use Rattle.art_arena.proofs.Terms.{Arena, cell_of, links_of, held_at, node_at, links_at, KeepsNodes, Cell, leaf_name, copies, AreLinked, IsSubtree, IsTreeBeside, Shape, leaves, cells, IsUnder}
use Rattle.art_arena.proofs.shapes.CellLists.{same_name_tells, AreHeld-kept, Holds-swap}
use Rattle.art_arena.proofs.shapes.LinkedLists.{AreLinked-kept}
use Rattle.art_arena.proofs.shapes.Surroundings.{times-leaves}

module _ {K V : Type 0} where
  -- each name of the cells has what it had
  pub kept-name : (old new : Arena K V) (xs : List (Name × Cell K V)) → KeepsNodes xs old new → (n : Name) → 1 ≤ copies n xs → held_at new n ≡ held_at old n
  kept-name old new [] kept n some = absurd (omega (arith, some))
  kept-name old new (c ∷ rest) kept n some = elim (same_name_tells n c.0) [
    | inl same ↦ subst (λ m. held_at new m ≡ held_at old m) (sym same.1) kept.0
    | inr other ↦ kept-name old new rest kept.1 n (omega (arith, rw other.0 at some))
  ]

  module _ (bytes : K → List ℕ) (P : ℕ) (old new : Arena K V) where
    -- a canonical part whose nodes are kept stands there still
    pub kept-subtree : (name : Name) (path : List ℕ) (t : Shape K V) → IsSubtree bytes P (node_at old) name path t → KeepsNodes (cells P t) old new → IsSubtree bytes P (node_at new) name path t
    kept-subtree name path t sub kept = record {
      part = record { named = sub.part.named; held = AreHeld-kept (node_at old) (node_at new) (cells P t) (λ n some. ap cell_of (kept-name old new (cells P t) kept n some)) sub.part.held; once = sub.part.once };
      under = sub.under;
    }

    -- and its leaves are linked still
    pub kept-linked : (path : List ℕ) (t : Shape K V) → IsUnder bytes path t → KeepsNodes (cells P t) old new → AreLinked (links_at old) None (leaves t) None → AreLinked (links_at new) None (leaves t) None
    kept-linked path t under kept linked =
        AreLinked-kept (links_at old) (links_at new) None (leaves t) None (λ n some. ap links_of (kept-name old new (cells P t) kept (leaf_name n) (omega (arith, some, times-leaves bytes P n path t under)))) linked

    -- beside a tree that was changed, or made, the other one stands as it stood, and the changed one beside it
    pub other-tree : {rest : List (Name × Cell K V)} (root top : Name) (s t : Shape K V) → IsTreeBeside bytes P (node_at old) root (links_at old) rest s → KeepsNodes (cells P s) old new
        → IsTreeBeside bytes P (node_at new) top (links_at new) (cells P s) t → IsTreeBeside bytes P (node_at new) root (links_at new) (cells P t) s
    other-tree root top s t was kept changed = record {
      nodes = record { named = was.nodes.named; holds = Holds-swap (node_at new) (cells P s) (cells P t) changed.nodes.holds; under = was.nodes.under };
      linked = kept-linked [] s was.nodes.under kept was.linked;
    }
