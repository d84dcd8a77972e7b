-- The inner nodes of a tree are dropped: its leaves are left, linked in the order of their keys.
use Rattle.std.proofs.Common.{◌≡◌, ℕ, ◌&&◌, Bool, false, if◌then◌else◌, nat_eq, List, [], ◌∷◌, Option, None, is_some, refl, sym, ap, ◌∙◌, arith}
use Rattle.art_nodes.proofs.Common.{Name}
use Rattle.art_nodes.specs.declared.kind.NodeType.{NodeType}
use Rattle.art_nodes.specs.declared.kind.NodeType.TheVariants.{Leaf}
use Rattle.art_arena.proofs.Common.{Arena, Held, cell_of, links_of, held_at, node_at, links_at, SameLeaves, Cell, leaf_name, same_kind, copies, AreHeld, first_slot, Shape, LeafAt, leaves, StoresOnly, AreLinked-same, times-leaves}
use Rattle.art_operations.proofs.Terms.{leaf_cells, HasPairs, HoldsInOrder}
use Rattle.art_operations.proofs.FreedParts.{leaves-held}
use Rattle.art_operations.proofs.FreedRuns.{times-copies}
use Rattle.art_operations.proofs.LeafPairs.{pairs_ascend}

module _ {K V : Type 0} where
  -- a leaf's cell stands under no name of another kind
  none_of : (kind : NodeType) (slot : ℕ) (ls : List (LeafAt K V)) → same_kind kind Leaf ≡ false → copies (record { kind = kind; slot = slot }) (leaf_cells ls) ≡ 0
  none_of kind slot [] other = refl
  none_of kind slot (l ∷ ls) other =
      let here = ap {B = ℕ} (λ (b : Bool). if b && nat_eq slot l.slot then 1 else 0) other in
      omega (arith, here, none_of kind slot ls other)

  held-same : (old new : Name → Option (Cell K V)) (ls : List (LeafAt K V)) → ((slot : ℕ) → new (leaf_name slot) ≡ old (leaf_name slot)) → AreHeld old (leaf_cells ls) → AreHeld new (leaf_cells ls)
  held-same old new [] same held = tt
  held-same old new (l ∷ ls) same held = (same l.slot ∙ held.0, held-same old new ls same held.1)

module _ {K V : Type 0} (bytes : K → List ℕ) (P : ℕ) (old new : Arena K V) (same : SameLeaves old new) (vacant : (n : Name) → (n.kind ≡ Leaf → ⊥) → held_at new n ≡ None) where
  module _ (root : Name) (s : Shape K V) (stores : StoresOnly bytes P old root s) where
    once_as : (kind : NodeType) (slot : ℕ) → copies (record { kind = kind; slot = slot }) (leaf_cells (leaves s)) ≡ if is_some (node_at new (record { kind = kind; slot = slot })) then 1 else 0
    once_as Leaf slot =
        sym (times-copies slot (leaves s)) ∙ times-leaves bytes P slot [] s stores.nodes.under ∙ stores.nodes.holds.once (leaf_name slot)
        ∙ ap {B = ℕ} (λ (o : Option (Held K V)). if is_some (cell_of o) then 1 else 0) (sym (same slot))
    once_as kind slot = none_of kind slot (leaves s) refl ∙ ap {B = ℕ} (λ (o : Option (Held K V)). if is_some (cell_of o) then 1 else 0) (sym (vacant (record { kind = kind; slot = slot }) (λ e. cc)))

    pub kept-leaves : (first : Option ℕ) → first_slot (leaves s) None ≡ first → HoldsInOrder bytes new first (leaves s)
    kept-leaves first is = record {
      holds = record {
        holds = record {
          held = held-same (node_at old) (node_at new) (leaves s) (λ slot. ap cell_of (same slot)) (leaves-held P (node_at old) s stores.nodes.holds.held);
          once = λ n. once_as n.kind n.slot;
        };
        linked = AreLinked-same (links_at old) (links_at new) (λ slot. ap links_of (same slot)) None (leaves s) None stores.linked;
      };
      first_is = is;
      ascends = pairs_ascend bytes s stores.nodes.under;
    }

  -- without a tree there is no leaf
  pub none-in-order : (pairs : List (K × V)) → HasPairs bytes P old None pairs → HoldsInOrder bytes new None []
  none-in-order pairs none = record {
    holds = record {
      holds = record { held = tt; once = λ n. once_of n.kind n.slot };
      linked = tt;
    };
    first_is = refl;
    ascends = tt;
  }
    where
      once_of : (kind : NodeType) (slot : ℕ) → ◌≡◌ {A = ℕ} 0 (if is_some (node_at new (record { kind = kind; slot = slot })) then 1 else 0)
      once_of Leaf slot = ap {B = ℕ} (λ (o : Option (Cell K V)). if is_some o then 1 else 0) (sym (ap cell_of (same slot) ∙ none.1 (leaf_name slot)))
      once_of kind slot = ap {B = ℕ} (λ (o : Option (Held K V)). if is_some (cell_of o) then 1 else 0) (sym (vacant (record { kind = kind; slot = slot }) (λ e. cc)))
