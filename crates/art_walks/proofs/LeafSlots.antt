-- The leaves of a shape among the names that a check met: their links are told by the slab keys alone.
use Rattle.std.proofs.Common.{◌≡◌, ℕ, ◌+◌, List, [], ◌∷◌, ◌++◌, length, Option, Some, refl, sym, ap, ap₂, ◌∙◌, arith}
use Rattle.art_nodes.proofs.Common.{Name}
use Rattle.art_nodes.specs.declared.kind.NodeType.{NodeType}
use Rattle.art_nodes.specs.declared.kind.NodeType.TheVariants.{Leaf}
use Rattle.art_arena.proofs.Common.{IsKindOf, Shape, Branches, leaf_at, inner_at, no_branch, branch, LeafAt, leaves, leaves_in, cells, cells_in, width, Links, AreLinked, slot_list}
use Rattle.art_walks.proofs.Terms.{HasKinds, HaveKinds, cell_names, with_slot, leaf_slots, AreLinkedSlots}
use Rattle.art_walks.proofs.Skeletons.{cell_names-append}
use Rattle.art_walks.proofs.Fillings.{fill, fill_in}
use Rattle.std.proofs.lemmas.List.{map-append}

leaf_slots-append : (xs ys : List Name) → leaf_slots (xs ++ ys) ≡ leaf_slots xs ++ leaf_slots ys
leaf_slots-append [] ys = refl
leaf_slots-append (x ∷ xs) ys = ap (with_slot x.kind x.slot) (leaf_slots-append xs ys) ∙ out x.kind x.slot (leaf_slots xs)
  where
    out : (kind : NodeType) (slot : ℕ) (zs : List ℕ) → with_slot kind slot (zs ++ leaf_slots ys) ≡ with_slot kind slot zs ++ leaf_slots ys
    out Leaf slot zs = refl
    out kind slot zs = refl

-- an inner node isn't a leaf
inner-slot : (kind : NodeType) (slot children : ℕ) (slots : List ℕ) → IsKindOf kind children → with_slot kind slot slots ≡ slots
inner-slot Leaf slot children slots is = let two = is.two in let most = is.most in absurd (omega (arith, two, most))
inner-slot kind slot children slots is = refl

module _ {K V : Type 0} where
  -- the leaves are linked where their slab keys are
  pub linked-slots : (links : ℕ → Option Links) (before : Option ℕ) (ls : List (LeafAt K V)) (after : Option ℕ) → AreLinkedSlots links before (slot_list ls) after → AreLinked links before ls after
  linked-slots links before [] after linked = tt
  linked-slots links before (l ∷ []) after linked = linked
  linked-slots links before (l ∷ m ∷ ls) after linked = (linked.0, linked-slots links (Some l.slot) (m ∷ ls) after linked.1)

  pub slots-linked : (links : ℕ → Option Links) (before : Option ℕ) (ls : List (LeafAt K V)) (after : Option ℕ) → AreLinked links before ls after → AreLinkedSlots links before (slot_list ls) after
  slots-linked links before [] after linked = tt
  slots-linked links before (l ∷ []) after linked = linked
  slots-linked links before (l ∷ m ∷ ls) after linked = (linked.0, slots-linked links (Some l.slot) (m ∷ ls) after linked.1)

  module _ (P : ℕ) where
    -- the leaves of a shape are the leaves among the names of its cells, in order
    mutual
      pub slots-named : (s : Shape K V) → HasKinds s → slot_list (leaves s) ≡ leaf_slots (cell_names (cells P s))
      slots-named (leaf_at slot k v) kinds = refl
      slots-named (inner_at n prefix kids) kinds = slots-named_in kids kinds.1 ∙ sym (inner-slot n.kind n.slot (width kids) (leaf_slots (cell_names (cells_in P kids))) kinds.0)

      slots-named_in : (kids : Branches K V) → HaveKinds kids → slot_list (leaves_in kids) ≡ leaf_slots (cell_names (cells_in P kids))
      slots-named_in no_branch kinds = refl
      slots-named_in (branch b s rest) kinds =
          map-append (λ l. l.slot) (leaves s) (leaves_in rest)
          ∙ ap₂ (λ xs ys. xs ++ ys) (slots-named s kinds.0) (slots-named_in rest kinds.1)
          ∙ sym (ap leaf_slots (cell_names-append (cells P s) (cells_in P rest)) ∙ leaf_slots-append (cell_names (cells P s)) (cell_names (cells_in P rest)))

  module _ (bytes : K → List ℕ) where
    -- filled prefixes leave the leaves
    mutual
      pub leaves-fill : (d : ℕ) (s : Shape K V) → leaves (fill bytes d s) ≡ leaves s
      leaves-fill d (leaf_at slot k v) = refl
      leaves-fill d (inner_at n prefix kids) = leaves-fill_in (d + length prefix + 1) kids

      leaves-fill_in : (d : ℕ) (kids : Branches K V) → leaves_in (fill_in bytes d kids) ≡ leaves_in kids
      leaves-fill_in d no_branch = refl
      leaves-fill_in d (branch b s rest) = ap₂ (λ xs ys. xs ++ ys) (leaves-fill d s) (leaves-fill_in d rest)
