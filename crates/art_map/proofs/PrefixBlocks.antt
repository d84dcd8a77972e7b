-- The part of a map's tree whose keys begin with a prefix: it is found, room is made for its loss, and it is cut.
use Rattle.std.proofs.Common.{◌≡◌, ℕ, ◌+◌, ◌-◌, ◌^◌, ◌<◌, min, not, List, [], ◌∷◌, length, map, Option, Some, None, Result, Ok, Err, IfOk, OnOk, refl, sym, ap, subst, ◌∙◌, arith}
use mathlib.Core.HLevel.{⊥_prop}
use mathlib.Core.Logic.{∥∥₁_elim}
use Rattle.art_nodes.proofs.Common.{Name}
use Rattle.art_arena.proofs.Common.{Arena, node_at, SameNodes, first_slot, IsSubtree, Shape, LeafAt, erase, leaves, pairs_of, key_of, steps_of, StoresBeside, begins_with, with_front, without_front, nodes-subtree, some_leaf, nodes-same}
use Rattle.art_operations.proofs.Common.{node_count, ForLongest, OpeningReads, HasCut, HasPairs, HasPairsWhere, HasRoomAbove, IsCutBeside, IsSubtreeAnswer, IsSubtreePoint, leaves_with, ShrinksWithout, HasTreeWhere, OfTree, OfTreeWhere, leaf_pair, without-shrinks}
use Rattle.art_operations.specs.Openings.{ReadsExactly, part_reads}
use Rattle.art_operations.specs.declared.delete.subtree.SubtreeDeletePoint.{SubtreeDeletePoint}
use Rattle.art_operations.specs.declared.delete.subtree.SubtreeDeleteResult.{SubtreeDeleteResult}
use Rattle.art_operations.specs.declared.delete.subtree.PreparedSubtreeDelete.{PreparedSubtreeDelete}
use Rattle.art_operations.proofs.CutPairs.{cut-pairs, with-map}
use Rattle.art_operations.proofs.DecidedParts.{known-subtree}
use Rattle.art_walks.proofs.Common.{PairsWithin, all-filter}
use Rattle.art_walks.proofs.MapReads.{keys-within, tree-read}
use Rattle.art_map.proofs.Terms.{Contents, contents, pairs_from, IsMap, cut_reads, cut_visits, IsFoundPart, IsPrefixPart, IsReadyPart, ShrinksAtCut}
use Rattle.art_map.proofs.Below.{has-seen}
use Rattle.art_map.proofs.Maps.{make}

-- nothing is mapped to nothing
from-nothing : {X Y : Type 0} (f : X → Y) (xs : List X) → map f xs ≡ [] → xs ≡ []
from-nothing f [] e = refl
from-nothing f (x ∷ xs) e = absurd (cc)

-- a list that is empty in truncated form is empty
none-there : {X : Type 0} (xs : List X) → ∥ xs ≡ [] ∥₁ → xs ≡ []
none-there [] known = refl
none-there (x ∷ xs) known = absurd (∥∥₁_elim known ⊥_prop (λ e. cc))

-- where there is no part, no pair begins with the prefix
pub none-ready : {K V : Type 0} (bytes : K → List ℕ) (P : ℕ) (m : Contents K V) (front : List ℕ) (part : Option PreparedSubtreeDelete) → part ≡ None → ∥ IsReadyPart bytes P m front part ∥₁ → with_front (key_of bytes) front m.pairs ≡ []
none-ready bytes P m front None is known = none-there (with_front (key_of bytes) front m.pairs) known
none-ready bytes P m front (Some ready) is known = absurd (cc)

-- and what was read is all that is counted
pub none-visits : {K V : Type 0} (bytes : K → List ℕ) (front : List ℕ) (pairs : List (K × V)) → with_front (key_of bytes) front pairs ≡ [] → (reads : ℕ) → reads < 2 ^ 64 → reads ≡ cut_visits bytes front pairs reads
none-visits bytes front pairs none reads fits =
    let nodes : node_count (key_of bytes) (with_front (key_of bytes) front pairs) ≡ 0 = ap (node_count (key_of bytes)) none in
    omega (arith, nodes, fits)

module _ {K V : Type 0} (bytes : K → List ℕ) (front : List ℕ) where
  -- of a part, which has a leaf, a pair begins with the prefix
  some-begins : (s : Shape K V) (point : SubtreeDeletePoint) → IsSubtreePoint bytes front s point → with_front (key_of bytes) front (pairs_of (leaves s)) ≡ [] → ⊥
  some-begins s point is none =
      let no_leaf = is.block ∙ from-nothing leaf_pair (leaves_with bytes front (leaves s)) (sym (with-map leaf_pair (key_of bytes) front (leaves s)) ∙ none) in
      let first : None ≡ Some point.first_leaf = ap (λ (ls : List (LeafAt K V)). first_slot ls None) (sym no_leaf) ∙ is.first_is in
      absurd (cc)

module _ {K V : Type 0} (bytes : K → List ℕ) (P : ℕ) where
  -- a part is the same in an arena with the same nodes
  part-same : (old new : Arena K V) → SameNodes old new → (root : Option Name) (front : List ℕ) (point : SubtreeDeletePoint) → IsPrefixPart bytes P (contents old root) front root point → IsPrefixPart bytes P (contents new root) front root point
  part-same old new same None front point part = part
  part-same old new same (Some top) front point part =
      let are : node_at new ≡ node_at old = λ i n. nodes-same old new same n i in
      λ s stores. part s (subst (λ at. IsSubtree bytes P at top [] s) are stores)

  -- and there is room for its loss
  pub ready-same : {E : Type 0} (old new : Arena K V) → SameNodes old new → (root : Option Name) (point : SubtreeDeletePoint) (r : Result PreparedSubtreeDelete E) → IfOk r (λ ready. ready.point ≡ point) → OnOk r (HasRoomAbove new (steps_of point.path))
      → IfOk r (λ ready. (front : List ℕ) → IsFoundPart bytes P (contents old root) front (Some point) → IsReadyPart bytes P (contents new root) front (Some ready))
  ready-same old new same root point (Err e) is room = tt
  ready-same old new same root point (Ok ready) is room = λ front part. (
    subst (IsPrefixPart bytes P (contents new root) front root) (sym is) (part-same old new same root front point part),
    subst (λ (p : SubtreeDeletePoint). HasRoomAbove new (steps_of p.path)) (sym is) room,
  )

module _ {K V : Type 0} (bytes : K → List ℕ) (P : ℕ) (front : List ℕ) where
  module _ (is_key : K → Type 0) (arena : Arena K V) where
    -- what a search finds in the tree of a map
    module _ (root : Option Name) (map : IsMap bytes is_key P arena root) (top : Name) (is : root ≡ Some top) where
      has_top : HasPairs bytes P arena (Some top) (pairs_from arena root)
      has_top = subst (λ r. HasPairs bytes P arena r (pairs_from arena root)) is map.has

      -- where there is a root, there is a pair
      pub has-pair : pairs_from arena root ≡ [] → ⊥
      has-pair none =
          let leaf = some_leaf bytes [] has_top.0 has_top.1.nodes.under in
          let nothing : pairs_of (leaf.0 ∷ leaf.1) ≡ [] = ap pairs_of (sym leaf.2) ∙ has_top.2 ∙ none in
          absurd (cc)

      pub found-part : (found : Option SubtreeDeletePoint) → OfTree bytes P arena top (λ s. IsSubtreeAnswer bytes front s found) → IsFoundPart bytes P (contents arena root) front found
      found-part None answer =
          let s = has_top.0 in
          ap (with_front (key_of bytes) front) (sym has_top.2) ∙ with-map leaf_pair (key_of bytes) front (leaves s)
          ∙ ap (λ (ls : List (LeafAt K V)). pairs_of ls) (answer s (nodes-subtree bytes P (node_at arena) top s has_top.1.nodes))
      found-part (Some point) answer = subst (λ r. IsPrefixPart bytes P (contents arena root) front r point) (sym is) (λ s stores. ∣ answer s stores ∣₁)

      pub few-reads : (old new : ℕ) → OfTree bytes P arena top (λ s. ForLongest bytes s (λ longest. OpeningReads longest (length front) old new)) → (longest : ℕ) → PairsWithin bytes longest (pairs_from arena root) → OpeningReads longest (length front) old new
      few-reads old new few longest short =
          few has_top.0 (nodes-subtree bytes P (node_at arena) top has_top.0 has_top.1.nodes) longest (keys-within bytes P arena top (pairs_from arena root) ([], has_top) longest short)

      -- so many nodes were read, told by the pairs alone
      pub exact-reads : (count : ℕ) → OfTree bytes P arena top (λ s. ReadsExactly (part_reads (key_of bytes) P (erase s) front) 0 count) → count ≡ cut_reads bytes P front (pairs_from arena root)
      exact-reads count reads =
          let read =
          tree-read bytes P arena top (pairs_from arena root) ([], has_top) (λ t. part_reads (key_of bytes) P t front) 0 count
          (reads has_top.0 (nodes-subtree bytes P (node_at arena) top has_top.0 has_top.1.nodes)) in
          omega (arith, read)

    -- a part stands in the tree
    pub part-there : (root : Option Name) → IsMap bytes is_key P arena root → (point : SubtreeDeletePoint) → ∥ IsPrefixPart bytes P (contents arena root) front root point ∥₁
        → HasPairsWhere bytes P arena point.root (λ s. IsSubtreePoint bytes front s point) (pairs_from arena root) []
    part-there None map point part = absurd (∥∥₁_elim part ⊥_prop (λ x. x))
    part-there (Some top) map point part =
        let s = map.has.0 in
        let tree = map.has.1 in
        let is = known-subtree bytes front P arena [] top s tree point part in
        record { shape = s; is_tree = subst (λ n. StoresBeside bytes P arena n [] s) (sym tree.nodes.named ∙ is.named) tree; place = is; pairs_are = map.has.2 }

    module _ (root : Option Name) (map : IsMap bytes is_key P arena root) (point : SubtreeDeletePoint) (part : ∥ IsPrefixPart bytes P (contents arena root) front root point ∥₁) where
      at : HasPairsWhere bytes P arena point.root (λ s. IsSubtreePoint bytes front s point) (pairs_from arena root) []
      at = part-there root map point part

      pub place-there : (other : List ℕ) × HasTreeWhere bytes P arena point.root (λ s. IsSubtreePoint bytes other s point)
      place-there = (front, (at.shape, [], at.is_tree, at.place))

      -- where its loss makes a node smaller
      pub cut-shrinks : ((other : List ℕ) → OfTreeWhere bytes P arena point.root (λ s. IsSubtreePoint bytes other s point) (λ s rest. ShrinksWithout (λ l. bytes l.key) (leaves s) other)) → ShrinksAtCut bytes front (pairs_from arena root)
      cut-shrinks shrinks =
          subst (ShrinksAtCut bytes front) at.pairs_are
          (some-begins bytes front at.shape point at.place, without-shrinks leaf_pair (key_of bytes) (leaves at.shape) front (shrinks front at.shape [] at.is_tree at.place))

      -- once it is cut
      module _ (new : Arena K V) (result : SubtreeDeleteResult) (gone : (other : List ℕ) → OfTreeWhere bytes P arena point.root (λ s. IsSubtreePoint bytes other s point) (λ s rest. IsCutBeside bytes other P new rest s result)) where
        cut : HasCut bytes P new front result (pairs_from arena root) []
        cut = cut-pairs bytes P new [] at.shape (pairs_from arena root) at.pairs_are front result (gone front at.shape [] at.is_tree at.place)

        pub cut-map : IsMap bytes is_key P new result.new_root
        cut-map = make bytes is_key P new result.new_root (without_front (key_of bytes) front (pairs_from arena root)) cut.left (all-filter (λ q. is_key q.0) (λ q. not (begins_with front (key_of bytes q))) (pairs_from arena root) map.keys)

        pub cut-left : pairs_from new result.new_root ≡ without_front (key_of bytes) front (pairs_from arena root)
        cut-left = has-seen bytes P new result.new_root _ cut.left

        pub cut-count : result.leafs_removed ≡ length (with_front (key_of bytes) front (pairs_from arena root))
        cut-count = cut.removed

        pub cut-visits : (reads visits : ℕ) → visits ≡ min (reads + result.nodes_freed) (2 ^ 64 - 1) → visits ≡ cut_visits bytes front (pairs_from arena root) reads
        cut-visits reads visits is = let freed = cut.freed in omega (arith, is, freed)
