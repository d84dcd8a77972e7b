-- The pair at an end, taken out.
use Rattle.std.proofs.Common.{◌≡◌, ℕ, ◌+◌, ◌≤◌, cond, List, [], ◌∷◌, ◌++◌, Option, Some, None, refl, sym, ap, subst, ◌∙◌, arith}
use Rattle.std.proofs.lemmas.List.{append-nil, map-append}
use Rattle.art_nodes.proofs.Common.{Name}
use Rattle.art_arena.proofs.Common.{Arena, node_at, links_at, end_slot, first_slot, last_slot, times, Shape, LeafAt, leaves, pairs_of, key_of, Step, Stores, StoresBeside, Cell, Shrinks, leaves-plug, eqb-self, ends_with-first, last_slot-append, times-append, times-here, nodes-subtree, tree-list}
use Rattle.art_arena.specs.declared.ends.End.{End}
use Rattle.art_arena.specs.declared.ends.End.TheVariants.{First, Last}
use Rattle.art_operations.proofs.Terms.{IsLeafPlace, IsDeletedBeside, HasPairsBeside, HasTakenEnd, IsAtEnd, ShrinksAtEnd, DeleteResult}
use Rattle.art_operations.proofs.HeldPairs.{leaves-pairs}
use Rattle.art_operations.proofs.LeafPairs.{leaf_pair, shrinks-map, pairs-parts}

module _ {K V : Type 0} where
  twice : (l : LeafAt K V) (xs ys : List (LeafAt K V)) (m : LeafAt K V) → l.slot ≡ m.slot → times l.slot (l ∷ xs ++ m ∷ ys) ≤ 1 → ⊥
  twice l xs ys m same once = omega (arith, once, ap {B = ℕ} (λ b. cond b 1 0) (eqb-self l.slot), times-here xs ys m, ap (λ n. times n (xs ++ m ∷ ys)) same)

  -- a leaf at an end, that stands once, has none beyond it
  at-first : (front : List (LeafAt K V)) (l : LeafAt K V) (back : List (LeafAt K V)) → first_slot (front ++ l ∷ back) None ≡ Some l.slot → times l.slot (front ++ l ∷ back) ≤ 1 → front ≡ []
  at-first [] l back e once = refl
  at-first (f ∷ front) l back e once = let same : f.slot ≡ l.slot = cc in absurd (twice f front back l same (subst (λ n. times n (f ∷ front ++ l ∷ back) ≤ 1) (sym same) once))

  at-last : (front : List (LeafAt K V)) (l : LeafAt K V) (back : List (LeafAt K V)) → last_slot None (front ++ l ∷ back) ≡ Some l.slot → times l.slot (front ++ l ∷ back) ≤ 1 → back ≡ []
  at-last front l [] e once = refl
  at-last front l (b ∷ back) e once =
      let ends = ends_with-first (b ∷ back) l.slot (sym (last_slot-append None front (l ∷ b ∷ back)) ∙ e) in
      let counted : times l.slot (front ++ l ∷ (b ∷ back)) ≡ times l.slot front + (times l.slot (l ∷ (ends.0 ++ ends.1 ∷ []))) = times-append l.slot front (l ∷ (b ∷ back)) ∙ ap (λ ls. times l.slot front + times l.slot (l ∷ ls)) ends.2 in
      absurd (twice l ends.0 [] ends.1 (sym ends.3) (omega (arith, counted, once)))

module _ {K V : Type 0} (bytes : K → List ℕ) (P : ℕ) (old : Arena K V) (rest : List (Name × Cell K V)) (root : Option Name) (top : Name) (is : root ≡ Some top) (pairs : List (K × V)) (has : HasPairsBeside bytes P old root pairs rest) (end : End) (slot : ℕ) (last : List Step)
    (value : (s : Shape K V) → Stores bytes P old top s → end_slot end (leaves s) ≡ Some slot) (place : (s : Shape K V) → Stores bytes P old top s → IsLeafPlace bytes s slot last) where
  abbrev below : HasPairsBeside bytes P old (Some top) pairs rest
  below = subst (λ r. HasPairsBeside bytes P old r pairs rest) is has

  pub stored : Stores bytes P old top below.0
  stored = nodes-subtree bytes P (node_at old) top below.0 below.1.nodes

  abbrev pub the-place : (s : Shape K V) × (others : List (Name × Cell K V)) × StoresBeside bytes P old top others s × IsLeafPlace bytes s slot last
  the-place = (below.0, rest, below.1, place below.0 stored)

  -- the leaf at the end has the pair at the end
  end-pair : (front : List (LeafAt K V)) (l : LeafAt K V) (back : List (LeafAt K V)) → l.slot ≡ slot → leaves below.0 ≡ front ++ l ∷ back → IsAtEnd end (leaf_pair l) (pairs_of (front ++ back)) pairs
  end-pair front l back same e = at end (value below.0 stored)
    where
      once : times l.slot (front ++ l ∷ back) ≤ 1
      once = subst (λ ls. times l.slot ls ≤ 1) e ((tree-list bytes P (node_at old) top (links_at old) below.0 below.1).once l.slot)

      whole : pairs ≡ pairs_of front ++ leaf_pair l ∷ pairs_of back
      whole = sym below.2 ∙ ap pairs_of e ∙ pairs-parts bytes front l back

      at : (end : End) → end_slot end (leaves below.0) ≡ Some slot → IsAtEnd end (leaf_pair l) (pairs_of (front ++ back)) pairs
      at First f =
          let none = at-first front l back (sym (ap (λ ls. first_slot ls None) e) ∙ f ∙ ap Some (sym same)) once in
          whole ∙ ap (λ xs. pairs_of xs ++ leaf_pair l ∷ pairs_of back) none ∙ ap (λ xs. leaf_pair l ∷ pairs_of (xs ++ back)) (sym none)
      at Last f =
          let none = at-last front l back (sym (ap (last_slot None) e) ∙ f ∙ ap Some (sym same)) once in
          whole ∙ ap (λ xs. pairs_of front ++ leaf_pair l ∷ pairs_of xs) none ∙ ap (λ xs. xs ++ leaf_pair l ∷ []) (sym (map-append leaf_pair front [] ∙ append-nil (pairs_of front)) ∙ ap (λ xs. pairs_of (front ++ xs)) (sym none))

  -- it was taken out
  pub taken-end : (new : Arena K V) (deleted : DeleteResult K V) → ((s : Shape K V) → StoresBeside bytes P old top rest s → IsLeafPlace bytes s slot last → IsDeletedBeside bytes P new rest s slot deleted) → HasTakenEnd bytes P new root end (Some deleted) pairs rest
  taken-end new deleted result =
      let it = result below.0 below.1 (place below.0 stored) in
      (pairs_of (it.front ++ it.back), end-pair it.front _ it.back refl it.was, leaves-pairs bytes P new rest deleted.new_root (it.front ++ it.back) _ refl it.left)

  -- or it would make a node smaller
  pub shrinks-end : ((s : Shape K V) → StoresBeside bytes P old top rest s → (leaf : IsLeafPlace bytes s slot last) → Shrinks (λ l. bytes l.key) (leaves s) (bytes leaf.key)) → ShrinksAtEnd bytes end pairs
  shrinks-end shrinks =
      let at = place below.0 stored in (
        (at.key, at.value),
        _,
        end-pair _ (record { slot = slot; key = at.key; value = at.value }) _ refl (ap leaves at.place.is ∙ leaves-plug at.ctx _),
        subst (λ ps. Shrinks (key_of bytes) ps (bytes at.key)) below.2 (shrinks-map leaf_pair (key_of bytes) (leaves below.0) (bytes at.key) (shrinks below.0 below.1 at)),
      )
