-- A shape, its names put aside, is the canonical tree of its pairs.
use Rattle.std.proofs.Common.{◌≡◌, ℕ, suc, ◌+◌, ◌≤◌, List, [], ◌∷◌, ◌++◌, refl, sym, ap, ap₂, ◌∙◌, arith}
use Rattle.std.proofs.lemmas.List.{map-append}
use Rattle.art_arena.proofs.Terms.{items, items_in, count, IsBelow, IsCanonical, AreCanonical, tree_of, Shape, Branches, leaf_at, inner_at, no_branch, branch, leaves, leaves_in, pairs_of, width, erase, erase_in, IsUnder, AreUnder, key_of, ShapeMeansTree}
use Rattle.art_arena.proofs.tree.Unique.{tree_of_items}

module _ {K V : Type 0} where
  mutual
    pub items-erase : (s : Shape K V) → items (erase s) ≡ pairs_of (leaves s)
    items-erase (leaf_at slot k v) = refl
    items-erase (inner_at n prefix kids) = items_in-erase kids

    pub items_in-erase : (f : Branches K V) → items_in (erase_in f) ≡ pairs_of (leaves_in f)
    items_in-erase no_branch = refl
    items_in-erase (branch b s rest) = ap₂ (λ xs ys. xs ++ ys) (items-erase s) (items_in-erase rest) ∙ sym (map-append (λ l. (l.key, l.value)) (leaves s) (leaves_in rest))

  pub count-erase : (f : Branches K V) → count (erase_in f) ≡ width f
  count-erase no_branch = refl
  count-erase (branch b s rest) = ap suc (count-erase rest)

module _ {K V : Type 0} (bytes : K → List ℕ) where
  below-erase : (path : List ℕ) (a low : ℕ) (f : Branches K V) → suc a ≤ low → AreUnder bytes path low f → IsBelow a (erase_in f)
  below-erase path a low no_branch less under = tt
  below-erase path a low (branch b s rest) less under = (omega (arith, under.0), below-erase path a (b + 1) rest (omega (arith, under.0)) under.2)

  mutual
    pub canonical-erase : (path : List ℕ) (s : Shape K V) → IsUnder bytes path s → IsCanonical (key_of bytes) path (erase s)
    canonical-erase path (leaf_at slot k v) under = under
    canonical-erase path (inner_at n prefix kids) under =
        (omega (arith, under.0.two, count-erase kids), canonical_in-erase (path ++ prefix) 0 kids under.1)

    pub canonical_in-erase : (path : List ℕ) (low : ℕ) (f : Branches K V) → AreUnder bytes path low f → AreCanonical (key_of bytes) path (erase_in f)
    canonical_in-erase path low no_branch under = tt
    canonical_in-erase path low (branch b s rest) under =
        (canonical-erase (path ++ b ∷ []) s under.1, below-erase path b (b + 1) rest (omega arith) under.2, canonical_in-erase path (b + 1) rest under.2)

pub shape_means : (K V : Type 0) → ShapeMeansTree K V
shape_means K V bytes P at root links s rest tree = (
  erase s,
  sym (ap (tree_of (key_of bytes)) (items-erase s)) ∙ tree_of_items (key_of bytes) (erase s) (canonical-erase bytes [] s tree.nodes.under),
  record { shape = s; is_tree = tree; erased = refl },
)
