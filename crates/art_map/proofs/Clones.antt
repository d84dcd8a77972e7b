-- A clone of a map's nodes has clones of its pairs.
use Rattle.std.proofs.Common.{◌≡◌, ℕ, List, [], ◌∷◌, Option, Some, None, refl, sym, ap, ap₂, subst}
use Rattle.art_nodes.proofs.Common.{Name}
use Rattle.art_arena.proofs.Common.{Arena, Held, leaf_held, inner_held, cell_of, held_at, IsArenaClone, IsHeldClone, leaves, pairs_of}
use Rattle.art_operations.proofs.Common.{HasPairs, AreClones}
use Rattle.art_operations.proofs.ClonedTrees.{cloned-tree}
use Rattle.art_operations.proofs.RepeatedClones.{shape-pairs}
use Rattle.art_map.proofs.Terms.{IsMap, pairs_from}
use Rattle.art_map.proofs.Below.{has-seen}
use Rattle.art_map.proofs.Maps.{AreKeys, make}

module _ {K V : Type 0} (KeyClone : K → K → Type 0) (ValueClone : V → V → Type 0) where
  -- where a clone of a key or a value equals its original, clones of pairs are these
  pub same-clones : ((k c : K) → KeyClone k c → c ≡ k) → ((v c : V) → ValueClone v c → c ≡ v) → (pairs clones : List (K × V)) → AreClones KeyClone ValueClone pairs clones → clones ≡ pairs
  same-clones keys values [] [] are = refl
  same-clones keys values [] (c ∷ cs) are = absurd are
  same-clones keys values (p ∷ ps) [] are = absurd are
  same-clones keys values (p ∷ ps) (c ∷ cs) are = ap₂ (λ x xs. x ∷ xs) (ap₂ (λ k v. (k, v)) (keys p.0 c.0 are.0.0) (values p.1 c.1 are.0.1)) (same-clones keys values ps cs are.1)

  -- what is a key stays one
  keys-cloned : (is_key : K → Type 0) → ((k c : K) → is_key k → KeyClone k c → is_key c) → (pairs clones : List (K × V)) → AreClones KeyClone ValueClone pairs clones → AreKeys is_key pairs → AreKeys is_key clones
  keys-cloned is_key stays [] [] are keys = tt
  keys-cloned is_key stays [] (c ∷ cs) are keys = absurd are
  keys-cloned is_key stays (p ∷ ps) [] are keys = absurd are
  keys-cloned is_key stays (p ∷ ps) (c ∷ cs) are keys = (stays p.0 c.0 keys.0 are.0.0, keys-cloned is_key stays ps cs are.1 keys.1)

  -- where nothing stands there is no clone
  none-cloned : (held copy : Option (Held K V)) → cell_of held ≡ None → IsHeldClone KeyClone ValueClone held copy → cell_of copy ≡ None
  none-cloned None copy none is = ap cell_of is
  none-cloned (Some (leaf_held leaf)) copy none is = absurd (cc)
  none-cloned (Some (inner_held node)) copy none is = absurd (cc)

  module _ (bytes : K → List ℕ) (same : (k c : K) → KeyClone k c → bytes c ≡ bytes k) (P : ℕ) (arena copy : Arena K V) (is : IsArenaClone KeyClone ValueClone arena copy) where
    cloned-pairs : (root : Option Name) (pairs : List (K × V)) → HasPairs bytes P arena root pairs → (clones : List (K × V)) × AreClones KeyClone ValueClone pairs clones × HasPairs bytes P copy root clones
    cloned-pairs None pairs has = ([], subst (λ ps. AreClones KeyClone ValueClone ps []) (sym has.0) tt, (refl, λ n. none-cloned (held_at arena n) (held_at copy n) (has.1 n) (is n)))
    cloned-pairs (Some root) pairs (s, tree, e) =
        let t = cloned-tree KeyClone ValueClone bytes same P arena copy is root s tree in
        (pairs_of (leaves t.shape), subst (λ ps. AreClones KeyClone ValueClone ps (pairs_of (leaves t.shape))) e (shape-pairs KeyClone ValueClone s t.shape t.clone), (t.shape, t.is_tree, refl))

    module _ (is_key : K → Type 0) (stays : (k c : K) → is_key k → KeyClone k c → is_key c) (root : Option Name) (map : IsMap bytes is_key P arena root) where
      pub cloned-map : IsMap bytes is_key P copy root
      cloned-map =
          let (clones, are, has) = cloned-pairs root (pairs_from arena root) map.has in
          make bytes is_key P copy root clones has (keys-cloned is_key stays (pairs_from arena root) clones are map.keys)

      pub are-clones : AreClones KeyClone ValueClone (pairs_from arena root) (pairs_from copy root)
      are-clones =
          let (clones, are, has) = cloned-pairs root (pairs_from arena root) map.has in
          subst (AreClones KeyClone ValueClone (pairs_from arena root)) (sym (has-seen bytes P copy root clones has)) are
