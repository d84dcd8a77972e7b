-- The item at an end of a list, and the others.
use Rattle.std.proofs.Common.{◌≡◌, List, [], ◌∷◌, sym, ap, ◌∙◌}
use Rattle.std.proofs.lemmas.List.{map-append}
use Rattle.art_arena.proofs.Common.{LeafAt, pairs_of}
use Rattle.art_arena.specs.declared.ends.End.{End}
use Rattle.art_arena.specs.declared.ends.End.TheVariants.{First, Last}
use Rattle.art_operations.proofs.Common.{IsAtEnd, leaf_pair, last-same}

module _ {X : Type 0} where
  -- an empty list has no end
  pub none-at-end : (end : End) (x : X) (rest : List X) → IsAtEnd end x rest [] → ⊥
  none-at-end First x rest e = absurd (cc)
  none-at-end Last x [] e = absurd (cc)
  none-at-end Last x (y ∷ ys) e = absurd (cc)

  -- at an end there is one item, and the others are beside it
  pub same-end : (end : End) (x y : X) (xs ys zs : List X) → IsAtEnd end x xs zs → IsAtEnd end y ys zs → (x ≡ y) × (xs ≡ ys)
  same-end First x y xs ys zs e f =
      let g : x ∷ xs ≡ y ∷ ys = sym e ∙ f in
      let head : x ≡ y = cc in
      let tail : xs ≡ ys = cc in
      (head, tail)
  same-end Last x y xs ys zs e f = let g = last-same xs ys x y (sym e ∙ f) in (g.1, g.0)

-- the pair of the leaf at an end is at that end of the pairs
pub pairs-end : {K V : Type 0} (end : End) (l : LeafAt K V) (ys zs : List (LeafAt K V)) → IsAtEnd end l ys zs → IsAtEnd end (leaf_pair l) (pairs_of ys) (pairs_of zs)
pairs-end First l ys zs e = ap pairs_of e
pairs-end Last l ys zs e = ap pairs_of e ∙ map-append leaf_pair ys (l ∷ [])
