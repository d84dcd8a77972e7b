-- What a leaf ends as, where a `&mut` to its value is returned; what a clone of a leaf is.
use Rattle.std.specs.Prelude.{◌≡◌}
use Rattle.std.specs.Borrow.{Lends, Fml, RattleType, MutBor}
use Rattle.art_nodes.specs.declared.leaf.LeafNode.{LeafNode}
use Rattle.art_nodes.specs.contracts.leaf.LeafNode.{the_row}

module _ (K V : RattleType) (leaf : MutBor (LeafNode K.Denot V.Denot)) where
  -- once the borrow r ends, the leaf has the last value written through r
  abbrev pub lends_value : MutBor V.Denot → Fml
  lends_value r = Lends (the_row K V) V leaf r (λ value. record leaf.now { value = value })

-- a clone of the key and one of the value, with the same neighbours
pub record IsLeafClone {K V : Type 0} (KeyClone : K → K → Type 0) (ValueClone : V → V → Type 0)
    (leaf copy : LeafNode K V) : Type 0 where
  pub key : KeyClone leaf.key copy.key
  pub value : ValueClone leaf.value copy.value
  pub previous : copy.previous ≡ leaf.previous
  pub next : copy.next ≡ leaf.next
