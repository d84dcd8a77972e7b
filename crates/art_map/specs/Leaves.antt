-- The leaves of a map, and a run of neighbours among them.
use Rattle.std.specs.Prelude.{◌≡◌, ℕ, List, ◌∷◌, ◌++◌}
use Rattle.art_arena.specs.arena.Shapes.{LeafAt, pairs_of}
use Rattle.art_arena.specs.declared.ends.End.{End}
use Rattle.art_arena.specs.declared.ends.End.TheVariants.{First, Last}
use Rattle.art_operations.specs.Deletions.{HasLeaves}
use Rattle.art_map.specs.Contents.{Contents}
use Rattle.art_walks.specs.Runs.{Ends, HasEnds}

module _ {K V : Type 0} (bytes : K → List ℕ) (P : ℕ) (m : Contents K V) where
  -- these are the leaves of the map's tree, in order, which are linked so, and hold its pairs
  pub record AreLeaves (ls : List (LeafAt K V)) : Type 0 where
    pub has : HasLeaves bytes P m.nodes m.root ls
    pub pairs_are : m.pairs ≡ pairs_of ls

  -- the leaves between these ends are neighbours among them
  pub record IsRun (ends : Ends) : Type 0 where
    pub front : List (LeafAt K V)
    pub run : List (LeafAt K V)
    pub back : List (LeafAt K V)
    pub leaves : AreLeaves (front ++ (run ++ back))
    pub ends_are : HasEnds run ends

  -- the leaves of a run and one more, which stands at this end of it
  abbrev pub with_end : End → List (LeafAt K V) → LeafAt K V → List (LeafAt K V) → List (LeafAt K V) → List (LeafAt K V)
  with_end First front l run back = front ++ l ∷ (run ++ back)
  with_end Last front l run back = front ++ (run ++ l ∷ back)

  -- the leaves between these ends are neighbours among them, and the leaf with this slab key is the next one at this
  -- end
  pub record IsNextAt (end : End) (slot : ℕ) (ends : Ends) : Type 0 where
    pub front : List (LeafAt K V)
    pub leaf : LeafAt K V
    pub run : List (LeafAt K V)
    pub back : List (LeafAt K V)
    pub leaves : AreLeaves (with_end end front leaf run back)
    pub slot_is : leaf.slot ≡ slot
    pub ends_are : HasEnds run ends
