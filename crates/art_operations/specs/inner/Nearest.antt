-- A leaf beside the place of a key among the leaves.
use Rattle.std.specs.Prelude.{◌≡◌, ℕ, Bool, true, false, not, List, ◌∷◌, ◌++◌}
use Rattle.std.specs.List.{AllByRecursion}
use Rattle.std.specs.declared.cmp.Ordering.{Ordering}
use Rattle.std.specs.declared.cmp.Ordering.TheVariants.{Less, Equal, Greater}
use Rattle.std.specs.declared.ops.Bound.{Bound}
use Rattle.std.specs.declared.ops.Bound.TheVariants.{Included, Excluded}
use Rattle.art_bytes.specs.Keys.{bytes_cmp}
use Rattle.art_arena.specs.arena.Shapes.{LeafAt}

module _ {K V : Type 0} (bytes : K → List ℕ) (key : List ℕ) where
  -- the keys of these compare so with the key
  abbrev pub Compare : Ordering → List (LeafAt K V) → Type 0
  Compare order ls = AllByRecursion (λ l. bytes_cmp (bytes l.key) key ≡ order) ls

  -- the keys before the leaf with this slab key are below the key, those after it above, and its own compares so
  pub record IsNearest (ls : List (LeafAt K V)) (slot : ℕ) (order : Ordering) : Type 0 where
    pub before : List (LeafAt K V)
    pub leaf : LeafAt K V
    pub after : List (LeafAt K V)
    pub parts : ls ≡ before ++ leaf ∷ after
    pub is : leaf.slot ≡ slot
    pub below : Compare Less before
    pub compares : bytes_cmp (bytes leaf.key) key ≡ order
    pub above : Compare Greater after

-- the bound at this key, which takes the key itself or not
abbrev pub bound_at : Bool → List ℕ → Bound (List ℕ)
bound_at true key = Included key
bound_at false key = Excluded key

-- whether it takes a key that compares so with its own: as a start or as an end, and its own key or not
abbrev pub takes : Bool → Bool → Ordering → Bool
takes is_start includes Less = not is_start
takes is_start includes Equal = includes
takes is_start includes Greater = is_start
