-- A step of a descent, from an inner node that was read to one of its children.
use Rattle.std.specs.Prelude.{◌≡◌, ◌≢◌, ℕ, ◌+◌, ◌-◌, ◌^◌, ◌<◌, ◌≤◌, ◌⊎◌, ◌||◌, List, [], ◌∷◌, ◌++◌, drop}
use Rattle.std.specs.Prelude.{Option, Some, None, is_some, IfSome, MatchOption}
use Rattle.std.specs.Borrow.{Bor}
use Rattle.art_bytes.specs.Keys.{BeginsWith}
use Rattle.art_nodes.specs.InnerNode.{InnerNode}
use Rattle.art_nodes.specs.declared.leaf.LeafNode.{LeafNode}
use Rattle.art_arena.specs.arena.Arena.{Arena}
use Rattle.art_arena.specs.arena.Descents.{GoesNoFurther, GoesOn, IsGuide, MeetsStored, Stops}
use Rattle.art_arena.specs.arena.Prefixes.{prefix_of}
use Rattle.art_arena.specs.arena.Reads.{KeysWithin, ReadsExactly, guide_cost, unguided}
use Rattle.art_arena.specs.arena.Shapes.{Shape, erase, leaves}
use Rattle.art_arena.specs.arena.Visited.{count_of}
use Rattle.art_arena.specs.declared.descent.Passing.{Passing}
use Rattle.art_arena.specs.declared.descent.Passing.TheVariants.{ByBytes, ByStored}
use Rattle.art_arena.specs.declared.inner_ref.NextStep.{NextStep}
use Rattle.art_arena.specs.declared.reader.Reader.{Reader}
use Rattle.art_arena.specs.tree.Ways.{is_cut}

-- A step is one by which the key goes on from this inner node, which stands after `depth` of its bytes. By what is
-- stored it is taken where the key goes on with that, and there is none only where the key doesn't, or goes no further.
abbrev pub TakesStep : Passing → List ℕ → ℕ → InnerNode → Option NextStep → Type 0
TakesStep passing key depth node None =
    passing ≡ ByStored → (MeetsStored key depth node → ⊥) ⊎ GoesNoFurther key depth node
TakesStep passing key depth node (Some step) =
    GoesOn key depth node step.byte step.child step.depth × (passing ≡ ByStored → MeetsStored key depth node)

-- After a step from `depth` bytes of the key to `next` so many are compared, of which `compared` were before it. It is
-- all where all were, and the node's prefix is wholly stored. Else it is no more than before.
abbrev pub IsComparedAfter : ℕ → InnerNode → ℕ → ℕ → ℕ → ℕ → Type 0
IsComparedAfter P node compared depth next more =
    ((compared ≡ depth) × (node.header.prefix_len ≤ P) × (more ≡ next))
    ⊎ (((compared ≢ depth) ⊎ (P < node.header.prefix_len)) × (more ≡ compared))

-- a guide, if there is one, stands for this part and what is below it
abbrev pub IsGuided : {K V : Type 0} → (K → List ℕ) → List ℕ → List ℕ → Shape K V → Option (Bor (LeafNode K V)) → Type 0
IsGuided bytes key path s guide = IfSome guide (λ leaf. IsGuide key (bytes leaf.now.key) path s)

module _ {K V : Type 0} (bytes : K → List ℕ) (P : ℕ) (key : List ℕ) (depth : ℕ) (path : List ℕ) (s : Shape K V) where
  -- By bytes this step was taken from this part, or none: `was` and `now` are the guide before and after it, `old` and
  -- `new` the reader.
  pub record StepsByBytes (step : Option NextStep) (was now : Option (Bor (LeafNode K V)))
      (old new : Reader (Arena K V)) : Type 0 where
    -- a key that begins with the path begins with the way to the child, too; where there is no step, it stops here
    pub goes : IsGuided bytes key path s was → BeginsWith path key
        → MatchOption step (Stops bytes key path s) (λ to. BeginsWith ((path ++ prefix_of s) ++ to.byte ∷ []) key)
    -- the guide stands for this part, if the one before did
    pub keeps : IsGuided bytes key path s was → IsGuided bytes key path s now
    -- there is one if there was one before, or if the prefix isn't wholly stored
    pub found : is_some now ≡ (is_some was || is_cut P (erase s))
    -- what it took to find it was read, and nothing else
    pub counts : count_of old ≤ 2 ^ 64 - 1
        → ReadsExactly (guide_cost was P (erase s) (drop depth key)) (count_of old) (count_of new)

  -- the step was taken from this part, by what is stored or by bytes
  pub record StepsFrom (passing : Passing) (step : Option NextStep) (was now : Option (Bor (LeafNode K V)))
      (old new : Reader (Arena K V)) : Type 0 where
    -- by bytes, it is one as said above
    pub by_bytes : passing ≡ ByBytes → StepsByBytes step was now old new
    -- with what may yet be read for a guide, no more is read than might be before
    pub few : (longest : ℕ) → KeysWithin bytes longest (leaves s)
        → count_of new + unguided now longest ≤ count_of old + unguided was longest
