-- A walk whose leaves are counted: the pairs that are seen.
use Rattle.std.proofs.Common.{◌≡◌, ℕ, List, [], ◌∷◌, ◌++◌, length, Option, Some, None, refl, sym, ap, ap₂, ◌∙◌}
use Rattle.std.proofs.lemmas.List.{length-map}
use Rattle.art_arena.proofs.Common.{Arena, held_at, links_at, leaf_name, first_slot, last_slot, AreLinked, LeafAt, pairs_of, AreLinked-left, AreLinked-right, holds_pair}
use Rattle.art_walks.proofs.Terms.{Ends, HasEnds, IsWalk, start_of, pairs_with, pairs_along, AreStored, IsCounted}
use Rattle.art_walks.proofs.RunSteps.{next_of}

module _ {K V : Type 0} (arena : Arena K V) where
  -- the pairs along these leaves
  along : (before : Option ℕ) (ys : List (LeafAt K V)) (after : Option ℕ) → AreLinked (links_at arena) before ys after → AreStored arena ys → pairs_along (length ys) arena (first_slot ys after) ≡ pairs_of ys
  along before [] after linked stored = refl
  along before (y ∷ ys) after linked stored =
      let holds = holds_pair (held_at arena (leaf_name y.slot)) y.key y.value stored.0 in
      let next : holds.leaf.next ≡ first_slot ys after = next_of (held_at arena (leaf_name y.slot)) holds.leaf _ linked.0 holds.is in
      ap (pairs_with (pairs_along (length ys) arena)) holds.is
      ∙ ap₂ (λ p ps. p ∷ ps) (ap₂ (λ k v. (k, v)) holds.key holds.value) (ap (pairs_along (length ys) arena) next ∙ along (Some y.slot) ys after linked.1 stored.1)

  start-is : (ends : Ends) (y : LeafAt K V) (ys : List (LeafAt K V)) → HasEnds (y ∷ ys) ends → start_of ends ≡ Some y.slot
  start-is None y ys is = absurd (cc)
  start-is (Some ends) y ys is = sym is.0

  -- they are those of the run with these ends
  pub linked-pairs : (ends : Ends) (before : Option ℕ) (ys : List (LeafAt K V)) (after : Option ℕ) → AreLinked (links_at arena) before ys after → AreStored arena ys → HasEnds ys ends → pairs_along (length ys) arena (start_of ends) ≡ pairs_of ys
  linked-pairs ends before [] after linked stored is = refl
  linked-pairs ends before (y ∷ ys) after linked stored is = ap (pairs_along (length (y ∷ ys)) arena) (start-is ends y ys is) ∙ along before (y ∷ ys) after linked stored

  -- the leaves of a walk are linked
  pub walk-linked : (ends : Ends) (ys : List (LeafAt K V)) (walk : IsWalk (links_at arena) ends ys) → AreLinked (links_at arena) (last_slot None walk.xs) ys (first_slot walk.zs None)
  walk-linked ends ys walk =
      AreLinked-left (links_at arena) (last_slot None walk.xs) ys walk.zs None (AreLinked-right (links_at arena) None walk.xs (ys ++ walk.zs) None walk.list.linked)

  pub counted-pairs : (ends : Ends) (len : ℕ) (run : IsCounted arena ends len) → pairs_along len arena (start_of ends) ≡ pairs_of run.leaves
  counted-pairs ends len run =
      ap (λ n. pairs_along n arena (start_of ends)) run.len_is
      ∙ linked-pairs ends (last_slot None run.walk.xs) run.leaves (first_slot run.walk.zs None) (walk-linked ends run.leaves run.walk) run.stored run.walk.ends_are

  -- they are as many as are counted
  pub counted-length : (ends : Ends) (len : ℕ) → IsCounted arena ends len → length (pairs_along len arena (start_of ends)) ≡ len
  counted-length ends len run = ap length (counted-pairs ends len run) ∙ length-map run.leaves (λ (l : LeafAt K V). (l.key, l.value)) ∙ sym run.len_is

  pub no-ends : (ends : Ends) → HasEnds {K = K} {V = V} [] ends → ends ≡ None
  no-ends None is = refl
  no-ends (Some ends) is = let e = is.0 in absurd (cc)

  -- the answer of a step where none is left
  abbrev pub EndsWalk : Ends → Ends → Option ℕ → Type 0
  EndsWalk old new result = old ≡ None → (result ≡ None) × (new ≡ None)
