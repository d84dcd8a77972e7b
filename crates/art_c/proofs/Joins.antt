-- The pairs of a map that have moved into another so far.
use Rattle.std.proofs.Common.{◌≡◌, ◌==◌, ℕ, ◌+◌, ◌*◌, Bool, true, false, length, List, [], ◌∷◌, ◌++◌, Some, refl, sym, ap, subst, ◌∙◌, append_assoc, arith, eqb-true}
use Rattle.std.proofs.lemmas.List.{append-nil}
use Rattle.art_arena.specs.arena.Arena.{HasRoom, KeepsRoom, UsesRoom}
use Rattle.art_arena.proofs.Common.{key_of, AscendsByKey}
use Rattle.art_map.proofs.Common.{first_item, with_pairs_put}
use Rattle.art_map.proofs.Puts.{put-after, put-more}
use Rattle.art_c.specs.Calls.{IsPutRefused, whole}
use Rattle.art_c.specs.Handles.{Map, Pairs}
use Rattle.art_c.specs.Joins.{ArePairsMoved, IsJoined, JoinLeavesRoom, MoveEnds, MovesFirst}
use Rattle.art_c.specs.declared.code.Code.{Code}
use Rattle.art_c.specs.declared.code.Code.TheVariants.{Done}

module _ {V : Type 0} where
  -- these were moved
  abbrev pub MovedSoFar : Pairs V → Pairs V → Pairs V → Pairs V → Type 0
  MovedSoFar all old left now = (moved : Pairs V) × (all ≡ moved ++ left) × (now ≡ with_pairs_put whole moved old)

  -- one more was
  pub one-moved : (all old left now rest new : Pairs V) → MovedSoFar all old left now → MovesFirst left now rest new
      → MovedSoFar all old rest new
  one-moved all old left now rest new (moved, are, put) (p, first, is) = (
    moved ++ p ∷ [],
    are ∙ ap (λ ps. moved ++ ps) first ∙ sym (append_assoc moved (p ∷ []) rest),
    is ∙ ap (λ ps. with_pairs_put whole (p ∷ []) ps) put ∙ sym (put-more whole moved p old),
  )

  -- what room the pairs used that moved so far
  abbrev pub RoomSoFar : Map V → Map V → Map V → Map V → Type 0
  RoomSoFar other old left now =
      (n : ℕ) × (length other.pairs ≡ n + length left.pairs)
      × UsesRoom (2 * n) old.nodes now.nodes × UsesRoom n other.nodes left.nodes

  -- none moved yet
  pub no-room : (other old : Map V) → RoomSoFar other old other old
  no-room other old = (
    0,
    omega arith,
    λ n room. subst (HasRoom old.nodes) (omega arith) room,
    λ n room. subst (HasRoom other.nodes) (omega arith) room,
  )

  -- one more moves
  pub room-of-one : (other old left now rest new : Map V) → RoomSoFar other old left now
      → MovesFirst left.pairs now.pairs rest.pairs new.pairs
      → UsesRoom 2 now.nodes new.nodes → UsesRoom 1 left.nodes rest.nodes → RoomSoFar other old rest new
  room-of-one other old left now rest new (n, long, here, there) (p, first, is) two one =
      let shorter = ap length first in (
        n + 1,
        omega (arith, long, shorter),
        λ m room. two m (here (m + 2) (subst (HasRoom old.nodes) (omega arith) room)),
        λ m room. one m (there (m + 1) (subst (HasRoom other.nodes) (omega arith) room)),
      )

  -- and then none moves
  pub room-at-end : (other old left now rest new : Map V) → RoomSoFar other old left now
      → KeepsRoom now.nodes new.nodes → KeepsRoom left.nodes rest.nodes → rest.pairs ≡ left.pairs
      → JoinLeavesRoom other old rest new
  room-at-end other old left now rest new (n, long, here, there) keeps keeps_other same =
      let as_long = ap length same in (
        λ m room. keeps m (here m (subst (HasRoom old.nodes) (omega (arith, long, as_long)) room)),
        λ m room. keeps_other m (there m (subst (HasRoom other.nodes) (omega (arith, long, as_long)) room)),
      )

  -- of an empty map none moves
  pub none-moves : (all old : Pairs V) → all ≡ [] → ArePairsMoved all old Done all old
  none-moves all old none = subst (λ ps. ArePairsMoved ps old Done ps old) (sym none) ([], refl, refl, refl)

  pub none-joined : (other old : Map V) → other.pairs ≡ [] → IsJoined other old Done other old
  none-joined other old none = (
    none-moves other.pairs old.pairs none,
    λ _. (refl, refl),
    λ _ some. absurd (some none),
    λ _. room-at-end other old other old other old (no-room other old) (λ n room. room) (λ n room. room) refl,
  )

  -- an empty map takes all at once
  pub all-moved : (all old : Pairs V) → old ≡ [] → AscendsByKey (key_of whole) all → ArePairsMoved all old Done old all
  all-moved all old none up = (
    all,
    sym (append-nil all) ∙ ap (λ ps. all ++ ps) (sym none),
    sym (put-after whole [] all up) ∙ ap (with_pairs_put whole all) (sym none),
    ends old none,
  )
    where
      ends : (ps : Pairs V) → ps ≡ [] → MoveEnds ps all Done
      ends [] e = refl
      ends (p ∷ ps) e = absurd (cc)

  -- a map that is told to be empty has no pair
  pub no-pair : (ps : Pairs V) (b : Bool) → b ≡ (length ps == 0) → b ≡ true → ps ≡ []
  no-pair [] b e h = refl
  no-pair (p ∷ ps) b e h = let none = eqb-true (length (p ∷ ps)) 0 (sym e ∙ h) in absurd (omega (arith, none))

  -- the first pair that is found is the one that leaves
  pub first-leaves : (left rest : Pairs V) (p q : List ℕ × V) → Some p ≡ first_item left → left ≡ q ∷ rest → q.0 ≡ p.0
  first-leaves [] rest p q e is = absurd (cc)
  first-leaves (r ∷ left) rest p q e is = cc

  -- where the first pair that is left was refused, it ends there
  pub first-stays : (left now : Pairs V) (p : List ℕ × V) (code : Code) → Some p ≡ first_item left
      → IsPutRefused p.0 now code now → MoveEnds left now code
  first-stays [] now p code e refused = absurd (cc)
  first-stays (q ∷ left) now p code e refused = subst (λ k. IsPutRefused k now code now) (some-key p q e) refused
    where
      some-key : (p q : List ℕ × V) → Some p ≡ Some q → p.0 ≡ q.0
      some-key p q e = cc

  -- it ends there, and both maps are what they were
  pub moved-ends : (all old left now rest new : Pairs V) (code : Code) → MovedSoFar all old left now → MoveEnds left now code
      → rest ≡ left → new ≡ now → ArePairsMoved all old code rest new
  moved-ends all old left now rest new code (moved, are, put) ends same_left same = (
    moved,
    are ∙ ap (λ ps. moved ++ ps) (sym same_left),
    same ∙ put,
    subst (λ ps. MoveEnds ps new code) (sym same_left) (subst (λ ps. MoveEnds left ps code) (sym same) ends),
  )

  -- a map that is told not to be empty has a pair
  pub some-pair : (ps : Pairs V) (b : Bool) → b ≡ (length ps == 0) → b ≡ false → ps ≡ [] → ⊥
  some-pair [] b e h none = let f : true ≡ false = sym e ∙ h in absurd (cc)
  some-pair (p ∷ ps) b e h none = absurd (cc)
