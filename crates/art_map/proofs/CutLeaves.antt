-- The last leaves of a tree move into an empty arena: both lists of leaves are in order.
use Rattle.std.proofs.Common.{◌≡◌, ℕ, ◌+◌, List, [], ◌++◌, length, Option, sym, ap, subst, ◌∙◌, arith, append-nil, length-append}
use Rattle.std.proofs.lemmas.List.{length-map}
use Rattle.art_arena.proofs.Common.{Arena, LeafAt, key_of, pairs_of, AscendsByKey}
use Rattle.art_operations.proofs.Common.{HasMoved, StandsInList, StandsBetween, HoldsInOrder, left-in-order}
use Rattle.art_operations.specs.declared.leaf_list.LeafCursor.{LeafCursor}
use Rattle.art_map.proofs.Puts.{ascends-left, ascends-right}

pub pairs-long : {K V : Type 0} (ls : List (LeafAt K V)) → length (pairs_of ls) ≡ length ls
pairs-long {K} {V} ls = length-map {B = K × V} ls (λ (l : LeafAt K V). (l.key, l.value))

module _ {K V : Type 0} (bytes : K → List ℕ) (arena : Arena K V) (cursor : LeafCursor) (had : List (K × V)) (among : StandsInList arena cursor bytes had) (following : among.back ≡ []) where
  -- the cursor stands after all leaves
  pub all-before : StandsBetween arena cursor among.front []
  all-before = subst (StandsBetween arena cursor among.front) following among.stands

  pub pairs-before : pairs_of among.front ≡ had
  pairs-before = ap pairs_of (sym (append-nil among.front)) ∙ ap (λ xs. pairs_of (among.front ++ xs)) (sym following) ∙ among.pairs_are

  pub long-before : length among.front ≡ length had
  long-before = sym (pairs-long among.front) ∙ ap length pairs-before

  -- and so many have moved
  module _ (now : Arena K V) (then : LeafCursor) (to : Arena K V) (first : Option ℕ) (count : ℕ) (has : HasMoved now then to first count among.front) where
    pub joined : pairs_of has.left ++ pairs_of has.moved ≡ had
    joined = has.joined ∙ pairs-before

    ascend : AscendsByKey (key_of bytes) (pairs_of has.left ++ pairs_of has.moved)
    ascend = subst (AscendsByKey (key_of bytes)) (sym joined) among.ascends

    pub left-order : HoldsInOrder bytes now then.first has.left
    left-order = left-in-order bytes now then has.left has.stands (ascends-left bytes (pairs_of has.left) (pairs_of has.moved) ascend)

    pub moved-order : HoldsInOrder bytes to first has.moved
    moved-order = record { holds = has.held; first_is = has.first_is; ascends = ascends-right bytes (pairs_of has.left) (pairs_of has.moved) ascend }

    pub left-long : length has.left + count ≡ length had
    left-long = let long = has.long in omega (arith, long, long-before)

    pub moved-long : length has.moved ≡ count
    moved-long =
        let both = sym (length-append (pairs_of has.left) (pairs_of has.moved)) ∙ ap length joined in
        omega (arith, both, pairs-long has.left, pairs-long has.moved, left-long)

    pub pairs-left-long : length (pairs_of has.left) + count ≡ length had
    pairs-left-long = omega (arith, pairs-long has.left, left-long)
