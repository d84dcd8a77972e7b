-- Leaves that stand linked in key order: a cursor before them or after them, and the list in which a cursor stands.
use Rattle.std.proofs.Common.{◌≡◌, ℕ, List, [], ◌++◌, Option, None, refl, sym, ap, subst, ◌∙◌, append-nil}
use Rattle.art_arena.proofs.Common.{Arena, KeepsRoomOf, first_slot, last_slot, LeafAt, key_of, pairs_of, AscendsByKey}
use Rattle.art_operations.proofs.Terms.{KeepsInnerRoom, StandsAhead, StandsInList, StandsBetween, HasInnerRoom, HoldsInOrder, LeafCursor}
use Rattle.art_operations.specs.LeafLists.{HoldsLeaves}
use Rattle.art_operations.proofs.LeafListsMoved.{start_of}

module _ {K V : Type 0} (bytes : K → List ℕ) where
  -- any pairs can be put in from the start on
  pub ahead-of : (arena : Arena K V) (first : Option ℕ) (ls : List (LeafAt K V)) → HoldsInOrder bytes arena first ls → (left : List (K × V)) → StandsAhead arena (start_of first) bytes (pairs_of ls) left
  ahead-of arena first ls is left = record {
    among = record {
      front = [];
      back = ls;
      stands = record { leaves = is.holds; first = is.first_is; before = refl; after = is.first_is };
      pairs_are = refl;
      ascends = is.ascends;
    };
    ahead = λ p rest e. tt;
  }

  -- the list in which a cursor stands
  pub in-order : (arena : Arena K V) (cursor : LeafCursor) (pairs : List (K × V)) → StandsInList arena cursor bytes pairs → (ls : List (LeafAt K V)) × HoldsInOrder bytes arena cursor.first ls × (pairs_of ls ≡ pairs)
  in-order arena cursor pairs is = (
    is.front ++ is.back,
    record { holds = is.stands.leaves; first_is = is.stands.first; ascends = subst (AscendsByKey (key_of bytes)) (sym is.pairs_are) is.ascends },
    is.pairs_are,
  )

  -- a cursor after all leaves
  pub after-all : (arena : Arena K V) (first last : Option ℕ) (ls : List (LeafAt K V)) → HoldsInOrder bytes arena first ls → last_slot None ls ≡ last
      → (among : StandsInList arena (record { first = first; before = last; after = None }) bytes (pairs_of ls)) × (among.back ≡ [])
  after-all arena first last ls is e = (
    record {
      front = ls;
      back = [];
      stands = record {
        leaves = subst (HoldsLeaves arena) (sym (append-nil ls)) is.holds;
        first = ap (λ xs. first_slot xs None) (append-nil ls) ∙ is.first_is;
        before = e;
        after = refl;
      };
      pairs_are = ap pairs_of (append-nil ls);
      ascends = is.ascends;
    },
    refl,
  )

  -- and the leaves before it
  pub left-in-order : (arena : Arena K V) (cursor : LeafCursor) (left : List (LeafAt K V)) → StandsBetween arena cursor left [] → AscendsByKey (key_of bytes) (pairs_of left) → HoldsInOrder bytes arena cursor.first left
  left-in-order arena cursor left is up = record {
    holds = subst (HoldsLeaves arena) (append-nil left) is.leaves;
    first_is = ap (λ xs. first_slot xs None) (sym (append-nil left)) ∙ is.first;
    ascends = up;
  }

module _ {K V : Type 0} (old new : Arena K V) (n : ℕ) where
  -- room for inner nodes stays
  pub inner-kept : KeepsInnerRoom old new → HasInnerRoom old n → HasInnerRoom new n
  inner-kept kept room = λ kind other m few. kept kind other m (room kind other m few)

  pub inner-kept-of : KeepsRoomOf old new → HasInnerRoom old n → HasInnerRoom new n
  inner-kept-of kept room = λ kind other m few. kept kind m (room kind other m few)
