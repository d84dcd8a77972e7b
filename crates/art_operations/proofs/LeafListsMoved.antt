-- The last leaves of a list move to the front of another arena's list.
use Rattle.std.proofs.Common.{◌≡◌, ℕ, ◌+◌, cond, List, [], ◌∷◌, ◌++◌, length, Option, None, Some, is_some, refl, sym, ap, ◌∙◌, arith, append_assoc, append-nil, length-append}
use Rattle.std.proofs.lemmas.List.{map-append}
use Rattle.art_nodes.proofs.Common.{Name}
use Rattle.art_arena.proofs.Common.{Arena, cell_of, held_at, LeafAt, pairs_of}
use Rattle.art_operations.proofs.Terms.{HasInserted, HasRemoved, StandsBetween, LeafCursor, HasMovedOne, HoldsFrom}

-- a cursor before all leaves of a list
abbrev pub start_of : Option ℕ → LeafCursor
start_of first = record { first = first; before = None; after = first }

module _ {K V : Type 0} where
  -- it is gone, and one of its pair stands in the other arena
  pub moved-one : (from to : Arena K V) (cursor start : LeafCursor) (key : K) (value : V) (ls moved : List (LeafAt K V)) → HasRemoved from cursor (Some (key, value)) ls [] → HasInserted to start key value [] moved
      → HasMovedOne from cursor to start.first ls moved
  moved-one from to cursor start key value ls moved (rest, slot, had, stands) (new, there) = record {
    rest = rest;
    was = record { slot = slot; key = key; value = value };
    slot = new;
    had = had;
    stands = stands;
    held = record { holds = there.leaves; first_is = there.first };
  }

  -- some have moved, and so many are still to move
  pub record AreMoved (from : Arena K V) (cursor : LeafCursor) (to : Arena K V) (first : Option ℕ) (count : ℕ) (ls : List (LeafAt K V)) : Type 0 where
    pub left : List (LeafAt K V)
    pub moved : List (LeafAt K V)
    pub stands : StandsBetween from cursor left []
    pub held : HoldsFrom to first moved
    pub joined : pairs_of left ++ pairs_of moved ≡ pairs_of ls
    pub long : length left + count ≡ length ls

  pub none-moved : (from : Arena K V) (cursor : LeafCursor) (to : Arena K V) (ls : List (LeafAt K V)) → ((n : Name) → held_at to n ≡ None) → StandsBetween from cursor ls [] → AreMoved from cursor to None 0 ls
  none-moved from cursor to ls empty stands = record {
    left = ls;
    moved = [];
    stands = stands;
    held = record {
      holds = record { holds = record { held = tt; once = λ n. ap {B = ℕ} (λ o. cond (is_some o) 1 0) (sym (ap cell_of (empty n))) }; linked = tt };
      first_is = refl;
    };
    joined = append-nil (pairs_of ls);
    long = omega arith;
  }

  pub one-more : (from to : Arena K V) (cursor : LeafCursor) (first : Option ℕ) (count : ℕ) (ls left moved : List (LeafAt K V)) → pairs_of left ++ pairs_of moved ≡ pairs_of ls → length left + count ≡ length ls
      → HasMovedOne from cursor to first left moved → AreMoved from cursor to first (count + 1) ls
  one-more from to cursor first count ls left moved joined long one =
      let m : LeafAt K V = record { slot = one.slot; key = one.was.key; value = one.was.value } in
      record {
        left = one.rest;
        moved = m ∷ moved;
        stands = one.stands;
        held = one.held;
        joined = sym (append_assoc (pairs_of one.rest) ((one.was.key, one.was.value) ∷ []) (pairs_of moved)) ∙ ap (λ ps. ps ++ pairs_of moved) (sym (map-append (λ (l : LeafAt K V). (l.key, l.value)) one.rest (one.was ∷ [])) ∙ sym (ap pairs_of one.had)) ∙ joined;
        long = let shorter = ap length one.had ∙ length-append one.rest (one.was ∷ []) in omega (arith, shorter, long);
      }
