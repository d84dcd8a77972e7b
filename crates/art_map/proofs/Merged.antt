-- Ascending pairs that are put into the leaves of a tree, one after another.
use Rattle.std.proofs.Common.{◌≡◌, ℕ, ◌+◌, ◌-◌, ◌≤◌, not, bytes_eq, List, [], ◌∷◌, length, Option, refl, sym, ap, subst, ◌∙◌, arith}
use Rattle.std.specs.List.{AllByRecursion}
use Rattle.std.proofs.lemmas.List.Filters.{length-filter_both}
use Rattle.art_bytes.proofs.Common.{IsBefore}
use Rattle.art_nodes.specs.declared.kind.NodeType.TheVariants.{Leaf}
use Rattle.art_arena.proofs.Common.{Arena, HasRoomOf, KeepsRoomOf, cell_of, SameLeaves, key_of, AscendsByKey}
use Rattle.art_operations.proofs.Common.{without_key, HasKey, HasPutIn, StandsAhead, StandsInList, HasLeavesOf, with_pair_put}
use Rattle.art_operations.specs.declared.leaf_list.LeafCursor.{LeafCursor}
use Rattle.art_map.proofs.ItemCounts.{long-put}
use Rattle.art_map.proofs.Terms.{with_pairs_put}
use Rattle.art_map.proofs.Maps.{AreKeys, keys-put, keys-without}
use Rattle.art_map.proofs.RoomUsed.{LeavesUsed, none-used, put-used, then-used}
use Rattle.art_map.specs.Room.{UsesLeafRoom}

module _ {K V : Type 0} (bytes : K → List ℕ) where
  -- so many pairs there are at most when these were put in
  pub put-long : (ps had : List (K × V)) → length (with_pairs_put bytes ps had) ≤ length had + length ps
  put-long [] had = omega arith
  put-long (p ∷ ps) had =
      let rest = put-long ps (with_pair_put bytes p.0 p.1 had) in
      let placed = long-put (key_of bytes) (p.0, p.1) (without_key (key_of bytes) (bytes p.0) had) in
      let parted = length-filter_both (λ (x : K × V). not (bytes_eq (key_of bytes x) (bytes p.0))) (λ x. not (not (bytes_eq (key_of bytes x) (bytes p.0)))) (λ x. refl) had in
      omega (arith, rest, placed, parted)

  -- which leaves stood where all do
  pub same-leaf-names-back : (old new : Arena K V) → SameLeaves old new → HasLeavesOf bytes old new
  same-leaf-names-back old new same slot key (k, v, there, is) = (k, v, sym (ap cell_of (same slot)) ∙ there, is)

  module _ (is_key : K → Type 0) where
    -- some of these pairs were put in since the start, and these are left
    pub record MergesOn (start arena : Arena K V) (cursor : LeafCursor) (left all had : List (K × V)) : Type 0 where
      pub now : List (K × V)
      pub ahead : StandsAhead arena cursor bytes now left
      pub keys : AreKeys is_key now
      pub put : with_pairs_put bytes left now ≡ with_pairs_put bytes all had
      pub used : LeavesUsed (length had) (length now) start arena

    pub none-merged : (arena : Arena K V) (cursor : LeafCursor) (all had : List (K × V)) → StandsAhead arena cursor bytes had all → AreKeys is_key had → MergesOn arena arena cursor all all had
    none-merged arena cursor all had ahead keys = record { now = had; ahead = ahead; keys = keys; put = refl; used = none-used (length had) arena }

    pub one-merged : (start arena after : Arena K V) (cursor then : LeafCursor) (p : K × V) (left rest all had : List (K × V)) (is : MergesOn start arena cursor left all had) → left ≡ p ∷ rest → AscendsByKey (key_of bytes) left → is_key p.0
        → (old : Option (K × V)) → HasPutIn after then bytes p.0 p.1 old is.now → (HasKey (key_of bytes) (bytes p.0) is.now → KeepsRoomOf arena after) → ((n : ℕ) → HasRoomOf arena Leaf (n + 1) → HasRoomOf after Leaf n)
        → MergesOn start after then rest all had
    one-merged start arena after cursor then p left rest all had is e up one old has kept uses =
        let ascends = subst (AscendsByKey (key_of bytes)) e up in
        record {
          now = with_pair_put bytes p.0 p.1 is.now;
          ahead = record {
            among = has.among;
            ahead = λ q more f. has.passed (bytes q.0) (subst (AllByRecursion (λ (y : K × V). IsBefore (bytes p.0) (bytes y.0))) f ascends.0).0;
          };
          keys = keys-put is_key (key_of bytes) (p.0, p.1) _ one (keys-without is_key (key_of bytes) (bytes p.0) is.now is.keys);
          put = ap (λ ps. with_pairs_put bytes ps is.now) (sym e) ∙ is.put;
          used = then-used _ _ _ start arena after is.used (put-used bytes p.0 p.1 is.now arena after is.ahead.among.ascends kept uses);
        }

    -- where none is left all were put in
    pub all-merged : (start arena : Arena K V) (cursor : LeafCursor) (left all had : List (K × V)) → left ≡ [] → MergesOn start arena cursor left all had → StandsInList arena cursor bytes (with_pairs_put bytes all had) × AreKeys is_key (with_pairs_put bytes all had)
    all-merged start arena cursor left all had none is =
        let e : is.now ≡ with_pairs_put bytes all had = ap (λ ps. with_pairs_put bytes ps is.now) (sym none) ∙ is.put in
        (subst (StandsInList arena cursor bytes) e is.ahead.among, subst (AreKeys is_key) e is.keys)

    -- and of the room for leaves that of the new ones is used up
    pub all-used : (start arena : Arena K V) (cursor : LeafCursor) (left all had : List (K × V)) → left ≡ [] → MergesOn start arena cursor left all had → UsesLeafRoom (length (with_pairs_put bytes all had) - length had) start arena
    all-used start arena cursor left all had none is =
        subst (λ ps. UsesLeafRoom (length ps - length had) start arena) (ap (λ ps. with_pairs_put bytes ps is.now) (sym none) ∙ is.put) is.used.room
