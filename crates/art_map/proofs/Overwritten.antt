-- A pair that took the place of those whose keys overlap its key, once its value is written.
use Rattle.std.proofs.Common.{◌≡◌, ℕ, Bool, true, false, cond, not, List, [], ◌∷◌, Some, refl, sym, ap, subst, ◌∙◌, inl, inr}
use Rattle.art_arena.proofs.Common.{key_of, is_before, put_in_order, other_key}
use Rattle.art_operations.proofs.Common.{HasKey, overlaps, without_key, without_overlapping, with_pair_over, with_pair_put, overlaps_same}
use Rattle.art_map.proofs.Terms.{KeepsLeaves, Contents, entry_key, entry_value, HasPairAt, with_value_at, IsInnerWritten, OccupiedEntry}
use Rattle.art_bytes.specs.declared.as_bytes.AsBytes as as_bytes
use Rattle.art_map.specs.Entries.{Occupied}
use Rattle.art_map.specs.declared.map.prefix_entry.InnerOccupiedEntry.{InnerOccupiedEntry}
use Rattle.art_arena.specs.arena.Arena.{UsesRoom}
use Rattle.art_map.proofs.LeafNames.{written-all}
use Rattle.art_map.proofs.RoomKept.{used-room}
use Rattle.art_map.proofs.Written.{one-pair, without-put}

-- where no key overlaps a key, none is it
pub without-both : {X : Type 0} (key : X → List ℕ) (k : List ℕ) (xs : List X) → without_key key k (without_overlapping key k xs) ≡ without_overlapping key k xs
without-both key k [] = refl
without-both key k (x ∷ xs) = here (overlaps k (key x)) refl (without-both key k xs)
  where
    here : (b : Bool) → overlaps k (key x) ≡ b → without_key key k (without_overlapping key k xs) ≡ without_overlapping key k xs
        → without_key key k (cond (not b) (x ∷ without_overlapping key k xs) (without_overlapping key k xs)) ≡ cond (not b) (x ∷ without_overlapping key k xs) (without_overlapping key k xs)
    here true o later = later
    here false o later = rw (other_key (key x) k (λ e. let f = overlaps_same k (key x) e in absurd (cc))) (ap (λ ys. x ∷ ys) later)

-- put in with another value, a pair leaves the same keys
has-again : {K V : Type 0} (bytes : K → List ℕ) (k : K) (v w : V) (key : List ℕ) (ps : List (K × V)) → HasKey (key_of bytes) key (put_in_order (key_of bytes) (k, v) ps) → HasKey (key_of bytes) key (put_in_order (key_of bytes) (k, w) ps)
has-again bytes k v w key [] (x, inl e, same) = ((k, w), inl refl, ap (key_of bytes) e ∙ same)
has-again bytes k v w key [] (x, inr none, same) = absurd none
has-again {K} {V} bytes k v w key (p ∷ ps) has = here (is_before (bytes k) (key_of bytes p)) (has-again bytes k v w key ps) has
  where
    Has : List (K × V) → Type 0
    Has = HasKey (key_of bytes) key

    here : (b : Bool) → (Has (put_in_order (key_of bytes) (k, v) ps) → Has (put_in_order (key_of bytes) (k, w) ps))
        → Has (cond b ((k, v) ∷ p ∷ ps) (p ∷ put_in_order (key_of bytes) (k, v) ps)) → Has (cond b ((k, w) ∷ p ∷ ps) (p ∷ put_in_order (key_of bytes) (k, w) ps))
    here true later (x, inl e, same) = ((k, w), inl refl, ap (key_of bytes) e ∙ same)
    here true later (x, inr i, same) = (x, inr i, same)
    here false later (x, inl e, same) = (x, inl e, same)
    here false later (x, inr i, same) = let found = later (x, i, same) in (found.0, inr found.1, found.2)

module _ {K V : Type 0} (bytes : K → List ℕ) where
  pub over-again : (k : K) (v w : V) (pairs : List (K × V)) → with_pair_put bytes k w (with_pair_over bytes k v pairs) ≡ with_pair_over bytes k w pairs
  over-again k v w pairs =
      ap (put_in_order (key_of bytes) (k, w))
      (without-put (key_of bytes) (bytes k) (k, v) refl (without_overlapping (key_of bytes) (bytes k) pairs) ∙ without-both (key_of bytes) (bytes k) pairs)

  -- what a map has, once the leaf of the pair that was put in is written
  pub over-written : (m : Contents K V) (slot : ℕ) (k l : K) (v u : V) (old : Contents K V) → m.pairs ≡ with_pair_over bytes k v old.pairs → KeepsLeaves bytes old m → UsesRoom 2 old.nodes m.nodes → HasPairAt m slot (k, v) → HasPairAt m slot (l, u)
      → ((w : V) → (with_value_at m slot w).pairs ≡ with_pair_put bytes l w m.pairs) → (w : V)
      → ((with_value_at m slot w).pairs ≡ with_pair_over bytes k w old.pairs) × KeepsLeaves bytes old (with_value_at m slot w) × UsesRoom 2 old.nodes (with_value_at m slot w).nodes
  over-written m slot k l v u old is names room put read writes w =
      let same : l ≡ k = (one-pair m slot (k, v) (l, u) put read).0 in
      let now : (with_value_at m slot w).pairs ≡ with_pair_over bytes k w old.pairs = writes w ∙ ap (λ key. with_pair_put bytes key w m.pairs) same ∙ ap (with_pair_put bytes k w) is ∙ over-again k v w old.pairs in
      let others = without_overlapping (key_of bytes) (bytes k) old.pairs in
      let named : KeepsLeaves bytes old (with_value_at m slot w) = λ slot_of key has still. written-all bytes m slot (k, v) put w slot_of key (names slot_of key has (subst (HasKey (key_of bytes) key) (sym is) (has-again bytes k w v key others (subst (HasKey (key_of bytes) key) now still)))) in
      (now, named, used-room m slot old.nodes 2 room (k, v) put w)

module _ {K V : Type 0} {P : ℕ} {M : Type 0} {g : as_bytes.Ghosts K} where
  -- an entry whose pair took the place of those that its key overlaps is written
  pub over-as : (e : InnerOccupiedEntry K V P M) (m : Contents K V) (v : V) → m.pairs ≡ with_pair_over g.bytes e.key v e.map.now.pairs → KeepsLeaves g.bytes e.map.now m → UsesRoom 2 e.map.now.nodes m.nodes → (d : OccupiedEntry K V P M g) → (d.map.ghost_name ≡ e.map.ghost_name) × (d.map.now ≡ m)
      → (entry_key (Occupied d) ≡ e.key) × (entry_value (Occupied d) ≡ Some v) → IsInnerWritten e v d
  over-as e m v put names room d same shows = record {
    same_map = same.0;
    pairs = ap (λ n. n.pairs) same.1 ∙ put;
    key = shows.0;
    value = shows.1;
    writes = λ u. rw (shows.0, same.1, put) (over-again g.bytes e.key v u e.map.now.pairs);
    names = subst (KeepsLeaves g.bytes e.map.now) (sym same.1) names;
    room = subst (λ n. UsesRoom 2 e.map.now.nodes n.nodes) (sym same.1) room;
  }
