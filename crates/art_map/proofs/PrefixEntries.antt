-- Which kind an entry is of a key that stored keys overlap.
use Rattle.std.proofs.Common.{◌≡◌, ℕ, Bool, true, Option, Some, None, filter, Result, Ok, Err, IfErr, IsOk, refl, sym, ap, subst, ◌∙◌}
use mathlib.Core.Bool.{Bool-set}
use Rattle.art_bytes.specs.declared.as_bytes.AsBytes as as_bytes
use Rattle.art_operations.proofs.Common.{with_pair_put}
use Rattle.art_map.specs.Entries as entry
use Rattle.std.specs.Map.{set_value}
use Rattle.art_map.proofs.Terms.{Contents, has_bytes, HasPairAt, HasPairUnder, IsAt, IsFound, is_held, still_held, stored_slot, IsLoneAt, lone_item, overlaps_query, KeepsAllLeaves, KeepsLeaves, with_value_at, Inner, IsOccupiedFilled, IsOccupiedWritten, IsShownWritten, Leaf, kind_at}
use Rattle.art_map.proofs.Terms.{occupied_kind, occupied_value, prefix_pairs_with, prefix_value, OccupiedEntry}
use Rattle.art_map.specs.PrefixEntries.{Occupied}
use Rattle.art_map.specs.declared.map.prefix_entry.PrefixOccupied.{PrefixOccupied}
use Rattle.art_map.specs.declared.map.prefix_entry.PrefixOccupiedKind.{PrefixOccupiedKind}
use Rattle.art_map.specs.declared.map.prefix_entry.Spot.{Spot}
use Rattle.art_map.specs.declared.map.prefix_entry.Spot.TheVariants.{New, Stored}
use Rattle.std.specs.Borrow.{MutBor}
use Rattle.art_map.proofs.LeafNames.{all-names, written-all}
use Rattle.art_map.proofs.RoomKept.{pair-room}
use Rattle.art_arena.proofs.Common.{Arena, KeepsRoomOf}
use Rattle.art_map.specs.Room.{LeavesRoom}
use Rattle.art_map.proofs.Entries.{found-entry, is-written, key-is, same-written, value-is}

pub slot-of : {K : Type 0} (s : Spot K) (slot : ℕ) → stored_slot s ≡ Some slot → s ≡ Stored slot
slot-of (Stored l) slot e = let same : l ≡ slot = cc in ap Stored same
slot-of (New k) slot e = absurd (cc)

module _ {K V : Type 0} {P : ℕ} {M : Type 0} {g : as_bytes.Ghosts K} (e : PrefixOccupied K V P M g) where
  -- the entry of a leaf of its map
  abbrev pub leaf-entry : (slot : ℕ) → HasPairUnder e.map.now slot → OccupiedEntry K V P M g
  leaf-entry slot held = record { map = e.map; leaf = slot; mark = e.mark; held = held }

  pub held-at : (slot : ℕ) → e.spot ≡ Stored slot → HasPairUnder e.map.now slot
  held-at slot is = subst (λ s. is_held e.map.now s ≡ true) is e.held

  pub kind-stored : (slot : ℕ) → e.spot ≡ Stored slot → (held : HasPairUnder e.map.now slot) → occupied_kind e ≡ Leaf (leaf-entry slot held)
  kind-stored slot is held = go e.spot e.held is
    where
      go : (s : Spot K) (h : is_held e.map.now s ≡ true) → s ≡ Stored slot → kind_at e s h ≡ Leaf (leaf-entry slot held)
      go (Stored l) h is =
          let same : l ≡ slot = cc in
          let here : (h : HasPairUnder e.map.now slot) → Leaf (leaf-entry slot h) ≡ Leaf (leaf-entry slot held) = λ h i. Leaf (leaf-entry slot (Bool-set _ _ h held i)) in
          subst (λ n. (h : HasPairUnder e.map.now n) → Leaf (leaf-entry n h) ≡ Leaf (leaf-entry slot held)) (sym same) here h
      go (New k) h is = absurd (cc)

  pub kind-new : (k : K) → e.spot ≡ New k → occupied_kind e ≡ Inner (record { map = e.map; key = k; mark = e.mark })
  kind-new k is = go e.spot e.held is
    where
      go : (s : Spot K) (h : is_held e.map.now s ≡ true) → s ≡ New k → kind_at e s h ≡ Inner (record { map = e.map; key = k; mark = e.mark })
      go (Stored l) h is = absurd (cc)
      go (New l) h is = let same : l ≡ k = cc in ap (λ x. Inner (record { map = e.map; key = x; mark = e.mark })) same

module _ {K V : Type 0} {P : ℕ} {M : Type 0} {g : as_bytes.Ghosts K} (e : PrefixOccupied K V P M g) where
  pub no-value : stored_slot e.spot ≡ None → prefix_value (Occupied e) ≡ None
  no-value is = go e.spot refl is
    where
      go : (s : Spot K) → e.spot ≡ s → stored_slot s ≡ None → prefix_value (Occupied e) ≡ None
      go (Stored l) same is = absurd (cc)
      go (New k) same is = rw (kind-new e k same) refl

  -- the pair of a stored key, and what the map has once its value is written
  module _ (slot : ℕ) (is : e.spot ≡ Stored slot) (k : K) (v : V) (has : HasPairAt e.map.now slot (k, v)) where
    pub value-shown : prefix_value (Occupied e) ≡ Some v
    value-shown = let o = leaf-entry e slot (held-at e slot is) in rw (kind-stored e slot is (held-at e slot is)) (value-is o k v has)

    pub pairs-shown : ((w : V) → (with_value_at e.map.now slot w).pairs ≡ with_pair_put g.bytes k w e.map.now.pairs) → (w : V) → (with_value_at e.map.now slot w).pairs ≡ prefix_pairs_with (Occupied e) w
    pairs-shown written w =
        let o = leaf-entry e slot (held-at e slot is) in
        rw (kind-stored e slot is (held-at e slot is)) (written w ∙ sym (ap (λ l. with_pair_put g.bytes l w e.map.now.pairs) (key-is o k v has)))

    pub names-shown : (w : V) → KeepsLeaves g.bytes e.map.now (with_value_at e.map.now slot w)
    names-shown w = all-names g.bytes e.map.now (with_value_at e.map.now slot w) (written-all g.bytes e.map.now slot (k, v) has w)

    pub room-shown : (w : V) → KeepsRoomOf e.map.now.nodes (with_value_at e.map.now slot w).nodes
    room-shown w = pair-room e.map.now slot (k, v) has w

    -- the entry, once the value is written
    pub shown-stored : ((w : V) → (with_value_at e.map.now slot w).pairs ≡ with_pair_put g.bytes k w e.map.now.pairs) → (w : V) (n : PrefixOccupied K V P M g)
        → n.map ≡ record e.map { now = with_value_at e.map.now slot w } → n.spot ≡ e.spot → IsShownWritten (occupied_kind e) w (occupied_kind n)
    shown-stored written w n map spot =
        let held = held-at e slot is in
        let o = leaf-entry e slot held in
        let now = record e.map { now = with_value_at e.map.now slot w } in
        let there : HasPairUnder n.map.now slot = subst (λ (m : MutBor (Contents K V)). HasPairUnder m.now slot) (sym map) (still_held e.map.now slot w held) in
        let on : n.spot ≡ Stored slot = spot ∙ is in
        let So : OccupiedEntry K V P M g → Type 0 = λ d. entry.IsWritten (entry.Occupied o) w (entry.Occupied d) in
        let did : (h : HasPairUnder now.now slot) → So (record { map = now; leaf = slot; mark = n.mark; held = h }) = λ h. subst So (sym (same-written o w h)) (is-written o k (key-is o k v has) written w) in
        rw (kind-stored e slot is held)
        (subst (λ d. IsShownWritten (Leaf o) w d) (sym (kind-stored n slot on there)) (subst (λ (m : MutBor (Contents K V)). (h : HasPairUnder m.now slot) → So (record { map = m; leaf = slot; mark = n.mark; held = h })) (sym map) did there))

  module _ (k : K) (is : e.spot ≡ New k) where
    pub shown-new : (n : PrefixOccupied K V P M g) → n.map.ghost_name ≡ e.map.ghost_name → n.spot ≡ e.spot → (w : V)
        → n.map.now.pairs ≡ set_value (overlaps_query g.bytes (g.bytes k)) e.map.now.pairs w → KeepsAllLeaves g.bytes e.map.now n.map.now → KeepsRoomOf e.map.now.nodes n.map.now.nodes
        → IsShownWritten (occupied_kind e) w (occupied_kind n)
    shown-new n map spot w pairs names room =
        subst (λ (p : PrefixOccupiedKind K V P M g × PrefixOccupiedKind K V P M g). IsShownWritten p.0 w p.1) (λ i. (sym (kind-new e k is) i, sym (kind-new n k (spot ∙ is)) i)) (record { same_map = map; key = refl; pairs = pairs; names = names; room = room })

-- where a key has a value, the room that stays is what is left
pub stored-leaves : {K V : Type 0} (o : Option V) (v : V) (old new : Arena K V) → o ≡ Some v → KeepsRoomOf old new → LeavesRoom o old new
stored-leaves o v old new is kept = subst (λ x. LeavesRoom x old new) (sym is) kept

module _ {K V : Type 0} (test : K → Bool) (m : Contents K V) where
  -- the leaf of a lone pair has it
  pub lone-shown : (o : Option ℕ) (wanted : Option (K × V)) → wanted ≡ lone_item (filter (λ p. test p.0) m.pairs) → IsLoneAt test m o → IsAt wanted m o
  lone-shown None wanted e is = e ∙ is
  lone-shown (Some slot) wanted e (p, has, lone, written) = (p, has, e ∙ lone)

module _ {K V : Type 0} {P : ℕ} {M : Type 0} {g : as_bytes.Ghosts K} (k : PrefixOccupiedKind K V P M g) (Gives : V → Type 0) (d : OccupiedEntry K V P M g) where
  -- an entry that is as it is has a value that is one of any
  pub same-fills : IsOccupiedFilled k (λ v. ⊥) d → IsOccupiedFilled k Gives d
  same-fills is = go k is
    where
      go : (k : PrefixOccupiedKind K V P M g) → IsOccupiedFilled k (λ v. ⊥) d → IsOccupiedFilled k Gives d
      go (Leaf o) is = is
      go (Inner e) is = absurd is.1

  -- and so has one that was put in with such a value, where its key was not stored
  pub written-fills : occupied_value k ≡ None → (v : V) → Gives v → IsOccupiedWritten k v d → IsOccupiedFilled k Gives d
  written-fills none v gave is = go k none is
    where
      go : (k : PrefixOccupiedKind K V P M g) → occupied_value k ≡ None → IsOccupiedWritten k v d → IsOccupiedFilled k Gives d
      go (Leaf o) none is = absurd (cc)
      go (Inner e) none is = (v, gave, is)

module _ {K V : Type 0} {P : ℕ} {M : Type 0} {g : as_bytes.Ghosts K} (key : K) (o : OccupiedEntry K V P M g) where
  -- the entry of the leaf that a look-up of its key found
  pub stored-entry : IsFound (has_bytes g.bytes (g.bytes key)) o.map.now (Some o.leaf) → entry.IsEntryOf o.map.now.pairs key (entry.Occupied o)
  stored-entry found = found-entry o.map.now key (g.bytes key) refl o o.leaf found (λ p has. (key-is o p.0 p.1 has, value-is o p.0 p.1 has))

-- an `Ok` is no error
pub no-error : {X E : Type 0} (r : Result X E) (B : E → Type 0) → IsOk r → IfErr r B
no-error (Ok x) B is = tt
no-error (Err e) B is = absurd (cc)
