-- What an entry shows: the pair of its leaf, before and after it is written.
use Rattle.std.proofs.Common.{◌≡◌, ℕ, Bool, true, false, cond, List, [], ◌∷◌, Option, Some, None, IsSome, Result, Ok, Err, IsOk, IfOk, IfErr, OnOk, refl, sym, ap, subst, ◌∙◌}
use mathlib.Core.Bool.{Bool-set}
use Rattle.std.proofs.lemmas.Slice.Eq.{bytes_eq-Decides}
use Rattle.art_bytes.specs.declared.as_bytes.AsBytes as as_bytes
use Rattle.art_arena.proofs.Common.{cell_of, node_at, Cell, branches, leaf_name, pair, key_of, leaf-there, KeepsRoomOf}
use Rattle.art_arena.specs.arena.Arena.{UsesRoom}
use Rattle.art_operations.proofs.Common.{without_key, with_pair_put}
use Rattle.art_map.proofs.Terms.{IsFound, HasPairAt, HasPairUnder, leaf_pair, pair_under, has_leaf, KeepsAllLeaves, with_value_at, Contents, has_bytes, Vacant, unwrapped, option_key, entry_key, entry_value, entry_pairs, pairs_without, with_entry_value, IsEntryOf, IsSame, IsWritten, OccupiedEntry}
use Rattle.std.specs.Map.{lookup_entry}
use Rattle.std.specs.Option.{unwrap_or}
use Rattle.art_map.specs.Entries.{Occupied}
use Rattle.art_map.specs.declared.map.entry.VacantEntry.{VacantEntry}
use Rattle.art_map.proofs.LeafNames.{then-names, written-all}
use Rattle.art_map.proofs.LookedUp.{lookup-value}
use Rattle.art_map.proofs.RoomKept.{pair-room, used-room}
use Rattle.art_map.proofs.Written.{one-pair, put-again, without-again, without-put}

the-is : {X : Type 0} (o : Option X) (there : IsSome o) (x : X) → o ≡ Some x → unwrapped o there ≡ x
the-is None there x e = absurd (cc)
the-is (Some y) there x e = cc

module _ {K V : Type 0} {P : ℕ} {M : Type 0} {g : as_bytes.Ghosts K} where
  module _ (o : OccupiedEntry K V P M g) where
    -- the fact that an entry holds does not tell two entries apart
    pub same-written : (w : V) (held : HasPairUnder (with_value_at o.map.now o.leaf w) o.leaf) → ◌≡◌ {A = OccupiedEntry K V P M g} (record { map = record o.map { now = with_value_at o.map.now o.leaf w }; leaf = o.leaf; mark = o.mark; held = held }) (with_entry_value o w)
    same-written w held i = let d = with_entry_value o w in record { map = d.map; leaf = o.leaf; mark = o.mark; held = Bool-set _ _ held d.held i }

    pub key-is : (k : K) (v : V) → HasPairAt o.map.now o.leaf (k, v) → entry_key (Occupied o) ≡ k
    key-is k v has = ap (λ (p : K × V). p.0) (the-is (pair_under o.map.now o.leaf) o.held (k, v) (ap leaf_pair has))

    pub value-is : (k : K) (v : V) → HasPairAt o.map.now o.leaf (k, v) → entry_value (Occupied o) ≡ Some v
    value-is k v has = ap (λ (p : K × V). Some p.1) (the-is (pair_under o.map.now o.leaf) o.held (k, v) (ap leaf_pair has))

    pub has-pair : HasPairAt o.map.now o.leaf (unwrapped (pair_under o.map.now o.leaf) o.held)
    has-pair = go (node_at o.map.now.nodes (leaf_name o.leaf)) o.held
      where
        go : (c : Option (Cell K V)) (h : IsSome (leaf_pair c)) → c ≡ Some (pair (unwrapped (leaf_pair c) h).0 (unwrapped (leaf_pair c) h).1)
        go None h = absurd (cc)
        go (Some (pair k v)) h = refl
        go (Some (branches node)) h = absurd (cc)

    -- an entry of the same key, whose map has the value put, is this one written
    pub written-as : (d : OccupiedEntry K V P M g) (w : V) → d.map.ghost_name ≡ o.map.ghost_name → d.map.now.pairs ≡ entry_pairs (Occupied o) w → entry_key (Occupied d) ≡ entry_key (Occupied o) → entry_value (Occupied d) ≡ Some w
        → d.map.now ≡ with_value_at o.map.now o.leaf w → IsWritten (Occupied o) w (Occupied d)
    written-as d w name pairs key value is = record {
      same_map = name;
      pairs = pairs;
      key = key;
      value = value;
      writes = λ u. rw (pairs, key) (put-again g.bytes (entry_key (Occupied o)) w u o.map.now.pairs);
      names = subst (KeepsAllLeaves g.bytes o.map.now) (sym is) (written-all g.bytes o.map.now o.leaf _ has-pair w);
      room = subst (λ n. KeepsRoomOf o.map.now.nodes n.nodes) (sym is) (pair-room o.map.now o.leaf _ has-pair w);
    }

    -- written, it leaves the same pairs where it is removed
    pub written-without : (d : OccupiedEntry K V P M g) (w : V) → IsWritten (Occupied o) w (Occupied d) → pairs_without (Occupied d) ≡ pairs_without (Occupied o)
    written-without d w did =
        let k = entry_key (Occupied o) in
        rw (did.pairs, did.key)
        (without-put (key_of g.bytes) (g.bytes k) (k, w) refl (without_key (key_of g.bytes) (g.bytes k) o.map.now.pairs) ∙ without-again (key_of g.bytes) (g.bytes k) o.map.now.pairs)

    -- an entry made of its map and its leaf is the same
    pub same-as : (d : OccupiedEntry K V P M g) → (d.map.ghost_name ≡ o.map.ghost_name) × (d.map.now ≡ o.map.now) → ((p : K × V) → HasPairAt o.map.now o.leaf p → (entry_key (Occupied d) ≡ p.0) × (entry_value (Occupied d) ≡ Some p.1)) → IsSame (Occupied o) (Occupied d)
    same-as d same told = let is = told _ has-pair in record { same_map = same.0; unchanged = same.1; key = is.0; value = is.1 }

    -- an entry of the map with the value in the leaf is this one written
    pub remade : (m : Contents K V) (w : V) → m ≡ with_value_at o.map.now o.leaf w → (d : OccupiedEntry K V P M g) → (d.map.ghost_name ≡ o.map.ghost_name) × (d.map.now ≡ m) → ((p : K × V) → HasPairAt m o.leaf p → (entry_key (Occupied d) ≡ p.0) × (entry_value (Occupied d) ≡ Some p.1))
        → ((p : K × V) → HasPairAt o.map.now o.leaf p → m.pairs ≡ with_pair_put g.bytes p.0 w o.map.now.pairs) → IsWritten (Occupied o) w (Occupied d)
    remade m w is d same told put =
        let there = leaf-there o.map.now.nodes o.leaf (has_leaf o.map.now o.leaf o.held) in
        let was : pair_under o.map.now o.leaf ≡ Some (there.leaf.key, there.leaf.value) = ap (λ h. leaf_pair (cell_of h)) there.held in
        let has : HasPairAt m o.leaf (there.leaf.key, w) = subst (λ n. HasPairAt n o.leaf (there.leaf.key, w)) (sym is) (ap cell_of (there.written w).changed) in
        let found = told _ has in
        written-as d w same.0 (ap (λ n. n.pairs) same.1 ∙ put _ has-pair) (found.0 ∙ sym (ap (λ (p : K × V). p.0) (the-is (pair_under o.map.now o.leaf) o.held (there.leaf.key, there.leaf.value) was))) found.1 (same.1 ∙ is)

    -- with another value it is the entry written, if its map is
    pub is-written : (k : K) → entry_key (Occupied o) ≡ k → ((w : V) → (with_value_at o.map.now o.leaf w).pairs ≡ with_pair_put g.bytes k w o.map.now.pairs) → (w : V) → IsWritten (Occupied o) w (Occupied (with_entry_value o w))
    is-written k key pairs w =
        let d = with_entry_value o w in
        let there = leaf-there o.map.now.nodes o.leaf (has_leaf o.map.now o.leaf o.held) in
        let was : pair_under o.map.now o.leaf ≡ Some (there.leaf.key, there.leaf.value) = ap (λ h. leaf_pair (cell_of h)) there.held in
        let is : pair_under d.map.now o.leaf ≡ Some (there.leaf.key, w) = ap (λ h. leaf_pair (cell_of h)) (there.written w).changed in
        let now = the-is (pair_under d.map.now o.leaf) d.held (there.leaf.key, w) is in
        let same : entry_key (Occupied d) ≡ entry_key (Occupied o) = ap (λ (p : K × V). p.0) now ∙ sym (ap (λ (p : K × V). p.0) (the-is (pair_under o.map.now o.leaf) o.held (there.leaf.key, there.leaf.value) was)) in
        written-as d w refl (pairs w ∙ ap (λ k. with_pair_put g.bytes k w o.map.now.pairs) (sym key)) same (ap (λ (p : K × V). Some p.1) now) refl

  -- a vacant entry whose pair was put in is written
  pub put-as : (e : VacantEntry K V P M g) (m : Contents K V) (v : V) → m.pairs ≡ entry_pairs (Vacant e) v → KeepsAllLeaves g.bytes e.map.now m
      → UsesRoom 2 e.map.now.nodes m.nodes → (d : OccupiedEntry K V P M g) → (d.map.ghost_name ≡ e.map.ghost_name) × (d.map.now ≡ m)
      → (entry_key (Occupied d) ≡ e.key) × (entry_value (Occupied d) ≡ Some v)
      → IsWritten (Vacant e) v (Occupied d)
  put-as e m v put names room d same told = record {
    same_map = same.0;
    pairs = ap (λ n. n.pairs) same.1 ∙ put;
    key = told.0;
    value = told.1;
    writes = λ u. rw (told.0, same.1, put) (put-again g.bytes e.key v u e.map.now.pairs);
    names = subst (KeepsAllLeaves g.bytes e.map.now) (sym same.1) names;
    room = subst (λ n. UsesRoom 2 e.map.now.nodes n.nodes) (sym same.1) room;
  }

module _ {K V : Type 0} (m : Contents K V) (slot : ℕ) (p q : K × V) (has : HasPairAt m slot p) (lent : HasPairAt m slot q) where
  -- the leaf of a pair that was put in, with another value
  pub put-lent : (bytes : K → List ℕ) (old : Contents K V) → m.pairs ≡ with_pair_put bytes p.0 p.1 old.pairs → KeepsAllLeaves bytes old m → UsesRoom 2 old.nodes m.nodes → ((w : V) → (with_value_at m slot w).pairs ≡ with_pair_put bytes q.0 w m.pairs) → (w : V)
      → ((with_value_at m slot w).pairs ≡ with_pair_put bytes p.0 w old.pairs) × KeepsAllLeaves bytes old (with_value_at m slot w) × UsesRoom 2 old.nodes (with_value_at m slot w).nodes
  put-lent bytes old put names room written w = (
    written w ∙ rw ((one-pair m slot p q has lent).0, put) (put-again bytes p.0 p.1 w old.pairs),
    then-names bytes (with_value_at m slot w).nodes m.nodes old.nodes (written-all bytes m slot p has w) names,
    used-room m slot old.nodes 2 room p has w,
  )

module _ {K V : Type 0} where
  -- the pair that is found passes
  passes : (test : K → Bool) (pairs : List (K × V)) (p : K × V) → lookup_entry test pairs ≡ Some p → test p.0 ≡ true
  passes test [] p e = absurd (cc)
  passes test (q ∷ qs) p e = here (test q.0) refl e (passes test qs p)
    where
      here : (b : Bool) → test q.0 ≡ b → cond b (Some q) (lookup_entry test qs) ≡ Some p → (lookup_entry test qs ≡ Some p → test p.0 ≡ true) → test p.0 ≡ true
      here true is e later = let same : q ≡ p = cc in subst (λ (r : K × V). test r.0 ≡ true) same is
      here false is e later = later e

module _ {K V : Type 0} {P : ℕ} {M : Type 0} {g : as_bytes.Ghosts K} (m : Contents K V) (key : K) (query : List ℕ) (asked : query ≡ g.bytes key) where
  -- the entry of the leaf that is found, and the entry where none is
  pub found-entry : (o : OccupiedEntry K V P M g) (slot : ℕ) → IsFound (has_bytes g.bytes query) m (Some slot) → ((p : K × V) → HasPairAt m slot p → (entry_key (Occupied o) ≡ p.0) × (entry_value (Occupied o) ≡ Some p.1)) → IsEntryOf m.pairs key (Occupied o)
  found-entry o slot (p, has, entry, written) told =
      let is = told p has in
      let there : lookup_entry (has_bytes g.bytes (g.bytes key)) m.pairs ≡ Some p = subst (λ k. lookup_entry (has_bytes g.bytes k) m.pairs ≡ Some p) asked entry in
      record {
        key = is.0 ∙ sym (ap (λ r. unwrap_or (option_key r) key) there);
        same_key = ap g.bytes is.0 ∙ (bytes_eq-Decides (g.bytes p.0) (g.bytes key)).0 (passes (has_bytes g.bytes (g.bytes key)) m.pairs p there);
        value = is.1 ∙ sym (lookup-value (has_bytes g.bytes (g.bytes key)) m.pairs (Some p) there);
      }

  pub absent-entry : (e : VacantEntry K V P M g) → e.key ≡ key → IsFound (has_bytes g.bytes query) m None → IsEntryOf m.pairs key (Vacant e)
  absent-entry e same none =
      let absent : lookup_entry (has_bytes g.bytes (g.bytes key)) m.pairs ≡ None = subst (λ k. lookup_entry (has_bytes g.bytes k) m.pairs ≡ None) asked none in
      record {
        key = same ∙ sym (ap (λ r. unwrap_or (option_key r) key) absent);
        same_key = ap g.bytes same;
        value = sym (lookup-value (has_bytes g.bytes (g.bytes key)) m.pairs None absent);
      }

-- what holds of an `Err`, where what would make it none is absurd
pub err-never : {X E : Type 0} {A B : E → Type 0} {R : Type 0} (r : Result X E) → ((e : E) → A e → (R → ⊥) → B e) → IfErr r A → (R → IsOk r) → IfErr r B
err-never (Ok x) more a never = tt
err-never (Err e) more a never = more e a (λ room. let ok = never room in absurd (cc))

-- what two facts of an `Ok` tell
pub ok-on : {X E C : Type 0} {A B : X → Type 0} (r : Result X E) → ((x : X) → A x → B x → C) → IfOk r A → IfOk r B → OnOk r C
ok-on (Ok x) more a b = more x a b
ok-on (Err e) more a b = tt
