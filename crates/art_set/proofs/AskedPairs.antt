-- What the extraction of a map's pairs tells of a set's keys.
use Rattle.std.proofs.Common.{◌≡◌, ℕ, suc, ◌+◌, ◌-◌, ◌<◌, ◌≤◌, Bool, true, List, [], ◌∷◌, length, drop, Some, None, Result, Ok, Err, refl, sym, ap, ap₂, ◌∙◌, subst, arith}
use Rattle.std.proofs.lemmas.List.{length-map}
use Rattle.std.specs.Prelude.{IfOk, OnErr, filter, is_ok}
use Rattle.std.specs.Map.{keys_of}
use Rattle.art_nodes.specs.declared.kind.NodeType.TheVariants.{Leaf}
use Rattle.art_arena.proofs.Common.{Arena, HasRoom, HasRoomOf, IsIn, key_of, Shrinks}
use Rattle.art_arena.specs.arena.Arena.{UsesRoom}
use Rattle.art_bytes.specs.declared.as_bytes.AsBytes as as_bytes
use Rattle.art_map.proofs.Common.{Contents, first_item, in-removed, left_of, map_of}
use Rattle.art_map.proofs.RoomKept.{UsesOfGone, gone-frees, gone-room, gone-uses}
use Rattle.art_map.specs.Asked.{taken_by}
use Rattle.art_map.specs.declared.map.extraction.Extraction.{Extraction}
use Rattle.art_operations.proofs.Common.{KeepsLeavesOf, without_key}
use Rattle.art_operations.specs.Frees.{FreesLeaves}
use Rattle.art_set.proofs.Terms.{AskingKeys, CallableOnEachKey}
use Rattle.art_set.specs.Members.{Members, members}
use Rattle.art_set.specs.Pairs.{pairs_of_keys}
use Rattle.art_set.proofs.AskedKeys.{callable-none}
use Rattle.art_set.proofs.KeyPairs.{with-units}
use Rattle.art_set.proofs.KeyViews.{keys-without, shrinking}

module _ {K V : Type 0} where
  -- the first key, and those after it
  pub first-left : (p : K × V) (ps : List (K × V)) → Some p ≡ first_item ps → keys_of ps ≡ p.0 ∷ keys_of (drop 1 ps)
  first-left p [] e = absurd (cc)
  first-left p (q ∷ ps) e = let same : q ≡ p = cc in ap (λ (x : K × V). x.0 ∷ keys_of ps) same

  pub none-first : (ps : List (K × V)) → None ≡ first_item ps → keys_of ps ≡ []
  none-first [] e = refl
  none-first (p ∷ ps) e = absurd (cc)

  -- and once the first pair was passed
  pub first-passed : (k : K) (ps qs : List (K × V)) → keys_of ps ≡ k ∷ keys_of (drop 1 ps) → ((p : K × V) × (ps ≡ p ∷ qs)) → keys_of ps ≡ k ∷ keys_of qs
  first-passed k ps qs e (p, f) = e ∙ ap (λ xs. k ∷ keys_of (drop 1 xs)) f

  same-first : (k : K) (p : K × V) (ps qs : List (K × V)) → keys_of ps ≡ k ∷ keys_of (drop 1 ps) → ps ≡ p ∷ qs → p.0 ≡ k
  same-first k p ps qs e f =
      let g : p.0 ∷ keys_of qs ≡ k ∷ keys_of (drop 1 ps) = sym (ap keys_of f) ∙ e in
      let h : p.0 ≡ k = cc in h

  pub all-between : (ps : List (K × V)) → filter (λ p. true) ps ≡ ps
  all-between [] = refl
  all-between (p ∷ ps) = ap (λ qs. p ∷ qs) (all-between ps)

  module _ (bytes : K → List ℕ) {E : Type 0} (k : K) (old new ps qs : List (K × V)) (first : keys_of old ≡ k ∷ keys_of (drop 1 old)) where
    -- the first pair was taken out, and its key is answered
    pub taken-key : (r : Result (K × V) E) (a : Result K E) → IfOk a (λ l. IfOk r (λ p. p.0 ≡ l)) → is_ok a ≡ is_ok r
        → IfOk r (λ p. old ≡ p ∷ new) → IfOk r (λ p. qs ≡ without_key (key_of bytes) (bytes p.0) ps)
        → IfOk a (λ l. (l ≡ k) × (keys_of qs ≡ without_key bytes (bytes k) (keys_of ps)) × (keys_of new ≡ keys_of (drop 1 old)))
    taken-key r (Err e) key told left pairs = tt
    taken-key (Err e) (Ok l) key told left pairs = absurd (cc)
    taken-key (Ok p) (Ok l) key told left pairs =
        let same = same-first k p old new first left in (
          sym key ∙ same,
          ap keys_of pairs ∙ keys-without bytes (bytes p.0) ps ∙ ap (λ x. without_key bytes (bytes x) (keys_of ps)) same,
          sym (ap (λ xs. keys_of (drop 1 xs)) left),
        )

    -- or that was refused
    pub refused-key : (r : Result (K × V) E) (a : Result K E) → is_ok a ≡ is_ok r → OnErr r ((new ≡ []) × (qs ≡ ps))
        → OnErr r ((p : K × V) × (rest : List (K × V)) × (old ≡ p ∷ rest) × Shrinks (key_of bytes) ps (bytes p.0))
        → OnErr a ((keys_of qs ≡ keys_of ps) × (keys_of new ≡ []) × Shrinks bytes (keys_of ps) (bytes k))
    refused-key r (Ok l) told err shrinks = tt
    refused-key (Ok p) (Err e) told err shrinks = absurd (cc)
    refused-key (Err f) (Err e) told err (p, rest, left, shrinks) = (
      ap keys_of err.1,
      ap keys_of err.0,
      subst (λ x. Shrinks bytes (keys_of ps) (bytes x)) (same-first k p old rest first left) (shrinking bytes (bytes p.0) ps shrinks),
    )

    -- no more are then left than after it, of which the closure may be asked
    pub fewer-left : {F : Type 0} (T : F → K → Bool → F → Type 0) (Q : F → K → Type 0) (f : F) → CallableOnEachKey T Q f (keys_of (drop 1 old))
        → (r : Result (K × V) E) → IfOk r (λ p. old ≡ p ∷ new) → OnErr r ((new ≡ []) × (qs ≡ ps))
        → CallableOnEachKey T Q f (keys_of new) × (length (keys_of new) ≤ length (keys_of (drop 1 old)))
    fewer-left T Q f can (Ok p) left err =
        let same : keys_of (drop 1 old) ≡ keys_of new = ap (λ xs. keys_of (drop 1 xs)) left in
        let len = ap length same in
        (subst (CallableOnEachKey T Q f) same can, omega (arith, len))
    fewer-left T Q f can (Err e) left err =
        let none : keys_of new ≡ [] = ap keys_of err.0 in
        let len = ap length none in
        (callable-none T Q f (keys_of new) none, omega (arith, len))

-- the keys of a set's map, those that are left, and this closure
abbrev pub asking_by : {K F : Type 0} {P : ℕ} {g : as_bytes.Ghosts K} → Extraction K (Unit {0}) P g → F → AskingKeys K F
asking_by e f = record { keys = keys_of (map_of e).now.pairs; left = keys_of (left_of e); asks = f }

-- the map of a set's keys beside the unit
abbrev pub contents_of : {K : Type 0} → Members K → Contents K (Unit {0})
contents_of s = record { pairs = pairs_of_keys s.keys; nodes = s.nodes; root = s.root }

pub contents-back : {K : Type 0} (m : Contents K (Unit {0})) → m ≡ contents_of (members m)
contents-back m = ap (λ ps. record m { pairs = ps }) (with-units m.pairs)

module _ {K : Type 0} (s : Members K) (now : Contents K (Unit {0})) (uses : UsesOfGone (contents_of s) now) where
  -- room for one node at most is used for each key that the set no longer has
  pub uses-keys : UsesRoom (length s.keys - length (keys_of now.pairs)) s.nodes now.nodes
  uses-keys n room =
      gone-uses (contents_of s) now uses n (subst (HasRoom s.nodes) (ap₂ (λ a b. n + (a - b)) (sym (length-map s.keys (λ k. (k, tt)))) (length-map now.pairs (λ p. p.0))) room)

  -- and there is room for one leaf more
  pub frees-keys : FreesLeaves (length s.keys - length (keys_of now.pairs)) s.nodes now.nodes
  frees-keys n room =
      subst (HasRoomOf now.nodes Leaf) (ap₂ (λ a b. n + (a - b)) (length-map s.keys (λ k. (k, tt))) (sym (length-map now.pairs (λ p. p.0)))) (gone-frees (contents_of s) now uses n room)

  -- so with room for each key there is room for one that is still there
  pub room-keys : 0 < length (keys_of now.pairs) → HasRoom s.nodes (length s.keys) → HasRoom now.nodes 1
  room-keys some room =
      gone-room (contents_of s) now uses (subst (λ n. 0 < n) (length-map now.pairs (λ p. p.0)) some) (subst (HasRoom s.nodes) (sym (length-map s.keys (λ k. (k, tt)))) room)

-- a key is taken where its pair is
pub taken-as-key : {A B E : Type 0} (r : Result A E) (a : Result B E) → is_ok a ≡ is_ok r → taken_by (Some r) ≡ taken_by (Some a)
taken-as-key (Ok x) (Ok y) same = refl
taken-as-key (Err e) (Err f) same = refl
taken-as-key (Ok x) (Err f) same = absurd (cc)
taken-as-key (Err e) (Ok y) same = absurd (cc)

-- the keys that stay keep their leaves where one pair more is taken out
pub then-kept : {K V : Type 0} (bytes : K → List ℕ) (ps qs : List (K × V)) (query : List ℕ) (one two three : Arena K V) → KeepsLeavesOf bytes ps one two → qs ≡ without_key (key_of bytes) query ps → KeepsLeavesOf bytes qs two three → KeepsLeavesOf bytes qs one three
then-kept bytes ps qs query one two three was out is slot key has (p, among, same) =
    let there = (in-removed bytes p query ps).0 (subst (IsIn p) out among) in
    is slot key (was slot key has (p, there.0, same)) (p, among, same)

-- one pair less is one key less
pub one-less : {K V : Type 0} (ps qs : List (K × V)) → suc (length (keys_of qs)) ≡ length (keys_of ps) → suc (length qs) ≡ length ps
one-less ps qs e = let p = length-map ps (λ x. x.0) in let q = length-map qs (λ x. x.0) in omega (arith, e, p, q)
