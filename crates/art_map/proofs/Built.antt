-- What a map in the making has of the pairs that it took.
use Rattle.std.proofs.Common.{◌≡◌, ℕ, true, false, cond, MatchBool, List, [], ◌∷◌, ◌++◌, Option, Some, None, Result, Ok, Err, refl, sym, ap, subst, ◌∙◌}
use Rattle.std.specs.List.{AllByRecursion}
use Rattle.std.specs.Prelude.{IfErr, OnOk}
use Rattle.art_arena.proofs.Common.{Arena, Held, cell_of, inner_held, leaf_held, key_of, AscendsByKey, all_append}
use Rattle.art_nodes.proofs.Common.{Name}
use Rattle.art_operations.proofs.Common.{Builds, BuildsTo, HasKey, HasLeavesOf, HasPairs, IsBlocked, with_pair_put, IsEmptySpine, before, fresh}
use Rattle.art_operations.specs.Builders.{IsAfterAll, IsPushRefused}
use Rattle.art_operations.specs.declared.build.PushRefused.{PushRefused}
use Rattle.art_operations.specs.declared.build.PushRefused.TheVariants.{NotAfter, Memory}
use Rattle.art_operations.specs.declared.build.TreeBuilder.{TreeBuilder}
use Rattle.art_map.proofs.Terms.{HasGathered, HasGatheredInOrder, nodes_of}
use Rattle.art_map.specs.inner.Pushes.{pair_handed_back}
use Rattle.art_map.specs.declared.map.builder.TreeMapBuilder.{TreeMapBuilder}
use Rattle.art_map.proofs.Puts.{free-last, put-last}
use Rattle.art_map.proofs.StoredKeys.{new-last}

-- the pairs of which a tree is being built ascend
built-ascend : {K V : Type 0} (bytes : K → List ℕ) (P : ℕ) (arena : Arena K V) (builder : TreeBuilder) (pairs : List (K × V)) → Builds bytes P arena builder pairs → AscendsByKey (key_of bytes) pairs
built-ascend {K} {V} bytes P arena builder pairs builds = of builder.last builds.built
  where
    of : (last : Option ℕ) → BuildsTo bytes P arena builder.spine last pairs → AscendsByKey (key_of bytes) pairs
    of None b = subst (AscendsByKey (key_of bytes)) (sym b.0) tt
    of (Some last) b = b.ascends

-- and none blocks the key of a pair that was taken after them
pub free-after : {K V : Type 0} (bytes : K → List ℕ) (P : ℕ) (arena : Arena K V) (builder : TreeBuilder) (pairs : List (K × V)) (k : K) (v : V) → Builds bytes P arena builder (pairs ++ (k, v) ∷ []) → IsBlocked (key_of bytes) (bytes k) pairs → ⊥
free-after bytes P arena builder pairs k v builds = free-last bytes pairs (k, v) (built-ascend bytes P arena builder (pairs ++ (k, v) ∷ []) builds)

-- it goes after all of them
pub after-these : {K V : Type 0} (bytes : K → List ℕ) (P : ℕ) (arena : Arena K V) (builder : TreeBuilder) (pairs : List (K × V)) (k : K) (v : V) → Builds bytes P arena builder (pairs ++ (k, v) ∷ []) → IsAfterAll bytes (bytes k) pairs
after-these bytes P arena builder pairs k v builds = before (key_of bytes) (k, v) pairs [] (built-ascend bytes P arena builder (pairs ++ (k, v) ∷ []) builds)

-- nor has one of them its key
pub new-after : {K V : Type 0} (bytes : K → List ℕ) (P : ℕ) (arena : Arena K V) (builder : TreeBuilder) (pairs : List (K × V)) (k : K) (v : V) → Builds bytes P arena builder (pairs ++ (k, v) ∷ []) → HasKey (key_of bytes) (bytes k) pairs → ⊥
new-after bytes P arena builder pairs k v builds = new-last bytes pairs (k, v) (built-ascend bytes P arena builder (pairs ++ (k, v) ∷ []) builds)

-- what stands under no name is no node
held-none : {K V : Type 0} (o : Option (Held K V)) → cell_of o ≡ None → o ≡ None
held-none None e = refl
held-none (Some (leaf_held l)) e = absurd (cc)
held-none (Some (inner_held n)) e = absurd (cc)

-- a new builder goes on from an arena without a root
pub none-built : {K V : Type 0} (bytes : K → List ℕ) (P : ℕ) (arena : Arena K V) (builder : TreeBuilder) (root : Option Name) (pairs : List (K × V)) → root ≡ None → HasPairs bytes P arena root pairs
    → builder.last ≡ None → IsEmptySpine builder.spine → builder.room ≡ 0 → (pairs ≡ []) × Builds bytes P arena builder pairs
none-built bytes P arena builder root pairs none has last spine room =
    let (no_pair, vacant) = subst (λ r. HasPairs bytes P arena r pairs) none has in
    (no_pair, subst (Builds bytes P arena builder) (sym no_pair) (fresh bytes P arena builder last spine room (λ n. held-none _ (vacant n))))

-- and so from a map of no pair
pub goes-on : {K V : Type 0} {P : ℕ} (bytes : K → List ℕ) (is_key : K → Type 0) (b : TreeMapBuilder K V P) (root : Option Name) (pairs : List (K × V)) → root ≡ None → HasPairs bytes P b.arena root pairs
    → b.builder.last ≡ None → IsEmptySpine b.builder.spine → b.builder.room ≡ 0 → b.map.pairs ≡ [] → HasGatheredInOrder bytes is_key b pairs
goes-on {P = P} bytes is_key b root pairs none has last spine room empty =
    let (no_pair, builds) = none-built bytes P b.arena b.builder root pairs none has last spine room in
    (builds, subst (AllByRecursion (λ p. is_key p.0)) (sym no_pair) tt, empty)

module _ {K V : Type 0} {P : ℕ} (bytes : K → List ℕ) (is_key : K → Type 0) (b : TreeMapBuilder K V P) (pairs : List (K × V)) where
  -- what it has is told by whether they came in order
  pub in-order : b.in_order ≡ true → HasGathered bytes is_key b pairs → HasGatheredInOrder bytes is_key b pairs
  in-order e taken = subst (λ o. MatchBool o (HasGatheredInOrder bytes is_key b pairs) (b.map.pairs ≡ pairs)) e taken

  pub settled : b.in_order ≡ false → HasGathered bytes is_key b pairs → b.map.pairs ≡ pairs
  settled e taken = subst (λ o. MatchBool o (HasGatheredInOrder bytes is_key b pairs) (b.map.pairs ≡ pairs)) e taken

  pub is-in-order : b.in_order ≡ true → HasGatheredInOrder bytes is_key b pairs → HasGathered bytes is_key b pairs
  is-in-order e taken = subst (λ o. MatchBool o (HasGatheredInOrder bytes is_key b pairs) (b.map.pairs ≡ pairs)) (sym e) taken

  pub has-settled : b.in_order ≡ false → b.map.pairs ≡ pairs → HasGathered bytes is_key b pairs
  has-settled e has = subst (λ o. MatchBool o (HasGatheredInOrder bytes is_key b pairs) (b.map.pairs ≡ pairs)) (sym e) has

  pub is-settled : {A E : Type 0} (r : Result A E) → b.in_order ≡ false → OnOk r (b.map.pairs ≡ pairs) → OnOk r (HasGathered bytes is_key b pairs)
  is-settled (Ok x) e has = subst (λ o. MatchBool o (HasGatheredInOrder bytes is_key b pairs) (b.map.pairs ≡ pairs)) (sym e) has
  is-settled (Err e) f has = tt

  -- a pair that goes after all others is put in there
  pub taken-after : (was : List (K × V)) (k : K) (v : V) → pairs ≡ with_pair_put bytes k v was → b.in_order ≡ true → Builds bytes P b.arena b.builder (was ++ (k, v) ∷ [])
      → AllByRecursion (λ p. is_key p.0) was → is_key k → b.map.pairs ≡ [] → HasGathered bytes is_key b pairs
  taken-after was k v pairs_are e builds keys one none =
      let last = put-last bytes was (k, v) (built-ascend bytes P b.arena b.builder (was ++ (k, v) ∷ []) builds) in
      is-in-order e
      (subst (HasGatheredInOrder bytes is_key b) (sym (pairs_are ∙ last)) (builds, all_append (λ p. is_key p.0) was ((k, v) ∷ []) keys (one, tt), none))

module _ {K V : Type 0} {P : ℕ} (bytes : K → List ℕ) (is_key : K → Type 0) (b : TreeMapBuilder K V P) (had : List (K × V)) (k l : K) (v w : V) where
  -- whatever pairs it has, they are these, and the key and the value are those that came
  abbrev pub AreThese : Type 0
  AreThese = (pairs : List (K × V)) → HasGathered bytes is_key b pairs → (had ≡ pairs) × (k ≡ l) × (v ≡ w)

  module _ (these : AreThese) where
    -- so what is so of these is so of whatever pairs it has
    pub of-these : (Q : K → V → List (K × V) → Type 0) → Q k v had → (pairs : List (K × V)) → HasGathered bytes is_key b pairs → Q l w pairs
    of-these Q q pairs has =
        let (same, key, value) = these pairs has in
        subst (λ x. Q x w pairs) key (subst (λ x. Q k x pairs) value (subst (Q k v) same q))

    pub ok-of-these : {A E : Type 0} (Q : K → V → List (K × V) → Type 0) (r : Result A E) → OnOk r (Q k v had) → OnOk r ((pairs : List (K × V)) → HasGathered bytes is_key b pairs → Q l w pairs)
    ok-of-these Q (Ok x) q = of-these Q q
    ok-of-these Q (Err e) q = tt

    pub err-of-these : {A E : Type 0} (Q : E → K → V → List (K × V) → Type 0) (r : Result A E) → IfErr r (λ e. Q e k v had) → IfErr r (λ e. (pairs : List (K × V)) → HasGathered bytes is_key b pairs → Q e l w pairs)
    err-of-these Q (Ok x) q = tt
    err-of-these Q (Err e) q = of-these (Q e) q

-- a pair that is handed back is the one that came
pub handed-back : {K V : Type 0} (B : Type 0) (key : K) (value : V) (refused : PushRefused K V) (gone : K × V) → gone ≡ pair_handed_back refused → IsPushRefused key value B refused → (gone.0 ≡ key) × (gone.1 ≡ value)
handed-back B key value (NotAfter k v) gone is back = (ap (λ p. p.0) is ∙ back.0, ap (λ p. p.1) is ∙ back.1)
handed-back B key value (Memory k v) gone is back = (ap (λ p. p.0) is ∙ back.0, ap (λ p. p.1) is ∙ back.1)

-- what an error tells where one thing is so, it tells where another is so from which that one follows
pub err-where : {A E S T : Type 0} (C : E → Type 0) (r : Result A E) → (S → T) → IfErr r (λ e. T → C e) → IfErr r (λ e. S → C e)
err-where C (Ok x) f told = tt
err-where C (Err e) f told = λ s. told (f s)

module _ {K V : Type 0} {P : ℕ} (bytes : K → List ℕ) where
  -- which nodes hold the pairs is told by whether they came in order
  pub nodes-in-order : (b : TreeMapBuilder K V P) → b.in_order ≡ true → nodes_of b ≡ b.arena
  nodes-in-order b e = ap (λ o. cond o b.arena b.map.nodes) e

  pub nodes-settled : (b : TreeMapBuilder K V P) → b.in_order ≡ false → nodes_of b ≡ b.map.nodes
  nodes-settled b e = ap (λ o. cond o b.arena b.map.nodes) e

  -- so each leaf stands where those that it had do
  pub names-of : (was now : TreeMapBuilder K V P) (old new : Arena K V) → nodes_of was ≡ old → nodes_of now ≡ new → HasLeavesOf bytes new old → HasLeavesOf bytes (nodes_of now) (nodes_of was)
  names-of was now old new had has names = subst (λ a. HasLeavesOf bytes (nodes_of now) a) (sym had) (subst (λ a. HasLeavesOf bytes a old) (sym has) names)
