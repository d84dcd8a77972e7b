-- What a reader of a map answers, told by the pairs of the map.
use Rattle.std.proofs.Common.{◌≡◌, ◌≢◌, ℕ, ◌+◌, ◌-◌, ◌^◌, min, Bool, true, false, cond, filter, List, [], ◌∷◌, ◌++◌, length, Option, Some, None, MatchOption, refl, sym, ap, subst, ◌∙◌, inl, inr, arith, append_assoc}
use Rattle.std.specs.Map.{lookup_entry}
use Rattle.std.proofs.lemmas.Bool.Decides.{eqb_tells}
use Rattle.std.proofs.lemmas.List.{length-map}
use Rattle.art_nodes.proofs.Common.{Name}
use Rattle.art_nodes.specs.declared.leaf.LeafNode.{LeafNode}
use Rattle.art_arena.proofs.Common.{Arena, cell_of, held_at, leaf_held, links_at, node_at, leaf_name, passing, AreLinked, KeysWithin, Shape, LeafAt}
use Rattle.art_arena.proofs.Common.{erase, key_of, leaves, pairs_of, Stores, Tree, tree_of, canonical-erase, items-erase, nodes-subtree}
use Rattle.art_arena.specs.arena.Reads.{ReadsExactly}
use Rattle.art_arena.proofs.tree.Unique.{tree_of_items}
use Rattle.art_operations.proofs.Common.{AreEndsWhere, leaf_pair, IsConvex}
use Rattle.art_walks.proofs.Terms.{IsSpan, IsSpanOf, PairsWithin, ReadsPairs, ReadsTree, of_tree, Ends, HasEnds, IsWalk, AreStored}
use Rattle.art_walks.proofs.RunSteps.{front-alone, front-is, front-step, next_of}
use Rattle.art_walks.proofs.Spans.{passing-pairs, span-in}

-- the first item
abbrev first_of : {X : Type 0} → List X → Option X
first_of [] = None
first_of (x ∷ xs) = Some x

module _ {K V : Type 0} (bytes : K → List ℕ) (test : List ℕ → Bool) where
  -- the first pair that passes is the first of those that do
  entry-first : (pairs : List (K × V)) → lookup_entry (λ k. test (bytes k)) pairs ≡ first_of (filter (λ p. test (bytes p.0)) pairs)
  entry-first [] = refl
  entry-first (p ∷ ps) = elim (test (bytes p.0)) as (λ b. cond b (Some p) (lookup_entry (λ k. test (bytes k)) ps) ≡ first_of (cond b (p ∷ filter (λ p. test (bytes p.0)) ps) (filter (λ p. test (bytes p.0)) ps))) [
    | true ↦ refl
    | false ↦ entry-first ps
  ]

  -- what is found of the pairs is the first of the leaves that pass
  found : (ls leaves : List (LeafAt K V)) → passing bytes test leaves ≡ ls → lookup_entry (λ k. test (bytes k)) (pairs_of leaves) ≡ first_of (pairs_of ls)
  found ls leaves are = entry-first (pairs_of leaves) ∙ ap first_of (sym (passing-pairs bytes test leaves) ∙ ap pairs_of are)

module _ {K V : Type 0} (bytes : K → List ℕ) (P : ℕ) (arena : Arena K V) (root : Name) (pairs : List (K × V)) (has : ReadsPairs bytes P arena (Some root) pairs) where
  -- the tree of the pairs
  abbrev pub the-shape : Shape K V
  the-shape = has.1.0

  pub the-stores : Stores bytes P arena root the-shape
  the-stores = nodes-subtree bytes P (node_at arena) root has.1.0 has.1.1.nodes

  pub the-links : AreLinked (links_at arena) None (leaves the-shape) None
  the-links = has.1.1.linked

  pub the-pairs : pairs_of (leaves the-shape) ≡ pairs
  the-pairs = has.1.2

  -- what is read of it is read of the tree that is built of the pairs
  pub tree-read : (of : Tree (K × V) → ℕ) (old new : ℕ) → ReadsExactly (of (erase the-shape)) old new → ReadsTree bytes of pairs old new
  tree-read of old new reads =
      let built : tree_of (key_of bytes) pairs ≡ Some (erase the-shape) =
      ap (tree_of (key_of bytes)) (sym the-pairs) ∙ sym (ap (tree_of (key_of bytes)) (items-erase the-shape)) ∙ tree_of_items (key_of bytes) (erase the-shape) (canonical-erase bytes [] the-shape has.1.1.nodes.under) in
      reads ∙ ap (λ t. min (old + of_tree of t) (2 ^ 64 - 1)) (sym built)

  -- the first of the leaves that pass has the first of the pairs that do
  pub pair-found : (test : List ℕ → Bool) (ls : List (LeafAt K V)) → ls ≡ passing bytes test (leaves the-shape) → first_of (pairs_of ls) ≡ lookup_entry (λ k. test (bytes k)) pairs
  pair-found test ls are = sym (ap (lookup_entry (λ k. test (bytes k))) (sym the-pairs) ∙ found bytes test ls (leaves the-shape) (sym are))

  -- keys of pairs are keys of leaves
  pub keys-within : (longest : ℕ) → PairsWithin bytes longest pairs → KeysWithin bytes longest (leaves the-shape)
  keys-within longest short = unmapped (leaves the-shape) (subst (PairsWithin bytes longest) (sym the-pairs) short)
    where
      unmapped : (ls : List (LeafAt K V)) → PairsWithin bytes longest (pairs_of ls) → KeysWithin bytes longest ls
      unmapped [] h = tt
      unmapped (l ∷ ls) h = (h.0, unmapped ls h.1)

  -- the pairs that pass stand together, between the ends of their leaves
  pub span-of : (test : List ℕ → Bool) → IsConvex test → (ends : Ends) → AreEndsWhere bytes test (leaves the-shape) ends → IsSpanOf arena pairs ends (filter (λ p. test (bytes p.0)) pairs)
  span-of test convex ends answer = span-in bytes P arena root the-shape has.1.1 test convex pairs the-pairs ends answer

-- a span without a pair
pub no-span : {K V : Type 0} (arena : Arena K V) (pairs : List (K × V)) → pairs ≡ [] → (test : K × V → Bool) → IsSpanOf arena pairs None (filter test pairs)
no-span {K} {V} arena pairs none test = subst (λ ps. IsSpanOf arena ps None (filter test ps)) (sym none) empty
  where
    empty : IsSpanOf {K = K} {V = V} arena [] None []
    empty = record {
      front = [];
      back = [];
      parts = refl;
      run = record { leaves = []; walk = record { xs = []; zs = []; list = record { linked = tt; once = λ n. omega arith }; ends_are = refl }; stored = tt; len_is = refl };
      pairs_are = refl;
    }

module _ {K V : Type 0} (arena : Arena K V) (ends : Ends) (a b : ℕ) (is : ends ≡ Some (a, b)) (leaf : LeafNode K V) (there : held_at arena (leaf_name a) ≡ Some (leaf_held leaf)) (next : Ends) (alone : a ≡ b → next ≡ None)
    (more : a ≢ b → (slot : ℕ) → leaf.next ≡ Some slot → next ≡ Some (slot, b)) where
  later : (l : LeafAt K V) (ls : List (LeafAt K V)) → IsWalk (links_at arena) (Some (a, b)) (l ∷ ls) → IsWalk (links_at arena) next ls
  later l ls walk = elim (eqb_tells a b) [
    | inl same ↦ subst (λ e. IsWalk (links_at arena) e ls) (sym (alone same.1)) (front-alone (links_at arena) a b l ls walk same.1)
    | inr other ↦
        let step = front-step (links_at arena) a b l ls walk other.1 in
        subst (λ e. IsWalk (links_at arena) e ls) (sym (more other.1 step.0 (next_of (held_at arena (leaf_name a)) leaf _ step.2 there))) step.3
  ]

  -- the span goes on after its first pair
  pub span-step : (pairs : List (K × V)) (p : K × V) (left : List (K × V)) → IsSpanOf arena pairs ends (p ∷ left) → (p ≡ (leaf.key, leaf.value)) × IsSpanOf arena pairs next left
  span-step pairs p left span = go span.run.leaves span.run.walk span.run.stored span.pairs_are
    where
      go : (ls : List (LeafAt K V)) → IsWalk (links_at arena) ends ls → AreStored arena ls → pairs_of ls ≡ p ∷ left → (p ≡ (leaf.key, leaf.value)) × IsSpanOf arena pairs next left
      go [] walk stored e = absurd (cc)
      go (l ∷ ls) walk stored e =
          let w = subst (λ x. IsWalk (links_at arena) x (l ∷ ls)) is walk in
          let own : (l.key, l.value) ≡ p = cc in
          let rest : pairs_of ls ≡ left = cc in
          let cell = sym (ap cell_of there) ∙ ap (λ n. node_at arena (leaf_name n)) (sym (front-is (links_at arena) a b l ls w)) ∙ stored.0 in
          let key_is : leaf.key ≡ l.key = cc in
          let value_is : leaf.value ≡ l.value = cc in (
            sym (rw (key_is, value_is) own),
            record {
              front = span.front ++ p ∷ [];
              back = span.back;
              parts = span.parts ∙ sym (append_assoc span.front (p ∷ []) (left ++ span.back));
              run = record { leaves = ls; walk = later l ls w; stored = stored.1; len_is = ap length (sym rest) ∙ length-map ls leaf_pair };
              pairs_are = rest;
            },
          )

  -- and a span of a map stays one
  pub span-later : IsSpan arena ends → IsSpan arena next
  span-later (pairs, [], span) = absurd (named span.run.leaves (subst (HasEnds span.run.leaves) is span.run.walk.ends_are) span.pairs_are)
    where
      named : (ls : List (LeafAt K V)) → HasEnds ls (Some (a, b)) → pairs_of ls ≡ [] → ⊥
      named [] ends_are none = let first = ends_are.0 in absurd (cc)
      named (l ∷ ls) ends_are none = absurd (cc)
  span-later (pairs, p ∷ left, span) = (pairs, left, (span-step pairs p left span).1)

-- what is said of a root that is there, and of none
pub where_some : {A : Type 0} {o : Option A} {a : A} (N : Type 0) {L : Type 0} → o ≡ Some a → L → MatchOption o N (λ _. L)
where_some {o = None} N e l = absurd (cc)
where_some {o = Some b} N e l = l

pub where_none : {A : Type 0} {o : Option A} {N : Type 0} (L : A → Type 0) → o ≡ None → N → MatchOption o N L
where_none {o = None} L e n = n
where_none {o = Some b} L e n = absurd (cc)
