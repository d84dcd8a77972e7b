-- The walk of a descent from the root to a leaf.
use Rattle.std.proofs.Common.{◌≡◌, ℕ, suc, ◌+◌, ◌-◌, ◌^◌, ◌<◌, ◌≤◌, min, Bool, List, [], ◌∷◌, ◌++◌, length, get_or, take, drop, Option, Some, None, IsSome, IfSome, refl, sym, ap, ap₂, subst, ◌∙◌, inl, inr, arith, append_assoc, length-append, le-ltb, lt-ltb}
use Rattle.std.proofs.Math.ListN.{drop_of_length-le}
use Rattle.std.proofs.lemmas.Bool.{cond-true, cond-false, cond_both}
use Rattle.std.proofs.lemmas.Bool.Decides.{leb_tells}
use Rattle.std.specs.Prelude.{if◌then◌else◌, ◌⊎◌, nat_lt}
use Rattle.std.proofs.lemmas.List.{drop-drop, take-append-drop, take-append-le, take_all}
use Rattle.art_nodes.proofs.Common.{Name, InnerNode, child_at}
use Rattle.art_nodes.specs.declared.leaf.LeafNode.{LeafNode}
use Rattle.art_arena.proofs.Terms.{look_up_path, look_up_in, compared_on, inner, begins_with, Cell, pair, branches, copies, AreHeld, Shape, Branches, leaf_at, inner_at, name_of, children_at, cells, erase, erase_in, leaves_in, Frame, path_to, cells_before, cells_after, IsSubtree, Step, steps_to, IsPlace, prefix_of, located}
use Rattle.art_arena.proofs.Terms.{located_in, GoesOn, GoesNoFurther, GuidesBelow, IsGuide, TakesFronts, located_where, LandsAt, HasNoFront, AgreesUpTo, MeetsStored, OnWayTo, ReadsLookUp, Arena, Held, leaf_held, inner_held, held_at, cell_of, node_at}
use Rattle.art_bytes.proofs.Common.{BeginsWith}
use Rattle.art_arena.proofs.shapes.Guides.{guide_down}
use Rattle.art_arena.proofs.shapes.LastSteps.{last_two}
use Rattle.art_arena.proofs.shapes.Prefixes.{drop-front, take-front}
use Rattle.art_arena.proofs.shapes.Reads.{some_weaker}
use Rattle.art_arena.specs.inner.Stepping.{IsComparedAfter}
use Rattle.art_arena.proofs.shapes.CellLists.{copies-append}
use Rattle.art_arena.proofs.shapes.Contexts.{cells-plug}
use Rattle.art_arena.proofs.shapes.Places.{Splits, held-below, leaf-there, inner-there, place_below, split, at-root}
use Rattle.art_arena.proofs.tree.LookUps.{begins_taken}
use Rattle.art_arena.proofs.tree.Parts.{begins_not, begins_same}
use Rattle.art_arena.proofs.shapes.Finding.{NoneFits, dropped, counted_more, located-step, none-located_in, none-avoid, none-short, none-differs, avoid-missing, look_up-step, look_up-missing, look_up-ended}

-- how many nodes are counted after so many more
abbrev pub counted : ℕ → ℕ → ℕ
counted start n = min (start + n) (2 ^ 64 - 1)

-- what stands at a place of a tree is a tree of its own
pub place-subtree : {K V : Type 0} (bytes : K → List ℕ) (P : ℕ) (at : Name → Option (Cell K V)) (root : Name) (s : Shape K V) (ctx : List (Frame K V)) (part : Shape K V) → IsSubtree bytes P at root [] s → IsPlace bytes s ctx part → IsSubtree bytes P at (name_of part) (path_to ctx) part
place-subtree bytes P at root s ctx part tree place = record {
  part = record {
    named = refl;
    held = held-below P at ctx part (subst (λ w. AreHeld at (cells P w)) place.is tree.part.held);
    once = λ n.
        let counted = ap (copies n) (ap (cells P) place.is ∙ cells-plug P ctx part) ∙ copies-append n (cells_before P ctx (name_of part)) (cells P part ++ cells_after P ctx) in
        omega (arith, tree.part.once n, counted, copies-append n (cells P part) (cells_after P ctx));
  };
  under = place.under;
}

module _ {K V : Type 0} (bytes : K → List ℕ) (key : List ℕ) (whole : Shape K V) (start : ℕ) where
  -- on the way to the key: `depth` bytes of it, and these last steps, lead to the node with this name; each node above it was read, and one more makes this count
  pub record IsOnWay (current : Name) (last : List Step) (depth count : ℕ) : Type 0 where
    pub ctx : List (Frame K V)
    pub part : Shape K V
    pub place : IsPlace bytes whole ctx part
    pub named : name_of part ≡ current
    pub steps : take 2 (steps_to ctx) ≡ last
    pub depth_is : length (path_to ctx) ≡ depth
    pub finds : (test : List ℕ → Bool) → TakesFronts key test → located_where bytes test (located [] whole) ≡ located_where bytes test (located (steps_to ctx) part)
    pub reads : min (count + 1) (2 ^ 64 - 1) ≡ counted start (suc (length ctx))

  -- a look-up of the key has come to this part below these frames
  abbrev pub IsLookedUp : ℕ → List (Frame K V) → Shape K V → ℕ → Type 0
  IsLookedUp P ctx part depth = length (look_up_path P (erase whole) key) ≡ length ctx + length (look_up_path P (erase part) (drop depth key))

  -- so many of the key's first bytes are those of this path
  abbrev pub IsAgreed : ℕ → List ℕ → Type 0
  IsAgreed compared path = (compared ≤ length path) × AgreesUpTo compared path key

  -- so many of them a look-up has compared before this part, after `depth` of them: all, or those before a prefix that isn't wholly stored
  abbrev pub IsComparedTo : ℕ → Shape K V → ℕ → ℕ → Type 0
  IsComparedTo P part depth compared =
      ((compared ≡ depth) × (compared_on P (look_up_path P (erase whole) key) ≡ depth + compared_on P (look_up_path P (erase part) (drop depth key))))
      ⊎ ((compared < depth) × (compared_on P (look_up_path P (erase whole) key) ≡ compared))

  -- and where so, the way is a front of the key, and what was found stands for the prefixes that the key meets from there on; a look-up has come this far, and so many bytes are compared
  abbrev pub IsOnWayIf : {X : Type 0} → ℕ → Type 0 → Type 0 → Option X → (X → List ℕ) → Name → List Step → ℕ → ℕ → ℕ → Type 0
  IsOnWayIf P so looks found bytes_of current last depth compared count =
      (on : IsOnWay current last depth count) × (so → BeginsWith (path_to on.ctx) key) × (so → IfSome found (λ x. IsGuide key (bytes_of x) (path_to on.ctx) on.part))
      × (looks → IsLookedUp P on.ctx on.part depth × IsAgreed compared (path_to on.ctx) × IsComparedTo P on.part depth compared)

  module _ (P : ℕ) (at : Name → Option (Cell K V)) (root : Name) (tree : IsSubtree bytes P at root [] whole) where
    pub way-start : IsOnWay root [] 0 start
    way-start = record {
      ctx = [];
      part = whole;
      place = at-root bytes whole tree.under;
      named = tree.part.named;
      steps = refl;
      depth_is = refl;
      finds = λ test takes. refl;
      reads = omega arith;
    }

    pub way-starts : (so looks : Type 0) → (on : IsOnWay root [] 0 start) × (so → BeginsWith (path_to on.ctx) key) × (so → Unit {0}) × (looks → IsLookedUp P on.ctx on.part 0 × IsAgreed 0 (path_to on.ctx) × IsComparedTo P on.part 0 0)
    unfolding way-start
    way-starts so looks = (way-start, λ h. (key, refl), λ h. tt, λ h. (omega arith, (omega arith, refl), inl (refl, omega arith)))

    module _ (current : Name) (last : List Step) (depth count : ℕ) (way : IsOnWay current last depth count) where
      pub part-held : AreHeld at (cells P way.part)
      part-held = held-below P at way.ctx way.part (subst (λ s. AreHeld at (cells P s)) way.place.is tree.part.held)

      -- a node is held there
      pub way-there : IsSome (at current)
      way-there = subst (λ n. IsSome (at n)) way.named (top way.part part-held)
        where
          top : (s : Shape K V) → AreHeld at (cells P s) → IsSome (at (name_of s))
          top (leaf_at slot k v) held = rw held.0 refl
          top (inner_at n prefix kids) held = rw held.0 refl

      pub way-subtree : IsSubtree bytes P at current (path_to way.ctx) way.part
      way-subtree = subst (λ n. IsSubtree bytes P at n (path_to way.ctx) way.part) way.named (place-subtree bytes P at root whole way.ctx way.part tree way.place)

      -- where the way is a front of the key
      pub on-way-to : (later : List Step) → later ≡ last → BeginsWith (path_to way.ctx) key → OnWayTo bytes P at key whole current later depth
      on-way-to later same begins = record {
        ctx = way.ctx;
        part = way.part;
        toward = record { place = way.place; steps = way.steps ∙ sym same; depth_is = way.depth_is; begins = begins };
        subtree = way-subtree;
      }

      -- at a leaf
      module _ (k : K) (v : V) (there : at current ≡ Some (pair k v)) where
        the_leaf : way.part ≡ leaf_at current.slot k v
        the_leaf = leaf-there P at way.part k v part-held (ap at way.named ∙ there) ∙ ap (λ (n : Name). leaf_at n.slot k v) way.named

        pub leaf-place : IsPlace bytes whole way.ctx (leaf_at current.slot k v)
        leaf-place = subst (IsPlace bytes whole way.ctx) the_leaf way.place

        pub way-lands : (leaf : LeafNode K V) → leaf.key ≡ k → leaf.value ≡ v → LandsAt bytes key whole current.slot leaf last
        way-lands leaf key_is value_is = record {
          ctx = way.ctx;
          place = rw (key_is, value_is) leaf-place;
          steps = way.steps;
          only = λ test takes. rw (key_is, value_is) (way.finds test takes ∙ ap (λ s. located_where bytes test (located (steps_to way.ctx) s)) the_leaf);
        }

        -- the leaf's key has the bytes that were compared
        pub agrees-leaf : (compared : ℕ) → IsAgreed compared (path_to way.ctx) → AgreesUpTo compared (bytes k) key
        agrees-leaf compared agreed =
            let below : BeginsWith (path_to way.ctx) (bytes k) = leaf-place.under in
            ap (take compared) below.1 ∙ take-append-le compared (path_to way.ctx) below.0 agreed.0 ∙ agreed.1

        pub compared-leaf : (compared : ℕ) → IsComparedTo P way.part depth compared → compared ≡ compared_on P (look_up_path P (erase whole) key)
        compared-leaf compared (inl (all, total)) = omega (arith, all, total, ap (λ s. compared_on P (look_up_path P (erase s) (drop depth key))) the_leaf)
        compared-leaf compared (inr (some, total)) = sym total

        pub reads-leaf : IsLookedUp P way.ctx way.part depth → ReadsLookUp P key whole start (min (count + 1) (2 ^ 64 - 1))
        reads-leaf long = way.reads ∙ ap (counted start) (omega (arith, long, ap (λ s. length (look_up_path P (erase s) (drop depth key))) the_leaf))

      -- at an inner node
      module _ (node : InnerNode) (there : at current ≡ Some (branches node)) where
        pub record Here : Type 0 where
          pub prefix : List ℕ
          pub kids : Branches K V
          pub is : way.part ≡ inner_at current prefix kids
          pub place : IsPlace bytes whole way.ctx (inner_at current prefix kids)
          pub node_is : node ≡ record { header = record { num_children = length (children_at kids); prefix_len = length prefix; stored = take P prefix }; children = children_at kids }

        pub here : Here
        here =
            let i = inner-there P at way.part node part-held (ap at way.named ∙ there) in
            let is = i.is ∙ ap (λ n. inner_at n i.prefix i.kids) way.named in
            record { prefix = i.prefix; kids = i.kids; is = is; place = subst (IsPlace bytes whole way.ctx) is way.place; node_is = i.node_is }

        abbrev path : List ℕ
        path = path_to way.ctx ++ here.prefix

        path-long : length path ≡ depth + node.header.prefix_len
        path-long = omega (arith, length-append (path_to way.ctx) here.prefix, way.depth_is, ap (λ n. n.header.prefix_len) here.node_is)

        following : drop (length here.prefix) (drop depth key) ≡ drop (depth + node.header.prefix_len) key
        following = drop-drop (length here.prefix) depth key ∙ ap (λ n. drop (depth + n.header.prefix_len) key) (sym here.node_is)

        stored-is : node.header.stored ≡ take P here.prefix
        stored-is = ap (λ n. n.header.stored) here.node_is

        -- what a look-up of what is left of the key reads, in the part
        part-path : length (look_up_path P (erase way.part) (drop depth key))
            ≡ suc (length (if begins_with (take P here.prefix) (drop depth key) then look_up_in P (erase_in here.kids) (drop (length here.prefix) (drop depth key)) else []))
        part-path = ap (λ s. length (look_up_path P (erase s) (drop depth key))) here.is

        goes-on : MeetsStored key depth node → look_up_path P (erase way.part) (drop depth key) ≡ inner here.prefix (erase_in here.kids) ∷ look_up_in P (erase_in here.kids) (drop (depth + node.header.prefix_len) key)
        goes-on meets =
            ap (λ s. look_up_path P (erase s) (drop depth key)) here.is
            ∙ ap (λ nodes. inner here.prefix (erase_in here.kids) ∷ nodes) (cond-true (begins_with (take P here.prefix) (drop depth key)) (look_up_in P (erase_in here.kids) (drop (length here.prefix) (drop depth key))) []
            (begins_same (take P here.prefix) (drop depth key) (subst (λ p. BeginsWith p (drop depth key)) stored-is meets))
            ∙ ap (look_up_in P (erase_in here.kids)) following)

        stays : (MeetsStored key depth node → ⊥) ⊎ (look_up_in P (erase_in here.kids) (drop (depth + node.header.prefix_len) key) ≡ []) → length (look_up_path P (erase way.part) (drop depth key)) ≡ 1
        stays (inl differs) =
            part-path
            ∙ ap (λ nodes. suc (length nodes)) (cond-false (begins_with (take P here.prefix) (drop depth key)) (look_up_in P (erase_in here.kids) (drop (length here.prefix) (drop depth key))) []
            (begins_not (take P here.prefix) (drop depth key) (λ meets. differs (subst (λ p. BeginsWith p (drop depth key)) (sym stored-is) meets))))
        stays (inr none) =
            part-path
            ∙ ap (λ nodes. suc (length nodes)) (cond_both (begins_with (take P here.prefix) (drop depth key)) (look_up_in P (erase_in here.kids) (drop (length here.prefix) (drop depth key))) []
            (λ nodes. nodes ≡ []) (λ _. ap (look_up_in P (erase_in here.kids)) following ∙ none) (λ _. refl))

        -- the child to which it goes on
        way-down : (b : ℕ) (child : Name) (next : ℕ) → GoesOn key depth node b child next → Splits here.kids b child
        way-down b child next goes = split here.kids b child (ap (λ n. child_at n.children b) (sym here.node_is) ∙ goes.child_is)

        -- it goes on to a child
        pub way-step : (b : ℕ) (child : Name) (next : ℕ) → GoesOn key depth node b child next
            → IsOnWay child (take 2 (record { node = current; byte = b } ∷ last)) next (min (count + 1) (2 ^ 64 - 1))
        way-step b child next goes =
            let h = here in
            let at_b : get_or key (length path) 0 ≡ b = ap (λ i. get_or key i 0) path-long ∙ goes.byte_is in
            let sd = way-down b child next goes in
            let place = place_below bytes whole way.ctx current h.prefix h.kids sd.before b sd.here sd.after h.place sd.kids_are in
            record {
              ctx = record { name = current; prefix = h.prefix; before = sd.before; byte = b; after = sd.after } ∷ way.ctx;
              part = sd.here;
              place = place;
              named = sd.named;
              steps = last_two (record { node = current; byte = b }) (steps_to way.ctx) ∙ ap (λ xs. take 2 (record { node = current; byte = b } ∷ xs)) way.steps;
              depth_is = omega (arith, length-append (path_to way.ctx ++ h.prefix) (b ∷ []), length-append (path_to way.ctx) h.prefix, way.depth_is, goes.next_is, ap (λ n. n.header.prefix_len) h.node_is);
              finds = λ test takes.
                  way.finds test takes ∙ ap (λ s. located_where bytes test (located (steps_to way.ctx) s)) h.is
                  ∙ ap (λ f. located_where bytes test (located_in (steps_to way.ctx) current f)) sd.kids_are
                  ∙ located-step bytes key test takes path (steps_to way.ctx) current sd.before b sd.here sd.after at_b place.around.1 place.around.2 place.around.3;
              reads = ap (λ c. min (c + 1) (2 ^ 64 - 1)) way.reads ∙ counted_more start (suc (length way.ctx)) (2 ^ 64 - 1);
            }

        -- what a look-up reads from here is this node, and what it reads from the child
        looks-on : (b : ℕ) (child : Name) (next : ℕ) (goes : GoesOn key depth node b child next) → MeetsStored key depth node
            → look_up_path P (erase way.part) (drop depth key) ≡ inner here.prefix (erase_in here.kids) ∷ look_up_path P (erase (way-step b child next goes).part) (drop next key)
        unfolding way-step
        looks-on b child next goes meets =
            let h = here in
            let sd = way-down b child next goes in
            let place = place_below bytes whole way.ctx current h.prefix h.kids sd.before b sd.here sd.after h.place sd.kids_are in
            let rest : drop (depth + node.header.prefix_len) key ≡ b ∷ drop next key =
            dropped (depth + node.header.prefix_len) key (omega (arith, goes.within, goes.next_is)) ∙ ap₂ (λ c n. c ∷ drop n key) goes.byte_is (sym goes.next_is) in
            let below : look_up_in P (erase_in h.kids) (drop (depth + node.header.prefix_len) key) ≡ look_up_path P (erase sd.here) (drop next key) =
            ap₂ (λ f k. look_up_in P (erase_in f) k) sd.kids_are rest ∙ look_up-step bytes key P sd.before b sd.here sd.after (drop next key) place.around.2 in
            goes-on meets ∙ ap (λ nodes. inner here.prefix (erase_in here.kids) ∷ nodes) below

        -- and so does a look-up
        way-looks : (b : ℕ) (child : Name) (next : ℕ) (goes : GoesOn key depth node b child next) → MeetsStored key depth node → IsLookedUp P way.ctx way.part depth
            → IsLookedUp P (way-step b child next goes).ctx (way-step b child next goes).part next
        unfolding way-step
        way-looks b child next goes meets long = omega (arith, long, ap length (looks-on b child next goes meets))

        -- which compares so many bytes in all
        way-compares : (b : ℕ) (child : Name) (next : ℕ) (goes : GoesOn key depth node b child next) → MeetsStored key depth node → (compared more : ℕ) → IsComparedAfter P node compared depth next more
            → IsComparedTo P way.part depth compared → IsComparedTo P (way-step b child next goes).part next more
        way-compares b child next goes meets compared more after before =
            let on = ap (compared_on P) (looks-on b child next goes meets) in
            let below = compared_on P (look_up_path P (erase (way-step b child next goes).part) (drop next key)) in
            let len = ap (λ n. n.header.prefix_len) here.node_is in
            elim after [
              | inl (all, stored, is) ↦
                  elim before [
                    | inl (same, total) ↦
                        let whole_on = cond-false (nat_lt P (length here.prefix)) 0 (length here.prefix + 1 + below) (le-ltb P (length here.prefix) (omega (arith, stored, len))) in
                        inl (is, omega (arith, total, on, whole_on, goes.next_is, len))
                    | inr (fewer, total) ↦ absurd (omega (arith, all, fewer))
                  ]
              | inr (cut, same) ↦
                  elim before [
                    | inl (all, total) ↦
                        elim cut [
                          | inl apart ↦ absurd (apart all)
                          | inr longer ↦
                              let none = cond-true (nat_lt P (length here.prefix)) 0 (length here.prefix + 1 + below) (lt-ltb P (length here.prefix) (omega (arith, longer, len))) in
                              inr (omega (arith, same, all, goes.next_is), omega (arith, total, on, none, all, same))
                        ]
                    | inr (fewer, total) ↦ inr (omega (arith, same, fewer, goes.next_is), omega (arith, total, same))
                  ]
            ]

        -- and they are the same
        way-agrees : (b : ℕ) (child : Name) (next : ℕ) (goes : GoesOn key depth node b child next) → MeetsStored key depth node → (compared more : ℕ) → IsComparedAfter P node compared depth next more
            → IsAgreed compared (path_to way.ctx) → IsAgreed more (path_to (way-step b child next goes).ctx)
        unfolding way-step
        way-agrees b child next goes meets compared more (inr (cut, same)) agreed =
            let longer = length-append path (b ∷ []) in
            let long = length-append (path_to way.ctx) here.prefix in
            subst (λ n. IsAgreed n (path ++ b ∷ [])) (sym same) (
              omega (arith, agreed.0, longer, long),
              take-append-le compared path (b ∷ []) (omega (arith, agreed.0, long)) ∙ take-append-le compared (path_to way.ctx) here.prefix agreed.0 ∙ agreed.1,
            )
        way-agrees b child next goes meets compared more (inl (all, whole, is)) agreed =
            let before : path_to way.ctx ≡ take depth key = sym (take_all compared (path_to way.ctx) (omega (arith, all, way.depth_is))) ∙ agreed.1 ∙ ap (λ n. take n key) all in
            let stored : node.header.stored ≡ here.prefix = stored-is ∙ take_all P here.prefix (omega (arith, whole, ap (λ n. n.header.prefix_len) here.node_is)) in
            let passed : drop depth key ≡ here.prefix ++ meets.0 = meets.1 ∙ ap (λ p. p ++ meets.0) stored in
            let after : drop (depth + node.header.prefix_len) key ≡ meets.0 = sym following ∙ ap (drop (length here.prefix)) passed ∙ drop-front here.prefix meets.0 in
            let rest : meets.0 ≡ b ∷ drop next key =
            sym after ∙ dropped (depth + node.header.prefix_len) key (omega (arith, goes.within, goes.next_is)) ∙ ap₂ (λ c n. c ∷ drop n key) goes.byte_is (sym goes.next_is) in
            let spelled : key ≡ (path ++ b ∷ []) ++ drop next key =
            sym (take-append-drop depth key) ∙ ap₂ (λ p r. p ++ r) (sym before) (passed ∙ ap (λ r. here.prefix ++ r) rest)
            ∙ sym (append_assoc (path_to way.ctx) here.prefix (b ∷ drop next key)) ∙ sym (append_assoc path (b ∷ []) (drop next key)) in
            let long : length (path ++ b ∷ []) ≡ more = omega (arith, length-append path (b ∷ []), path-long, goes.next_is, is) in
            subst (λ n. IsAgreed n (path ++ b ∷ [])) long (
              omega arith,
              take_all (length (path ++ b ∷ [])) (path ++ b ∷ []) (omega arith) ∙ sym (ap (take (length (path ++ b ∷ []))) spelled ∙ take-front (path ++ b ∷ []) (drop next key)),
            )

        -- and what was found stands for the prefixes that the key meets from there on
        way-guides : (b : ℕ) (child : Name) (next : ℕ) (goes : GoesOn key depth node b child next) → BeginsWith ((path_to way.ctx ++ here.prefix) ++ b ∷ []) key → (guide : List ℕ)
            → IsGuide key guide (path_to way.ctx) way.part → IsGuide key guide (path_to (way-step b child next goes).ctx) (way-step b child next goes).part
        unfolding way-step
        way-guides b child next goes begins guide h =
            let sd = way-down b child next goes in
            let below = (subst (IsGuide key guide (path_to way.ctx)) here.is h).1 in
            guide_down key guide (path_to way.ctx ++ here.prefix) sd.before b sd.here sd.after (subst (GuidesBelow key guide (path_to way.ctx ++ here.prefix)) sd.kids_are below) begins

        passes : (b : ℕ) → BeginsWith ((path_to way.ctx ++ prefix_of way.part) ++ b ∷ []) key → BeginsWith ((path_to way.ctx ++ here.prefix) ++ b ∷ []) key
        passes b begins = subst (λ p. BeginsWith ((path_to way.ctx ++ p) ++ b ∷ []) key) (ap prefix_of here.is) begins

        way-front : (b : ℕ) (child : Name) (next : ℕ) (goes : GoesOn key depth node b child next) → BeginsWith ((path_to way.ctx ++ here.prefix) ++ b ∷ []) key → BeginsWith (path_to (way-step b child next goes).ctx) key
        unfolding way-step
        way-front b child next goes begins = begins

        -- by its bytes too
        pub way-steps : {X : Type 0} (so looks : Type 0) (found : Option X) (bytes_of : X → List ℕ) (b : ℕ) (child : Name) (next : ℕ) → GoesOn key depth node b child next
            → (so → BeginsWith ((path_to way.ctx ++ prefix_of way.part) ++ b ∷ []) key) → (so → IfSome found (λ x. IsGuide key (bytes_of x) (path_to way.ctx) way.part))
            → (looks → MeetsStored key depth node) → (compared more : ℕ) → IsComparedAfter P node compared depth next more
            → (looks → IsLookedUp P way.ctx way.part depth × IsAgreed compared (path_to way.ctx) × IsComparedTo P way.part depth compared)
            → IsOnWayIf P so looks found bytes_of child (take 2 (record { node = current; byte = b } ∷ last)) next more (min (count + 1) (2 ^ 64 - 1))
        way-steps so looks found bytes_of b child next goes begins guided meets compared more after come = (
          way-step b child next goes,
          λ h. way-front b child next goes (passes b (begins h)),
          λ h. some_weaker found _ _ (λ x. way-guides b child next goes (passes b (begins h)) (bytes_of x)) (guided h),
          λ h. (way-looks b child next goes (meets h) (come h).0, way-agrees b child next goes (meets h) compared more after (come h).1, way-compares b child next goes (meets h) compared more after (come h).2),
        )

        -- where no leaf below can be meant, and a look-up reads no further node, it ends
        pub record HasEnded (total : ℕ) : Type 0 where
          pub none : HasNoFront bytes key whole
          pub reads : IsLookedUp P way.ctx way.part depth → ReadsLookUp P key whole start total

        ended : NoneFits bytes key (leaves_in here.kids) → (MeetsStored key depth node → ⊥) ⊎ (look_up_in P (erase_in here.kids) (drop (depth + node.header.prefix_len) key) ≡ []) → HasEnded (min (count + 1) (2 ^ 64 - 1))
        ended none no_more = record {
          none = λ test takes.
              way.finds test takes ∙ ap (λ s. located_where bytes test (located (steps_to way.ctx) s)) here.is ∙ none-located_in bytes key test takes (steps_to way.ctx) current here.kids none;
          reads = λ long. way.reads ∙ ap (counted start) (omega (arith, long, stays no_more));
        }

        ends-short : length key ≤ depth + node.header.prefix_len → HasEnded (min (count + 1) (2 ^ 64 - 1))
        ends-short short = ended
            (none-short bytes key path 0 here.kids here.place.under.1 (omega (arith, path-long)))
            (inr (ap (look_up_in P (erase_in here.kids)) (drop_of_length-le key short) ∙ look_up-ended bytes key P here.kids))

        ends-missing : depth + node.header.prefix_len < length key → child_at node.children (get_or key (depth + node.header.prefix_len) 0) ≡ None → HasEnded (min (count + 1) (2 ^ 64 - 1))
        ends-missing more missing =
            let b = get_or key (depth + node.header.prefix_len) 0 in
            let avoid = avoid-missing bytes key b here.kids (ap (λ n. child_at n.children b) (sym here.node_is) ∙ missing) in
            ended
            (none-avoid bytes key path b 0 here.kids here.place.under.1 (ap (λ i. get_or key i 0) path-long) avoid)
            (inr (ap (look_up_in P (erase_in here.kids)) (dropped (depth + node.header.prefix_len) key more) ∙ look_up-missing bytes key P here.kids b (drop (depth + node.header.prefix_len + 1) key) avoid))

        ends-differing : (MeetsStored key depth node → ⊥) → HasEnded (min (count + 1) (2 ^ 64 - 1))
        ends-differing differs = ended
            (none-differs bytes key (path_to way.ctx) here.prefix node.header.stored depth 0 here.kids way.depth_is here.place.under.1
            (λ more. subst (λ p. BeginsWith p (here.prefix ++ more)) (sym stored-is) (begins_taken P here.prefix more)) differs)
            (inl differs)

        -- it ends
        pub way-ends : (MeetsStored key depth node → ⊥) ⊎ GoesNoFurther key depth node → HasEnded (min (count + 1) (2 ^ 64 - 1))
        way-ends (inl differs) = ends-differing differs
        way-ends (inr (inl short)) = ends-short short
        way-ends (inr (inr missing)) = elim (leb_tells (length key) (depth + node.header.prefix_len)) [
          | inl short ↦ ends-short short.1
          | inr more ↦ ends-missing (omega (arith, more.1)) missing
        ]

-- what a reader lent stands in the arena as it was before
pub lent-leaf : {K V : Type 0} (was is : Arena K V) (n : Name) (held : Held K V) (l : LeafNode K V) → is ≡ was → held_at is n ≡ Some held → held ≡ leaf_held l → node_at was n ≡ Some (pair l.key l.value)
lent-leaf was is n held l same there e = ap cell_of (ap (λ a. held_at a n) (sym same) ∙ there ∙ ap Some e)

pub lent-inner : {K V : Type 0} (was is : Arena K V) (n : Name) (held : Held K V) (node : InnerNode) → is ≡ was → held_at is n ≡ Some held → held ≡ inner_held node → node_at was n ≡ Some (branches node)
lent-inner was is n held node same there e = ap cell_of (ap (λ a. held_at a n) (sym same) ∙ there ∙ ap Some e)

pub node-there : {K V : Type 0} (was is : Arena K V) (n : Name) → is ≡ was → IsSome (node_at was n) → IsSome (held_at is n)
node-there {K} {V} was is n same there = some (held_at is n) (subst (λ a. IsSome (node_at a n)) (sym same) there)
  where
    some : (o : Option (Held K V)) → IsSome (cell_of o) → IsSome o
    some None h = absurd (cc)
    some (Some held) h = refl
