-- A tree that is built of ascending pairs: from the pairs taken to the ways nodes, and back with one pair more.
use Rattle.std.proofs.Common.{◌≡◌, ℕ, suc, ◌<◌, ◌≤◌, List, [], ◌∷◌, ◌++◌, length, take, slice_index, refl, sym, ap, ap₂, subst, ◌∙◌, inl, inr, arith, append_assoc, append-nil, length-append, zero-le, Some, None, IsSome}
use Rattle.std.proofs.lemmas.Bool.Decides.{leb_tells}
use Rattle.std.proofs.lemmas.List.{take-append-le}
use Rattle.std.proofs.Math.ListN.{get_or-append}
use Rattle.std.proofs.Math.Seq.{take-suc, get_or-append_seam}
use Rattle.art_bytes.proofs.Common.{IsBefore, IsProperFront, Conflict, before_at, before_trans, before_not_self, conflict_not_before, conflict_turned}
use Rattle.art_nodes.proofs.Common.{IsAscending, Name}
use Rattle.art_nodes.specs.declared.leaf.LeafNode.{LeafNode}
use Rattle.art_arena.proofs.Common.{Arena, leaf_held, cell_of, links_of, held_at, node_at, links_at, SameLeaves, Cell, leaf_name, Holds, AreBelow, Shape, Branches, LeafAt, no_branch, branch, name_of, children_at, join, leaves}
use Rattle.art_arena.proofs.Common.{leaves_in, cells, cells_in, pairs_of, key_of, IsUnder, AreUnder, AscendsByKey, AreUnder-join, AreLinked-same, HoldsPair}
use Rattle.art_arena.proofs.Common.{all_append, all_right, all_weaker}
use Rattle.art_operations.proofs.Terms.{Builds, BuildsTo, BuildsUpTo, IsAfterAll, PartAt, HasPairs, Open, Spine, TreeBuilder, Parted, Meets, RebuildsUpTo, Level, begin, begin_of, opened, open_children, open_leaves, open_cells, open_at, AddsChild, IsOpen, AreOpen, IsSpine}
use Rattle.art_operations.proofs.Terms.{HasSpine, IsEmptySpine}
use Rattle.art_operations.specs.declared.meeting.Meeting.{Meeting}
use Rattle.art_operations.specs.declared.meeting.Meeting.TheVariants as meeting
use Rattle.art_operations.proofs.InnerRooms.{no-room}
use Rattle.art_operations.proofs.KeyedLists.{before}
use Rattle.art_operations.proofs.LeafPairs.{pairs-parts}
use Rattle.art_operations.proofs.Rebuilding.{last-there, last-is-held, last-read, last-stands, whole}
use Rattle.art_operations.proofs.Spines.{begin-opened, ascending-after, below-after, children-after, width-after, leaves-after, cells-after}

-- two keys that part agree on each front up to there
module _ (old new : List ℕ) (p : Parted) (part : PartAt old new p) where
  pub same-front : (n : ℕ) → n ≤ p.matched → take n new ≡ take n old
  same-front n few =
      let len = part.len in
      let within : n ≤ length part.front = omega (arith, len, few) in
      ap (take n) part.new_is ∙ take-append-le n part.front (p.new_byte ∷ part.new_rest) within
      ∙ sym (ap (take n) part.old_is ∙ take-append-le n part.front (p.old_byte ∷ part.old_rest) within)

  pub same-byte : (n : ℕ) → n < p.matched → slice_index new n ≡ slice_index old n
  same-byte n few =
      let len = part.len in
      let within : n < length part.front = omega (arith, len, few) in
      ap (λ k. slice_index k n) part.new_is ∙ get_or-append part.front (p.new_byte ∷ part.new_rest) 0 n within
      ∙ sym (ap (λ k. slice_index k n) part.old_is ∙ get_or-append part.front (p.old_byte ∷ part.old_rest) 0 n within)

  pub new-byte : slice_index new p.matched ≡ p.new_byte
  new-byte = ap (λ k. slice_index k p.matched) part.new_is ∙ ap (slice_index (part.front ++ p.new_byte ∷ part.new_rest)) (sym part.len) ∙ get_or-append_seam part.front p.new_byte part.new_rest 0

  pub old-byte : slice_index old p.matched ≡ p.old_byte
  old-byte = ap (λ k. slice_index k p.matched) part.old_is ∙ ap (slice_index (part.front ++ p.old_byte ∷ part.old_rest)) (sym part.len) ∙ get_or-append_seam part.front p.old_byte part.old_rest 0

  pub old-inside : p.matched < length old
  old-inside = let len = part.len in let whole = ap length part.old_is ∙ length-append part.front (p.old_byte ∷ part.old_rest) in omega (arith, whole, len)

  pub new-inside : p.matched < length new
  new-inside = let len = part.len in let whole = ap length part.new_is ∙ length-append part.front (p.new_byte ∷ part.new_rest) in omega (arith, whole, len)

  pub is-before : p.old_byte < p.new_byte → IsBefore old new
  is-before less = subst (λ k. IsBefore k new) (sym part.old_is) (subst (IsBefore (part.front ++ p.old_byte ∷ part.old_rest)) (sym part.new_is) (before_at part.front p.old_byte p.new_byte part.old_rest part.new_rest less))

proper-conflict : (k l : List ℕ) → IsProperFront k l → Conflict k l
proper-conflict k l (b, rest, e) = (λ same. let s = ap length e ∙ length-append k (b ∷ rest) in let t = ap length same in absurd (omega (arith, s, t)), inl (b ∷ rest, e))

-- a key that meets the last one otherwise doesn't go after it
pub not-after : (k key : List ℕ) (m : Meeting) → Meets k key m → ((p : Parted) → m ≡ meeting.Parts p → p.new_byte < p.old_byte) → IsBefore k key → ⊥
not-after k key meeting.Same same above less = before_not_self key (subst (λ l. IsBefore l key) same less)
not-after k key meeting.OldEnds (b, rest, e) above less = conflict_not_before k key (proper-conflict k key (b, rest, e)) less
not-after k key meeting.NewEnds (b, rest, e) above less = conflict_not_before k key (conflict_turned key k (proper-conflict key k (b, rest, e))) less
not-after k key (meeting.Parts p) part above less =
    let after : IsBefore key k = subst (λ l. IsBefore l k) (sym part.new_is) (subst (IsBefore (part.front ++ p.new_byte ∷ part.new_rest)) (sym part.old_is) (before_at part.front p.new_byte p.old_byte part.new_rest part.old_rest (above p refl))) in
    before_not_self key (before_trans key k key after less)

module _ {K V : Type 0} (bytes : K → List ℕ) (P : ℕ) where
  -- the ways nodes on the way to the new last leaf, which isn't stored yet
  pub record Added (arena : Arena K V) (spine : Spine) (rest : List (Name × Cell K V)) (key : List ℕ) (ls : List (LeafAt K V)) : Type 0 where
    pub levels : List (Level K V)
    pub stack_is : spine.stack.items ≡ opened levels
    pub children_are : spine.children.items ≡ open_children levels
    pub holds : Holds (node_at arena) (open_cells P levels ++ rest)
    pub ways : AreOpen bytes key levels
    pub leaves_are : open_leaves levels ≡ ls

  -- the next key parts so from the last one
  module _ (old new : List ℕ) (p : Parted) (part_at : PartAt old new p) (less : p.old_byte < p.new_byte) (fits : p.old_byte < 256) where
    -- what branches before them is on the way to either
    shift : (levels : List (Level K V)) → AreOpen bytes old levels → begin 0 levels ≤ p.matched → AreOpen bytes new levels
    shift [] ways few = tt
    shift (l ∷ outer) ways few =
        let before : l.depth < p.matched = omega (arith, few) in
        let above = ways.1 in
        let o = ways.0 in (
          record {
            inside = (let there = new-inside old new p part_at in omega (arith, there, before));
            has_kids = o.has_kids;
            under = subst (λ q. AreUnder bytes q 0 l.kids) (sym (same-front old new p part_at l.depth (omega (arith, before)))) o.under;
            below = subst (λ b. AreBelow b l.kids) (sym (same-byte old new p part_at l.depth before)) o.below;
            ascending = o.ascending;
          },
          above,
          shift outer ways.2 (omega (arith, above, before)),
        )

    module _ (arena : Arena K V) (was now : Spine) (rest : List (Name × Cell K V)) (root : Name) (part : Shape K V) (ls : List (LeafAt K V)) (named : name_of part ≡ root) (under : IsUnder bytes (take (suc p.matched) old) part) where
      -- the node at the parting has the part as its last child
      grown : (kids : Branches K V) → AreUnder bytes (take p.matched old) 0 kids → AreBelow p.old_byte kids → IsAscending (children_at kids) → IsOpen bytes new (record { depth = p.matched; kids = join kids (branch p.old_byte part no_branch) })
      grown kids kids_under below rises =
          let path : take (suc p.matched) old ≡ take p.matched old ++ p.old_byte ∷ [] =
          take-suc old p.matched 0 (old-inside old new p part_at) ∙ ap (λ b. take p.matched old ++ b ∷ []) (old-byte old new p part_at) in
          let wide = width-after p.old_byte part kids in
          record {
            inside = new-inside old new p part_at;
            has_kids = omega (arith, wide);
            under = subst (λ q. AreUnder bytes q 0 (join kids (branch p.old_byte part no_branch))) (sym (same-front old new p part_at p.matched (omega arith)))
                (AreUnder-join bytes (take p.matched old) 0 p.old_byte kids part no_branch kids_under below zero-le (subst (λ q. IsUnder bytes q part) path under) tt);
            below = subst (λ b. AreBelow b (join kids (branch p.old_byte part no_branch))) (sym (new-byte old new p part_at)) (below-after p.old_byte p.new_byte part kids below less);
            ascending = subst IsAscending (sym (children-after p.old_byte part kids)) (ascending-after 0 p.old_byte (name_of part) kids rises below zero-le fits);
          }

      add_to : (outer : List (Level K V)) (kids : Branches K V) → now.stack.items ≡ opened outer ++ record { child_depth = suc p.matched; first = length (open_children outer) } ∷ [] → now.children.items ≡ (open_children outer ++ children_at kids) ++ (p.old_byte, root) ∷ []
          → Holds (node_at arena) (open_cells P outer ++ (cells_in P kids ++ (cells P part ++ rest))) → AreOpen bytes old outer → begin 0 outer ≤ p.matched
          → AreUnder bytes (take p.matched old) 0 kids → AreBelow p.old_byte kids → IsAscending (children_at kids) → open_leaves outer ++ (leaves_in kids ++ leaves part) ≡ ls → Added arena now rest new ls
      add_to outer kids stack_is children_are holds ways above kids_under below rises leaves_are = record {
        levels = record { depth = p.matched; kids = join kids (branch p.old_byte part no_branch) } ∷ outer;
        stack_is = stack_is;
        children_are = children_are ∙ append_assoc (open_children outer) (children_at kids) ((p.old_byte, root) ∷ [])
            ∙ ap (λ n. open_children outer ++ (children_at kids ++ (p.old_byte, n) ∷ [])) (sym named) ∙ ap (λ cs. open_children outer ++ cs) (sym (children-after p.old_byte part kids));
        holds = subst (Holds (node_at arena)) (ap (λ cs. open_cells P outer ++ cs) (sym (append_assoc (cells_in P kids) (cells P part) rest) ∙ ap (λ cs. cs ++ rest) (sym (cells-after P p.old_byte part kids)))
            ∙ sym (append_assoc (open_cells P outer) (cells_in P (join kids (branch p.old_byte part no_branch))) rest)) holds;
        ways = (grown kids kids_under below rises, above, shift outer ways above);
        leaves_are = ap (λ xs. open_leaves outer ++ xs) (leaves-after p.old_byte part kids) ∙ leaves_are;
      }

      -- a node is opened for it
      add_new : (levels : List (Level K V)) → now.stack.items ≡ opened levels ++ record { child_depth = suc p.matched; first = length (open_children levels) } ∷ [] → now.children.items ≡ open_children levels ++ (p.old_byte, root) ∷ []
          → Holds (node_at arena) (open_cells P levels ++ (cells P part ++ rest)) → AreOpen bytes old levels → begin 0 levels ≤ p.matched → open_leaves levels ++ leaves part ≡ ls → Added arena now rest new ls
      add_new levels stack_is children_are holds ways above leaves_are =
          add_to levels no_branch stack_is (children_are ∙ ap (λ cs. cs ++ (p.old_byte, root) ∷ []) (sym (append-nil (open_children levels)))) holds ways above tt tt tt leaves_are

      add : (levels : List (Level K V)) → now.stack.items ≡ open_at (suc p.matched) (length (open_children levels)) (opened levels) → now.children.items ≡ open_children levels ++ (p.old_byte, root) ∷ []
          → Holds (node_at arena) (open_cells P levels ++ (cells P part ++ rest)) → AreOpen bytes old levels → begin (suc p.matched) levels ≡ suc p.matched → open_leaves levels ++ leaves part ≡ ls → Added arena now rest new ls
      add levels stack_is children_are holds ways closed leaves_are = elim (leb_tells (suc p.matched) (begin 0 levels)) [
        | inl there ↦ at_top levels (stack_is ∙ rw (begin-opened, there.0) refl) children_are holds ways closed leaves_are there.1
        | inr less_deep ↦ add_new levels (stack_is ∙ rw (begin-opened, less_deep.0) refl) children_are holds ways (let few = less_deep.1 in omega (arith, few)) leaves_are
      ]
        where
          at_top : (levels : List (Level K V)) → now.stack.items ≡ opened levels → now.children.items ≡ open_children levels ++ (p.old_byte, root) ∷ [] → Holds (node_at arena) (open_cells P levels ++ (cells P part ++ rest)) → AreOpen bytes old levels
              → begin (suc p.matched) levels ≡ suc p.matched → open_leaves levels ++ leaves part ≡ ls → suc p.matched ≤ begin 0 levels → Added arena now rest new ls
          at_top [] stack_is children_are holds ways closed leaves_are there = absurd (omega (arith, there))
          at_top (l ∷ outer) stack_is children_are holds ways closed leaves_are there =
              let depth : l.depth ≡ p.matched = omega (arith, closed, there) in
              let o = ways.0 in
              let above = ways.1 in
              add_to outer l.kids (stack_is ∙ ap (λ d. opened outer ++ record { child_depth = suc d; first = length (open_children outer) } ∷ []) depth) children_are
              (subst (Holds (node_at arena)) (append_assoc (open_cells P outer) (cells_in P l.kids) (cells P part ++ rest)) holds) ways.2 (omega (arith, above, depth))
              (subst (λ d. AreUnder bytes (take d old) 0 l.kids) depth o.under) (subst (λ b. AreBelow b l.kids) (ap (slice_index old) depth ∙ old-byte old new p part_at) o.below) o.ascending
              (sym (append_assoc (open_leaves outer) (leaves_in l.kids) (leaves part)) ∙ leaves_are)

    -- the closed part becomes a child of the node at the parting
    pub added : (arena : Arena K V) (was now : Spine) (rest : List (Name × Cell K V)) (following : ℕ) (root : Name) (ls : List (LeafAt K V)) → following
        ≡ suc p.matched → IsSpine bytes P arena was rest following root old ls → begin_of following was.stack.items ≡ following
        → AddsChild following (p.old_byte, root) was now → Added arena now rest new ls
    added arena was now rest following root ls child_depth_is spine closed adds =
        let at : begin (suc p.matched) spine.levels ≡ suc p.matched =
        ap (λ b. begin b spine.levels) (sym child_depth_is) ∙ sym (begin-opened following spine.levels) ∙ ap (begin_of following) (sym spine.stack_is) ∙ closed ∙ child_depth_is in
        let under : IsUnder bytes (take (suc p.matched) old) spine.part = subst (λ n. IsUnder bytes (take n old) spine.part) (ap (λ b. begin b spine.levels) child_depth_is ∙ at) spine.under in
        add arena was now rest root spine.part ls spine.named under spine.levels
        (adds.stack ∙ ap₂ (λ b (o : List Open). open_at b (length was.children.items) o) child_depth_is spine.stack_is ∙ ap (λ (cs : List (ℕ × Name)). open_at (suc p.matched) (length cs) (opened spine.levels)) spine.children_are)
        (adds.children ∙ ap (λ cs. cs ++ (p.old_byte, root) ∷ []) spine.children_are) spine.holds spine.ways at spine.leaves_are

  -- what a builder has, by its last leaf
  module _ (arena : Arena K V) (spine : Spine) (last : ℕ) (pairs : List (K × V)) (is : BuildsUpTo bytes P arena spine last pairs) where
    abbrev pub last_leaf : LeafAt K V
    last_leaf = record { slot = last; key = is.key; value = is.value }

    abbrev pub all_leaves : List (LeafAt K V)
    all_leaves = open_leaves is.levels ++ last_leaf ∷ []

    -- no leaf is still to come
    abbrev pub up_to : RebuildsUpTo bytes P arena spine last [] all_leaves
    up_to = record { key = is.key; value = is.value; levels = is.levels; stack_is = is.stack_is; children_are = is.children_are; holds = is.holds; ways = is.ways; leaves_are = refl }

    pub there : HoldsPair (held_at arena (leaf_name last)) is.key is.value
    there = last-there bytes P arena spine last [] all_leaves up_to

    pub is-held : IsSome (held_at arena (leaf_name last))
    is-held = last-is-held bytes P arena spine last [] all_leaves up_to

    -- what was read of the last key is that key
    pub last-bytes : (stored : K) (read_bytes : List ℕ) → ((l : LeafNode K V) → held_at arena (leaf_name last) ≡ Some (leaf_held l) → stored ≡ l.key) → read_bytes ≡ bytes stored → read_bytes ≡ bytes is.key
    last-bytes = last-read bytes P arena spine last [] all_leaves up_to

    pub spine-of : (low : ℕ) → HasSpine bytes P arena spine [] last low (leaf_name last) (bytes is.key) all_leaves
    spine-of = last-stands bytes P arena spine last [] all_leaves up_to

    pairs-end : pairs ≡ pairs_of (open_leaves is.levels) ++ (is.key, is.value) ∷ []
    pairs-end = sym is.pairs_are ∙ pairs-parts bytes (open_leaves is.levels) last_leaf []

    -- a key that goes after the last goes after all
    pub after-all : (key : List ℕ) → IsBefore (bytes is.key) key → IsAfterAll bytes key pairs
    after-all key less =
        let q : K × V = (is.key, is.value) in
        let front = pairs_of (open_leaves is.levels) in
        let firsts = before (key_of bytes) q front [] (subst (AscendsByKey (key_of bytes)) pairs-end is.ascends) in
        subst (IsAfterAll bytes key) (sym pairs-end)
        (all_append (λ (p : K × V). IsBefore (bytes p.0) key) front (q ∷ []) (all_weaker (λ (p : K × V). IsBefore (bytes p.0) (bytes is.key)) (λ (p : K × V). IsBefore (bytes p.0) key) (λ p first. before_trans (bytes p.0) (bytes is.key) key first less) front firsts) (less, tt))

    -- so one that goes after all goes after the last
    pub after-last : (key : List ℕ) → IsAfterAll bytes key pairs → IsBefore (bytes is.key) key
    after-last key following =
        (all_right (λ (p : K × V). IsBefore (bytes p.0) key) (pairs_of (open_leaves is.levels)) ((is.key, is.value) ∷ []) (subst (IsAfterAll bytes key) pairs-end following)).0

    -- where all nodes are made, the arena has the tree
    pub finished : (new : Arena K V) (now : Spine) (root : Name) → HasSpine bytes P new now [] last 0 root (bytes is.key) all_leaves → begin_of 0 now.stack.items ≡ 0 → SameLeaves arena new → HasPairs bytes P new (Some root) pairs
    finished new now root has closed same =
        subst (HasPairs bytes P new (Some root)) is.pairs_are
        (whole bytes P new now last root (bytes is.key) all_leaves has closed (AreLinked-same (links_at arena) (links_at new) (λ n. ap links_of (same n)) None all_leaves None is.linked))

  -- what a builder has is told by its last leaf
  module _ (arena : Arena K V) (builder : TreeBuilder) (pairs : List (K × V)) (builds : Builds bytes P arena builder pairs) where
    pub builds-some : (last : ℕ) → builder.last ≡ Some last → BuildsUpTo bytes P arena builder.spine last pairs
    builds-some last e = subst (λ o. BuildsTo bytes P arena builder.spine o pairs) e builds.built

    pub builds-none : builder.last ≡ None → BuildsTo bytes P arena builder.spine None pairs
    builds-none e = subst (λ o. BuildsTo bytes P arena builder.spine o pairs) e builds.built

  -- a new builder has no pair
  pub fresh : (arena : Arena K V) (builder : TreeBuilder) → builder.last ≡ None → IsEmptySpine builder.spine → builder.room ≡ 0 → ((n : Name) → held_at arena n ≡ None) → Builds bytes P arena builder []
  fresh arena builder last spine room empty = record {
    built = subst (λ o. BuildsTo bytes P arena builder.spine o []) (sym last) (refl, empty, spine);
    room = no-room arena builder.spine builder.room spine room;
    closed = λ e. spine.0;
  }

  -- one that has none has an arena of none
  pub none-held : (arena : Arena K V) (spine : Spine) (pairs : List (K × V)) → BuildsTo bytes P arena spine None pairs → HasPairs bytes P arena None pairs
  none-held arena spine pairs (none, empty, lists) = (none, λ n. ap cell_of (empty n))
