-- A tree that is opened again at its last leaf: the step from an inner node to its last child, and what there is at the
-- end, and where the nodes are made again.
use Rattle.std.proofs.Common.{◌≡◌, ◌≢◌, ℕ, suc, ◌+◌, ◌<◌, ◌≤◌, List, [], ◌∷◌, ◌++◌, length, take, slice_index, refl, sym, ap, ap₂, subst, ◌∙◌, inl, arith, append_assoc, append-nil, length-append, Some, None, IsSome}
use Rattle.std.proofs.lemmas.List.{length-take-le}
use Rattle.std.proofs.Math.Seq.{take-suc, take-append_seam, get_or-append_seam}
use Rattle.art_bytes.proofs.Common.{BeginsWith, begins_step}
use Rattle.art_nodes.proofs.Common.{InnerNode, IsAscending, IsAscendingFrom, Name}
use Rattle.art_nodes.specs.declared.kind.NodeType.TheVariants.{Leaf}
use Rattle.art_arena.proofs.Common.{Arena, inner_held, held_at, node_at, SameNodes, SameLeaves, UpdatesAt, Cell, branches, leaf_name, Holds, Holds-remove, Holds-same, AreBelow, AreHeld, IsIn, Shape, Branches, LeafAt, leaf_at, no_branch, branch, inner_at, name_of, children_at, join, width}
use Rattle.art_arena.proofs.Common.{leaves, leaves_in, cells, cells_in, IsUnder, AreUnder, IsKindOf, inner_of, some_leaf, leaves-begin, all_at, all_left, all_right, in_right, nodes-update, nodes-same, length-children, StoresOnly, HoldsPair, holds_pair, leaf_held, links_at, AreLinked}
use Rattle.art_arena.proofs.Common.{AscendsByKey, key_of, pairs_of, no_inner, IsSubtree, nodes-subtree, last_slot, ends_with-first, AreLinked-same, links_of, KeepsRoomOf}
use Rattle.art_operations.proofs.Terms.{Open, Spine, Level, begin, begin_of, opened, open_children, open_leaves, open_cells, IsOpen, AreOpen, HasSpine, IsEmptySpine, BuildsUpTo, HasPairs, HasSpineRoom, inner_over}
use Rattle.art_operations.specs.inner.Reopening.{HasRoomToOpen, OpensTo}
use Rattle.std.specs.Prelude.{vec_capacity}
use Rattle.art_operations.proofs.InnerRooms.{room-at}
use Rattle.art_operations.proofs.LeafPairs.{held_leaf, pairs_ascend}
use Rattle.art_operations.proofs.OpenRooms.{few-noted, few-open, noting-room, wide-leaves}
use Rattle.art_operations.proofs.PutBack.{same_inner}
use Rattle.art_operations.proofs.Rebuilding.{whole}
use Rattle.art_operations.proofs.Spines.{begin-opened, last-same, children-after, width-after, leaves-after, cells-after}

-- what stands last of a list stands in its last part
last-in : {X : Type 0} (xs : List X) (y : X) (ys front : List X) (x : X) → xs ++ y ∷ ys ≡ front ++ x ∷ [] → IsIn x (y ∷ ys)
last-in [] y ys front x e = subst (IsIn x) (sym e) (in_right x front (x ∷ []) (inl refl))
last-in (z ∷ xs) y ys [] x e = absurd (let few = ap length e in omega (arith, few, length-append xs (y ∷ ys)))
last-in (z ∷ xs) y ys (f ∷ front) x e = last-in xs y ys front x (cc)

front-ascending : (low : ℕ) (xs ys : List (ℕ × Name)) → IsAscendingFrom low (xs ++ ys) → IsAscendingFrom low xs
front-ascending low [] ys up = tt
front-ascending low (x ∷ xs) ys up = (up.0, up.1, front-ascending (x.0 + 1) xs ys up.2)

-- an inner node after so many bytes of the key, under whose last child the key goes on
module _ (key : List ℕ) (from : ℕ) (prefix : List ℕ) (byte : ℕ) (within : from ≤ length key) (begins : BeginsWith ((take from key ++ prefix) ++ byte ∷ []) key) where
  rest : (r : List ℕ) × (key ≡ (take from key ++ prefix) ++ byte ∷ r)
  rest = begins_step (take from key ++ prefix) byte key begins

  long : length (take from key ++ prefix) ≡ from + length prefix
  long = length-append (take from key) prefix ∙ ap (λ n. n + length prefix) (length-take-le from key within)

  pub front-is : take (from + length prefix) key ≡ take from key ++ prefix
  front-is = ap (λ n. take n key) (sym long) ∙ ap (take (length (take from key ++ prefix))) rest.1 ∙ take-append_seam (take from key ++ prefix) (byte ∷ rest.0)

  pub byte-is : slice_index key (from + length prefix) ≡ byte
  byte-is = ap (slice_index key) (sym long) ∙ ap (λ k. slice_index k (length (take from key ++ prefix))) rest.1 ∙ get_or-append_seam (take from key ++ prefix) byte rest.0 0

  pub depth-inside : from + length prefix < length key
  depth-inside = let all = ap length rest.1 ∙ length-append (take from key ++ prefix) (byte ∷ rest.0) in omega (arith, all, long)

  pub path-is : take (suc (from + length prefix)) key ≡ (take from key ++ prefix) ++ byte ∷ []
  path-is = take-suc key (from + length prefix) 0 depth-inside ∙ ap₂ (λ q b. q ++ b ∷ []) front-is byte-is

module _ {K V : Type 0} where
  -- the last branch, and those before it
  pub record HasEnd (kids : Branches K V) : Type 0 where
    pub others : Branches K V
    pub byte : ℕ
    pub child : Shape K V
    pub is : kids ≡ join others (branch byte child no_branch)

  pub has-end : (kids : Branches K V) → 1 ≤ width kids → HasEnd kids
  has-end no_branch some = absurd (omega (arith, some))
  has-end (branch b s no_branch) some = record { others = no_branch; byte = b; child = s; is = refl }
  has-end (branch b s (branch c t more)) some =
      let later = has-end (branch c t more) (omega arith) in
      record { others = branch b s later.others; byte = later.byte; child = later.child; is = ap (branch b s) later.is }

module _ {K V : Type 0} (bytes : K → List ℕ) where
  record IsParted (path : List ℕ) (low : ℕ) (others : Branches K V) (byte : ℕ) (child : Shape K V) : Type 0 where
    pub under : AreUnder bytes path low others
    pub below : AreBelow byte others
    pub above : low ≤ byte
    pub here : IsUnder bytes (path ++ byte ∷ []) child

  parted-at : (path : List ℕ) (low : ℕ) (others : Branches K V) (byte : ℕ) (child : Shape K V) → AreUnder bytes path low (join others (branch byte child no_branch)) → IsParted path low others byte child
  parted-at path low no_branch byte child under = record { under = tt; below = tt; above = under.0; here = under.1 }
  parted-at path low (branch c s others) byte child under =
      let later = parted-at path (c + 1) others byte child under.2 in
      let above = later.above in
      let first = under.0 in
      record { under = (under.0, under.1, later.under); below = (omega (arith, above), later.below); above = omega (arith, above, first); here = later.here }

  -- the open nodes branch within the key
  begin-within : (key : List ℕ) (levels : List (Level K V)) → AreOpen bytes key levels → begin 0 levels ≤ length key
  begin-within key [] ways = omega arith
  begin-within key (l ∷ outer) ways = let inside = ways.0.inside in omega (arith, inside)

module _ {K V : Type 0} (bytes : K → List ℕ) (P : ℕ) where
  -- what an arena and a spine with the same nodes and notes have
  pub opens-same : (old new : Arena K V) (was now : Spine) (part : Name) (leaf : LeafAt K V) (ls : List (LeafAt K V)) → SameNodes old new
      → now.stack.items ≡ was.stack.items → now.children.items ≡ was.children.items → OpensTo bytes P old was part leaf ls → OpensTo bytes P new now part leaf ls
  opens-same old new was now part leaf ls same stack children is =
      let stands = is.stands in
      record {
        front = is.front;
        ends = is.ends;
        stands = record {
          levels = stands.levels;
          part = stands.part;
          stack_is = stack ∙ stands.stack_is;
          children_are = children ∙ stands.children_are;
          named = stands.named;
          holds = Holds-same (node_at old) (node_at new) (nodes-same old new same) (open_cells P stands.levels ++ (cells P stands.part ++ [])) stands.holds;
          ways = stands.ways;
          under = stands.under;
          leaves_are = stands.leaves_are;
        };
      }

  -- where nothing is open the part is the root
  pub opens-root : (arena : Arena K V) (spine : Spine) (root : Name) (s : Shape K V) (leaf : LeafAt K V) (front : List (LeafAt K V)) → StoresOnly bytes P arena root s → IsEmptySpine spine → leaves s ≡ front ++ leaf ∷ [] → OpensTo bytes P arena spine root leaf (leaves s)
  opens-root arena spine root s leaf front tree empty ends = record {
    front = front;
    ends = ends;
    stands = record {
      levels = [];
      part = s;
      stack_is = empty.0;
      children_are = empty.1;
      named = tree.nodes.named;
      holds = subst (Holds (node_at arena)) (sym (append-nil (cells P s))) tree.nodes.holds;
      ways = tt;
      under = tree.nodes.under;
      leaves_are = refl;
    };
  }

  module _ (arena : Arena K V) (spine : Spine) (part : Name) (leaf : LeafAt K V) (ls : List (LeafAt K V)) (is : OpensTo bytes P arena spine part leaf ls) where
    abbrev levels : List (Level K V)
    levels = is.stands.levels

    abbrev from : ℕ
    from = begin 0 levels

    abbrev key : List ℕ
    key = bytes leaf.key

    part-held : AreHeld (node_at arena) (cells P is.stands.part)
    part-held =
        let Q = λ (c : Name × Cell K V). node_at arena c.0 ≡ Some c.1 in
        all_left Q (cells P is.stands.part) [] (all_right Q (open_cells P levels) (cells P is.stands.part ++ []) is.stands.holds.held)

    -- the last leaf stands below the part
    last-below : (path : List ℕ) (s : Shape K V) (before : List (LeafAt K V)) → IsUnder bytes path s → before ++ leaves s ≡ ls → IsIn leaf (leaves s)
    last-below path s before under all =
        let some = some_leaf bytes path s under in
        subst (IsIn leaf) (sym some.2) (last-in before some.0 some.1 is.front leaf (ap (λ xs. before ++ xs) (sym some.2) ∙ all ∙ is.ends))

    pub leaf-there : HoldsPair (held_at arena (leaf_name leaf.slot)) leaf.key leaf.value
    leaf-there =
        holds_pair (held_at arena (leaf_name leaf.slot)) leaf.key leaf.value
        (held_leaf P (node_at arena) is.stands.part leaf (last-below (take from key) is.stands.part (open_leaves levels) is.stands.under is.stands.leaves_are) part-held)

    pub leaf-is-held : IsSome (held_at arena (leaf_name leaf.slot))
    leaf-is-held = subst IsSome (sym leaf-there.is) refl

    pub spine-of : (last : ℕ) → leaf.slot ≡ last → HasSpine bytes P arena spine [] last 0 part key ls
    spine-of last slot = record {
      leaf = leaf-there.leaf;
      there = subst (λ n. held_at arena (leaf_name n) ≡ Some (leaf_held leaf-there.leaf)) slot leaf-there.is;
      key_is = ap bytes leaf-there.key;
      stands = is.stands;
    }

    -- where the part is a leaf it is the last, and all nodes on the way to it are open
    pub reopened : (last : ℕ) → leaf.slot ≡ last → part.kind ≡ Leaf → AreLinked (links_at arena) None ls None → AscendsByKey (key_of bytes) (pairs_of ls) → BuildsUpTo bytes P arena spine last (pairs_of ls)
    reopened last slot_is kind linked ascends = of is.stands.part is.stands.named is.stands.holds is.stands.leaves_are
      where
        of : (s : Shape K V) → name_of s ≡ part → Holds (node_at arena) (open_cells P levels ++ (cells P s ++ [])) → open_leaves levels ++ leaves s ≡ ls → BuildsUpTo bytes P arena spine last (pairs_of ls)
        of (leaf_at slot k v) named holds all =
            let same : record { slot = slot; key = k; value = v } ≡ leaf = (last-same (open_leaves levels) is.front _ leaf (all ∙ is.ends)).1 in
            subst (λ n. BuildsUpTo bytes P arena spine n (pairs_of ls)) (ap (λ (l : LeafAt K V). l.slot) same ∙ slot_is)
            (record {
              key = k;
              value = v;
              levels = levels;
              stack_is = is.stands.stack_is;
              children_are = is.stands.children_are;
              holds = holds;
              ways = subst (λ (l : LeafAt K V). AreOpen bytes (bytes l.key) levels) (sym same) is.stands.ways;
              linked = subst (λ xs. AreLinked (links_at arena) None xs None) (sym all) linked;
              ascends = ascends;
              pairs_are = ap pairs_of all;
            })
        of (inner_at n prefix kids) named holds all =
            absurd (no_inner arena n _ (ap (λ (m : Name). m.kind) named ∙ kind) (all_right (λ (c : Name × Cell K V). node_at arena c.0 ≡ Some c.1) (open_cells P levels) (cells P (inner_at n prefix kids) ++ []) holds.held).0)

    -- else it is an inner node, which is held
    module _ (other : part.kind ≢ Leaf) where
      pub record IsOpenedNode : Type 0 where
        pub prefix : List ℕ
        pub kids : Branches K V
        pub shape_is : is.stands.part ≡ inner_at part prefix kids
        pub there : held_at arena part ≡ Some (inner_held (inner_over P prefix (children_at kids)))

      inner_part : (s : Shape K V) → is.stands.part ≡ s → name_of s ≡ part → AreHeld (node_at arena) (cells P s) → IsOpenedNode
      inner_part (leaf_at slot k v) e named held = absurd (other (ap (λ (n : Name). n.kind) (sym named)))
      inner_part (inner_at n prefix kids) e named held = record {
        prefix = prefix;
        kids = kids;
        shape_is = e ∙ ap (λ m. inner_at m prefix kids) named;
        there = inner_of (held_at arena part) (inner_over P prefix (children_at kids)) (subst (λ m. node_at arena m ≡ Some (branches (inner_over P prefix (children_at kids)))) named held.0);
      }

      pub inner : IsOpenedNode
      inner = inner_part is.stands.part refl is.stands.named part-held

      whole_under : IsUnder bytes (take from key) (inner_at part inner.prefix inner.kids)
      whole_under = subst (IsUnder bytes (take from key)) inner.shape_is is.stands.under

      pub two : 2 ≤ length (children_at inner.kids)
      two = let wide = whole_under.0.two in omega (arith, wide, length-children inner.kids)

      end : HasEnd inner.kids
      end = has-end inner.kids (let wide = whole_under.0.two in omega (arith, wide))

      parted : IsParted bytes (take from key ++ inner.prefix) 0 end.others end.byte end.child
      parted = parted-at bytes (take from key ++ inner.prefix) 0 end.others end.byte end.child (subst (AreUnder bytes (take from key ++ inner.prefix) 0) end.is whole_under.1)

      all_leaves : open_leaves levels ++ (leaves_in end.others ++ leaves end.child) ≡ ls
      all_leaves = ap (λ xs. open_leaves levels ++ xs) (sym (ap leaves inner.shape_is ∙ ap leaves_in end.is ∙ leaves-after end.byte end.child end.others)) ∙ is.stands.leaves_are

      goes_through : BeginsWith ((take from key ++ inner.prefix) ++ end.byte ∷ []) key
      goes_through =
          let path = (take from key ++ inner.prefix) ++ end.byte ∷ [] in
          all_at (λ (l : LeafAt K V). BeginsWith path (bytes l.key)) leaf (leaves end.child) (leaves-begin bytes path end.child parted.here)
          (last-below path end.child (open_leaves levels ++ leaves_in end.others) parted.here (append_assoc (open_leaves levels) (leaves_in end.others) (leaves end.child) ∙ all_leaves))

      within : from ≤ length key
      within = begin-within bytes key levels is.stands.ways

      -- how many bytes stand before the byte by which it branches
      abbrev depth : ℕ
      depth = from + length inner.prefix

      pub read-depth : begin_of 0 spine.stack.items + length inner.prefix ≡ depth
      read-depth = ap (λ n. n + length inner.prefix) (ap (begin_of 0) is.stands.stack_is ∙ begin-opened 0 levels)

      pub inside : begin_of 0 spine.stack.items + length inner.prefix < length key
      inside = subst (λ n. n < length key) (sym read-depth) (depth-inside key from inner.prefix end.byte within goes_through)

      abbrev level : Level K V
      level = record { depth = depth; kids = end.others }

      is_open : IsAscending (children_at inner.kids) → IsOpen bytes key level
      is_open up =
          let few = whole_under.0.two in
          let wide = ap width end.is ∙ width-after end.byte end.child end.others in
          record {
            inside = depth-inside key from inner.prefix end.byte within goes_through;
            has_kids = omega (arith, few, wide);
            under = subst (λ q. AreUnder bytes q 0 end.others) (sym (front-is key from inner.prefix end.byte within goes_through)) parted.under;
            below = subst (λ b. AreBelow b end.others) (sym (byte-is key from inner.prefix end.byte within goes_through)) parted.below;
            ascending = front-ascending 0 (children_at end.others) ((end.byte, name_of end.child) ∷ []) (subst IsAscending (ap children_at end.is ∙ children-after end.byte end.child end.others) up);
          }

      child_under : IsUnder bytes (take (begin 0 (level ∷ levels)) key) end.child
      child_under =
          let here : begin 0 (level ∷ levels) ≡ suc depth = omega arith in
          subst (λ q. IsUnder bytes q end.child) (sym (ap (λ n. take n key) here ∙ path-is key from inner.prefix end.byte within goes_through)) parted.here

      left_held : (new : Arena K V) → UpdatesAt (held_at arena) (held_at new) part None → Holds (node_at new) (open_cells P (level ∷ levels) ++ (cells P end.child ++ []))
      left_held new frees =
          let removed = Holds-remove (node_at arena) (node_at new) part _ (open_cells P levels) (cells_in P inner.kids ++ []) (nodes-update arena new part None frees)
          (subst (λ s. Holds (node_at arena) (open_cells P levels ++ (cells P s ++ []))) inner.shape_is is.stands.holds) in
          let kids_are : cells_in P inner.kids ≡ cells_in P end.others ++ cells P end.child = ap (cells_in P) end.is ∙ cells-after P end.byte end.child end.others in
          subst (Holds (node_at new))
          (ap (λ cs. open_cells P levels ++ (cs ++ [])) kids_are ∙ ap (λ cs. open_cells P levels ++ cs) (append_assoc (cells_in P end.others) (cells P end.child) []) ∙ sym (append_assoc (open_cells P levels) (cells_in P end.others) (cells P end.child ++ []))) removed

      -- with places for all leaves its children can be noted
      can-open : HasRoomToOpen arena spine (length ls) → HasSpineRoom arena spine (length (children_at inner.kids))
      can-open =
          let nodes = ap length is.stands.stack_is in
          let noted = ap length is.stands.children_are in
          let fewer = few-open bytes key levels is.stands.ways in
          let few = few-noted bytes key levels is.stands.ways in
          let wide = wide-leaves bytes (take from key ++ inner.prefix) 0 inner.kids whole_under.1 in
          let count = length-children inner.kids in
          let all = sym (length-append (open_leaves levels) (leaves_in inner.kids)) ∙ ap length (ap (λ xs. open_leaves levels ++ xs) (sym (ap leaves inner.shape_is)) ∙ is.stands.leaves_are) in
          noting-room arena spine (length (children_at inner.kids)) (length ls) (omega (arith, nodes, noted, fewer)) (omega (arith, noted, few, wide, count, all))

      -- its children but the last are noted, and it is freed: the last is the part then
      module _ (now : Spine) (child : ℕ × Name) (children : now.children.items ++ child ∷ [] ≡ spine.children.items ++ children_at inner.kids) where
        noted : (now.children.items ≡ open_children levels ++ children_at end.others) × (child ≡ (end.byte, name_of end.child))
        noted =
            last-same now.children.items (open_children levels ++ children_at end.others) child (end.byte, name_of end.child)
            (children ∙ ap (λ cs. cs ++ children_at inner.kids) is.stands.children_are ∙ ap (λ cs. open_children levels ++ cs) (ap children_at end.is ∙ children-after end.byte end.child end.others)
            ∙ sym (append_assoc (open_children levels) (children_at end.others) ((end.byte, name_of end.child) ∷ [])))

        pub opens-last : (new : Arena K V) → now.stack.items ≡ spine.stack.items ++ record { child_depth = suc (begin_of 0 spine.stack.items + length inner.prefix); first = length spine.children.items } ∷ [] → IsAscending (children_at inner.kids)
            → UpdatesAt (held_at arena) (held_at new) part None → OpensTo bytes P new now child.1 leaf ls
        opens-last new stack up frees = record {
          front = is.front;
          ends = is.ends;
          stands = record {
            levels = level ∷ levels;
            part = end.child;
            stack_is = stack ∙ ap₂ (λ (os : List Open) (cs : List (ℕ × Name)). os ++ record { child_depth = suc (begin_of 0 spine.stack.items + length inner.prefix); first = length cs } ∷ []) is.stands.stack_is is.stands.children_are
                ∙ ap (λ d. opened levels ++ record { child_depth = suc d; first = length (open_children levels) } ∷ []) read-depth;
            children_are = noted.0;
            named = ap (λ (c : ℕ × Name). c.1) (sym noted.1);
            holds = left_held new frees;
            ways = (is_open up, omega arith, is.stands.ways);
            under = child_under;
            leaves_are = append_assoc (open_leaves levels) (leaves_in end.others) (leaves end.child) ∙ all_leaves;
          };
        }

      -- what was read of the node is so of it
      module _ (seen : InnerNode) (sees : held_at arena part ≡ Some (inner_held seen)) where
        seen_is : inner_over P inner.prefix (children_at inner.kids) ≡ seen
        seen_is = same_inner (held_at arena part) (inner_over P inner.prefix (children_at inner.kids)) seen inner.there sees

        pub seen-two : 2 ≤ length seen.children
        seen-two = subst (λ (m : InnerNode). 2 ≤ length m.children) seen_is two

        pub seen-inside : begin_of 0 spine.stack.items + seen.header.prefix_len < length key
        seen-inside = subst (λ (m : InnerNode). begin_of 0 spine.stack.items + m.header.prefix_len < length key) seen_is inside

        pub seen-kind : IsKindOf part.kind (length seen.children)
        seen-kind = subst (λ (m : InnerNode). IsKindOf part.kind (length m.children)) seen_is (subst (IsKindOf part.kind) (sym (length-children inner.kids)) whole_under.0)

        pub seen-room : HasRoomToOpen arena spine (length ls) → HasSpineRoom arena spine (length seen.children)
        seen-room = subst (λ (m : InnerNode). HasRoomToOpen arena spine (length ls) → HasSpineRoom arena spine (length m.children)) seen_is can-open

        pub opens-child : (now : Spine) (child : ℕ × Name) → now.children.items ++ child ∷ [] ≡ spine.children.items ++ seen.children → (new : Arena K V)
            → now.stack.items ≡ spine.stack.items ++ record { child_depth = suc (begin_of 0 spine.stack.items + seen.header.prefix_len); first = length spine.children.items } ∷ [] → IsAscending seen.children
            → UpdatesAt (held_at arena) (held_at new) part None → OpensTo bytes P new now child.1 leaf ls
        opens-child now child =
            subst (λ (m : InnerNode). now.children.items ++ child ∷ [] ≡ spine.children.items ++ m.children → (new : Arena K V)
            → now.stack.items ≡ spine.stack.items ++ record { child_depth = suc (begin_of 0 spine.stack.items + m.header.prefix_len); first = length spine.children.items } ∷ [] → IsAscending m.children
            → UpdatesAt (held_at arena) (held_at new) part None → OpensTo bytes P new now child.1 leaf ls) seen_is (opens-last now child)

  -- at the start, and where the nodes are made again
  module _ (old : Arena K V) (root : Name) (s : Shape K V) (tree : StoresOnly bytes P old root s) where
    pub below-root : IsSubtree bytes P (node_at old) root [] s
    below-root = nodes-subtree bytes P (node_at old) root s tree.nodes

    pub opens-start : (spine : Spine) (last : ℕ) → IsEmptySpine spine → last_slot None (leaves s) ≡ Some last → (leaf : LeafAt K V) × (leaf.slot ≡ last) × OpensTo bytes P old spine root leaf (leaves s)
    opens-start spine last empty found =
        let end = ends_with-first (leaves s) last found in
        (end.1, end.3, opens-root old spine root s end.1 end.0 tree empty end.2)

    module _ (new : Arena K V) (same : SameLeaves old new) (spine : Spine) (last : ℕ) (pairs : List (K × V)) (pairs_are : pairs_of (leaves s) ≡ pairs) where
      linked-still : AreLinked (links_at new) None (leaves s) None
      linked-still = AreLinked-same (links_at old) (links_at new) (λ n. ap links_of (same n)) None (leaves s) None tree.linked

      pub reopened-pairs : (part : Name) (leaf : LeafAt K V) → leaf.slot ≡ last → part.kind ≡ Leaf → OpensTo bytes P new spine part leaf (leaves s) → BuildsUpTo bytes P new spine last pairs
      reopened-pairs part leaf slot_is kind is =
          subst (BuildsUpTo bytes P new spine last) pairs_are (reopened new spine part leaf (leaves s) is last slot_is kind linked-still (pairs_ascend bytes s tree.nodes.under))

      pub made-again : (node : Name) (key : List ℕ) → HasSpine bytes P new spine [] last 0 node key (leaves s) → begin_of 0 spine.stack.items ≡ 0 → HasPairs bytes P new (Some node) pairs
      made-again node key has closed = subst (HasPairs bytes P new (Some node)) pairs_are (whole bytes P new spine last node key (leaves s) has closed linked-still)

-- there is room for the child, which stands where so many were to be noted
pub opened-room : {K V : Type 0} (old new : Arena K V) (was now : Spine) (count : ℕ) → 2 ≤ count → length now.stack.items ≡ length was.stack.items + 1 → length now.children.items + 1 ≡ length was.children.items + count
    → vec_capacity was.stack ≤ vec_capacity now.stack → vec_capacity was.children ≤ vec_capacity now.children → KeepsRoomOf old new → HasSpineRoom old was count → HasSpineRoom new now 1
opened-room old new was now count many stack children stack_grows children_grow keeps room =
    let stack_room = room.places.stack in
    let children_room = room.places.children in
    record {
      places = record { stack = omega (arith, many, stack, stack_grows, stack_room); children = omega (arith, children, children_grow, children_room) };
      nodes = λ kind inner n few. keeps kind n (room-at old (length was.children.items + count) (length now.children.items + 1) (sym children) room.nodes kind inner n few);
    }
