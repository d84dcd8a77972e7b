-- The way of a query down a tree by lengths alone, and the deepest leaf beside it whose key ends with the mark.
use Rattle.std.proofs.Common.{◌≡◌, ◌⊎◌, ℕ, ◌+◌, ◌<◌, ◌≤◌, List, [], ◌∷◌, ◌++◌, length, get_or, take, Option, Some, None, IsSome, refl, sym, ap, ap₂, subst, ◌∙◌, inl, inr, arith, length-append, append-nil}
use Rattle.std.specs.Prelude.{MatchOption}
use Rattle.art_bytes.proofs.Common.{BeginsWith, begins_step}
use Rattle.art_nodes.proofs.Common.{InnerNode, child_at, Name}
use Rattle.art_arena.specs.arena.Descents.{GoesOn, GoesNoFurther}
use Rattle.art_arena.proofs.Common.{AreHeld, Cell, pair, branches, IsIn, IsSubtree, Shape, Branches, leaf_at, inner_at, LeafAt, name_of, cells, children_at, leaves, leaves_in, IsUnder, AreUnder, all_at, begins_trans, leaves_in-begin, subtree-branch}
use Rattle.art_arena.proofs.shapes.Subtrees.{subtree-held}
use Rattle.art_arena.proofs.shapes.Places.{leaf-there, inner-there, split}
use Rattle.art_operations.proofs.Terms.{option_or, IsMarkedBy, IsMarked, EndsAt, EndsAmong, IsMarkedChild, NoneMarked, IsDeepest}
use Rattle.art_operations.proofs.MarkedKeys.{key-splits, ends-long, marked-ends}
use Rattle.art_operations.proofs.MarkedLeaves.{some-byte, in-this, in-whole, in-none}

module _ {K V : Type 0} (bytes : K → List ℕ) (query : List ℕ) (mark : ℕ) (s : Shape K V) where
  -- A candidate so far. Each marked leaf is one of those that are left, or its bytes of the query begin the way down to here,
  -- and the candidate's key.
  pub record Seen (Left : LeafAt K V → ℕ → Type 0) (path : List ℕ) (slot : ℕ) : Type 0 where
    pub leaf : LeafAt K V
    pub among : IsIn leaf (leaves s)
    pub slot_is : leaf.slot ≡ slot
    pub len : ℕ
    pub short : len ≤ length query
    pub ends : EndsAt len mark (bytes leaf.key)
    pub others : (l : LeafAt K V) (n : ℕ) → IsIn l (leaves s) → IsMarkedBy query mark n (bytes l.key)
        → Left l n ⊎ (BeginsWith (take n query) path × BeginsWith (take n query) (bytes leaf.key))

  -- and where there is none, each marked leaf is left
  abbrev pub IsSeen : (LeafAt K V → ℕ → Type 0) → List ℕ → Option ℕ → Type 0
  IsSeen Left path None = (l : LeafAt K V) (n : ℕ) → IsIn l (leaves s) → IsMarkedBy query mark n (bytes l.key) → Left l n
  IsSeen Left path (Some slot) = Seen Left path slot

  -- what the way's end answers
  abbrev pub IsAnswer : Option ℕ → Type 0
  IsAnswer found = MatchOption found (NoneMarked bytes query mark s) (λ slot. IsDeepest bytes query mark s slot)

  seen-on : (Left Next : LeafAt K V → ℕ → Type 0) (path next : List ℕ) (best : Option ℕ) → BeginsWith path next
      → ((l : LeafAt K V) (n : ℕ) → IsMarkedBy query mark n (bytes l.key) → Left l n → Next l n) → IsSeen Left path best → IsSeen Next next best
  seen-on Left Next path next None begins on seen = λ l n i by. on l n by (seen l n i by)
  seen-on Left Next path next (Some slot) begins on seen = record {
    leaf = seen.leaf;
    among = seen.among;
    slot_is = seen.slot_is;
    len = seen.len;
    short = seen.short;
    ends = seen.ends;
    others = λ l n i by. elim (seen.others l n i by) [
      | inl left ↦ inl (on l n by left)
      | inr passed ↦ inr (begins_trans (take n query) path next passed.0 begins, passed.1)
    ];
  }

  -- none is left
  seen-all : (Left : LeafAt K V → ℕ → Type 0) (path : List ℕ) (best : Option ℕ) → ((l : LeafAt K V) (n : ℕ) → IsMarkedBy query mark n (bytes l.key) → Left l n → ⊥) → IsSeen Left path best → IsAnswer best
  seen-all Left path None none seen = λ l n i by. none l n by (seen l n i by)
  seen-all Left path (Some slot) none seen = record {
    leaf = seen.leaf;
    among = seen.among;
    slot_is = seen.slot_is;
    len = seen.len;
    short = seen.short;
    ends = seen.ends;
    begins = λ l n i by. elim (seen.others l n i by) [ inl left ↦ absurd (none l n by left) | inr passed ↦ passed.1 ];
  }

  -- beside an inner node whose path is no longer than the query

  module _ (path : List ℕ) (kids : Branches K V) (under : AreUnder bytes path 0 kids) where
    abbrev Below : LeafAt K V → ℕ → Type 0
    Below l n = IsIn l (leaves_in kids)

    abbrev Deeper : LeafAt K V → ℕ → Type 0
    Deeper l n = IsIn l (leaves_in kids) × (length path < n) × BeginsWith (path ++ get_or query (length path) 0 ∷ []) (bytes l.key)

    begins_here : (l : LeafAt K V) → IsIn l (leaves_in kids) → BeginsWith path (bytes l.key)
    begins_here l i = all_at (λ m. BeginsWith path (bytes m.key)) l (leaves_in kids) (leaves_in-begin bytes path 0 kids under) i

    longer : (l : LeafAt K V) → IsIn l (leaves_in kids) → length path < length (bytes l.key)
    longer l i =
        let found = some-byte bytes path 0 kids under l i in
        let whole = begins_step path found.0 (bytes l.key) found.2 in
        omega (arith, ap length whole.1, length-append path (found.0 ∷ whole.0))

    -- a marked leaf below is the one under the mark, or stands below the query's next byte
    splits : (l : LeafAt K V) (n : ℕ) → IsMarkedBy query mark n (bytes l.key) → IsIn l (leaves_in kids) → ((bytes l.key ≡ path ++ mark ∷ []) × (take n query ≡ path)) ⊎ Deeper l n
    splits l n by i = elim (key-splits path query mark n (bytes l.key) by.0 by.1 (begins_here l i) (longer l i)) [
      | inl ends ↦ inl (by.1 ∙ ap (λ p. p ++ mark ∷ []) (sym ends.1), sym ends.1)
      | inr more ↦ inr (i, more.0, more.1)
    ]

    front_here : (n : ℕ) (l : LeafAt K V) → take n query ≡ path → IsIn l (leaves_in kids) → BeginsWith (take n query) (bytes l.key)
    front_here n l is i = subst (λ p. BeginsWith p (bytes l.key)) (sym is) (begins_here l i)

    front_path : (n : ℕ) → take n query ≡ path → BeginsWith (take n query) path
    front_path n is = subst (BeginsWith (take n query)) is ([], sym (append-nil (take n query)))

    module _ (inside : (l : LeafAt K V) → IsIn l (leaves_in kids) → IsIn l (leaves s)) (within : length path ≤ length query) where
      -- the leaf under the mark is the candidate from here on, if there is one
      child-seen : (found best : Option ℕ) → IsMarkedChild bytes path kids mark found → IsSeen Below path best → IsSeen Deeper path (option_or found best)
      child-seen None best none seen = seen-on Below Deeper path path best ([], sym (append-nil path)) (λ l n by i. elim (splits l n by i) [ inl ends ↦ absurd (none l i ends.0) | inr more ↦ more ]) seen
      child-seen (Some slot) None met seen = record {
        leaf = met.leaf;
        among = inside met.leaf met.among;
        slot_is = met.slot_is;
        len = length path;
        short = within;
        ends = met.ends;
        others = λ l n i by. elim (splits l n by (seen l n i by)) [
          | inl ends ↦ inr (front_path n ends.1, front_here n met.leaf ends.1 met.among)
          | inr more ↦ inl more
        ];
      }
      child-seen (Some slot) (Some before) met seen = record {
        leaf = met.leaf;
        among = inside met.leaf met.among;
        slot_is = met.slot_is;
        len = length path;
        short = within;
        ends = met.ends;
        others = λ l n i by. elim (seen.others l n i by) [
          | inl left ↦ elim (splits l n by left) [
            | inl ends ↦ inr (front_path n ends.1, front_here n met.leaf ends.1 met.among)
            | inr more ↦ inl more
          ]
          | inr passed ↦ inr (passed.0, begins_trans (take n query) path (bytes met.leaf.key) passed.0 (begins_here met.leaf met.among))
        ];
      }

module _ {K V : Type 0} (bytes : K → List ℕ) (P : ℕ) (at : Name → Option (Cell K V)) (query : List ℕ) (mark : ℕ) (s : Shape K V) where
  -- so far the query has led, by lengths alone, to the root of this part, which stands after so many bytes
  pub record IsMarkedWay (current : Name) (depth : ℕ) (best : Option ℕ) : Type 0 where
    pub path : List ℕ
    pub part : Shape K V
    pub subtree : IsSubtree bytes P at current path part
    pub depth_is : length path ≡ depth
    pub inside : (l : LeafAt K V) → IsIn l (leaves part) → IsIn l (leaves s)
    pub seen : IsSeen bytes query mark s (λ l n. IsIn l (leaves part)) path best

  pub marked-start : (root : Name) → IsSubtree bytes P at root [] s → IsMarkedWay root 0 None
  marked-start root tree = record { path = []; part = s; subtree = tree; depth_is = refl; inside = λ l i. i; seen = λ l n i by. i }

  module _ (current : Name) (depth : ℕ) (best : Option ℕ) (way : IsMarkedWay current depth best) where
    held : AreHeld at (cells P way.part)
    held = way.subtree.part.held

    -- at a leaf
    module _ (k : K) (v : V) (there : at current ≡ Some (pair k v)) where
      abbrev the_leaf : LeafAt K V
      the_leaf = record { slot = current.slot; key = k; value = v }

      part_is : way.part ≡ leaf_at current.slot k v
      part_is = leaf-there P at way.part k v held (ap at way.subtree.part.named ∙ there) ∙ ap (λ (n : Name). leaf_at n.slot k v) way.subtree.part.named

      only : (l : LeafAt K V) → IsIn l (leaves way.part) → the_leaf ≡ l
      only l i = one l (subst (λ t. IsIn l (leaves t)) part_is i)
        where
          one : (l : LeafAt K V) → IsIn l (the_leaf ∷ []) → the_leaf ≡ l
          one l (inl e) = e
          one l (inr j) = absurd j

      begins_leaf : BeginsWith way.path (bytes k)
      begins_leaf = subst (IsUnder bytes way.path) part_is way.subtree.under

      -- which is marked
      pub marked-leaf : IsMarked query mark (bytes k) → IsAnswer bytes query mark s (Some current.slot)
      marked-leaf (n, by) = record {
        leaf = the_leaf;
        among = way.inside the_leaf (subst (λ t. IsIn the_leaf (leaves t)) (sym part_is) (inl refl));
        slot_is = refl;
        len = n;
        short = by.0;
        ends = marked-ends query mark n (bytes k) by;
        begins = λ l m i marked. fronts best way.seen l m i marked;
      }
        where
          here : (l : LeafAt K V) (m : ℕ) → IsMarkedBy query mark m (bytes l.key) → IsIn l (leaves way.part) → BeginsWith (take m query) (bytes k)
          here l m marked i = (mark ∷ [], ap (λ (x : LeafAt K V). bytes x.key) (only l i) ∙ marked.1)

          fronts : (best : Option ℕ) → IsSeen bytes query mark s (λ l n. IsIn l (leaves way.part)) way.path best → (l : LeafAt K V) (m : ℕ) → IsIn l (leaves s) → IsMarkedBy query mark m (bytes l.key) → BeginsWith (take m query) (bytes k)
          fronts None seen l m i marked = here l m marked (seen l m i marked)
          fronts (Some slot) seen l m i marked = elim (seen.others l m i marked) [
            | inl left ↦ here l m marked left
            | inr passed ↦ begins_trans (take m query) way.path (bytes k) passed.0 begins_leaf
          ]

      -- which is not
      pub other-leaf : (IsMarked query mark (bytes k) → ⊥) → IsAnswer bytes query mark s best
      other-leaf other = seen-all bytes query mark s (λ l n. IsIn l (leaves way.part)) way.path best
          (λ l n by i. other (n, subst (λ (x : LeafAt K V). IsMarkedBy query mark n (bytes x.key)) (sym (only l i)) by)) way.seen

    -- at an inner node
    module _ (node : InnerNode) (there : at current ≡ Some (branches node)) where
      pub record NodeHere : Type 0 where
        pub prefix : List ℕ
        pub kids : Branches K V
        pub is : way.part ≡ inner_at current prefix kids
        pub children : node.children ≡ children_at kids
        pub len : node.header.prefix_len ≡ length prefix

      pub here : NodeHere
      here =
          let i = inner-there P at way.part node held (ap at way.subtree.part.named ∙ there) in
          record {
            prefix = i.prefix;
            kids = i.kids;
            is = i.is ∙ ap (λ n. inner_at n i.prefix i.kids) way.subtree.part.named;
            children = ap (λ (m : InnerNode). m.children) i.node_is;
            len = ap (λ (m : InnerNode). m.header.prefix_len) i.node_is;
          }

      abbrev pub full : List ℕ
      full = way.path ++ here.prefix

      pub full-long : length full ≡ depth + node.header.prefix_len
      full-long = omega (arith, length-append way.path here.prefix, way.depth_is, here.len)

      pub here-subtree : IsSubtree bytes P at current way.path (inner_at current here.prefix here.kids)
      here-subtree = subst (IsSubtree bytes P at current way.path) here.is way.subtree

      kids_under : AreUnder bytes full 0 here.kids
      kids_under = here-subtree.under.1

      kids_inside : (l : LeafAt K V) → IsIn l (leaves_in here.kids) → IsIn l (leaves s)
      kids_inside l i = way.inside l (subst (λ t. IsIn l (leaves t)) (sym here.is) i)

      seen_kids : IsSeen bytes query mark s (λ l n. IsIn l (leaves_in here.kids)) way.path best
      seen_kids = subst (λ t. IsSeen bytes query mark s (λ l n. IsIn l (leaves t)) way.path best) here.is way.seen

      -- whose prefix goes on past the query
      pub marked-past : length query < depth + node.header.prefix_len → IsAnswer bytes query mark s best
      marked-past past = seen-all bytes query mark s (λ l n. IsIn l (leaves_in here.kids)) way.path best
          (λ l n by i.
          let more = longer bytes query mark s full here.kids kids_under l i in
          let long = ends-long n mark (bytes l.key) (marked-ends query mark n (bytes l.key) by) in
          absurd (omega (arith, past, more, long, full-long, by.0))) seen_kids

      module _ (found : Option ℕ) (child : IsMarkedChild bytes full here.kids mark found) (within : depth + node.header.prefix_len ≤ length query) where
        deeper : IsSeen bytes query mark s (Deeper bytes query mark s full here.kids kids_under) full (option_or found best)
        deeper = child-seen bytes query mark s full here.kids kids_under kids_inside (omega (arith, within, full-long)) found best child
            (seen-on bytes query mark s (λ l n. IsIn l (leaves_in here.kids)) (λ l n. IsIn l (leaves_in here.kids)) way.path full best (here.prefix, refl) (λ l n by i. i) seen_kids)

        -- the query goes no further
        pub marked-ended : GoesNoFurther query depth node → IsAnswer bytes query mark s (option_or found best)
        marked-ended ended = seen-all bytes query mark s (Deeper bytes query mark s full here.kids kids_under) full (option_or found best)
            (λ l n by left. none ended l n by left) deeper
          where
            none : GoesNoFurther query depth node → (l : LeafAt K V) (n : ℕ) → IsMarkedBy query mark n (bytes l.key) → Deeper bytes query mark s full here.kids kids_under l n → ⊥
            none (inl short) l n by left = absurd (omega (arith, short, left.1, full-long, by.0))
            none (inr missing) l n by left =
                in-none bytes full 0 here.kids kids_under (get_or query (length full) 0)
                (ap₂ (λ cs i. child_at cs (get_or query i 0)) (sym here.children) full-long ∙ missing) l left.0 left.2

        -- or on to a child
        pub marked-step : (b : ℕ) (to : Name) (next : ℕ) → GoesOn query depth node b to next → IsMarkedWay to next (option_or found best)
        marked-step b to next goes =
            let sd = split here.kids b to (ap (λ cs. child_at cs b) (sym here.children) ∙ goes.child_is) in
            let smaller = subtree-branch bytes P at current way.path here.prefix here.kids sd.before b sd.here sd.after here-subtree sd.kids_are in
            let byte : get_or query (length full) 0 ≡ b = ap (λ i. get_or query i 0) full-long ∙ goes.byte_is in
            record {
              path = full ++ b ∷ [];
              part = sd.here;
              subtree = subst (λ n. IsSubtree bytes P at n (full ++ b ∷ []) sd.here) sd.named smaller.subtree;
              depth_is = omega (arith, length-append full (b ∷ []), full-long, goes.next_is);
              inside = λ l i. kids_inside l (subst (λ f. IsIn l (leaves_in f)) (sym sd.kids_are) (in-whole bytes sd.before b sd.here sd.after l i));
              seen = seen-on bytes query mark s (Deeper bytes query mark s full here.kids kids_under) (λ l n. IsIn l (leaves sd.here)) full (full ++ b ∷ []) (option_or found best) (b ∷ [], refl)
                  (λ l n by left.
                  in-this bytes full 0 sd.before b sd.here sd.after (subst (AreUnder bytes full 0) sd.kids_are kids_under) l
                  (subst (λ f. IsIn l (leaves_in f)) sd.kids_are left.0)
                  (subst (λ c. BeginsWith (full ++ c ∷ []) (bytes l.key)) byte left.2)) deeper;
            }

-- the child under the mark

module _ {K V : Type 0} (bytes : K → List ℕ) (P : ℕ) (at : Name → Option (Cell K V)) (name : Name) (path prefix : List ℕ) (kids : Branches K V) (mark : ℕ) (sub : IsSubtree bytes P at name path (inner_at name prefix kids)) where
  pub no-child : child_at (children_at kids) mark ≡ None → IsMarkedChild bytes (path ++ prefix) kids mark None
  no-child none l i is = in-none bytes (path ++ prefix) 0 kids sub.under.1 mark none l i ([], is ∙ sym (append-nil ((path ++ prefix) ++ mark ∷ [])))

  module _ (m : Name) (found : child_at (children_at kids) mark ≡ Some m) where
    pub record ChildPart : Type 0 where
      pub part : Shape K V
      pub subtree : IsSubtree bytes P at m ((path ++ prefix) ++ mark ∷ []) part
      pub up : (l : LeafAt K V) → IsIn l (leaves part) → IsIn l (leaves_in kids)
      pub down : (l : LeafAt K V) → IsIn l (leaves_in kids) → bytes l.key ≡ (path ++ prefix) ++ mark ∷ [] → IsIn l (leaves part)

    pub child-part : ChildPart
    child-part =
        let sd = split kids mark m found in
        let smaller = subtree-branch bytes P at name path prefix kids sd.before mark sd.here sd.after sub sd.kids_are in
        record {
          part = sd.here;
          subtree = subst (λ n. IsSubtree bytes P at n ((path ++ prefix) ++ mark ∷ []) sd.here) sd.named smaller.subtree;
          up = λ l i. subst (λ f. IsIn l (leaves_in f)) (sym sd.kids_are) (in-whole bytes sd.before mark sd.here sd.after l i);
          down = λ l i is.
              in-this bytes (path ++ prefix) 0 sd.before mark sd.here sd.after (subst (AreUnder bytes (path ++ prefix) 0) sd.kids_are sub.under.1) l
              (subst (λ f. IsIn l (leaves_in f)) sd.kids_are i) ([], is ∙ sym (append-nil ((path ++ prefix) ++ mark ∷ [])));
        }

    pub child-held : IsSome (at m)
    child-held = subtree-held bytes P at m ((path ++ prefix) ++ mark ∷ []) child-part.part child-part.subtree

    module _ (k : K) (v : V) (there : at m ≡ Some (pair k v)) where
      abbrev child_leaf : LeafAt K V
      child_leaf = record { slot = m.slot; key = k; value = v }

      child_is : child-part.part ≡ leaf_at m.slot k v
      child_is = leaf-there P at child-part.part k v child-part.subtree.part.held (ap at child-part.subtree.part.named ∙ there) ∙ ap (λ (n : Name). leaf_at n.slot k v) child-part.subtree.part.named

      pub child-ends : (depth slot : ℕ) (read : List ℕ) → length (path ++ prefix) ≡ depth → read ≡ bytes k → slot ≡ m.slot → EndsAt depth mark read → EndsAmong bytes (leaves_in kids) (length (path ++ prefix)) mark slot
      child-ends depth slot read long same named ends = record {
        leaf = child_leaf;
        among = child-part.up child_leaf (subst (λ t. IsIn child_leaf (leaves t)) (sym child_is) (inl refl));
        slot_is = sym named;
        ends = (ends.0, ends.1 ∙ sym long, sym same ∙ ends.2);
      }

      pub child-other : (depth : ℕ) (read : List ℕ) → length (path ++ prefix) ≡ depth → read ≡ bytes k → (EndsAt depth mark read → ⊥) → IsMarkedChild bytes (path ++ prefix) kids mark None
      child-other depth read long same other l i is = here (subst (λ t. IsIn l (leaves t)) child_is (child-part.down l i is))
        where
          here : IsIn l (child_leaf ∷ []) → ⊥
          here (inl e) = other (path ++ prefix, long, same ∙ ap (λ (x : LeafAt K V). bytes x.key) e ∙ is)
          here (inr j) = j

    pub child-inner : (node : InnerNode) → at m ≡ Some (branches node) → IsMarkedChild bytes (path ++ prefix) kids mark None
    child-inner node there l i is =
        let inner = inner-there P at child-part.part node child-part.subtree.part.held (ap at child-part.subtree.part.named ∙ there) in
        let under : IsUnder bytes ((path ++ prefix) ++ mark ∷ []) (inner_at (name_of child-part.part) inner.prefix inner.kids) = subst (IsUnder bytes ((path ++ prefix) ++ mark ∷ [])) inner.is child-part.subtree.under in
        let below : IsIn l (leaves_in inner.kids) = subst (λ t. IsIn l (leaves t)) inner.is (child-part.down l i is) in
        let found = some-byte bytes (((path ++ prefix) ++ mark ∷ []) ++ inner.prefix) 0 inner.kids under.1 l below in
        let whole = begins_step (((path ++ prefix) ++ mark ∷ []) ++ inner.prefix) found.0 (bytes l.key) found.2 in
        omega (arith, ap length whole.1, ap length is, length-append (((path ++ prefix) ++ mark ∷ []) ++ inner.prefix) (found.0 ∷ whole.0), length-append ((path ++ prefix) ++ mark ∷ []) inner.prefix)
