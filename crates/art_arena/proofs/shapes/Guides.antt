-- A guide: how it is found by a way down, and what it tells at each node on the key's way.
use Rattle.std.proofs.Common.{◌≡◌, ℕ, suc, ◌+◌, ◌≤◌, List, [], ◌∷◌, ◌++◌, length, drop, get_or, Option, Some, None, refl, sym, ap, ap₂, subst, ◌∙◌, inl, inr, arith, length-append}
use Rattle.std.proofs.Math.ListN.{drop_of_length-le}
use Rattle.std.proofs.lemmas.Bool.Decides.{leb_tells}
use Rattle.std.proofs.lemmas.List.{drop-drop}
use Rattle.art_arena.specs.tree.Trees as tree
use Rattle.art_bytes.proofs.Common.{BeginsWith, begins_append, begins_step}
use Rattle.art_nodes.proofs.Common.{InnerNode, child_at, Name}
use Rattle.art_nodes.specs.declared.leaf.LeafNode.{LeafNode}
use Rattle.art_arena.proofs.Terms.{Arena, cell_of, held_at, leaf_held, node_at, Cell, branches, pair, leaf_name, GoesOn, GoesNoFurther, IsGuide, GuidesBelow, IsAtDepth, IsSubtree, prefix_of, first_slot, IsReadAt, KeysWithin, Tree, path_of, path_in, led_on, path_to_guide, way_of, end_path}
use Rattle.art_arena.proofs.Terms.{erase, erase_in, End, First, Shape, Branches, leaf_at, inner_at, no_branch, branch, join, name_of, children_at, leaves, IsUnder, AreUnder}
use Rattle.std.specs.List.{AllByRecursion}
use Rattle.art_arena.proofs.tree.Shrinks.{same_front}
use Rattle.art_arena.proofs.shapes.EndWalks.{within_branch}
use Rattle.art_arena.proofs.shapes.Finding.{Avoid, avoid-above, avoid-below, avoid-missing, dropped, path_in-ended, path_in-missing, path_in-step}
use Rattle.art_arena.proofs.shapes.Passing.{byte_following, next_byte}
use Rattle.art_arena.proofs.shapes.OneMeaning.{same_shape}
use Rattle.art_arena.proofs.shapes.Places.{around, inner-there, leaf-there, leaves-begin, split}
use Rattle.art_arena.proofs.shapes.Prefixes.{drop-front, first_leaf}
use Rattle.art_arena.proofs.shapes.Subtrees.{some_leaf, subtree-branch}
use Rattle.art_arena.proofs.shapes.WayReads.{way-goes}

module _ {K V : Type 0} (key guide : List ℕ) where
  -- it begins with the path
  pub guide_path : (path : List ℕ) (s : Shape K V) → IsGuide key guide path s → BeginsWith path guide
  guide_path path (leaf_at slot k v) h = h
  guide_path path (inner_at n prefix kids) h = begins_append path prefix guide h.0

  -- and with the prefix of an inner node after it
  pub guide_prefix : (path : List ℕ) (s : Shape K V) (n : Name) (prefix : List ℕ) (kids : Branches K V) → s ≡ inner_at n prefix kids → IsGuide key guide path s → BeginsWith (path ++ prefix_of s) guide
  guide_prefix path (leaf_at slot k v) n prefix kids is h = absurd (cc)
  guide_prefix path (inner_at m other f) n prefix kids is h = h.0

  -- it is one below the child to which the key leads
  pub guide_down : (front : List ℕ) (before : Branches K V) (b : ℕ) (t : Shape K V) (after : Branches K V) → GuidesBelow key guide front (join before (branch b t after)) → BeginsWith (front ++ b ∷ []) key → IsGuide key guide (front ++ b ∷ []) t
  guide_down front no_branch b t after h begins = h.0 begins
  guide_down front (branch c u before) b t after h begins = guide_down front before b t after h.1 begins

  -- where no branch stands under the key's next byte, the key leads to none, and where it has no next byte
  guides_avoid : (bytes : K → List ℕ) (front : List ℕ) (b : ℕ) (f : Branches K V) → get_or key (length front) 0 ≡ b → Avoid bytes key b f → GuidesBelow key guide front f
  guides_avoid bytes front b no_branch here avoid = tt
  guides_avoid bytes front b (branch c s rest) here avoid = (
    λ begins.
        let on = begins_step front c key begins in
        absurd (avoid.0 (sym (byte_following front on.0 c) ∙ sym (ap (λ k. get_or k (length front) 0) on.1) ∙ here)),
    guides_avoid bytes front b rest here avoid.1,
  )

  guides_short : (front : List ℕ) (f : Branches K V) → length key ≤ length front → GuidesBelow key guide front f
  guides_short front no_branch short = tt
  guides_short front (branch c s rest) short = (
    λ begins.
        let on = begins_step front c key begins in
        absurd (omega (arith, short, ap length on.1, length-append front (c ∷ on.0))),
    guides_short front rest short,
  )

  -- where one does, it leads there alone
  guides_up : (bytes : K → List ℕ) (front : List ℕ) (before : Branches K V) (b : ℕ) (t : Shape K V) (after : Branches K V) → get_or key (length front) 0 ≡ b → Avoid bytes key b before → Avoid bytes key b after
      → IsGuide key guide (front ++ b ∷ []) t → GuidesBelow key guide front (join before (branch b t after))
  guides_up bytes front no_branch b t after here avoid avoid_after h = (λ begins. h, guides_avoid bytes front b after here avoid_after)
  guides_up bytes front (branch c u before) b t after here avoid avoid_after h =
      ((guides_avoid bytes front b (branch c u no_branch) here (avoid.0, tt)).0, guides_up bytes front before b t after here avoid.1 avoid_after h)

-- a path has no more bytes than the longest key below it
pub deep_within : {K V : Type 0} (bytes : K → List ℕ) (path : List ℕ) (s : Shape K V) → IsUnder bytes path s → (longest : ℕ) → KeysWithin bytes longest (leaves s) → length path ≤ longest
deep_within bytes path s under longest short =
    let l = some_leaf bytes path s under in
    let begins : BeginsWith path (bytes l.0.key) = (subst (AllByRecursion (λ x. BeginsWith path (bytes x.key))) l.2 (leaves-begin bytes path s under)).0 in
    let own : length (bytes l.0.key) ≤ longest = (subst (KeysWithin bytes longest) l.2 short).0 in
    omega (arith, own, ap length begins.1, length-append path begins.0)

-- a path to an end has a node
pub some_end : {X : Type 0} (end : End) (t : Tree X) → 1 ≤ length (end_path end t)
some_end end (tree.leaf x) = omega arith
some_end end (tree.inner prefix children) = omega arith

-- the path to a guide goes on with the path of what stands there, or ends with the path to the first leaf
led_more : {X : Type 0} (t u : Tree X) (k : List ℕ) (nodes : List (Tree X)) → nodes ≡ path_of u k → length (led_on (t ∷ nodes)) ≡ suc (length (path_to_guide u k))
led_more t (tree.leaf x) k nodes e = rw e refl
led_more t (tree.inner prefix children) k nodes e = rw e refl

led_ends : {X : Type 0} (t : Tree X) (nodes : List (Tree X)) → nodes ≡ [] → length (led_on (t ∷ nodes)) ≡ length (end_path First t)
led_ends t nodes e = rw e refl

module _ {K V : Type 0} (bytes : K → List ℕ) (P : ℕ) (at : Name → Option (Cell K V)) (key : List ℕ) where
  -- Below this name stands a part of this one, after so many bytes of the key. A guide below it is one below the whole.
  pub record IsAlong (path : List ℕ) (s : Shape K V) (current : Name) (used : ℕ) : Type 0 where
    pub below : List ℕ
    pub part : Shape K V
    pub stands : IsAtDepth bytes P at current used below part
    pub up : (guide : List ℕ) → IsGuide key guide below part → IsGuide key guide path s
    pub within : (longest : ℕ) → KeysWithin bytes longest (leaves s) → KeysWithin bytes longest (leaves part)
    pub passed : ℕ
    pub led : length (path_to_guide (erase s) (drop (length path) key)) ≡ passed + length (path_to_guide (erase part) (drop used key))

  pub along-start : (path : List ℕ) (s : Shape K V) (root : Name) (depth : ℕ) → IsAtDepth bytes P at root depth path s → IsAlong path s root depth
  along-start path s root depth stands = record {
    below = path;
    part = s;
    stands = stands;
    up = λ guide h. h;
    within = λ longest short. short;
    passed = 0;
    led = omega (arith, ap (λ d. length (path_to_guide (erase s) (drop d key))) stands.path_len);
  }

  pub start_none : (path : List ℕ) (s : Shape K V) (root : Name) (depth : ℕ) (stands : IsAtDepth bytes P at root depth path s) → (along-start path s root depth stands).passed ≡ 0
  unfolding along-start
  start_none path s root depth stands = refl

  module _ (n : Name) (depth : ℕ) (path : List ℕ) (s : Shape K V) (stands : IsAtDepth bytes P at n depth path s) (node : InnerNode) (there : at n ≡ Some (branches node)) where
    record Here : Type 0 where
      pub prefix : List ℕ
      pub kids : Branches K V
      pub is : s ≡ inner_at n prefix kids
      pub front_len : length (path ++ prefix) ≡ depth + node.header.prefix_len
      pub kids_are : node.children ≡ children_at kids
      pub subtree : IsSubtree bytes P at n path (inner_at n prefix kids)

    here : Here
    here =
        let i = inner-there P at s node stands.subtree.part.held (ap at stands.subtree.part.named ∙ there) in
        let is : s ≡ inner_at n i.prefix i.kids = i.is ∙ ap (λ m. inner_at m i.prefix i.kids) stands.subtree.part.named in
        record {
          prefix = i.prefix;
          kids = i.kids;
          is = is;
          front_len = omega (arith, length-append path i.prefix, stands.path_len, ap (λ (m : InnerNode). m.header.prefix_len) i.node_is);
          kids_are = ap (λ (m : InnerNode). m.children) i.node_is;
          subtree = subst (IsSubtree bytes P at n path) is stands.subtree;
        }

    after_prefix : drop (length here.prefix) (drop (length path) key) ≡ drop (depth + node.header.prefix_len) key
    after_prefix =
        let len : length path + length here.prefix ≡ depth + node.header.prefix_len = omega (arith, here.front_len, length-append path here.prefix) in
        drop-drop (length here.prefix) (length path) key ∙ ap (λ d. drop d key) len

    -- where the key goes no further, the path to a guide is that to the first leaf
    pub led-ends : GoesNoFurther key depth node → length (path_to_guide (erase s) (drop (length path) key)) ≡ length (end_path First (erase s))
    led-ends ends =
        ap (λ t. length (path_to_guide (erase t) (drop (length path) key))) here.is
        ∙ led_ends (erase (inner_at n here.prefix here.kids)) (path_in (erase_in here.kids) (drop (length here.prefix) (drop (length path) key))) (ap (path_in (erase_in here.kids)) after_prefix ∙ none ends)
        ∙ ap (λ t. length (end_path First (erase t))) (sym here.is)
      where
        b : ℕ
        b = get_or key (depth + node.header.prefix_len) 0

        no_more : length key ≤ depth + node.header.prefix_len → path_in (erase_in here.kids) (drop (depth + node.header.prefix_len) key) ≡ []
        no_more short = ap (path_in (erase_in here.kids)) (drop_of_length-le key short) ∙ path_in-ended bytes key here.kids

        none : GoesNoFurther key depth node → path_in (erase_in here.kids) (drop (depth + node.header.prefix_len) key) ≡ []
        none (inl short) = no_more short
        none (inr missing) = elim (leb_tells (length key) (depth + node.header.prefix_len)) [
          | inl short ↦ no_more short.1
          | inr more ↦
              ap (path_in (erase_in here.kids)) (dropped (depth + node.header.prefix_len) key (omega (arith, more.1)))
              ∙ path_in-missing bytes key here.kids b (drop (depth + node.header.prefix_len + 1) key) (avoid-missing bytes key b here.kids (ap (λ cs. child_at cs b) (sym here.kids_are) ∙ missing))
        ]

    -- where the key goes no further, any leaf below is a guide
    pub guide_ends : GoesNoFurther key depth node → (guide : List ℕ) → BeginsWith (path ++ prefix_of s) guide → IsGuide key guide path s
    guide_ends ends guide begins =
        let h = here in
        subst (IsGuide key guide path) (sym h.is) (subst (λ t. BeginsWith (path ++ prefix_of t) guide) h.is begins, none ends)
      where
        none : GoesNoFurther key depth node → GuidesBelow key guide (path ++ here.prefix) here.kids
        none (inl short) = guides_short key guide (path ++ here.prefix) here.kids (omega (arith, short, here.front_len))
        none (inr missing) =
            let b = get_or key (depth + node.header.prefix_len) 0 in
            guides_avoid key guide bytes (path ++ here.prefix) b here.kids (ap (λ i. get_or key i 0) here.front_len)
            (avoid-missing bytes key b here.kids (ap (λ cs. child_at cs b) (sym here.kids_are) ∙ missing))

    -- where it goes on, it goes on along the child
    pub along-child : (b : ℕ) (child : Name) (next : ℕ) → GoesOn key depth node b child next → IsAlong path s child next
    along-child b child next goes =
        let h = here in
        let front = path ++ h.prefix in
        let sp = split h.kids b child (ap (λ cs. child_at cs b) (sym h.kids_are) ∙ goes.child_is) in
        let a = around bytes front 0 sp.before b sp.here sp.after (subst (AreUnder bytes front 0) sp.kids_are h.subtree.under.1) in
        let below = subtree-branch bytes P at n path h.prefix h.kids sp.before b sp.here sp.after h.subtree sp.kids_are in
        let at_b : get_or key (length front) 0 ≡ b = ap (λ i. get_or key i 0) h.front_len ∙ goes.byte_is in
        record {
          below = front ++ b ∷ [];
          part = sp.here;
          stands = record {
            subtree = subst (λ m. IsSubtree bytes P at m (front ++ b ∷ []) sp.here) sp.named below.subtree;
            path_len = omega (arith, length-append front (b ∷ []), h.front_len, goes.next_is);
          };
          up = λ guide g.
              subst (IsGuide key guide path) (sym h.is) (
                begins_append front (b ∷ []) guide (guide_path key guide (front ++ b ∷ []) sp.here g),
                subst (GuidesBelow key guide front) (sym sp.kids_are)
                    (guides_up key guide bytes front sp.before b sp.here sp.after at_b (avoid-below bytes key b sp.before a.below) (avoid-above bytes key front b (b + 1) sp.after (omega arith) a.after_under) g),
              );
          within = λ longest short. within_branch bytes longest h.kids sp.before b sp.here sp.after sp.kids_are (subst (λ t. KeysWithin bytes longest (leaves t)) h.is short);
          passed = 1;
          led =
              let rest : drop (depth + node.header.prefix_len) key ≡ b ∷ drop next key =
              dropped (depth + node.header.prefix_len) key (omega (arith, goes.within, goes.next_is)) ∙ ap₂ (λ c n. c ∷ drop n key) goes.byte_is (sym goes.next_is) in
              let more =
              ap (λ t. length (path_to_guide (erase t) (drop (length path) key))) h.is
              ∙ led_more (erase (inner_at n h.prefix h.kids)) (erase sp.here) (drop next key) (path_in (erase_in h.kids) (drop (length h.prefix) (drop (length path) key)))
              (ap (path_in (erase_in h.kids)) after_prefix ∙ ap₂ (λ f k. path_in (erase_in f) k) sp.kids_are rest ∙ path_in-step bytes key sp.before b sp.here sp.after (drop next key) a.below) in
              omega (arith, more);
        }

    -- and where all its bytes lead on, so does its way by them
    pub record IsOnto (b : ℕ) (child : Name) (next : ℕ) : Type 0 where
      pub part : Shape K V
      pub stands_there : IsAtDepth bytes P at child next ((path ++ prefix_of s) ++ b ∷ []) part
      pub goes_on : way_of (erase s) (drop depth key) ≡ (erase s, drop depth key) ∷ way_of (erase part) (drop next key)

    pub way-child : (b : ℕ) (child : Name) (next : ℕ) → GoesOn key depth node b child next → BeginsWith ((path ++ prefix_of s) ++ b ∷ []) key → IsOnto b child next
    way-child b child next goes begins =
        let h = here in
        let front = path ++ h.prefix in
        let sp = split h.kids b child (ap (λ cs. child_at cs b) (sym h.kids_are) ∙ goes.child_is) in
        let a = around bytes front 0 sp.before b sp.here sp.after (subst (AreUnder bytes front 0) sp.kids_are h.subtree.under.1) in
        let below = subtree-branch bytes P at n path h.prefix h.kids sp.before b sp.here sp.after h.subtree sp.kids_are in
        let prefix_is : prefix_of s ≡ h.prefix = ap prefix_of h.is in
        let nb = next_byte path h.prefix key depth b stands.path_len (subst (λ p. BeginsWith ((path ++ p) ++ b ∷ []) key) prefix_is begins) in
        let rest : drop (depth + node.header.prefix_len) key ≡ b ∷ drop next key =
        dropped (depth + node.header.prefix_len) key (omega (arith, goes.within, goes.next_is)) ∙ ap₂ (λ c n. c ∷ drop n key) goes.byte_is (sym goes.next_is) in
        let len : depth + length h.prefix ≡ depth + node.header.prefix_len = omega (arith, h.front_len, length-append path h.prefix, stands.path_len) in
        let cut : b ∷ nb.0 ≡ b ∷ drop next key =
        sym (drop-front h.prefix (b ∷ nb.0)) ∙ ap (drop (length h.prefix)) (sym nb.1) ∙ drop-drop (length h.prefix) depth key ∙ ap (λ d. drop d key) len ∙ rest in
        let tail : nb.0 ≡ drop next key = cc in
        record {
          part = sp.here;
          stands_there = subst (λ p. IsAtDepth bytes P at child next ((path ++ p) ++ b ∷ []) sp.here) (sym prefix_is) (record {
            subtree = subst (λ m. IsSubtree bytes P at m (front ++ b ∷ []) sp.here) sp.named below.subtree;
            path_len = omega (arith, length-append front (b ∷ []), h.front_len, goes.next_is);
          });
          goes_on =
              subst (λ t. way_of (erase t) (drop depth key) ≡ (erase t, drop depth key) ∷ way_of (erase sp.here) (drop next key)) (sym h.is)
              (way-goes n h.prefix h.kids sp.before b sp.here sp.after (drop depth key) (drop next key) sp.kids_are a.below (nb.1 ∙ ap (λ r. h.prefix ++ b ∷ r) tail));
        }

    pub child_one : (b : ℕ) (child : Name) (next : ℕ) (goes : GoesOn key depth node b child next) → (along-child b child next goes).passed ≡ 1
    unfolding along-child
    child_one b child next goes = refl

  -- the way goes on
  pub along-goes : (path : List ℕ) (s : Shape K V) (current : Name) (used : ℕ) → IsAlong path s current used → (node : InnerNode) → at current ≡ Some (branches node)
      → (b : ℕ) (child : Name) (next : ℕ) → GoesOn key used node b child next → IsAlong path s child next
  along-goes path s current used along node there b child next goes =
      let more = along-child current used along.below along.part along.stands node there b child next goes in
      record {
        below = more.below;
        part = more.part;
        stands = more.stands;
        up = λ guide h. along.up guide (more.up guide h);
        within = λ longest short. more.within longest (along.within longest short);
        passed = along.passed + more.passed;
        led = omega (arith, along.led, ap (λ d. length (path_to_guide (erase along.part) (drop d key))) along.stands.path_len, more.led);
      }

  pub goes_more : (path : List ℕ) (s : Shape K V) (current : Name) (used : ℕ) (along : IsAlong path s current used) (node : InnerNode) (there : at current ≡ Some (branches node))
      (b : ℕ) (child : Name) (next : ℕ) (goes : GoesOn key used node b child next) → (along-goes path s current used along node there b child next goes).passed ≡ suc along.passed
  unfolding along-goes
  goes_more path s current used along node there b child next goes = omega (arith, child_one current used along.below along.part along.stands node there b child next goes)

  -- at a leaf it ends
  pub along-leaf : (path : List ℕ) (s : Shape K V) (current : Name) (used : ℕ) (along : IsAlong path s current used) (k : K) (v : V) → at current ≡ Some (pair k v) → length (path_to_guide (erase s) (drop (length path) key)) ≡ suc along.passed
  along-leaf path s current used along k v there =
      let is = leaf-there P at along.part k v along.stands.subtree.part.held (ap at along.stands.subtree.part.named ∙ there) in
      omega (arith, along.led, ap (λ t. length (path_to_guide (erase t) (drop used key))) is)

  -- what stands after so many bytes of the key under a name is one part
  pub guide_any : (n : Name) (depth : ℕ) (p q : List ℕ) (s t : Shape K V) → IsAtDepth bytes P at n depth p s → IsAtDepth bytes P at n depth q t → BeginsWith p key → BeginsWith q key → (guide : List ℕ) → IsGuide key guide p s → IsGuide key guide q t
  guide_any n depth p q s t a b on on_too guide h =
      let len : length p ≡ length q = a.path_len ∙ sym b.path_len in
      let paths = same_front p q key on on_too len in
      let shapes = same_shape bytes P at p q s t len a.subtree.under b.subtree.under a.subtree.part.held b.subtree.part.held (a.subtree.part.named ∙ sym b.subtree.part.named) in
      subst (λ x. IsGuide key guide x t) paths (subst (IsGuide key guide p) shapes h)

module _ {K V : Type 0} (bytes : K → List ℕ) (P : ℕ) (arena : Arena K V) (node : InnerNode) (root : Name) (depth : ℕ) (path : List ℕ) (s : Shape K V) (at : IsReadAt bytes P arena node root depth path s) (key : List ℕ) where
  -- from an inner node that was read the way goes on along a child
  pub read_along : (b : ℕ) (child : Name) (next : ℕ) → GoesOn key depth node b child next → IsAlong bytes P (node_at arena) key path s child next
  read_along b child next goes = along-child bytes P (node_at arena) key root depth path s at.stands node (ap cell_of at.held) b child next goes

  pub read_one : (b : ℕ) (child : Name) (next : ℕ) (goes : GoesOn key depth node b child next) → (read_along b child next goes).passed ≡ 1
  unfolding read_along
  read_one b child next goes = child_one bytes P (node_at arena) key root depth path s at.stands node (ap cell_of at.held) b child next goes

  -- or the path to a guide is that to the first leaf below
  pub read_led : GoesNoFurther key depth node → length (path_to_guide (erase s) (drop depth key)) ≡ length (end_path First (erase s))
  read_led ends =
      ap (λ d. length (path_to_guide (erase s) (drop d key))) (sym at.stands.path_len)
      ∙ led-ends bytes P (node_at arena) key root depth path s at.stands node (ap cell_of at.held) ends

  -- and the first leaf below is a guide
  pub read_ends : GoesNoFurther key depth node → (slot : ℕ) (leaf : LeafNode K V) → first_slot (leaves s) None ≡ Some slot → held_at arena (leaf_name slot) ≡ Some (leaf_held leaf) → IsGuide key (bytes leaf.key) path s
  read_ends ends slot leaf first held =
      let found = first_leaf bytes P arena root path s slot at.stands.subtree first in
      let same : found.leaf ≡ leaf = let e = found.there in cc in
      guide_ends bytes P (node_at arena) key root depth path s at.stands node (ap cell_of at.held) ends (bytes leaf.key) (subst (λ (l : LeafNode K V). BeginsWith (path ++ prefix_of s) (bytes l.key)) same found.begins)

  -- a guide begins with its whole prefix
  pub read_begins : (guide : List ℕ) → IsGuide key guide path s → BeginsWith (path ++ prefix_of s) guide
  read_begins guide h =
      let i = inner-there P (node_at arena) s node at.stands.subtree.part.held (ap (node_at arena) at.stands.subtree.part.named ∙ ap cell_of at.held) in
      guide_prefix key guide path s (name_of s) i.prefix i.kids i.is h

  -- a path to it has no more bytes than the longest key below it
  pub read_deep : (longest : ℕ) → KeysWithin bytes longest (leaves s) → depth ≤ longest
  read_deep longest short = subst (λ d. d ≤ longest) at.stands.path_len (deep_within bytes path s at.stands.subtree.under longest short)
