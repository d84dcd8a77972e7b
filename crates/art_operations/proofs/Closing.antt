-- The last open node of a tree that is built is made: what the code reads of it, and what is then left.
use Rattle.std.proofs.Common.{◌≡◌, ℕ, ◌+◌, ◌-◌, ◌<◌, ◌≤◌, max, List, [], ◌∷◌, ◌++◌, length, take, drop, slice_index, refl, sym, ap, ap₂, subst, ◌∙◌, arith, append_assoc, length-append, zero-le}
use Rattle.art_nodes.proofs.Common.{IsAscending, Name}
use Rattle.art_arena.proofs.Common.{Arena, node_at, inner_held, Allocates, SameLeaves, Cell, Holds, AreBelow, LeafAt, children_at, leaves, cells, IsUnder, IsKindOf, length-children}
use Rattle.std.proofs.Math.Seq.{drop-append_seam, take-append_seam}
use Rattle.art_operations.proofs.Terms.{Open, Spine, Level, begin, begin_of, open_children, open_leaves, open_cells, inner_over, AreOpen, HasSpine}
use Rattle.art_operations.proofs.Spines.{IsTop, top-level, begin-after, begin-opened, begin-least, ascending-after, made, made-under, made-holds, made-leaves}

module _ {K V : Type 0} (bytes : K → List ℕ) (P : ℕ) (arena : Arena K V) (spine : Spine) (rest : List (Name × Cell K V)) (last low : ℕ) (root : Name) (key : List ℕ) (ls : List (LeafAt K V)) (has : HasSpine bytes P arena spine rest last low root key ls)
    (outer : List Open) (top : Open) (stack : spine.stack.items ≡ outer ++ top ∷ []) (deep : low < begin_of low spine.stack.items) where
  pub top-is : IsTop has.stands.levels outer top
  top-is = top-level has.stands.levels outer top (sym stack ∙ has.stands.stack_is)

  ways : AreOpen bytes key (top-is.level ∷ top-is.above)
  ways = subst (AreOpen bytes key) top-is.is has.stands.ways

  pub low-within : low ≤ top-is.level.depth
  low-within =
      let reached : low < max low top.child_depth = subst (λ n. low < n) (ap (begin_of low) stack ∙ begin-after low outer top) deep in
      let following = top-is.child_depth_is in
      omega (arith, reached, following)

  pub depth-is : top.child_depth - 1 ≡ top-is.level.depth
  depth-is = let following = top-is.child_depth_is in omega (arith, following)

  pub inside : top.child_depth - 1 < length key
  inside = subst (λ n. n < length key) (sym depth-is) ways.0.inside

  pub from-is : begin_of low outer ≡ begin low top-is.above
  from-is = ap (begin_of low) top-is.outer_is ∙ begin-opened low top-is.above

  pub from-before : begin_of low outer ≤ top.child_depth - 1
  from-before =
      let least = begin-least low top-is.level.depth top-is.above low-within ways.1 in
      subst (λ n. n ≤ top.child_depth - 1) (sym from-is) (subst (λ n. begin low top-is.above ≤ n) (sym depth-is) least)

  module _ (byte : ℕ) (byte_is : byte ≡ slice_index key (top.child_depth - 1)) (fits : byte < 256) where
    -- its children are the last ones
    abbrev pub own : List (ℕ × Name)
    own = children_at top-is.level.kids ++ (byte, root) ∷ []

    pub all-children : spine.children.items ++ (byte, root) ∷ [] ≡ open_children top-is.above ++ own
    all-children =
        ap (λ cs. cs ++ (byte, root) ∷ []) (has.stands.children_are ∙ ap open_children top-is.is)
        ∙ append_assoc (open_children top-is.above) (children_at top-is.level.kids) ((byte, root) ∷ [])

    pub own-children : drop top.first (spine.children.items ++ (byte, root) ∷ []) ≡ own
    own-children = ap₂ drop top-is.first_is all-children ∙ drop-append_seam (open_children top-is.above) own

    pub other-children : take top.first (spine.children.items ++ (byte, root) ∷ []) ≡ open_children top-is.above
    other-children = ap₂ take top-is.first_is all-children ∙ take-append_seam (open_children top-is.above) own

    -- how many they are, and how many others
    pub all-count : top.first + length own ≡ length spine.children.items + 1
    all-count =
        let first = top-is.first_is in
        let count = sym (ap length all-children) ∙ length-append spine.children.items ((byte, root) ∷ []) in
        let parts = length-append (open_children top-is.above) own in
        omega (arith, first, count, parts)

    pub left-count : {children : List (ℕ × Name)} → children ≡ take top.first (spine.children.items ++ (byte, root) ∷ []) → length children ≡ top.first
    left-count is = ap length is ∙ ap length other-children ∙ sym top-is.first_is

    at_depth : byte ≡ slice_index key top-is.level.depth
    at_depth = byte_is ∙ ap (slice_index key) depth-is

    pub own-ascending : IsAscending own
    own-ascending = ascending-after 0 byte root top-is.level.kids ways.0.ascending (subst (λ b. AreBelow b top-is.level.kids) (sym at_depth) ways.0.below) zero-le fits

    pub own-two : 2 ≤ length own
    own-two =
        let some = ways.0.has_kids in
        omega (arith, some, length-append (children_at top-is.level.kids) ((byte, root) ∷ []), length-children top-is.level.kids)

    -- the spine without it, whose part the new node is
    pub closed : (new : Arena K V) (now : Spine) (node : Name) → now.stack.items ≡ outer → now.children.items ≡ open_children top-is.above → IsKindOf node.kind (length own)
        → Allocates arena new node (inner_held (inner_over P (take (top.child_depth - 1 - begin_of low outer) (drop (begin_of low outer) key)) own)) → SameLeaves arena new → HasSpine bytes P new now rest last low node key ls
    closed new now node stack_now children_now kind allocates same =
        let level = top-is.level in
        let above = top-is.above in
        let part = has.stands.part in
        let own_is : own ≡ children_at level.kids ++ (slice_index key level.depth, root) ∷ [] = ap (λ b. children_at level.kids ++ (b, root) ∷ []) at_depth in
        let under : IsUnder bytes (take (begin low (level ∷ above)) key) part = subst (λ (ws : List (Level K V)). IsUnder bytes (take (begin low ws) key) part) top-is.is has.stands.under in
        let holds = subst (λ (ws : List (Level K V)). Holds (node_at arena) (open_cells P ws ++ (cells P part ++ rest))) top-is.is has.stands.holds in
        let leaves_are = ap (λ (ws : List (Level K V)). open_leaves ws ++ leaves part) (sym top-is.is) ∙ has.stands.leaves_are in
        let prefix_is : take (top.child_depth - 1 - begin_of low outer) (drop (begin_of low outer) key) ≡ take (level.depth - begin low above) (drop (begin low above) key) = ap₂ (λ d f. take (d - f) (drop f key)) depth-is from-is in
        let put = subst (λ cs. Allocates arena new node (inner_held (inner_over P (take (level.depth - begin low above) (drop (begin low above) key)) cs))) own_is
        (subst (λ q. Allocates arena new node (inner_held (inner_over P q own))) prefix_is allocates) in
        record {
          leaf = has.leaf;
          there = same last ∙ has.there;
          key_is = has.key_is;
          stands = record {
            levels = above;
            part = made bytes P arena new key low level above part root node ls has.stands.named low-within ways.0 ways.1;
            stack_is = stack_now ∙ top-is.outer_is;
            children_are = children_now;
            named = refl;
            holds = made-holds bytes P arena new key low level above part root node ls has.stands.named low-within ways.0 ways.1 rest holds put;
            ways = ways.2;
            under = made-under bytes P arena new key low level above part root node ls has.stands.named low-within ways.0 ways.1 under (subst (λ cs. IsKindOf node.kind (length cs)) own_is kind);
            leaves_are = made-leaves bytes P arena new key low level above part root node ls has.stands.named low-within ways.0 ways.1 leaves_are;
          };
        }
