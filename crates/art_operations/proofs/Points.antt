-- The way to the place of a new key, one node at a time, and where it ends.
use Rattle.std.proofs.Common.{◌≡◌, ◌≢◌, ℕ, ◌+◌, List, [], ◌∷◌, ◌++◌, length, drop, Option, Some, None, refl, sym, ap, ap₂, subst, ◌∙◌, inl, inr, append_assoc, append-nil}
use Rattle.std.proofs.lemmas.Bool.Decides.{eqb_tells}
use Rattle.art_bytes.proofs.Common.{BeginsWith, Conflict, IsProperFront, begins_step, begins_from_step, conflict_first, conflict_second}
use Rattle.art_nodes.proofs.Common.{InnerNode, child_at, Name}
use Rattle.art_nodes.specs.declared.kind.NodeType.TheVariants.{Leaf}
use Rattle.art_nodes.specs.declared.leaf.LeafNode.{LeafNode}
use Rattle.art_arena.proofs.Common.{IsIn, Cell, leaf_name, Arena, Held, leaf_held, inner_held, held_at, node_at, Shape, Branches, leaf_at, inner_at, no_branch, branch, children_at, leaves, leaves_in, IsUnder, AreUnder, path_to, IsAtDepth, IsSubtree, Step, all_append, all_weaker}
use Rattle.art_arena.proofs.Common.{begins_trans, one_byte, leaves-begin, OnWayTo, following, holds_pair, leaves_begin_prefix, some_leaf, subtree-leaf, subtree-inner, root_held}
use Rattle.art_arena.specs.arena.Descents.{Stops}
use Rattle.art_operations.proofs.Terms.{PartAt, Parted, AllConflict, HasConflict, NoConflict, IsEndAtInner, IsEndAtLeaf, IsSearchEnd}
use Rattle.art_operations.specs.declared.insert.point.SearchEnd.{SearchEnd}
use Rattle.art_operations.specs.declared.insert.point.SearchEnd.TheVariants as way

-- keys that go on after a front by different bytes are not in conflict
apart_free : (q k l : List ℕ) (a b : ℕ) → BeginsWith (q ++ a ∷ []) k → BeginsWith (q ++ b ∷ []) l → a ≢ b → Conflict k l → ⊥
apart_free q k l a b ka lb differs (n, inl kl) = differs (one_byte q a b l (begins_trans (q ++ a ∷ []) k l ka kl) lb)
apart_free q k l a b ka lb differs (n, inr lk) = differs (one_byte q a b k ka (begins_trans (q ++ b ∷ []) l k lb lk))

goes_on : (k x : List ℕ) (c : ℕ) (r l : List ℕ) → l ≡ k ++ (x ++ c ∷ r) → IsProperFront k l
goes_on k [] c r l e = (c, r, e)
goes_on k (y ∷ x) c r l e = (y, x ++ c ∷ r, e)

-- the front up to the byte in which a list parts from another
pub part_new : (path rest key old : List ℕ) (p : Parted) → key ≡ path ++ rest → (part : PartAt old rest p) → BeginsWith ((path ++ part.front) ++ p.new_byte ∷ []) key
part_new path rest key old p e part = begins_from_step (path ++ part.front) p.new_byte part.new_rest key (e ∙ ap (λ x. path ++ x) part.new_is ∙ sym (append_assoc path part.front (p.new_byte ∷ part.new_rest)))

pub part_old : (path rest old key more : List ℕ) (p : Parted) → key ≡ (path ++ old) ++ more → (part : PartAt old rest p) → BeginsWith ((path ++ part.front) ++ p.old_byte ∷ []) key
part_old path rest old key more p e part =
    begins_from_step (path ++ part.front) p.old_byte (part.old_rest ++ more) key
    (e ∙ ap (λ x. (path ++ x) ++ more) part.old_is ∙ simp append_assoc)

-- the name of a leaf, from its kind and its slot
pub leaf_named : (n : Name) (slot : ℕ) → n.kind ≡ Leaf → slot ≡ n.slot → n ≡ leaf_name slot
leaf_named n slot kind same = ap₂ (λ k m. record { kind = k; slot = m }) kind (sym same)

-- what was read of a leaf is its key
pub stored_is : {K V : Type 0} (bytes : K → List ℕ) {held : Option (Held K V)} {there found : LeafNode K V} {key : K} {stored : List ℕ} → held ≡ Some (leaf_held there) → held ≡ Some (leaf_held found) → key ≡ found.key → stored ≡ bytes key
    → stored ≡ bytes there.key
stored_is bytes {there} {found} is read key stored = let same : found ≡ there = cc in stored ∙ ap bytes (key ∙ ap (λ (l : LeafNode _ _). l.key) same)

module _ {K V : Type 0} (bytes : K → List ℕ) (P : ℕ) (arena : Arena K V) where
  -- the leaf that a search has come to
  pub record ReachedLeaf (slot : ℕ) (path : List ℕ) (s : Shape K V) : Type 0 where
    pub leaf : LeafNode K V
    pub value : V
    pub there : held_at arena (leaf_name slot) ≡ Some (leaf_held leaf)
    pub is : s ≡ leaf_at slot leaf.key value
    pub begins : BeginsWith path (bytes leaf.key)

  pub leaf_there : (slot : ℕ) (path : List ℕ) (s : Shape K V) → IsSubtree bytes P (node_at arena) (leaf_name slot) path s → ReachedLeaf slot path s
  leaf_there slot path s sub = at_leaf is.0 is.1 is.2
    where
      is : (k : K) × (v : V) × (s ≡ leaf_at slot k v)
      is = subtree-leaf bytes P (node_at arena) (leaf_name slot) path s sub refl

      at_leaf : (k : K) (v : V) → s ≡ leaf_at slot k v → ReachedLeaf slot path s
      at_leaf k v e =
          let here : IsSubtree bytes P (node_at arena) (leaf_name slot) path (leaf_at slot k v) = subst (IsSubtree bytes P (node_at arena) (leaf_name slot) path) e sub in
          let p = holds_pair (held_at arena (leaf_name slot)) k v here.part.held.0 in
          record { leaf = p.leaf; value = v; there = p.is; is = e ∙ ap (λ x. leaf_at slot x v) (sym p.key); begins = subst (λ x. BeginsWith path (bytes x)) (sym p.key) here.under }

  -- one whose name is known by its kind and its slot
  pub seen_leaf : (n : Name) (slot : ℕ) (path : List ℕ) (s : Shape K V) → n.kind ≡ Leaf → slot ≡ n.slot → IsSubtree bytes P (node_at arena) n path s → ReachedLeaf slot path s
  seen_leaf n slot path s kind same sub = leaf_there slot path s (subst (λ m. IsSubtree bytes P (node_at arena) m path s) (leaf_named n slot kind same) sub)

module _ {K V : Type 0} (bytes : K → List ℕ) (key path : List ℕ) (depth : ℕ) (len : length path ≡ depth) (begins : BeginsWith path key) where
  -- at a leaf

  module _ (slot : ℕ) (k : K) (v : V) (s : Shape K V) (is : s ≡ leaf_at slot k v) (leaf_begins : BeginsWith path (bytes k)) where
    in_conflict : Conflict key (bytes k) → AllConflict bytes key (leaves s)
    in_conflict c = subst (λ t. AllConflict bytes key (leaves t)) (sym is) (c, tt)

    not_in_conflict : (Conflict key (bytes k) → ⊥) → NoConflict bytes key (leaves s)
    not_in_conflict n = subst (λ t. NoConflict bytes key (leaves t)) (sym is) (n, tt)

    -- how the search ends there
    pub leaf_end : (w : SearchEnd) → IsEndAtLeaf (drop depth (bytes k)) (drop depth key) w → IsSearchEnd bytes key path s (leaf_name slot) w
    leaf_end way.Same e =
        let same : bytes k ≡ key = following path (bytes k) depth len leaf_begins ∙ ap (λ r. path ++ r) e ∙ sym (following path key depth len begins) in
        ((k, v, is, same), not_in_conflict (λ c. c.0 (sym same)))
    leaf_end (way.PartsFromLeaf p) part = (
      (k, v, is, subst (λ d. PartAt (drop d (bytes k)) (drop d key) p) (sym len) part),
      not_in_conflict (apart_free (path ++ part.front) key (bytes k) p.new_byte p.old_byte
          (part_new path (drop depth key) key (drop depth (bytes k)) p (following path key depth len begins) part)
          (part_old path (drop depth key) (drop depth (bytes k)) (bytes k) [] p (following path (bytes k) depth len leaf_begins ∙ sym (append-nil (path ++ drop depth (bytes k)))) part)
          (λ e. part.differs (sym e))),
    )
    leaf_end way.Conflict (inl (b, r, e)) =
        in_conflict (conflict_second key (bytes k) (b, r, following path key depth len begins ∙ ap (λ x. path ++ x) e ∙ sym (append_assoc path (drop depth (bytes k)) (b ∷ r)) ∙ ap (λ x. x ++ b ∷ r) (sym (following path (bytes k) depth len leaf_begins))))
    leaf_end way.Conflict (inr (b, r, e)) =
        in_conflict (conflict_first key (bytes k) (b, r, following path (bytes k) depth len leaf_begins ∙ ap (λ x. path ++ x) e ∙ sym (append_assoc path (drop depth key) (b ∷ r)) ∙ ap (λ x. x ++ b ∷ r) (sym (following path key depth len begins))))
    leaf_end (way.PartsFromPrefix p) h = absurd h
    leaf_end (way.NoChild b) h = absurd h

  -- at an inner node

  module _ (n : Name) (prefix : List ℕ) (kids : Branches K V) (under : IsUnder bytes path (inner_at n prefix kids)) where
    -- the key ends within the prefix, or with it
    inner_ends : BeginsWith (drop depth key) prefix → AllConflict bytes key (leaves_in kids)
    inner_ends (x, e) = each 0 kids under.1
      where
        longer : (c : ℕ) (k : List ℕ) → BeginsWith ((path ++ prefix) ++ c ∷ []) k → Conflict key k
        longer c k st =
            let s = begins_step (path ++ prefix) c k st in
            let parts : (path ++ (drop depth key ++ x)) ++ c ∷ s.0 ≡ path ++ (drop depth key ++ (x ++ c ∷ s.0)) = simp append_assoc in
            let spelled : k ≡ key ++ (x ++ c ∷ s.0) =
            s.1 ∙ ap (λ y. (path ++ y) ++ c ∷ s.0) e ∙ parts ∙ sym (append_assoc path (drop depth key) (x ++ c ∷ s.0)) ∙ ap (λ y. y ++ (x ++ c ∷ s.0)) (sym (following path key depth len begins)) in
            conflict_first key k (goes_on key x c s.0 k spelled)

        each : (low : ℕ) (f : Branches K V) → AreUnder bytes (path ++ prefix) low f → AllConflict bytes key (leaves_in f)
        each low no_branch h = tt
        each low (branch c t rest) h =
            all_append _ (leaves t) (leaves_in rest)
            (all_weaker _ _ (λ l st. longer c (bytes l.key) st) (leaves t) (leaves-begin bytes ((path ++ prefix) ++ c ∷ []) t h.1))
            (each (c + 1) rest h.2)

    -- the key has another byte within the prefix
    inner_parts : (p : Parted) → PartAt prefix (drop depth key) p → PartAt prefix (drop (length path) key) p × NoConflict bytes key (leaves_in kids)
    inner_parts p part = (
      subst (λ d. PartAt prefix (drop d key) p) (sym len) part,
      all_weaker _ _ (λ l st. apart_free (path ++ part.front) key (bytes l.key) p.new_byte p.old_byte
          (part_new path (drop depth key) key prefix p (following path key depth len begins) part)
          (part_old path (drop depth key) prefix (bytes l.key) st.0 p st.1 part)
          (λ e. part.differs (sym e))) (leaves_in kids) (leaves_begin_prefix bytes path (inner_at n prefix kids) under),
    )

    -- no child has its next byte
    inner_missing : (b : ℕ) → BeginsWith ((path ++ prefix) ++ b ∷ []) key → child_at (children_at kids) b ≡ None → NoConflict bytes key (leaves_in kids)
    inner_missing b on none = each 0 kids under.1 none
      where
        each : (low : ℕ) (f : Branches K V) → AreUnder bytes (path ++ prefix) low f → child_at (children_at f) b ≡ None → NoConflict bytes key (leaves_in f)
        each low no_branch h e = tt
        each low (branch c t rest) h e = elim (eqb_tells c b) [
          | inl same ↦ absurd (let f = rw same.0 at e in cc)
          | inr other ↦
              all_append _ (leaves t) (leaves_in rest)
              (all_weaker _ _ (λ l st. apart_free (path ++ prefix) key (bytes l.key) b c on st (λ same. other.1 (sym same))) (leaves t) (leaves-begin bytes ((path ++ prefix) ++ c ∷ []) t h.1))
              (each (c + 1) rest h.2 (rw other.0 at e))
        ]

    -- how the search ends there, from where the key goes no further
    pub inner_end : (s : Shape K V) → s ≡ inner_at n prefix kids → Stops bytes key path s → (w : SearchEnd) → IsEndAtInner prefix (drop depth key) w → IsSearchEnd bytes key path s n w
    inner_end s is stops way.Conflict ends = subst (λ t. AllConflict bytes key (leaves t)) (sym is) (inner_ends ends)
    inner_end s is stops (way.PartsFromPrefix p) part = let r = inner_parts p part in ((prefix, kids, is, r.0), subst (λ t. NoConflict bytes key (leaves t)) (sym is) r.1)
    inner_end s is stops (way.NoChild b) (r, e) =
        let on = begins_from_step (path ++ prefix) b r key (following path key depth len begins ∙ ap (λ x. path ++ x) e ∙ sym (append_assoc path prefix (b ∷ r))) in
        let missing = stops n prefix kids is b on in
        ((prefix, kids, is, missing, on), subst (λ t. NoConflict bytes key (leaves t)) (sym is) (inner_missing b on missing))
    inner_end s is stops way.Same h = absurd h
    inner_end s is stops (way.PartsFromLeaf p) h = absurd h

-- where all leaves below are in conflict with the key, one is
pub some_conflict : {K V : Type 0} (bytes : K → List ℕ) (key path : List ℕ) (s : Shape K V) → IsUnder bytes path s → AllConflict bytes key (leaves s) → HasConflict bytes key (leaves s)
some_conflict bytes key path s under all =
    let l = some_leaf bytes path s under in
    (l.0, subst (IsIn l.0) (sym l.2) (inl refl), (subst (AllConflict bytes key) l.2 all).0)

module _ {K V : Type 0} (bytes : K → List ℕ) (P : ℕ) (arena : Arena K V) where
  -- the inner node that a search has come to
  pub record InnerAt (n : Name) (path : List ℕ) (s : Shape K V) : Type 0 where
    pub prefix : List ℕ
    pub kids : Branches K V
    pub is : s ≡ inner_at n prefix kids
    pub under : IsUnder bytes path (inner_at n prefix kids)
    pub node : InnerNode
    pub there : held_at arena n ≡ Some (inner_held node)
    pub children : node.children ≡ children_at kids

  pub inner_there : (n : Name) (path : List ℕ) (s : Shape K V) → IsSubtree bytes P (node_at arena) n path s → n.kind ≢ Leaf → InnerAt n path s
  inner_there n path s sub other =
      let i = subtree-inner bytes P (node_at arena) n path s sub other in
      let here = subst (IsSubtree bytes P (node_at arena) n path) i.2 sub in
      record {
        prefix = i.0;
        kids = i.1;
        is = i.2;
        under = here.under;
        node = _;
        there = root_held bytes P arena n path i.0 i.1 here;
        children = refl;
      }

-- a part on the way stands after so many bytes
pub way_at_depth : {K V : Type 0} (bytes : K → List ℕ) (P : ℕ) (at : Name → Option (Cell K V)) (key : List ℕ) (s : Shape K V) (current : Name) (last : List Step) (depth : ℕ) (way : OnWayTo bytes P at key s current last depth)
    → IsAtDepth bytes P at current depth (path_to way.ctx) way.part
way_at_depth bytes P at key s current last depth way = record { subtree = way.subtree; path_len = way.toward.depth_is }
