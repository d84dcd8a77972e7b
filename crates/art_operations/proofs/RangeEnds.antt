-- Where the leaves between two bounds begin and end: at the first one from the start on, and at the last one up to the
-- end, unless the first is past the end.
use Rattle.std.proofs.Common.{◌≡◌, ℕ, suc, filter, Bool, true, false, cond, not, List, [], ◌∷◌, Some, None, IsSome, refl, sym, ap, subst, ◌∙◌, inl, inr}
use Rattle.std.specs.List.{AllByRecursion}
use Rattle.std.specs.BTreeMap.Range.{is_from_start, is_past_end, range_contains}
use Rattle.std.specs.declared.ops.Bound.{Bound}
use Rattle.art_bytes.proofs.Common.{IsBefore, bytes_cmp}
use Rattle.art_nodes.proofs.Common.{Name}
use Rattle.art_nodes.specs.declared.leaf.LeafNode.{LeafNode}
use Rattle.art_arena.proofs.Common.{Arena, leaf_held, held_at, node_at, pair, leaf_name, leaf_where, passing, first_slot, last_slot, Shape, LeafAt, leaves, erase, items, items-erase, key_of, pairs_of, Stores, IsIn, AscendsByKey, leaves_are_held, holds_pair, all_at, all_weaker}
use Rattle.art_operations.proofs.Terms.{AreEndsWhere, bound_reads, end_reads}
use Rattle.art_operations.proofs.KeyedLists.{none-pass}
use Rattle.art_operations.proofs.LeafPairs.{pairs_ascend}
use Rattle.art_operations.proofs.WayParts.{passing-items}
use Rattle.art_operations.proofs.Stretches.{from_later, leaves_ascend, past_later}

module _ {K V : Type 0} where
  -- a list with a leaf ends with one
  some-last : (slot : ℕ) (ls : List (LeafAt K V)) → last_slot (Some slot) ls ≡ None → ⊥
  some-last slot [] e = cc
  some-last slot (l ∷ ls) e = some-last l.slot ls e

  -- what stands before the last leaf doesn't change which it is
  last-kept : (b : Bool) (l : LeafAt K V) (ls : List (LeafAt K V)) (slot : ℕ) (rs : List (LeafAt K V)) → last_slot None ls ≡ last_slot (Some slot) rs → last_slot None (cond b (l ∷ ls) ls) ≡ last_slot (Some slot) rs
  last-kept false l ls slot rs e = e
  last-kept true l [] slot rs e = absurd (some-last slot rs (sym e))
  last-kept true l (m ∷ ls) slot rs e = e

module _ {K V : Type 0} (bytes : K → List ℕ) (start end : Bound (List ℕ)) where
  abbrev UpTo : List (LeafAt K V) → List (LeafAt K V)
  UpTo ls = passing bytes (λ k. not (is_past_end bytes_cmp end k)) ls

  abbrev Between : List (LeafAt K V) → List (LeafAt K V)
  Between ls = passing bytes (λ k. range_contains bytes_cmp start end k) ls

  -- of leaves from the start on, those between the bounds are those up to the end
  all-from : (ls : List (LeafAt K V)) → AllByRecursion (λ (l : LeafAt K V). is_from_start bytes_cmp start (bytes l.key) ≡ true) ls → Between ls ≡ UpTo ls
  all-from [] h = refl
  all-from (l ∷ ls) h = rw h.0 (ap (λ xs. cond (not (is_past_end bytes_cmp end (bytes l.key))) (l ∷ xs) xs) (all-from ls h.1))

  -- none is from the start on, so none is between the bounds
  pub none-from : (ls : List (LeafAt K V)) → leaf_where bytes (λ k. is_from_start bytes_cmp start k) ls ≡ None → Between ls ≡ []
  none-from [] e = refl
  none-from (l ∷ ls) e = here (is_from_start bytes_cmp start (bytes l.key)) refl (none-from ls)
    where
      here : (b : Bool) → is_from_start bytes_cmp start (bytes l.key) ≡ b → (leaf_where bytes (λ k. is_from_start bytes_cmp start k) ls ≡ None → Between ls ≡ []) → Between (l ∷ ls) ≡ []
      here true t rest = let f = rw t at e in absurd (cc)
      here false t rest = rw t (rest (rw t at e))

  -- the first leaf from the start on, and what is after it
  pub record StartsAt (ls : List (LeafAt K V)) (slot : ℕ) : Type 0 where
    pub leaf : LeafAt K V
    pub others : List (LeafAt K V)
    pub is : leaf.slot ≡ slot
    pub among : IsIn leaf ls
    pub following : AllByRecursion (λ (r : LeafAt K V). IsBefore (bytes leaf.key) (bytes r.key)) others
    pub inside : Between ls ≡ UpTo (leaf ∷ others)
    pub from : (more : List (LeafAt K V)) × (passing bytes (λ k. is_from_start bytes_cmp start k) ls ≡ leaf ∷ more)
    pub last : is_past_end bytes_cmp end (bytes leaf.key) ≡ false → last_slot None (UpTo ls) ≡ last_slot (Some leaf.slot) (UpTo others)

  pub starts-at : (ls : List (LeafAt K V)) (slot : ℕ) → AscendsByKey (λ (l : LeafAt K V). bytes l.key) ls → leaf_where bytes (λ k. is_from_start bytes_cmp start k) ls ≡ Some slot → StartsAt ls slot
  starts-at [] slot up e = absurd (cc)
  starts-at (l ∷ ls) slot up e = here (is_from_start bytes_cmp start (bytes l.key)) refl (starts-at ls slot up.1)
    where
      here : (b : Bool) → is_from_start bytes_cmp start (bytes l.key) ≡ b → (leaf_where bytes (λ k. is_from_start bytes_cmp start k) ls ≡ Some slot → StartsAt ls slot) → StartsAt (l ∷ ls) slot
      here true t rest = record {
        leaf = l;
        others = ls;
        is = (let f = rw t at e in cc);
        among = inl refl;
        following = up.0;
        from = (passing bytes (λ k. is_from_start bytes_cmp start k) ls, rw t refl);
        inside = all-from (l ∷ ls) (t, all_weaker _ _ (λ r b. from_later start (bytes l.key) (bytes r.key) b t) ls up.0);
        last = λ off. rw off refl;
      }
      here false t rest =
          let later = rest (rw t at e) in
          record {
            leaf = later.leaf;
            others = later.others;
            is = later.is;
            among = inr later.among;
            following = later.following;
            inside = rw t later.inside;
            from = (later.from.0, rw t later.from.1);
            last = λ off. last-kept (not (is_past_end bytes_cmp end (bytes l.key))) l (UpTo ls) later.leaf.slot (UpTo later.others) (later.last off);
          }

  module _ (ls : List (LeafAt K V)) (slot : ℕ) (at : StartsAt ls slot) where
    -- where it is past the end, no leaf is between the bounds
    pub none-between : is_past_end bytes_cmp end (bytes at.leaf.key) ≡ true → Between ls ≡ []
    none-between past = at.inside ∙ none-pass (λ l. not (is_past_end bytes_cmp end (bytes l.key))) (at.leaf ∷ at.others) (ap not past, all_weaker _ _ (λ r b. ap not (past_later end (bytes at.leaf.key) (bytes r.key) b past)) at.others at.following)

    -- else they begin with it, and end with the last one up to the end
    pub ends-between : is_past_end bytes_cmp end (bytes at.leaf.key) ≡ false → (last : ℕ) → last_slot None (UpTo ls) ≡ Some last → AreEndsWhere bytes (λ k. range_contains bytes_cmp start end k) ls (Some (slot, last))
    ends-between off last e =
        let run : Between ls ≡ at.leaf ∷ UpTo at.others = at.inside ∙ first off in
        (ap (λ xs. first_slot xs None) run ∙ ap Some at.is, ap (last_slot None) run ∙ sym (at.last off) ∙ e)
      where
        first : is_past_end bytes_cmp end (bytes at.leaf.key) ≡ false → UpTo (at.leaf ∷ at.others) ≡ at.leaf ∷ UpTo at.others
        first off = rw off refl

    pub has-last : is_past_end bytes_cmp end (bytes at.leaf.key) ≡ false → last_slot None (UpTo ls) ≡ None → ⊥
    has-last off e = some-last at.leaf.slot (UpTo at.others) (sym (at.last off) ∙ e)

-- where the leaves are those of a tree in an arena
module _ {K V : Type 0} (bytes : K → List ℕ) (P : ℕ) (arena : Arena K V) (root : Name) (s : Shape K V) (stores : Stores bytes P arena root s) where
  pub tree_ascends : AscendsByKey (λ (l : LeafAt K V). bytes l.key) (leaves s)
  tree_ascends = leaves_ascend bytes (leaves s) (pairs_ascend bytes s stores.under)

  module _ (start end : Bound (List ℕ)) (slot : ℕ) (found : leaf_where bytes (λ k. is_from_start bytes_cmp start k) (leaves s) ≡ Some slot) where
    pub first-from : StartsAt bytes start end (leaves s) slot
    first-from = starts-at bytes start end (leaves s) slot tree_ascends found

    there : node_at arena (leaf_name slot) ≡ Some (pair first-from.leaf.key first-from.leaf.value)
    there = subst (λ n. node_at arena (leaf_name n) ≡ Some (pair first-from.leaf.key first-from.leaf.value)) first-from.is
        (all_at (λ (l : LeafAt K V). node_at arena (leaf_name l.slot) ≡ Some (pair l.key l.value)) first-from.leaf (leaves s) (leaves_are_held bytes P arena s stores.part.held) first-from.among)

    -- it is held, and its key is the one that is read
    pub first-held : IsSome (held_at arena (leaf_name slot))
    first-held = let h = holds_pair (held_at arena (leaf_name slot)) first-from.leaf.key first-from.leaf.value there in subst IsSome (sym h.is) refl

    pub key-read : (key : List ℕ) → ((l : LeafNode K V) → held_at arena (leaf_name slot) ≡ Some (leaf_held l) → key ≡ bytes l.key) → key ≡ bytes first-from.leaf.key
    key-read key told = let h = holds_pair (held_at arena (leaf_name slot)) first-from.leaf.key first-from.leaf.value there in told h.leaf h.is ∙ ap bytes h.key

-- what is read for the second end, by whether a leaf is from the start on, and by how its key meets the end
module _ {K V : Type 0} (bytes : K → List ℕ) (P : ℕ) (start end : Bound (List ℕ)) (s : Shape K V) where
  abbrev pub after_reads : ℕ
  after_reads = end_reads (key_of bytes) P (erase s) end (filter (λ x. is_from_start bytes_cmp start (key_of bytes x)) (items (erase s)))

  listed : (ls : List (LeafAt K V)) → passing bytes (λ k. is_from_start bytes_cmp start k) (leaves s) ≡ ls → after_reads ≡ end_reads (key_of bytes) P (erase s) end (pairs_of ls)
  listed ls is =
      ap (λ xs. end_reads (key_of bytes) P (erase s) end (filter (λ x. is_from_start bytes_cmp start (key_of bytes x)) xs)) (items-erase s)
      ∙ ap (end_reads (key_of bytes) P (erase s) end) (passing-items bytes (λ k. is_from_start bytes_cmp start k) (leaves s) ∙ ap pairs_of is)

  pub after-none : leaf_where bytes (λ k. is_from_start bytes_cmp start k) (leaves s) ≡ None → after_reads ≡ 0
  after-none none = listed [] (empty (passing bytes (λ k. is_from_start bytes_cmp start k) (leaves s)) none)
    where
      empty : (ls : List (LeafAt K V)) → first_slot ls None ≡ None → ls ≡ []
      empty [] e = refl
      empty (l ∷ ls) e = absurd (cc)

  module _ (slot : ℕ) (at : StartsAt bytes start end (leaves s) slot) where
    pub after-past : is_past_end bytes_cmp end (bytes at.leaf.key) ≡ true → after_reads ≡ 1
    after-past past = listed (at.leaf ∷ at.from.0) at.from.1 ∙ rw past refl

    pub after-found : is_past_end bytes_cmp end (bytes at.leaf.key) ≡ false → after_reads ≡ suc (bound_reads P false (erase s) end)
    after-found off = listed (at.leaf ∷ at.from.0) at.from.1 ∙ rw off refl
