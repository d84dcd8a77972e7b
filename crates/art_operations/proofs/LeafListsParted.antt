-- A list of leaves in two parts, where a cursor stands: what an edit of the links at its place leaves.
use Rattle.std.proofs.Common.{◌≡◌, ◌≢◌, ℕ, ◌+◌, ◌≤◌, List, [], ◌∷◌, ◌++◌, Option, None, Some, IsSome, refl, sym, ap, subst, ◌∙◌, inl, inr, arith, append_assoc}
use Rattle.std.proofs.lemmas.Bool.Decides.{eqb_tells}
use Rattle.art_nodes.proofs.Common.{Name}
use Rattle.art_nodes.specs.declared.leaf.LeafNode.{LeafNode}
use Rattle.art_arena.proofs.Common.{Arena, Held, leaf_held, held_at, node_at, links_at, cell_of, links_of, Allocates, SameCells, WritesLinks, Cell, pair, leaf_name, UpdatesAt, Holds, Links, AreHalves, IsList, first_slot, last_slot, times, LeafAt, Holds-add, Holds-remove, Holds-same}
use Rattle.art_arena.proofs.Common.{Holds-write, copies-vacant, AreLinked-join, AreLinked-left, AreLinked-right, AreLinked-same, around_leaf, empty-first, eqb-self, end_there, ends_with-first, first-apart, first_slot-append, halves-apart, halves-end, halves-no_end, halves-start, joined}
use Rattle.art_arena.proofs.Common.{last-apart, last_slot-append, link_there, linked_in, parted, some_of, start_there, times-append, cell_held, nodes-update, links-update, all_right}
use Rattle.art_operations.proofs.Terms.{leaf_cells, HasInserted, HasRemoved, StandsBetween, LeafCursor, HasReplaced, StandsParted}
use Rattle.art_operations.specs.LeafLists.{HoldsLeaves}
use Rattle.art_operations.proofs.NodesRead.{links-are}
use Rattle.art_operations.proofs.FreedParts.{cells-parts}
use Rattle.art_operations.proofs.FreedRuns.{times-copies}
pub use Rattle.art_operations.proofs.FreedSizes.{at_most_one}

module _ {K V : Type 0} where
  -- no leaf stands twice in a list that an arena holds
  pub leaves-list : (arena : Arena K V) (ls : List (LeafAt K V)) → HoldsLeaves arena ls → IsList (links_at arena) ls
  leaves-list arena ls held = record {
    linked = held.linked;
    once = λ n. at_most_one (node_at arena (leaf_name n)) _ (times-copies n ls ∙ held.holds.once (leaf_name n));
  }

  -- the cursor stands between two parts, each of which leads to the other
  pub stands-parted : (arena : Arena K V) (cursor : LeafCursor) (front back : List (LeafAt K V)) → StandsBetween arena cursor front back → StandsParted arena cursor front (first_slot back None) (last_slot None front) back
  stands-parted arena cursor front back stands =
      let list = leaves-list arena (front ++ back) stands.leaves in
      record {
        halves = parted (links_at arena) front back list.linked list.once;
        first = sym (first_slot-append front back None) ∙ stands.first;
        before = stands.before;
        after = stands.after;
      }

  -- the leaves beside the cursor are held
  module _ (arena : Arena K V) (cursor : LeafCursor) (front : List (LeafAt K V)) (next previous : Option ℕ) (back : List (LeafAt K V)) (is : StandsParted arena cursor front next previous back) (leaf : ℕ) where
    pub end-there : cursor.before ≡ Some leaf → (was : Links) × (links_at arena leaf ≡ Some was)
    end-there at = some_of (links_at arena leaf) (end_there (links_at arena) front leaf next (is.before ∙ at) is.halves.left)

    pub start-there : cursor.after ≡ Some leaf → (was : Links) × (links_at arena leaf ≡ Some was)
    start-there at = some_of (links_at arena leaf) (start_there (links_at arena) previous back leaf (is.after ∙ at) is.halves.right)

  -- the end of the first part is led to another leaf, or the start of the second is led back to another
  module _ (old new : Arena K V) (cursor : LeafCursor) (front : List (LeafAt K V)) (next previous : Option ℕ) (back : List (LeafAt K V)) (now : Option ℕ) (is : StandsParted old cursor front next previous back) (leaf : ℕ) where
    pub led-to : cursor.before ≡ Some leaf → ((was : Links) → links_at old leaf ≡ Some was → WritesLinks old new leaf (record was { next = now })) → StandsParted new cursor front now previous back
    led-to at writes = record {
      halves = halves-end (links_at old) (links_at new) front next previous back leaf now is.halves (is.before ∙ at) (λ was there. (writes was there).links);
      first = same front (is.before ∙ at) ∙ is.first;
      before = is.before;
      after = is.after;
    }
      where
        same : (xs : List (LeafAt K V)) → last_slot None xs ≡ Some leaf → first_slot xs now ≡ first_slot xs next
        same [] e = absurd (cc)
        same (x ∷ xs) e = refl

    pub led-back : cursor.after ≡ Some leaf → ((was : Links) → links_at old leaf ≡ Some was → WritesLinks old new leaf (record was { previous = now })) → StandsParted new cursor front next now back
    led-back at writes = record {
      halves = halves-start (links_at old) (links_at new) front next previous back leaf now is.halves (is.after ∙ at) (λ was there. (writes was there).links);
      first = is.first;
      before = is.before;
      after = is.after;
    }

  -- where the first part is empty, the list begins with that leaf
  pub led-none : (arena : Arena K V) (cursor : LeafCursor) (front : List (LeafAt K V)) (next previous : Option ℕ) (back : List (LeafAt K V)) (now : Option ℕ) → cursor.before ≡ None → StandsParted arena cursor front next previous back
      → StandsParted arena (record { first = now; before = cursor.before; after = cursor.after }) front now previous back
  led-none arena cursor front next previous back now at is = record {
    halves = halves-no_end (links_at arena) front next previous now back is.halves (is.before ∙ at);
    first = ap (λ xs. first_slot xs now) (empty-first front (is.before ∙ at));
    before = is.before;
    after = is.after;
  }

  -- a leaf that was stored with links to those beside the cursor
  module _ (old stored : Arena K V) (cursor : LeafCursor) (slot : ℕ) (key : K) (value : V) (allocates : Allocates old stored (leaf_name slot) (leaf_held (record { key = key; value = value; previous = cursor.before; next = cursor.after })))
      (front back : List (LeafAt K V)) (stands : StandsBetween old cursor front back) where
    abbrev new_leaf : LeafAt K V
    new_leaf = record { slot = slot; key = key; value = value }

    -- it is in neither part
    none-yet : times slot front + times slot back ≡ 0
    none-yet = sym (times-append slot front back) ∙ times-copies slot (front ++ back) ∙ copies-vacant (node_at old) (leaf_cells (front ++ back)) (leaf_name slot) stands.leaves.holds (ap cell_of allocates.vacant)

    pub stored-parted : StandsParted stored cursor front (first_slot back None) (last_slot None front) back
    stored-parted =
        let is = stands-parted old cursor front back stands in
        record {
          halves = halves-apart (links_at old) (links_at stored) slot _ front (first_slot back None) (last_slot None front) back (links-update old stored slot _ allocates.updates) none-yet is.halves;
          first = is.first;
          before = is.before;
          after = is.after;
        }

    -- both parts lead to it now
    pub inserted : (led linked : Arena K V) (now : LeafCursor) → SameCells stored led → SameCells led linked → StandsParted linked now front (Some slot) (Some slot) back
        → ((n : ℕ) → cursor.before ≢ Some n → links_at led n ≡ links_at stored n) → ((n : ℕ) → now.after ≢ Some n → links_at linked n ≡ links_at led n)
        → HasInserted linked (record { first = now.first; before = Some slot; after = now.after }) key value front back
    inserted led linked now cells more is others rest =
        let apart = none-yet in
        let here : links_at linked slot ≡ Some (record { previous = last_slot None front; next = first_slot back None }) =
        rest slot (λ e. first-apart back slot (omega (arith, apart)) (is.after ∙ e)) ∙ others slot (λ e. last-apart front slot (omega (arith, apart)) (stands.before ∙ e))
        ∙ (links-update old stored slot _ allocates.updates).changed ∙ ap (λ p. Some (record { previous = p; next = cursor.after })) (sym stands.before) ∙ ap (λ n. Some (record { previous = last_slot None front; next = n })) (sym stands.after) in
        let list = linked_in (links_at linked) front back new_leaf slot refl is.halves here in
        let nodes = nodes-update old stored (leaf_name slot) _ allocates.updates in
        let held = Holds-add (node_at old) (node_at stored) (leaf_name slot) (pair key value) (leaf_cells front) (leaf_cells back) nodes (ap cell_of allocates.vacant) (subst (Holds (node_at old)) (cells-parts front back) stands.leaves.holds) in
        let whole : front ++ new_leaf ∷ back ≡ (front ++ new_leaf ∷ []) ++ back = sym (append_assoc front (new_leaf ∷ []) back) in (
          slot,
          record {
            leaves = subst (HoldsLeaves linked) whole (record {
              holds = subst (Holds (node_at linked)) (sym (cells-parts front (new_leaf ∷ back))) (Holds-same (node_at stored) (node_at linked) (λ n. more n ∙ cells n) _ held);
              linked = list;
            });
            first = ap (λ xs. first_slot xs None) (sym whole) ∙ first_slot-append front (new_leaf ∷ back) None ∙ is.first;
            before = last_slot-append None front (new_leaf ∷ []);
            after = is.after;
          },
        )

  -- the pair of a leaf that is held
  pub pair-is : (o : Option (Held K V)) (leaf : LeafNode K V) (k : K) (v : V) → o ≡ Some (leaf_held leaf) → cell_of o ≡ Some (pair k v) → ◌≡◌ {A = K × V} (k, v) (leaf.key, leaf.value)
  pair-is o leaf k v is e =
      let f : ◌≡◌ {A = Option (Cell K V)} (Some (pair k v)) (Some (pair leaf.key leaf.value)) = sym e ∙ ap cell_of is in
      cc

  -- where there is none before the cursor, none is removed
  pub none-removed : (arena : Arena K V) (cursor : LeafCursor) (front back : List (LeafAt K V)) → cursor.before ≡ None → StandsBetween arena cursor front back → HasRemoved arena cursor None front back
  none-removed arena cursor front back at stands = (empty-first front (stands.before ∙ at), stands)

  -- the last leaf of the first part
  pub record EndsWith (front : List (LeafAt K V)) (slot : ℕ) (key : K) (value : V) : Type 0 where
    pub rest : List (LeafAt K V)
    pub is : front ≡ rest ++ record { slot = slot; key = key; value = value } ∷ []

  -- is taken out of the arena
  module _ (old gone : Arena K V) (cursor : LeafCursor) (slot : ℕ) (at : cursor.before ≡ Some slot) (leaf : LeafNode K V) (held : held_at old (leaf_name slot) ≡ Some (leaf_held leaf)) (updates : UpdatesAt (held_at old) (held_at gone) (leaf_name slot) None)
      (previous : Option ℕ) (previous_is : previous ≡ leaf.previous) (front back : List (LeafAt K V)) (stands : StandsBetween old cursor front back) where
    abbrev was_leaf : LeafAt K V
    was_leaf = record { slot = slot; key = leaf.key; value = leaf.value }

    pub ends : EndsWith front slot leaf.key leaf.value
    ends =
        let e = ends_with-first front slot (stands.before ∙ at) in
        let whole : front ++ back ≡ e.0 ++ e.1 ∷ back = ap (λ xs. xs ++ back) e.2 ∙ append_assoc e.0 (e.1 ∷ []) back in
        let held_there = subst (λ xs. Holds (node_at old) xs) (ap leaf_cells whole ∙ cells-parts e.0 (e.1 ∷ back)) stands.leaves.holds in
        let cell = (all_right (λ (c : Name × Cell K V). node_at old c.0 ≡ Some c.1) (leaf_cells e.0) (leaf_cells (e.1 ∷ back)) held_there.held).0 in
        let pair_is = pair-is (held_at old (leaf_name slot)) leaf e.1.key e.1.value held (ap (λ n. node_at old (leaf_name n)) (sym e.3) ∙ cell) in
        record {
          rest = e.0;
          is = e.2 ∙ ap (λ (l : LeafAt K V). e.0 ++ l ∷ []) (ap (λ n. record { slot = n; key = e.1.key; value = e.1.value }) e.3 ∙ ap (λ (p : K × V). record { slot = slot; key = p.0; value = p.1 }) pair_is);
        }

    whole_is : front ++ back ≡ ends.rest ++ was_leaf ∷ back
    whole_is = ap (λ xs. xs ++ back) ends.is ∙ append_assoc ends.rest (was_leaf ∷ []) back

    list_is : IsList (links_at old) (ends.rest ++ was_leaf ∷ back)
    list_is = subst (IsList (links_at old)) whole_is (leaves-list old (front ++ back) stands.leaves)

    links_is : ◌≡◌ {A = Links} (record { previous = last_slot None ends.rest; next = first_slot back None }) (record { previous = leaf.previous; next = leaf.next })
    links_is = links-are (held_at old (leaf_name slot)) leaf _ held (link_there (links_at old) ends.rest was_leaf back slot list_is.linked refl)

    pub removed-parted : StandsParted gone (record { first = cursor.first; before = previous; after = cursor.after }) ends.rest (Some slot) (Some slot) back
    removed-parted =
        let parts = around_leaf (links_at old) ends.rest was_leaf back list_is in
        let one = list_is.once slot in
        let counted = times-append slot ends.rest (was_leaf ∷ back) in
        record {
          halves = halves-apart (links_at old) (links_at gone) slot _ ends.rest (Some slot) (Some slot) back (links-update old gone slot _ updates) (apart one counted) parts;
          first = sym (first_slot-append ends.rest (was_leaf ∷ back) None) ∙ ap (λ xs. first_slot xs None) (sym whole_is) ∙ stands.first;
          before = ap (λ (l : Links). l.previous) links_is ∙ sym previous_is;
          after = stands.after;
        }
      where
        apart : times slot (ends.rest ++ was_leaf ∷ back) ≤ 1 → times slot (ends.rest ++ was_leaf ∷ back) ≡ times slot ends.rest + times slot (was_leaf ∷ back) → times slot ends.rest + times slot back ≡ 0
        apart one counted = let here : times slot (was_leaf ∷ back) ≡ 1 + times slot back = rw eqb-self refl in omega (arith, one, counted, here)

    -- the leaves beside it lead to each other now
    pub removed : (led linked : Arena K V) (now : LeafCursor) → SameCells gone led → SameCells led linked → StandsParted linked now ends.rest cursor.after previous back → HasRemoved linked now (Some (leaf.key, leaf.value)) front back
    removed led linked now cells more is =
        let halves = subst (λ n. AreHalves (links_at linked) ends.rest n previous back) (sym stands.after) is.halves in
        let both = subst (λ p. AreHalves (links_at linked) ends.rest (first_slot back None) p back) (previous_is ∙ sym (ap (λ (l : Links). l.previous) links_is)) halves in
        let nodes = nodes-update old gone (leaf_name slot) _ updates in
        let held_then = subst (Holds (node_at old)) (ap leaf_cells whole_is ∙ cells-parts ends.rest (was_leaf ∷ back)) stands.leaves.holds in
        let held_now = Holds-remove (node_at old) (node_at gone) (leaf_name slot) (pair leaf.key leaf.value) (leaf_cells ends.rest) (leaf_cells back) nodes held_then in (
          ends.rest,
          slot,
          ends.is,
          record {
            leaves = record {
              holds = subst (Holds (node_at linked)) (sym (cells-parts ends.rest back)) (Holds-same (node_at gone) (node_at linked) (λ n. more n ∙ cells n) _ held_now);
              linked = joined (links_at linked) ends.rest back both;
            };
            first = first_slot-append ends.rest back None ∙ ap (first_slot ends.rest) stands.after ∙ is.first;
            before = is.before;
            after = is.after;
          },
        )

  -- where a cursor stands when it has stepped over this leaf
  abbrev pub beyond : LeafCursor → ℕ → LeafNode K V → LeafCursor
  beyond cursor slot leaf = record { first = cursor.first; before = Some slot; after = leaf.next }

  -- it steps over the leaf after it
  module _ (arena : Arena K V) (cursor : LeafCursor) (slot : ℕ) (at : cursor.after ≡ Some slot) (leaf : LeafNode K V) (held : held_at arena (leaf_name slot) ≡ Some (leaf_held leaf)) (front : List (LeafAt K V)) where
    -- which is the first of those after it
    pub record IsFirstOf (back : List (LeafAt K V)) : Type 0 where
      pub rest : List (LeafAt K V)
      pub is : back ≡ record { slot = slot; key = leaf.key; value = leaf.value } ∷ rest
      pub stands : StandsBetween arena (beyond cursor slot leaf) (front ++ record { slot = slot; key = leaf.key; value = leaf.value } ∷ []) rest

    pub first-of : (back : List (LeafAt K V)) → StandsBetween arena cursor front back → IsFirstOf back
    first-of [] stands = absurd (let e = stands.after ∙ at in cc)
    first-of (l ∷ rest) stands =
        let e = stands.after ∙ at in
        let same : l.slot ≡ slot = cc in
        let was = subst (Holds (node_at arena)) (cells-parts front (l ∷ rest)) stands.leaves.holds in
        let cell = (all_right (λ (c : Name × Cell K V). node_at arena c.0 ≡ Some c.1) (leaf_cells front) (leaf_cells (l ∷ rest)) was.held).0 in
        let pair_is = pair-is (held_at arena (leaf_name slot)) leaf l.key l.value held (ap (λ n. node_at arena (leaf_name n)) (sym same) ∙ cell) in
        let m : LeafAt K V = record { slot = slot; key = leaf.key; value = leaf.value } in
        let is_leaf : l ≡ m = ap (λ n. record { slot = n; key = l.key; value = l.value }) same ∙ ap (λ (p : K × V). record { slot = slot; key = p.0; value = p.1 }) pair_is in
        let whole : front ++ l ∷ rest ≡ (front ++ m ∷ []) ++ rest = ap (λ (x : LeafAt K V). front ++ x ∷ rest) is_leaf ∙ sym (append_assoc front (m ∷ []) rest) in
        let there = link_there (links_at arena) front l rest slot (leaves-list arena (front ++ l ∷ rest) stands.leaves).linked same in
        record {
          rest = rest;
          is = ap (λ (x : LeafAt K V). x ∷ rest) is_leaf;
          stands = record {
            leaves = subst (HoldsLeaves arena) whole stands.leaves;
            first = ap (λ xs. first_slot xs None) (sym whole) ∙ stands.first;
            before = last_slot-append None front (m ∷ []);
            after = ap (λ (n : Links). n.next) (links-are (held_at arena (leaf_name slot)) leaf _ held there);
          };
        }

  -- a leaf that is made of a pair and two links
  pub leaf-made : (made : LeafNode K V) (key : K) (value : V) (previous next after : Option ℕ) → made.key ≡ key → made.value ≡ value → next ≡ after
      → ◌≡◌ {A = LeafNode K V} (record { previous = previous; next = next; key = made.key; value = made.value }) (record { previous = previous; next = after; key = key; value = value })
  leaf-made made key value previous next after is_key is_value is_next = rw (is_key, is_value, is_next) refl

  -- that leaf gets another pair
  module _ (old new : Arena K V) (cursor : LeafCursor) (slot : ℕ) (at : cursor.after ≡ Some slot) (leaf : LeafNode K V) (held : held_at old (leaf_name slot) ≡ Some (leaf_held leaf)) (key : K) (value : V)
      (updates : UpdatesAt (held_at old) (held_at new) (leaf_name slot) (Some (leaf_held (record { key = key; value = value; previous = cursor.before; next = leaf.next })))) (front back : List (LeafAt K V)) (stands : StandsBetween old cursor front back) where
    abbrev of : IsFirstOf old cursor slot at leaf held front back
    of = first-of old cursor slot at leaf held front back stands

    abbrev had_leaf : LeafAt K V
    had_leaf = record { slot = slot; key = leaf.key; value = leaf.value }

    abbrev now_leaf : LeafAt K V
    now_leaf = record { slot = slot; key = key; value = value }

    was : HoldsLeaves old (front ++ had_leaf ∷ of.rest)
    was = subst (HoldsLeaves old) (append_assoc front (had_leaf ∷ []) of.rest) of.stands.leaves

    same_links : (n : ℕ) → links_at new n ≡ links_at old n
    same_links n =
        let write = links-update old new slot _ updates in
        let is = links-are (held_at old (leaf_name slot)) leaf _ held (link_there (links_at old) front had_leaf of.rest slot was.linked refl) in
        let here : links_at new slot ≡ links_at old slot = write.changed ∙ ap (λ p. Some (record { previous = p; next = leaf.next })) (sym stands.before ∙ ap (λ (l : Links). l.previous) is) ∙ sym (ap links_of held) in
        elim (eqb_tells n slot) [
          | inl e ↦ ap (links_at new) e.1 ∙ here ∙ ap (links_at old) (sym e.1)
          | inr o ↦ write.others n o.1
        ]

    pub replaced : HasReplaced new (beyond cursor slot leaf) slot key value (leaf.key, leaf.value) front back
    replaced =
        let whole : front ++ now_leaf ∷ of.rest ≡ (front ++ now_leaf ∷ []) ++ of.rest = sym (append_assoc front (now_leaf ∷ []) of.rest) in
        record {
          rest = of.rest;
          had = of.is;
          stands = record {
            leaves = subst (HoldsLeaves new) whole (record {
              holds = subst (Holds (node_at new)) (sym (cells-parts front (now_leaf ∷ of.rest)))
                  (Holds-write (node_at old) (node_at new) (leaf_name slot) (pair leaf.key leaf.value) (pair key value) (leaf_cells front) (leaf_cells of.rest) (nodes-update old new (leaf_name slot) _ updates)
                  (subst (Holds (node_at old)) (cells-parts front (had_leaf ∷ of.rest)) was.holds));
              linked = AreLinked-same (links_at old) (links_at new) same_links None (front ++ now_leaf ∷ of.rest) None
                  (AreLinked-join (links_at old) None front (now_leaf ∷ of.rest) None (AreLinked-left (links_at old) None front (had_leaf ∷ of.rest) None was.linked) (AreLinked-right (links_at old) None front (had_leaf ∷ of.rest) None was.linked));
            });
            first = ap (λ xs. first_slot xs None) (sym whole) ∙ first_slot-append front (now_leaf ∷ of.rest) None ∙ sym (first_slot-append front (had_leaf ∷ of.rest) None)
                ∙ ap (λ xs. first_slot xs None) (sym (append_assoc front (had_leaf ∷ []) of.rest)) ∙ of.stands.first;
            before = last_slot-append None front (now_leaf ∷ []);
            after = of.stands.after;
          };
        }

  -- the leaf after the cursor is held
  pub after-held : (arena : Arena K V) (cursor : LeafCursor) (front back : List (LeafAt K V)) → StandsBetween arena cursor front back → (slot : ℕ) → cursor.after ≡ Some slot → IsSome (held_at arena (leaf_name slot))
  after-held arena cursor front [] stands slot at = absurd (let e = stands.after ∙ at in cc)
  after-held arena cursor front (l ∷ rest) stands slot at =
      let e = stands.after ∙ at in
      let same : l.slot ≡ slot = cc in
      let was = subst (Holds (node_at arena)) (cells-parts front (l ∷ rest)) stands.leaves.holds in
      let cell = (all_right (λ (c : Name × Cell K V). node_at arena c.0 ≡ Some c.1) (leaf_cells front) (leaf_cells (l ∷ rest)) was.held).0 in
      cell_held (held_at arena (leaf_name slot)) (pair l.key l.value) (ap (λ n. node_at arena (leaf_name n)) (sym same) ∙ cell)

  -- and the one before it
  pub before-held : (arena : Arena K V) (cursor : LeafCursor) (front back : List (LeafAt K V)) → StandsBetween arena cursor front back → (slot : ℕ) → cursor.before ≡ Some slot → IsSome (held_at arena (leaf_name slot))
  before-held arena cursor front back stands slot at =
      let e = ends_with-first front slot (stands.before ∙ at) in
      let whole : front ++ back ≡ e.0 ++ e.1 ∷ back = ap (λ xs. xs ++ back) e.2 ∙ append_assoc e.0 (e.1 ∷ []) back in
      let was = subst (λ xs. Holds (node_at arena) xs) (ap leaf_cells whole ∙ cells-parts e.0 (e.1 ∷ back)) stands.leaves.holds in
      let cell = (all_right (λ (c : Name × Cell K V). node_at arena c.0 ≡ Some c.1) (leaf_cells e.0) (leaf_cells (e.1 ∷ back)) was.held).0 in
      cell_held (held_at arena (leaf_name slot)) (pair e.1.key e.1.value) (ap (λ n. node_at arena (leaf_name n)) (sym e.3) ∙ cell)
