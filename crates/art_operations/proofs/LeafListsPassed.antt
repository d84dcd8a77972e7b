-- A cursor that steps over the leaves with lesser keys: how many are still to come, and what it has passed.
use Rattle.std.proofs.Common.{◌≡◌, ℕ, zero, suc, ◌<◌, ◌≤◌, List, [], ◌∷◌, ◌++◌, length, Option, None, Some, refl, sym, ap, ap₂, subst, ◌∙◌, inl, inr, arith, eq-eqb, ne_eqb, lt-ltb, le-ltb, append_assoc, append-nil, length-append}
use Rattle.std.proofs.lemmas.List.{length-map}
use Rattle.std.specs.declared.cmp.Ordering.TheVariants.{Less, Equal, Greater}
use Rattle.std.proofs.lemmas.Bool.{cases_order}
use Rattle.art_bytes.proofs.Common.{bytes_cmp}
use Rattle.art_nodes.proofs.Common.{Name}
use Rattle.art_nodes.specs.declared.leaf.LeafNode.{LeafNode}
use Rattle.art_arena.proofs.Common.{Arena, leaf_held, held_at, node_at, links_at, slots_of, Cell, pair, leaf_name, Links, AreLinked, first_slot, last_slot, LeafAt, AreLinked-right, held_few, all_append}
use Rattle.art_operations.proofs.Terms.{leaf_cells, StandsBetween, LeafCursor, HasPassed, StopsAfterLess, Compare}
use Rattle.art_operations.proofs.LeafListsParted.{at_most_one, beyond, first-of}

-- the next leaf that these links name
abbrev pub next_in : Option Links → Option ℕ
next_in None = None
next_in (Some links) = links.next

-- how many leaves come along the links from this one on, as far as so many steps show
abbrev pub along : ℕ → (ℕ → Option Links) → Option ℕ → ℕ
along zero links leaf = 0
along (suc steps) links None = 0
along (suc steps) links (Some leaf) = suc (along steps links (next_in (links leaf)))

-- keys that compare as equal are the same
pub same_bytes : (k l : List ℕ) → bytes_cmp k l ≡ Equal → k ≡ l
same_bytes [] [] e = refl
same_bytes [] (b ∷ l) e = absurd (cc)
same_bytes (a ∷ k) [] e = absurd (cc)
same_bytes (a ∷ k) (b ∷ l) e =
    let rest = same_bytes k l in
    elim (cases_order a b) [
      | inl f ↦
          let g : bytes_cmp k l ≡ Equal = let c = le-ltb a b (omega arith) in let d = eq-eqb a b f in rw (c, d) at e in
          ap₂ (λ x xs. x ∷ xs) f (rest g)
      | inr (inl h) ↦ let c = lt-ltb a b h in let g : Less ≡ Equal = rw c at e in absurd (cc)
      | inr (inr h) ↦
          let c = le-ltb a b (omega arith) in
          let d = ne_eqb a b (λ f. omega arith) in
          let g : Greater ≡ Equal = rw (c, d) at e in absurd (cc)
    ]

module _ {K V : Type 0} where
  along-is : (links : ℕ → Option Links) (steps : ℕ) (before : Option ℕ) (ls : List (LeafAt K V)) → AreLinked links before ls None → length ls ≤ steps → along steps links (first_slot ls None) ≡ length ls
  along-is links zero before [] linked few = refl
  along-is links zero before (l ∷ ls) linked few = absurd (omega (arith, few))
  along-is links (suc steps) before [] linked few = refl
  along-is links (suc steps) before (l ∷ ls) linked few =
      ap (λ o. suc (along steps links (next_in o))) linked.0 ∙ ap suc (along-is links steps (Some l.slot) ls linked.1 (omega (arith, few)))

  -- so many leaves are after a cursor
  abbrev pub leaves_left : Arena K V → LeafCursor → ℕ
  leaves_left arena cursor = along (slots_of arena) (links_at arena) cursor.after

  left-is : (arena : Arena K V) (cursor : LeafCursor) (front back : List (LeafAt K V)) → StandsBetween arena cursor front back → leaves_left arena cursor ≡ length back
  left-is arena cursor front back stands =
      let cells = leaf_cells (front ++ back) in
      let few = held_few arena cells stands.leaves.holds.held (λ n. at_most_one (node_at arena n) _ (stands.leaves.holds.once n)) in
      let long = length-map {B = Name × Cell K V} (front ++ back) (λ (l : LeafAt K V). (leaf_name l.slot, pair l.key l.value)) in
      ap (along (slots_of arena) (links_at arena)) (sym stands.after)
      ∙ along-is (links_at arena) (slots_of arena) (last_slot None front) back (AreLinked-right (links_at arena) None front back None stands.leaves.linked) (omega (arith, few, long, length-append front back))

  -- fewer are after it then
  pub left-less : (arena : Arena K V) (cursor : LeafCursor) (slot : ℕ) (at : cursor.after ≡ Some slot) (leaf : LeafNode K V) (held : held_at arena (leaf_name slot) ≡ Some (leaf_held leaf)) (front back : List (LeafAt K V)) → StandsBetween arena cursor front back
      → leaves_left arena (beyond cursor slot leaf) < leaves_left arena cursor
  left-less arena cursor slot at leaf held front back stands =
      let of = first-of arena cursor slot at leaf held front back stands in
      omega (arith, left-is arena cursor front back stands, left-is arena _ _ of.rest of.stands, ap length of.is)

  module _ (arena : Arena K V) (bytes : K → List ℕ) (key : List ℕ) (front back : List (LeafAt K V)) where
    -- the cursor has stepped over some leaves with lesser keys
    pub record HasStepped (now : LeafCursor) : Type 0 where
      pub passed : List (LeafAt K V)
      pub rest : List (LeafAt K V)
      pub parts : back ≡ passed ++ rest
      pub stands : StandsBetween arena now (front ++ passed) rest
      pub less : Compare bytes key Less passed

    pub not-stepped : (cursor : LeafCursor) → StandsBetween arena cursor front back → HasStepped cursor
    not-stepped cursor stands = record {
      passed = [];
      rest = back;
      parts = refl;
      stands = subst (λ xs. StandsBetween arena cursor xs back) (sym (append-nil front)) stands;
      less = tt;
    }

    -- over one more
    pub stepped-on : (now : LeafCursor) (is : HasStepped now) (slot : ℕ) (at : now.after ≡ Some slot) (leaf : LeafNode K V) (held : held_at arena (leaf_name slot) ≡ Some (leaf_held leaf)) → bytes_cmp (bytes leaf.key) key ≡ Less
        → HasStepped (beyond now slot leaf)
    stepped-on now is slot at leaf held less =
        let m : LeafAt K V = record { slot = slot; key = leaf.key; value = leaf.value } in
        let of = first-of arena now slot at leaf held (front ++ is.passed) is.rest is.stands in
        record {
          passed = is.passed ++ m ∷ [];
          rest = of.rest;
          parts = is.parts ∙ ap (λ xs. is.passed ++ xs) of.is ∙ sym (append_assoc is.passed (m ∷ []) of.rest);
          stands = subst (λ xs. StandsBetween arena (beyond now slot leaf) xs of.rest) (append_assoc front is.passed (m ∷ [])) of.stands;
          less = all_append (λ (l : LeafAt K V). bytes_cmp (bytes l.key) key ≡ Less) is.passed (m ∷ []) is.less (less, tt);
        }

    pub passed-to : (now : LeafCursor) (is : HasStepped now) (slot : ℕ) (at : now.after ≡ Some slot) (leaf : LeafNode K V) (held : held_at arena (leaf_name slot) ≡ Some (leaf_held leaf)) (found : Option ℕ)
        → ((rest : List (LeafAt K V)) → StopsAfterLess bytes key found (record { slot = slot; key = leaf.key; value = leaf.value } ∷ rest)) → HasPassed bytes key arena now found front back
    passed-to now is slot at leaf held found stops =
        let of = first-of arena now slot at leaf held (front ++ is.passed) is.rest is.stands in
        record { passed = is.passed; rest = is.rest; parts = is.parts; stands = is.stands; less = is.less; stops = subst (StopsAfterLess bytes key found) (sym of.is) (stops of.rest) }
