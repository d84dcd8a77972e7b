-- A leaf that a look-up finds, told by the pairs.
use Rattle.std.proofs.Common.{◌≡◌, ℕ, ◌≤◌, Bool, true, false, cond, eqb, List, [], ◌∷◌, ◌++◌, bytes_eq, Option, Some, None, refl, sym, ap, ap₂, subst, ◌∙◌, inl, arith}
use Rattle.std.specs.List.{AllByRecursion}
use Rattle.std.specs.Map.{lookup, lookup_entry, set_value}
use Rattle.std.proofs.lemmas.List.{map-append}
use Rattle.art_arena.proofs.Common.{leaf_where, first_slot, last_slot, times, LeafAt, pairs_of, key_of, IsIn, eqb-self, ends_with-first, times-here, in_middle}
use Rattle.art_operations.proofs.Common.{with_key, leaf_pair}
use Rattle.art_map.proofs.Terms.{Contents, first_item, last_item, has_bytes, option_value, HasPairAt, IsFound}

-- the test of a key, by its bytes
abbrev pub key_test : {K : Type 0} → (K → List ℕ) → (List ℕ → Bool) → K → Bool
key_test bytes test k = test (bytes k)

module _ {K V : Type 0} (bytes : K → List ℕ) (test : List ℕ → Bool) where
  -- the keys of these leaves fail
  abbrev AllFail : List (LeafAt K V) → Type 0
  AllFail ls = AllByRecursion (λ l. test (bytes l.key) ≡ false) ls

  -- the first leaf that passes
  pub record FirstAt (ls : List (LeafAt K V)) (slot : ℕ) : Type 0 where
    pub front : List (LeafAt K V)
    pub leaf : LeafAt K V
    pub back : List (LeafAt K V)
    pub is : ls ≡ front ++ leaf ∷ back
    pub fail : AllFail front
    pub passes : test (bytes leaf.key) ≡ true
    pub slot_is : leaf.slot ≡ slot

  pub first-at : (ls : List (LeafAt K V)) (slot : ℕ) → leaf_where bytes test ls ≡ Some slot → FirstAt ls slot
  first-at [] slot e = absurd (cc)
  first-at (l ∷ ls) slot e = here (test (bytes l.key)) refl (first-at ls slot)
    where
      here : (b : Bool) → test (bytes l.key) ≡ b → (leaf_where bytes test ls ≡ Some slot → FirstAt ls slot) → FirstAt (l ∷ ls) slot
      here true t rest = record { front = []; leaf = l; back = ls; is = refl; fail = tt; passes = t; slot_is = (let f = rw t at e in cc) }
      here false t rest =
          let later = rest (rw t at e) in
          record { front = l ∷ later.front; leaf = later.leaf; back = later.back; is = ap (λ xs. l ∷ xs) later.is; fail = (t, later.fail); passes = later.passes; slot_is = later.slot_is }

  -- where none passes, no pair does
  pub none-at : (ls : List (LeafAt K V)) → leaf_where bytes test ls ≡ None → lookup_entry (key_test bytes test) (pairs_of ls) ≡ None
  none-at [] e = refl
  none-at (l ∷ ls) e = here (test (bytes l.key)) refl (none-at ls)
    where
      here : (b : Bool) → test (bytes l.key) ≡ b → (leaf_where bytes test ls ≡ None → lookup_entry (key_test bytes test) (pairs_of ls) ≡ None) → lookup_entry (key_test bytes test) (pairs_of (l ∷ ls)) ≡ None
      here true t rest = let f = rw t at e in absurd (cc)
      here false t rest = rw t (rest (rw t at e))

  -- the first pair that passes, and another value in it
  pub entry-at : (front : List (LeafAt K V)) (l : LeafAt K V) (back : List (LeafAt K V)) → AllFail front → test (bytes l.key) ≡ true → lookup_entry (key_test bytes test) (pairs_of (front ++ l ∷ back)) ≡ Some (l.key, l.value)
  entry-at [] l back fail passes = rw passes refl
  entry-at (f ∷ front) l back fail passes = rw fail.0 (entry-at front l back fail.1 passes)

  pub set-at : (front : List (LeafAt K V)) (l : LeafAt K V) (back : List (LeafAt K V)) (w : V) → AllFail front → test (bytes l.key) ≡ true
      → set_value (key_test bytes test) (pairs_of (front ++ l ∷ back)) w ≡ pairs_of (front ++ record { slot = l.slot; key = l.key; value = w } ∷ back)
  set-at [] l back w fail passes = rw passes refl
  set-at (f ∷ front) l back w fail passes = rw fail.0 (ap (λ xs. (f.key, f.value) ∷ xs) (set-at front l back w fail.1 passes))

module _ {K V : Type 0} where
  -- the first pair that passes is the first of those that do
  pub entry-first : (bytes : K → List ℕ) (key : List ℕ) (pairs : List (K × V)) → lookup_entry (has_bytes bytes key) pairs ≡ first_item (with_key (key_of bytes) key pairs)
  entry-first bytes key [] = refl
  entry-first bytes key (p ∷ ps) = elim (bytes_eq (bytes p.0) key) as (λ b. cond b (Some p) (lookup_entry (has_bytes bytes key) ps) ≡ first_item (cond b (p ∷ with_key (key_of bytes) key ps) (with_key (key_of bytes) key ps))) [
    | true ↦ refl
    | false ↦ entry-first bytes key ps
  ]

  -- where none passes, a value changes none
  pub set-none : (test : K → Bool) (pairs : List (K × V)) (w : V) → lookup_entry test pairs ≡ None → set_value test pairs w ≡ pairs
  set-none test [] w none = refl
  set-none test (p ∷ ps) w none = here (test p.0) refl none (set-none test ps w)
    where
      here : (b : Bool) → test p.0 ≡ b → cond b (Some p) (lookup_entry test ps) ≡ None → (lookup_entry test ps ≡ None → set_value test ps w ≡ ps) → set_value test (p ∷ ps) w ≡ p ∷ ps
      here true t none rest = absurd (cc)
      here false t none rest = rw t (ap (λ xs. p ∷ xs) (rest none))

  -- the last of pairs that end with one
  last-pair : (pairs : List (K × V)) (p : K × V) → last_item (pairs ++ p ∷ []) ≡ Some p
  last-pair [] p = refl
  last-pair (q ∷ []) p = refl
  last-pair (q ∷ r ∷ pairs) p = last-pair (r ∷ pairs) p

  -- the first leaf, and the last
  pub record EndAt (wanted : Option (K × V)) (ls : List (LeafAt K V)) (slot : ℕ) : Type 0 where
    pub leaf : LeafAt K V
    pub among : IsIn leaf ls
    pub slot_is : leaf.slot ≡ slot
    pub wanted_is : wanted ≡ Some (leaf.key, leaf.value)

  pub first-end : (ls : List (LeafAt K V)) (slot : ℕ) → first_slot ls None ≡ Some slot → EndAt (first_item (pairs_of ls)) ls slot
  first-end [] slot e = absurd (cc)
  first-end (l ∷ ls) slot e = record { leaf = l; among = inl refl; slot_is = (cc); wanted_is = refl }

  pub last-end : (ls : List (LeafAt K V)) (slot : ℕ) → last_slot None ls ≡ Some slot → EndAt (last_item (pairs_of ls)) ls slot
  last-end ls slot e =
      let ends = ends_with-first ls slot e in
      record {
        leaf = ends.1;
        among = subst (IsIn ends.1) (sym ends.2) (in_middle (λ (m : LeafAt K V). []) ends.0 ends.1 []);
        slot_is = ends.3;
        wanted_is = ap (λ xs. last_item (pairs_of xs)) ends.2 ∙ ap last_item (map-append leaf_pair ends.0 (ends.1 ∷ [])) ∙ last-pair (pairs_of ends.0) (ends.1.key, ends.1.value);
      }

  -- the value of an entry
  pub lookup-as : (test : K → Bool) (ps : List (K × V)) → lookup test ps ≡ option_value (lookup_entry test ps)
  lookup-as test [] = refl
  lookup-as test (p ∷ ps) = elim (test p.0) as (λ b. cond b (Some p.1) (lookup test ps) ≡ option_value (cond b (Some p) (lookup_entry test ps))) [
    | true ↦ refl
    | false ↦ lookup-as test ps
  ]

  pub lookup-value : (test : K → Bool) (pairs : List (K × V)) (r : Option (K × V)) → lookup_entry test pairs ≡ r → lookup test pairs ≡ option_value r
  lookup-value test pairs r e = lookup-as test pairs ∙ ap option_value e

  -- a leaf that stands in a list once stands there at one place
  pub same-place : (front : List (LeafAt K V)) (l : LeafAt K V) (back others : List (LeafAt K V)) (m : LeafAt K V) (rest : List (LeafAt K V)) → front ++ l ∷ back ≡ others ++ m ∷ rest → l.slot ≡ m.slot
      → times l.slot (front ++ l ∷ back) ≤ 1 → (front ≡ others) × (l ≡ m) × (back ≡ rest)
  same-place [] l back [] m rest e same once = let f : back ≡ rest = cc in (refl, (cc), f)
  same-place [] l back (o ∷ others) m rest e same once =
      let tail : back ≡ others ++ m ∷ rest = cc in
      absurd (omega (arith, once, ap {B = ℕ} (λ b. cond b 1 0) (eqb-self l.slot), times-here others rest m, ap (λ ls. times l.slot ls) tail, ap (λ n. times n (others ++ m ∷ rest)) same))
  same-place (f ∷ front) l back [] m rest e same once =
      let head : f ≡ m = cc in
      absurd (omega (arith, once, ap {B = ℕ} (λ b. cond b 1 0) (eqb-self l.slot), times-here front back l, ap {B = ℕ} (λ (x : LeafAt K V). cond (eqb l.slot x.slot) 1 0) head, ap {B = ℕ} (λ n. cond (eqb l.slot n) 1 0) same))
  same-place (f ∷ front) l back (o ∷ others) m rest e same once =
      let head : f ≡ o = cc in
      let tail : front ++ l ∷ back ≡ others ++ m ∷ rest = cc in
      let later = same-place front l back others m rest tail same (omega (arith, once)) in
      (ap₂ (λ x xs. x ∷ xs) head later.0, later.1, later.2)

  -- the value of the leaf that was found
  pub found-value : (test : K → Bool) (m : Contents K V) (slot : ℕ) (q : K × V) → IsFound test m (Some slot) → HasPairAt m slot q → Some q.1 ≡ lookup test m.pairs
  found-value test m slot q found has =
      let same : found.0.1 ≡ q.1 = let e = sym found.1 ∙ has in cc in
      ap Some (sym same) ∙ sym (lookup-value test m.pairs (Some found.0) found.2)

-- what is found is the value of what is found with its key
pub ruleset values = (lookup-as)
