-- A pair that is put into a list of leaves, at the place of its key: the pairs of the leaves, and which leaves stand.
use Rattle.std.proofs.Common.{◌≡◌, ℕ, List, [], ◌∷◌, ◌++◌, Option, None, Some, refl, sym, ap, subst, ◌∙◌, inl, inr, append_assoc}
use Rattle.std.specs.List.{AllByRecursion, cons_option}
use Rattle.std.specs.declared.cmp.Ordering.TheVariants.{Less, Greater}
use Rattle.std.proofs.lemmas.List.{map-append}
use Rattle.art_bytes.proofs.Common.{Conflict, IsBefore, before_not_self, before_trans, cmp_before, conflict_turned}
use Rattle.art_arena.proofs.Common.{Arena, SameNodes, node_at, links_at, Cell, pair, leaf_name, UpdatesAt, first_slot, LeafAt, pairs_of, key_of, AscendsByKey, IsIn, same_name_tells, Holds-same, AreLinked-same, links-same, nodes-same, all_append, all_at, all_left, all_right, all_weaker}
use Rattle.art_operations.proofs.Terms.{IsAfterAll, HasKey, IsBlocked, with_key, HasInserted, HasPutIn, KeepsCells, StandsAtPlace, StandsBelow, StandsInList, StandsBetween, HasLeavesOf, with_pair_put, LeafCursor, HasPassed, HasReplaced, StopsAfterLess, Compare}
use Rattle.art_operations.proofs.KeyedLists.{before as items-before, following as items-after, put_new, put_replaced}
use Rattle.art_operations.proofs.LeafPairs.{pairs-parts}
use Rattle.art_operations.proofs.Nearest.{turned}

module _ {X : Type 0} (key : X → List ℕ) where
  -- an item comes before the first of a list, if there is one
  abbrev pub ComesBefore : List ℕ → List X → Type 0
  ComesBefore k [] = Unit {0}
  ComesBefore k (y ∷ ys) = IsBefore k (key y)

  -- an item goes in between two parts of an ascending list
  pub between : (x : X) (xs ys : List X) → AscendsByKey key (xs ++ ys) → AllByRecursion (λ y. IsBefore (key y) (key x)) xs → ComesBefore (key x) ys → AscendsByKey key (xs ++ x ∷ ys)
  between x [] [] up below above = (tt, tt)
  between x [] (y ∷ ys) up below above = ((above, all_weaker (λ z. IsBefore (key y) (key z)) (λ z. IsBefore (key x) (key z)) (λ z less. before_trans (key x) (key y) (key z) above less) ys up.0), up)
  between x (w ∷ xs) ys up below above =
      let P = λ (z : X). IsBefore (key w) (key z) in
      (all_append P xs (x ∷ ys) (all_left P xs ys up.0) (below.0, all_right P xs ys up.0), between x xs ys up.1 below.1 above)

  -- an item takes the place of one with its key
  pub in_place : (x was : X) (xs ys : List X) → key was ≡ key x → AscendsByKey key (xs ++ was ∷ ys) → AscendsByKey key (xs ++ x ∷ ys)
  in_place x was [] ys same up = (subst (λ k. AllByRecursion (λ y. IsBefore k (key y)) ys) same up.0, up.1)
  in_place x was (w ∷ xs) ys same up =
      let P = λ (z : X). IsBefore (key w) (key z) in
      let following = all_right P xs (was ∷ ys) up.0 in
      (all_append P xs (x ∷ ys) (all_left P xs (was ∷ ys) up.0) (subst (IsBefore (key w)) same following.0, following.1), in_place x was xs ys same up.1)

  -- none of these is in conflict with the key
  abbrev pub AreFree : List ℕ → List X → Type 0
  AreFree k xs = AllByRecursion (λ x. Conflict (key x) k → ⊥) xs

  pub free-all : (k : List ℕ) (xs : List X) → (IsBlocked key k xs → ⊥) → AreFree k xs
  free-all k [] free = tt
  free-all k (x ∷ xs) free = ((λ c. free (x, inl refl, conflict_turned (key x) k c)), free-all k xs (λ b. free (b.0, inr b.1, b.2)))

module _ {K V : Type 0} (bytes : K → List ℕ) where
  -- lesser keys that are not in conflict with a key come before it
  less-before : (key : List ℕ) (ls : List (LeafAt K V)) → Compare bytes key Less ls → AreFree (key_of bytes) key (pairs_of ls) → IsAfterAll bytes key (pairs_of ls)
  less-before key [] less free = tt
  less-before key (l ∷ ls) less free = (cmp_before (bytes l.key) key less.0 free.0, less-before key ls less.1 free.1)

  -- and a greater one after it
  greater-after : (key : List ℕ) (rest : List (LeafAt K V)) → StopsAfterLess bytes key None rest → AreFree (key_of bytes) key (pairs_of rest) → ComesBefore (key_of bytes) key (pairs_of rest)
  greater-after key [] stops free = tt
  greater-after key (l ∷ rest) stops free = cmp_before key (bytes l.key) (turned (bytes l.key) key Greater stops) (λ c. free.0 (conflict_turned key (bytes l.key) c))

  -- a leaf that was found has the key
  pub found-key : (key : List ℕ) (slot : ℕ) (rest : List (LeafAt K V)) (old : K × V) (more : List (LeafAt K V)) → rest ≡ record { slot = slot; key = old.0; value = old.1 } ∷ more → StopsAfterLess bytes key (Some slot) rest → bytes old.0 ≡ key
  found-key key slot rest old more e stops = (subst (StopsAfterLess bytes key (Some slot)) e stops).1

  -- and it is the one after the cursor
  pub found-after : (arena : Arena K V) (now : LeafCursor) (key : List ℕ) (slot : ℕ) (front back : List (LeafAt K V)) (pass : HasPassed bytes key arena now (Some slot) front back) → now.after ≡ Some slot
  found-after arena now key slot front back pass = first pass.rest pass.stands.after pass.stops
    where
      first : (rest : List (LeafAt K V)) → first_slot rest None ≡ now.after → StopsAfterLess bytes key (Some slot) rest → now.after ≡ Some slot
      first [] e stops = absurd stops
      first (l ∷ rest) e stops = sym e ∙ ap Some stops.0

  -- a cursor has passed what comes before a key that may be put in
  module _ (old : Arena K V) (was now : LeafCursor) (key : List ℕ) (pairs : List (K × V)) (below : StandsInList old was bytes pairs)
      (lower : IsAfterAll bytes key (pairs_of below.front)) (free : IsBlocked (key_of bytes) key pairs → ⊥) (found : Option ℕ)
      (pass : HasPassed bytes key old now found below.front below.back) where
    abbrev pub before : List (LeafAt K V)
    before = below.front ++ pass.passed

    parts-are : pairs_of before ++ pairs_of pass.rest ≡ pairs
    parts-are =
        sym (map-append (λ (l : LeafAt K V). (l.key, l.value)) before pass.rest) ∙ ap pairs_of (append_assoc below.front pass.passed pass.rest) ∙ ap (λ xs. pairs_of (below.front ++ xs)) (sym pass.parts) ∙ below.pairs_are

    are-free : AreFree (key_of bytes) key (pairs_of before ++ pairs_of pass.rest)
    are-free = subst (AreFree (key_of bytes) key) (sym parts-are) (free-all (key_of bytes) key pairs free)

    before-parts : pairs_of before ≡ pairs_of below.front ++ pairs_of pass.passed
    before-parts = map-append (λ (l : LeafAt K V). (l.key, l.value)) below.front pass.passed

    passed-free : AreFree (key_of bytes) key (pairs_of pass.passed)
    passed-free =
        let P = λ (p : K × V). Conflict (bytes p.0) key → ⊥ in
        let front = all_left P (pairs_of before) (pairs_of pass.rest) are-free in
        all_right P (pairs_of below.front) (pairs_of pass.passed) (subst (AreFree (key_of bytes) key) before-parts front)

    pub all-before : IsAfterAll bytes key (pairs_of before)
    all-before =
        let P = λ (p : K × V). IsBefore (bytes p.0) key in
        subst (IsAfterAll bytes key) (sym before-parts) (all_append P (pairs_of below.front) (pairs_of pass.passed) lower (less-before key pass.passed pass.less passed-free))

    ascends : AscendsByKey (key_of bytes) (pairs_of before ++ pairs_of pass.rest)
    ascends = subst (AscendsByKey (key_of bytes)) (sym parts-are) below.ascends

    -- and stands below the same pairs, in an arena of the same nodes too
    still-below : (new : Arena K V) → SameNodes old new → StandsBelow new now bytes pairs key
    still-below new same = record {
      among = record {
        front = before;
        back = pass.rest;
        stands = record {
          leaves = record {
            holds = Holds-same (node_at old) (node_at new) (nodes-same old new same) _ pass.stands.leaves.holds;
            linked = AreLinked-same (links_at old) (links_at new) (links-same old new same) None _ None pass.stands.leaves.linked;
          };
          first = pass.stands.first;
          before = pass.stands.before;
          after = pass.stands.after;
        };
        pairs_are = map-append (λ (l : LeafAt K V). (l.key, l.value)) before pass.rest ∙ parts-are;
        ascends = below.ascends;
      };
      passed = all-before;
    }

    -- greater keys stand after the cursor, where it found none
    all-after : found ≡ None → ComesBefore (key_of bytes) key (pairs_of pass.rest)
    all-after none = greater-after key pass.rest (subst (λ f. StopsAfterLess bytes key f pass.rest) none pass.stops) (all_right (λ (p : K × V). Conflict (bytes p.0) key → ⊥) (pairs_of before) (pairs_of pass.rest) are-free)

    -- so a pair of this key goes in there
    goes-in : found ≡ None → (p : K × V) → bytes p.0 ≡ key → AscendsByKey (key_of bytes) (pairs_of before ++ p ∷ pairs_of pass.rest)
    goes-in none p same =
        between (key_of bytes) p (pairs_of before) (pairs_of pass.rest) ascends (subst (λ b. IsAfterAll bytes b (pairs_of before)) (sym same) all-before) (subst (λ b. ComesBefore (key_of bytes) b (pairs_of pass.rest)) (sym same) (all-after none))

    pub still-at : found ≡ None → (k : K) (v : V) → bytes k ≡ key → (new : Arena K V) → SameNodes old new → StandsAtPlace new now bytes pairs key
    unfolding still-below
    still-at none k v is new same = record {
      below = still-below new same;
      above = subst (λ b. AllByRecursion (λ (q : K × V). IsBefore b (bytes q.0)) (pairs_of pass.rest)) is (items-after (key_of bytes) (k, v) (pairs_of before) (pairs_of pass.rest) (goes-in none (k, v) is));
    }

    -- and no pair has the key
    pub none-has : found ≡ None → HasKey (key_of bytes) key pairs → ⊥
    none-has none (p, among, same) =
        let up = goes-in none p same in
        let Other = λ (q : K × V). bytes q.0 ≡ bytes p.0 → ⊥ in
        let first = all_weaker (λ (q : K × V). IsBefore (bytes q.0) (bytes p.0)) Other (λ q less e. before_not_self (bytes p.0) (subst (λ k. IsBefore k (bytes p.0)) e less)) (pairs_of before) (items-before (key_of bytes) p (pairs_of before) (pairs_of pass.rest) up) in
        let last = all_weaker (λ (q : K × V). IsBefore (bytes p.0) (bytes q.0)) Other (λ q less e. before_not_self (bytes p.0) (subst (λ k. IsBefore (bytes p.0) k) e less)) (pairs_of pass.rest) (items-after (key_of bytes) p (pairs_of before) (pairs_of pass.rest) up) in
        all_at Other p (pairs_of before ++ pairs_of pass.rest) (all_append Other (pairs_of before) (pairs_of pass.rest) first last) (subst (IsIn p) (sym parts-are) among) refl

    -- where none has the key, a new leaf stands there now
    module _ (new : Arena K V) (then : LeafCursor) (k : K) (v : V) (is : bytes k ≡ key) where
      -- the cursor stands after a leaf of the pair
      following : (slot : ℕ) (rest : List (LeafAt K V)) (old_pair : Option (K × V)) → StandsBetween new then (before ++ record { slot = slot; key = k; value = v } ∷ []) rest → pairs_of before ++ (k, v) ∷ pairs_of rest ≡ with_pair_put bytes k v pairs
          → AscendsByKey (key_of bytes) (pairs_of before ++ (k, v) ∷ pairs_of rest) → cons_option old_pair [] ≡ with_key (key_of bytes) (bytes k) pairs → HasPutIn new then bytes k v old_pair pairs
      following slot rest old_pair stands put_is up old_is =
          let m : LeafAt K V = record { slot = slot; key = k; value = v } in
          record {
            old_is = old_is;
            among = record {
              front = before ++ m ∷ [];
              back = rest;
              stands = stands;
              pairs_are = ap pairs_of (append_assoc before (m ∷ []) rest) ∙ pairs-parts bytes before m rest ∙ put_is;
              ascends = subst (AscendsByKey (key_of bytes)) put_is up;
            };
            passed = λ next less.
                let P = λ (p : K × V). IsBefore (bytes p.0) next in
                let befores = all_weaker (λ (p : K × V). IsBefore (bytes p.0) key) P (λ p first. before_trans (bytes p.0) key next first (subst (λ b. IsBefore b next) is less)) (pairs_of before) all-before in
                subst (IsAfterAll bytes next) (sym (pairs-parts bytes before m [])) (all_append P (pairs_of before) ((k, v) ∷ []) befores (less, tt));
            last = (pairs_of before, pairs-parts bytes before m []);
          }

      pub put-inserted : found ≡ None → HasInserted new then k v before pass.rest → HasPutIn new then bytes k v None pairs
      put-inserted none (slot, stands) =
          let up = goes-in none (k, v) is in
          let put = put_new (key_of bytes) (k, v) (pairs_of before) (pairs_of pass.rest) up in
          let put_is = put.new_is ∙ ap (λ ps. with_pair_put bytes k v ps) parts-are in
          following slot pass.rest None stands put_is up (put.were ∙ ap (with_key (key_of bytes) (bytes k)) parts-are)

      pub put-replaced : (slot : ℕ) → found ≡ Some slot → (old_pair : K × V) → HasReplaced new then slot k v old_pair before pass.rest → HasPutIn new then bytes k v (Some old_pair) pairs
      put-replaced slot there old_pair has =
          let same : bytes old_pair.0 ≡ bytes k = found-key key slot pass.rest old_pair has.rest has.had (subst (λ f. StopsAfterLess bytes key f pass.rest) there pass.stops) ∙ sym is in
          let all : pairs_of before ++ old_pair ∷ pairs_of has.rest ≡ pairs = ap (λ ls. pairs_of before ++ pairs_of ls) (sym has.had) ∙ parts-are in
          let up = in_place (key_of bytes) (k, v) old_pair (pairs_of before) (pairs_of has.rest) same (subst (AscendsByKey (key_of bytes)) (sym all) below.ascends) in
          let put = put_replaced (key_of bytes) (k, v) (pairs_of before) old_pair (pairs_of has.rest) same up in
          following slot has.rest (Some old_pair) has.stands (put.new_is ∙ ap (λ ps. with_pair_put bytes k v ps) all) up (put.were ∙ ap (with_key (key_of bytes) (bytes k)) all)

  -- which leaves stand
  pub kept-names : (old new : Arena K V) → KeepsCells old new → HasLeavesOf bytes new old
  kept-names old new kept slot key (k, v, there, same) = (k, v, kept (leaf_name slot) (pair k v) there, same)

  pub replaced-names : (old new : Arena K V) (slot : ℕ) (k : K) (v : V) (was : K × V) → node_at old (leaf_name slot) ≡ Some (pair was.0 was.1) → UpdatesAt (node_at old) (node_at new) (leaf_name slot) (Some (pair k v)) → bytes was.0 ≡ bytes k → HasLeavesOf bytes new old
  replaced-names old new slot k v was had updates same n key (l, w, there, is) = elim (same_name_tells (leaf_name n) (leaf_name slot)) [
    | inl e ↦
        let f : ◌≡◌ {A = Option (Cell K V)} (Some (pair l w)) (Some (pair was.0 was.1)) = sym there ∙ ap (node_at old) e.1 ∙ had in
        let one : l ≡ was.0 = cc in
        (k, v, ap (node_at new) e.1 ∙ updates.changed, sym same ∙ sym (ap bytes one) ∙ is)
    | inr o ↦ (l, w, updates.others (leaf_name n) o.1 ∙ there, is)
  ]
