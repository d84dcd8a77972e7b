-- Commands on pairs and on clones of them are answered alike, and leave clones.
use Rattle.std.proofs.Common.{◌≡◌, ℕ, not, Bool, true, false, cond, List, [], ◌∷◌, length, map, filter, bytes_eq, Option, refl, sym, ap₂, subst, ◌∙◌}
use Rattle.std.specs.List.{AllZip}
use Rattle.std.proofs.lemmas.List.Elements.{length_all_zip}
use Rattle.art_nodes.proofs.Common.{Name}
use Rattle.art_arena.proofs.Common.{Arena, IsIn, is_before, put_in_order, key_of, Shrinks, in_map, in_unmap}
use Rattle.art_operations.proofs.Terms.{IsAnswered, after, without_key, overlaps, without_overlapping, HasKey, IsBlocked, HasPairs, AreClones, HasClones, IsExecuted, IsDone, Answer, Done, Prefix, Insert, PrefixInsert, Delete}
use Rattle.art_operations.specs.declared.running.Answer.TheVariants.{Memory}
use Rattle.art_operations.specs.declared.running.Change.{Change}
use Rattle.art_operations.proofs.LeafPairs.{shrinks-map, shrinks-unmap}

abbrev bytes_of : List ℕ → List ℕ
bytes_of k = k

-- two lists of items with the same keys
module _ {X : Type 0} (key : X → List ℕ) (xs ys : List X) (same : map key xs ≡ map key ys) where
  in_other : (x : X) → IsIn x xs → (y : X) × IsIn y ys × (key y ≡ key x)
  in_other x i = in_unmap key (key x) ys (subst (IsIn (key x)) same (in_map key x xs i))

  blocked_other : (k : List ℕ) → IsBlocked key k xs → IsBlocked key k ys
  blocked_other k (x, i, c) = let other = in_other x i in (other.0, other.1, rw other.2 c)

  stored_other : (k : List ℕ) → HasKey key k xs → HasKey key k ys
  stored_other k (x, i, e) = let other = in_other x i in (other.0, other.1, other.2 ∙ e)

  shrinks_other : (k : List ℕ) → Shrinks key xs k → Shrinks key ys k
  shrinks_other k h = shrinks-unmap key bytes_of ys k (subst (λ ks. Shrinks bytes_of ks k) same (shrinks-map key bytes_of xs k h))

-- a list and one that stands to it item by item, by a relation that keeps keys
module _ {X : Type 0} (R : X → X → Type 0) (key : X → List ℕ) (same : (x y : X) → R x y → key y ≡ key x) where
  keys_same : (xs ys : List X) → AllZip R xs ys → map key ys ≡ map key xs
  keys_same [] [] h = refl
  keys_same [] (y ∷ ys) h = absurd h
  keys_same (x ∷ xs) [] h = absurd h
  keys_same (x ∷ xs) (y ∷ ys) h = ap₂ (λ k ks. k ∷ ks) (same x y h.0) (keys_same xs ys h.1)

  -- their items whose keys pass a test
  filter_both : (test : List ℕ → Bool) (xs ys : List X) → AllZip R xs ys → AllZip R (filter (λ x. test (key x)) xs) (filter (λ x. test (key x)) ys)
  filter_both test [] [] h = tt
  filter_both test [] (y ∷ ys) h = absurd h
  filter_both test (x ∷ xs) [] h = absurd h
  filter_both test (x ∷ xs) (y ∷ ys) h = rw (same x y h.0) (step (test (key x)) (filter_both test xs ys h.1))
    where
      step : (b : Bool) → AllZip R (filter (λ z. test (key z)) xs) (filter (λ z. test (key z)) ys)
          → AllZip R (cond b (x ∷ filter (λ z. test (key z)) xs) (filter (λ z. test (key z)) xs)) (cond b (y ∷ filter (λ z. test (key z)) ys) (filter (λ z. test (key z)) ys))
      step true both = (h.0, both)
      step false both = both

  many_both : (test : List ℕ → Bool) (xs ys : List X) → AllZip R xs ys → length (filter (λ x. test (key x)) ys) ≡ length (filter (λ x. test (key x)) xs)
  many_both test xs ys h = sym (length_all_zip R (filter (λ x. test (key x)) xs) (filter (λ x. test (key x)) ys) (filter_both test xs ys h))

  put_both : (x y : X) → R x y → (xs ys : List X) → AllZip R xs ys → AllZip R (put_in_order key x xs) (put_in_order key y ys)
  put_both x y r [] [] h = (r, tt)
  put_both x y r [] (b ∷ ys) h = absurd h
  put_both x y r (a ∷ xs) [] h = absurd h
  put_both x y r (a ∷ xs) (b ∷ ys) h = rw (same x y r, same a b h.0) (step (is_before (key x) (key a)) (put_both x y r xs ys h.1))
    where
      step : (t : Bool) → AllZip R (put_in_order key x xs) (put_in_order key y ys) → AllZip R (cond t (x ∷ a ∷ xs) (a ∷ put_in_order key x xs)) (cond t (y ∷ b ∷ ys) (b ∷ put_in_order key y ys))
      step true both = (r, h)
      step false both = (h.0, both)

module _ {K V : Type 0} (bytes : K → List ℕ) (KeyClone : K → K → Type 0) (ValueClone : V → V → Type 0) (same : (k c : K) → KeyClone k c → bytes c ≡ bytes k) where
  abbrev PairClone : K × V → K × V → Type 0
  PairClone p q = KeyClone p.0 q.0 × ValueClone p.1 q.1

  same_pair : (p q : K × V) → PairClone p q → key_of bytes q ≡ key_of bytes p
  same_pair p q h = same p.0 q.0 h.0

  module _ (pairs clones : List (K × V)) (are : AreClones KeyClone ValueClone pairs clones) where
    same_keys : map (key_of bytes) clones ≡ map (key_of bytes) pairs
    same_keys = keys_same PairClone (key_of bytes) same_pair pairs clones are

    answered-insert : (k c : K) (v d : V) → bytes c ≡ bytes k → (answer : Answer) → IsAnswered bytes clones (Insert c d) answer → IsAnswered bytes pairs (Insert k v) answer
    answered-insert k c v d e (Done n) (count, free) =
        (rw (← e) (count ∙ many_both PairClone (key_of bytes) same_pair (λ b. bytes_eq b (bytes c)) pairs clones are), λ blocked. free (rw e (blocked_other (key_of bytes) pairs clones (sym same_keys) (bytes k) blocked)))
    answered-insert k c v d e Prefix blocked = blocked_other (key_of bytes) clones pairs same_keys (bytes k) (rw e at blocked)
    answered-insert k c v d e Memory free = λ blocked. free (rw e (blocked_other (key_of bytes) pairs clones (sym same_keys) (bytes k) blocked))

    answered-over : (k c : K) (v d : V) → bytes c ≡ bytes k → (answer : Answer) → IsAnswered bytes clones (PrefixInsert c d) answer → IsAnswered bytes pairs (PrefixInsert k v) answer
    answered-over k c v d e (Done n) count = rw (← e) (count ∙ many_both PairClone (key_of bytes) same_pair (overlaps (bytes c)) pairs clones are)
    answered-over k c v d e Prefix h = absurd h
    answered-over k c v d e Memory h = tt

    answered-delete : (k : K) (answer : Answer) → IsAnswered bytes clones (Delete k) answer → IsAnswered bytes pairs (Delete k) answer
    answered-delete k (Done n) count = count ∙ many_both PairClone (key_of bytes) same_pair (λ b. bytes_eq b (bytes k)) pairs clones are
    answered-delete k Prefix h = absurd h
    answered-delete k Memory (stored, shrinks) = (stored_other (key_of bytes) clones pairs same_keys (bytes k) stored, shrinks_other (key_of bytes) clones pairs same_keys (bytes k) shrinks)

    after-insert : (k c : K) (v d : V) → KeyClone k c → ValueClone v d → (answer : Answer) → AreClones KeyClone ValueClone (after bytes (Insert k v) answer pairs) (after bytes (Insert c d) answer clones)
    after-insert k c v d kc vd (Done n) =
        rw (same k c kc) (put_both PairClone (key_of bytes) same_pair (k, v) (c, d) (kc, vd) (without_key (key_of bytes) (bytes k) pairs) (without_key (key_of bytes) (bytes k) clones)
        (filter_both PairClone (key_of bytes) same_pair (λ b. not (bytes_eq b (bytes k))) pairs clones are))
    after-insert k c v d kc vd Prefix = are
    after-insert k c v d kc vd Memory = are

    after-over : (k c : K) (v d : V) → KeyClone k c → ValueClone v d → (answer : Answer) → AreClones KeyClone ValueClone (after bytes (PrefixInsert k v) answer pairs) (after bytes (PrefixInsert c d) answer clones)
    after-over k c v d kc vd (Done n) =
        rw (same k c kc) (put_both PairClone (key_of bytes) same_pair (k, v) (c, d) (kc, vd) (without_overlapping (key_of bytes) (bytes k) pairs) (without_overlapping (key_of bytes) (bytes k) clones)
        (filter_both PairClone (key_of bytes) same_pair (λ b. not (overlaps (bytes k) b)) pairs clones are))
    after-over k c v d kc vd Prefix = are
    after-over k c v d kc vd Memory = are

    after-delete : (k : K) (answer : Answer) → AreClones KeyClone ValueClone (after bytes (Delete k) answer pairs) (after bytes (Delete k) answer clones)
    after-delete k (Done n) = filter_both PairClone (key_of bytes) same_pair (λ b. not (bytes_eq b (bytes k))) pairs clones are
    after-delete k Prefix = are
    after-delete k Memory = are

  -- an insertion that is refused before it clones leaves the clones that there were
  pub insert-stays : (P : ℕ) (arena : Arena K V) (root : Option Name) (pairs : List (K × V)) (k : K) (v : V) (answer : Answer) → ((ps : List (K × V)) → after bytes (Insert k v) answer ps ≡ ps)
      → ((stored : List (K × V)) → HasPairs bytes P arena root stored → IsAnswered bytes stored (Insert k v) answer)
      → HasClones bytes P arena KeyClone ValueClone root pairs → IsExecuted bytes P arena KeyClone ValueClone pairs (Insert k v) (record { root = root; answer = answer })
  insert-stays P arena root pairs k v answer stays answered (clones, are, has) =
      (answered-insert pairs clones are k k v v refl answer (answered clones has), rw (stays pairs) (clones, are, has))

  -- an insertion of clones is one of the pair
  pub insert-clones : (P : ℕ) (old new : Arena K V) (root : Option Name) (pairs : List (K × V)) (k c : K) (v d : V) (change : Change) → KeyClone k c → ValueClone v d
      → ((stored : List (K × V)) → HasPairs bytes P old root stored → IsDone bytes P new stored (Insert c d) change)
      → HasClones bytes P old KeyClone ValueClone root pairs → IsExecuted bytes P new KeyClone ValueClone pairs (Insert k v) change
  insert-clones P old new root pairs k c v d change kc vd done (clones, are, has) =
      let result = done clones has in
      (answered-insert pairs clones are k c v d (same k c kc) change.answer result.0, (_, after-insert pairs clones are k c v d kc vd change.answer, result.1))

  -- a prefix insertion of clones is one of the pair
  pub over-clones : (P : ℕ) (old new : Arena K V) (root : Option Name) (pairs : List (K × V)) (k c : K) (v d : V) (change : Change) → KeyClone k c → ValueClone v d
      → ((stored : List (K × V)) → HasPairs bytes P old root stored → IsDone bytes P new stored (PrefixInsert c d) change)
      → HasClones bytes P old KeyClone ValueClone root pairs → IsExecuted bytes P new KeyClone ValueClone pairs (PrefixInsert k v) change
  over-clones P old new root pairs k c v d change kc vd done (clones, are, has) =
      let result = done clones has in
      (answered-over pairs clones are k c v d (same k c kc) change.answer result.0, (_, after-over pairs clones are k c v d kc vd change.answer, result.1))

  -- a deletion from clones is one from the pairs
  pub delete-clones : (P : ℕ) (old new : Arena K V) (root : Option Name) (pairs : List (K × V)) (k : K) (change : Change)
      → ((stored : List (K × V)) → HasPairs bytes P old root stored → IsDone bytes P new stored (Delete k) change)
      → HasClones bytes P old KeyClone ValueClone root pairs → IsExecuted bytes P new KeyClone ValueClone pairs (Delete k) change
  delete-clones P old new root pairs k change done (clones, are, has) =
      let result = done clones has in
      (answered-delete pairs clones are k change.answer result.0, (_, after-delete pairs clones are k change.answer, result.1))
