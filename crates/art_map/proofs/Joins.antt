-- The two parts of a map's pairs, below a query and not below it.
use Rattle.std.proofs.Common.{◌≡◌, ◌⊎◌, inl, inr, ℕ, suc, ◌+◌, Bool, true, false, List, [], ◌∷◌, ◌++◌, Option, Some, None, is_some, length, take, drop, refl, sym, ap, subst, ◌∙◌, arith, length-append, append_assoc}
use Rattle.std.specs.List.{AllByRecursion}
use Rattle.std.specs.Ordering.{is_le}
use Rattle.std.specs.declared.ops.Bound.TheVariants.{Included, Excluded, Unbounded}
use Rattle.std.proofs.lemmas.List.{append-nil}
use Rattle.std.proofs.Math.Seq.{take-append_seam, drop-append_seam}
use Rattle.art_bytes.proofs.Common.{IsBefore, bytes_cmp}
use Rattle.art_arena.proofs.Common.{key_of, AscendsByKey}
use Rattle.art_operations.proofs.Common.{IsBlocked, with_pair_put, from_later, IsForConflict, IsPairRefused}
use Rattle.art_operations.specs.declared.insert.result.PairRefused.{PairRefused}
use Rattle.art_operations.specs.declared.insert.result.PairRefused.TheVariants.{Conflict, Memory}
use Rattle.std.specs.Map.Iter.{TakesFirst}
use Rattle.art_map.proofs.Terms.{pairs_between}
use Rattle.art_map.proofs.Puts.{ascends-right, put-first, free-first}

-- lists that are joined are told apart by their lengths
parted : {X : Type 0} (xs ys us vs : List X) → xs ++ ys ≡ us ++ vs → length xs ≡ length us → (xs ≡ us) × (ys ≡ vs)
parted xs ys us vs e long = (
  sym (take-append_seam xs ys) ∙ ap (take (length xs)) e ∙ ap (λ n. take n (us ++ vs)) long ∙ take-append_seam us vs,
  sym (drop-append_seam xs ys) ∙ ap (drop (length xs)) e ∙ ap (λ n. drop n (us ++ vs)) long ∙ drop-append_seam us vs,
)

module _ {K V : Type 0} (bytes : K → List ℕ) (query : List ℕ) where
  -- the pairs whose keys' bytes are below these, and those whose keys' bytes are not
  abbrev pub below : List (K × V) → List (K × V)
  below pairs = pairs_between bytes Unbounded (Excluded query) pairs

  abbrev pub from : List (K × V) → List (K × V)
  from pairs = pairs_between bytes (Included query) Unbounded pairs

  -- after a key that is not below the query none is
  none-below : (k : K) (pairs : List (K × V)) → is_le (bytes_cmp query (bytes k)) ≡ true → AllByRecursion (λ p. IsBefore (bytes k) (key_of bytes p)) pairs → below pairs ≡ []
  none-below k [] at later = refl
  none-below k (p ∷ ps) at later =
      let on : is_le (bytes_cmp query (bytes p.0)) ≡ true = from_later (Included query) (bytes k) (bytes p.0) later.0 at in
      rw on (none-below k ps at later.1)

  -- the two parts are all
  pub parts-are : (pairs : List (K × V)) → AscendsByKey (key_of bytes) pairs → below pairs ++ from pairs ≡ pairs
  parts-are [] up = refl
  parts-are (p ∷ ps) up = here (is_le (bytes_cmp query (bytes p.0))) refl (parts-are ps up.1)
    where
      here : (b : Bool) → is_le (bytes_cmp query (bytes p.0)) ≡ b → below ps ++ from ps ≡ ps
          → below (p ∷ ps) ++ from (p ∷ ps) ≡ p ∷ ps
      here false at rest = rw at (ap (λ xs. p ∷ xs) rest)
      here true at rest =
          let none : below ps ≡ [] = none-below p.0 ps at up.0 in
          let all : from ps ≡ ps = ap (λ xs. xs ++ from ps) (sym none) ∙ rest in
          rw (at, none) (ap (λ xs. p ∷ xs) all)

  -- so many are below, and so many are not
  pub parts-long : (pairs : List (K × V)) → AscendsByKey (key_of bytes) pairs → length (below pairs) + length (from pairs) ≡ length pairs
  parts-long pairs up = sym (length-append (below pairs) (from pairs)) ∙ ap length (parts-are pairs up)

  -- where the last part was moved to where none was
  pub last-moved : (pairs left taken old to : List (K × V)) (count : ℕ) → AscendsByKey (key_of bytes) pairs → count ≡ length (from pairs) → old ≡ pairs → to ≡ [] → left ++ taken ≡ old ++ to → length left + count ≡ length old
      → (left ≡ below pairs) × (taken ≡ from pairs)
  last-moved pairs left taken old to count up counted old_is to_is e moved =
      let long : length old ≡ length pairs = ap length old_is in
      parted left taken _ _ (e ∙ ap (λ xs. old ++ xs) to_is ∙ append-nil old ∙ old_is ∙ sym (parts-are pairs up)) (omega (arith, parts-long pairs up, counted, long, moved))

  -- where all are in the last part, none is below
  pub all-from : (pairs : List (K × V)) → AscendsByKey (key_of bytes) pairs → length (from pairs) ≡ length pairs → (below pairs ≡ []) × (from pairs ≡ pairs)
  all-from pairs up long =
      let both = parts-long pairs up in
      let none : length (below pairs) ≡ 0 = omega (arith, both, long) in
      let parts = parted [] pairs (below pairs) (from pairs) (sym (parts-are pairs up)) (sym none) in
      (sym parts.0, sym parts.1)

  -- where a part has none, the last part has none or all
  pub part-empty : (pairs : List (K × V)) (count : ℕ) (B : Type 0) → AscendsByKey (key_of bytes) pairs → count ≡ length (from pairs) → (count ≡ 0 → B) → (count ≡ length pairs → B) → (from pairs ≡ []) ⊎ (below pairs ≡ []) → B
  part-empty pairs count B up counted none all (inl e) = none (counted ∙ ap length e)
  part-empty pairs count B up counted none all (inr e) =
      let both = parts-long pairs up in
      let gone = ap length e in
      all (omega (arith, counted, both, gone))

-- where an item came, one less is left
pub some-left : {X A : Type 0} (shows : A → X) (s t : List X) (r : Option A) → TakesFirst shows s r t → is_some r ≡ true → length s ≡ suc (length t)
some-left shows s t None steps came = absurd (cc)
some-left shows s t (Some x) steps came = ap length steps

module _ {K V : Type 0} (bytes : K → List ℕ) (p : K × V) (rest left taken : List (K × V)) (at : left ≡ rest ++ p ∷ []) (up : AscendsByKey (key_of bytes) (left ++ taken)) where
  following : AscendsByKey (key_of bytes) (p ∷ taken)
  following = ascends-right bytes rest (p ∷ taken) (subst (AscendsByKey (key_of bytes)) (append_assoc rest (p ∷ []) taken) (subst (λ xs. AscendsByKey (key_of bytes) (xs ++ taken)) at up))

  -- the last pair of one list can be put in before those of a list that goes on there
  pub free-joined : IsBlocked (key_of bytes) (bytes p.0) taken → ⊥
  free-joined = free-first bytes p taken following

  pub put-joined : rest ++ with_pair_put bytes p.0 p.1 taken ≡ left ++ taken
  put-joined = ap (λ xs. rest ++ xs) (put-first bytes p taken following) ∙ sym (append_assoc rest (p ∷ []) taken) ∙ ap (λ xs. xs ++ taken) (sym at)

-- where there is room, a pair is refused for a conflict
pub blocked : {K V B R : Type 0} (k : K) (v : V) (e : PairRefused K V) → IsPairRefused k v B e → (R → IsForConflict e) → R → B
blocked k v (Conflict l w) refused conflict room = refused.2
blocked k v (Memory l w) refused conflict room = absurd (conflict room)
