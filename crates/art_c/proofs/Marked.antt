-- The pairs whose keys begin a query, one after another, where each key ends with a mark.
use Rattle.std.proofs.Common.{◌≡◌, ℕ, ◌+◌, ◌-◌, ◌≤◌, ◌<◌, zero, suc, Bool, true, false, cond, List, [], ◌∷◌, ◌++◌, length, take, Option, Some, None, bytes_eq, refl, sym, ap, ap₂, subst, ◌∙◌, arith}
use Rattle.std.specs.Map.{lookup_entry}
use Rattle.std.proofs.lemmas.List.{length-append, length-take-le, take-take}
use Rattle.std.proofs.lemmas.Slice.Eq.{bytes_eq-Decides}
use Rattle.art_operations.specs.Marked.{longest_marked, marked_key, option_or}
use Rattle.art_map.specs.Contents.{found_pair, has_bytes, marked_pair}
use Rattle.art_c.specs.Calls.{whole}
use Rattle.art_c.specs.Handles.{Pairs}
use Rattle.art_c.specs.Marked.{each_marked, found_before, marked_pairs}

-- a pair that is found has the key
found-key : {V : Type 0} (key : List ℕ) (ps : Pairs V) (p : List ℕ × V) → found_pair whole key ps ≡ Some p → p.0 ≡ key
found-key key [] p h = absurd (cc)
found-key key (q ∷ ps) p h = step (bytes_eq q.0 key) refl (found-key key ps p) h
  where
    step : (b : Bool) → bytes_eq q.0 key ≡ b → (found_pair whole key ps ≡ Some p → p.0 ≡ key)
        → cond b (Some q) (lookup_entry (has_bytes whole key) ps) ≡ Some p → p.0 ≡ key
    step true e later h = let same : q ≡ p = cc in ap (λ r. r.0) (sym same) ∙ (bytes_eq-Decides q.0 key).0 e
    step false e later h = later h

module _ {X : Type 0} (find : List ℕ → Option X) (query : List ℕ) (mark : ℕ) where
  -- what is found for keys of fewer bytes
  abbrev fewer : ℕ → List X
  fewer zero = []
  fewer (suc n) = each_marked find query mark n

  -- the longest is the first
  record Longest (n : ℕ) (x : X) : Type 0 where
    bytes : ℕ
    within : bytes ≤ n
    found : find (marked_key query mark bytes) ≡ Some x
    are : each_marked find query mark n ≡ x ∷ fewer bytes

  longest-first : (n : ℕ) (x : X) → longest_marked find query mark n ≡ Some x → Longest n x
  longest-first zero x h = record { bytes = 0; within = omega arith; found = h; are = rw h refl }
  longest-first (suc n) x h = step (find (marked_key query mark (suc n))) refl (longest-first n x) h
    where
      step : (o : Option X) → find (marked_key query mark (suc n)) ≡ o → (longest_marked find query mark n ≡ Some x → Longest n x)
          → option_or o (longest_marked find query mark n) ≡ Some x → Longest (suc n) x
      step (Some y) e later h =
          let same : y ≡ x = cc in
          record { bytes = suc n; within = omega arith; found = e ∙ ap Some same; are = rw e (ap (λ z. z ∷ each_marked find query mark n) same) }
      step None e later h =
          let it = later h in
          record { bytes = it.bytes; within = omega (arith, it.within); found = it.found; are = rw e it.are }

  none-marked : (n : ℕ) → longest_marked find query mark n ≡ None → each_marked find query mark n ≡ []
  none-marked zero h = rw h refl
  none-marked (suc n) h = step (find (marked_key query mark (suc n))) refl (none-marked n) h
    where
      step : (o : Option X) → find (marked_key query mark (suc n)) ≡ o → (longest_marked find query mark n ≡ None → each_marked find query mark n ≡ [])
          → option_or o (longest_marked find query mark n) ≡ None → found_before o (each_marked find query mark n) ≡ []
      step (Some y) e later h = absurd (cc)
      step None e later h = later h

  -- of a query that is cut nothing changes for keys within it
  cut-same : (n k : ℕ) → n ≤ k → each_marked find (take k query) mark n ≡ each_marked find query mark n
  cut-same zero k h = ap (λ key. found_before (find (key ++ mark ∷ [])) []) (take-take 0 k query h)
  cut-same (suc n) k h =
      ap₂ (λ key xs. found_before (find (key ++ mark ∷ [])) xs) (take-take (suc n) k query h) (cut-same n k (omega arith))

module _ {V : Type 0} (query : List ℕ) (mark : ℕ) (ps : Pairs V) (p : List ℕ × V) (is : Some p ≡ marked_pair whole query mark ps) where
  at : Longest (λ key. found_pair whole key ps) query mark (length query) p
  at = longest-first (λ key. found_pair whole key ps) query mark (length query) p (sym is)

  long : length p.0 ≡ suc at.bytes
  long =
      let key : length p.0 ≡ length (marked_key query mark at.bytes) = ap length (found-key (marked_key query mark at.bytes) ps p at.found) in
      omega (arith, key, length-append (take at.bytes query) (mark ∷ []), length-take-le at.bytes query at.within)

  -- its key is no longer than the query and the mark
  pub key-within : length p.0 ≤ length query + 1
  key-within = omega (arith, long, at.within)

  -- it is the first of all
  pub marked-first : (rest : Pairs V) × (marked_pairs query mark ps ≡ p ∷ rest)
  marked-first = (fewer (λ key. found_pair whole key ps) query mark at.bytes, at.are)

  -- the others begin what is left of the query
  pub marked-next : 2 ≤ length p.0 → marked_pairs query mark ps ≡ p ∷ marked_pairs (take (length p.0 - 2) query) mark ps
  marked-next h = at.are ∙ ap (λ xs. p ∷ xs) (here at.bytes long at.within)
    where
      here : (n : ℕ) → length p.0 ≡ suc n → n ≤ length query → fewer (λ key. found_pair whole key ps) query mark n ≡ marked_pairs (take (length p.0 - 2) query) mark ps
      here zero e w = absurd (omega (arith, e, h))
      here (suc n) e w =
          let k : length p.0 - 2 ≡ n = omega (arith, e) in
          let all : length (take n query) ≡ n = length-take-le n query (omega (arith, w)) in
          subst (λ j. each_marked (λ key. found_pair whole key ps) query mark n ≡ marked_pairs (take j query) mark ps) (sym k)
          (sym (cut-same (λ key. found_pair whole key ps) query mark n n (omega arith))
          ∙ ap (each_marked (λ key. found_pair whole key ps) (take n query) mark) (sym all))

  -- or none is left after that of the mark alone
  pub marked-last : length p.0 < 2 → marked_pairs query mark ps ≡ p ∷ []
  marked-last h = at.are ∙ ap (λ xs. p ∷ xs) (here at.bytes long)
    where
      here : (n : ℕ) → length p.0 ≡ suc n → fewer (λ key. found_pair whole key ps) query mark n ≡ []
      here zero e = refl
      here (suc n) e = absurd (omega (arith, e, h))

pub marked-none : {V : Type 0} (query : List ℕ) (mark : ℕ) (ps : Pairs V) → None ≡ marked_pair whole query mark ps → marked_pairs query mark ps ≡ []
marked-none query mark ps h = none-marked (λ key. found_pair whole key ps) query mark (length query) (sym h)
